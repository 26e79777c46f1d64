-- The opcodes: their numbers in a file, what an instruction of each must look like, and its class.
use Rattle.std.specs.Prelude.{ℕ, Bool, true, false, ◌&&◌, ◌||◌, List, [], ◌∷◌, Option, nat_le}
use Rattle.clif.specs.Find.{numbered}
use Rattle.clif.specs.declared.opcodes.Opcode.{Opcode}
use Rattle.clif.specs.declared.opcodes.Opcode.TheVariants.{Iconst, Iadd, Imul, Umulhi, Icmp, UaddOverflow, Load, Store, Call, Jump, Brif, Return, Trap}
use Rattle.clif.specs.declared.opcodes.Span.{Span}
use Rattle.clif.specs.declared.opcodes.Class.{Class}
use Rattle.clif.specs.declared.opcodes.Row.{Row}

-- the number that stands for an opcode in a file
abbrev pub opcode_number : Opcode → ℕ
opcode_number Iconst = 1
opcode_number Iadd = 3
opcode_number Imul = 5
opcode_number Umulhi = 6
opcode_number Icmp = 8
opcode_number UaddOverflow = 9
opcode_number Load = 14
opcode_number Store = 15
opcode_number Call = 17
opcode_number Jump = 21
opcode_number Brif = 22
opcode_number Return = 24
opcode_number Trap = 25

abbrev pub all_opcodes : List Opcode
all_opcodes = Iconst ∷ Iadd ∷ Imul ∷ Umulhi ∷ Icmp ∷ UaddOverflow ∷ Load ∷ Store ∷ Call ∷ Jump ∷ Brif ∷ Return ∷ Trap ∷ []

-- the opcode that a number stands for, if there is one
abbrev pub opcode_of : ℕ → Option Opcode
opcode_of = numbered opcode_number all_opcodes

-- the classes: loads, stores, calls, branches (which are terminators too), other terminators, and none of these
abbrev pub no_class : Class
no_class = record { load = false; store = false; call = false; branch = false; terminator = false }

abbrev pub load_class : Class
load_class = record { load = true; store = false; call = false; branch = false; terminator = false }

abbrev pub store_class : Class
store_class = record { load = false; store = true; call = false; branch = false; terminator = false }

abbrev pub call_class : Class
call_class = record { load = false; store = false; call = true; branch = false; terminator = false }

abbrev pub branch_class : Class
branch_class = record { load = false; store = false; call = false; branch = true; terminator = true }

abbrev pub exit_class : Class
exit_class = record { load = false; store = false; call = false; branch = false; terminator = true }

-- whether an instruction of a class is an effect
abbrev pub has_class : Class → Bool
has_class c = c.load || (c.store || (c.call || (c.branch || c.terminator)))

-- a count that is n, and one from m to n
abbrev pub counted : ℕ → Span
counted n = record { least = n; most = n }

abbrev pub spanning : ℕ → ℕ → Span
spanning m n = record { least = m; most = n }

abbrev pub within_span : Span → ℕ → Bool
within_span s n = nat_le s.least n && nat_le n s.most

-- an opcode's operands, results, immediate, flag, destinations and class
abbrev pub make_row : Span → Span → Bool → Bool → Span → Class → Row
make_row o r i f d c = record { operands = o; results = r; immediate = i; flag = f; destinations = d; class = c }

abbrev pub row_of : Opcode → Row
row_of Iconst = make_row (counted 0) (counted 1) true false (counted 0) no_class
row_of Iadd = make_row (counted 2) (counted 1) false false (counted 0) no_class
row_of Imul = make_row (counted 2) (counted 1) false false (counted 0) no_class
row_of Umulhi = make_row (counted 2) (counted 1) false false (counted 0) no_class
row_of Icmp = make_row (counted 2) (counted 1) false false (counted 0) no_class
row_of UaddOverflow = make_row (counted 2) (counted 2) false false (counted 0) no_class
row_of Load = make_row (counted 1) (counted 1) false true (counted 0) load_class
row_of Store = make_row (counted 2) (counted 0) false false (counted 0) store_class
row_of Call = make_row (spanning 0 8) (spanning 0 2) false false (counted 0) call_class
row_of Jump = make_row (counted 0) (counted 0) false false (counted 1) branch_class
row_of Brif = make_row (counted 1) (counted 0) false false (counted 2) branch_class
row_of Return = make_row (spanning 0 4) (counted 0) false false (counted 0) exit_class
row_of Trap = make_row (counted 0) (counted 0) false false (counted 0) exit_class
