-- Reading a file, field by field: the function that it is, or its first fault.
use Rattle.std.specs.Prelude.{ℕ, zero, suc, ◌+◌, ◌-◌, ◌*◌, ◌/◌, ◌%◌, ◌<◌, Bool, true, false, cond, ◌&&◌, List, [], ◌∷◌, length, take, drop, Some, None, Option, ◌==◌, nat_le, slice_index}
use Rattle.clif.specs.Rows.{opcode_of}
use Rattle.clif.specs.Types.{type_of}
use Rattle.clif.specs.declared.entities.Block.{Block}
use Rattle.clif.specs.declared.entities.Value.{Value}
use Rattle.clif.specs.declared.entities.Entry.{Entry}
use Rattle.clif.specs.declared.entities.Entry.TheVariants.{Block as to_block, Edge as to_edge}
use Rattle.clif.specs.declared.types.«Type».{«Type» as Ty}
use Rattle.reader.specs.Data.{Destination, Instruction, Body, Func, limit}
use Rattle.reader.specs.declared.totals.Kind.{Kind}
use Rattle.reader.specs.declared.totals.Kind.TheVariants.{Blocks, Insts, Values, Operands, Entries}
use Rattle.reader.specs.declared.totals.Totals.{Totals}

-- where reading stands: the bytes to come, and how many of each kind the counts so far promised
pub record Spot : Type 0 where
  pub rest : List ℕ
  pub totals : Totals

-- a field read, with where reading stands then; or a fault, by its number and place
pub data Read (A : Type 0) : Type 0 where
  got : A → Spot → Read A
  fault : ℕ → ℕ → Read A

-- a way of reading, in a file of a given size
abbrev pub Reads : Type 0 → Type 0
Reads A = ℕ → Spot → Read A

-- the place of the next byte
abbrev pub place : ℕ → Spot → ℕ
place size s = size - length s.rest

abbrev pub after : {A B : Type 0} → Read A → (A → Spot → Read B) → Read B
after (got a s) k = k a s
after (fault n p) k = fault n p

-- one thing, then another that depends on it
infixr 20 ◌>>=◌
abbrev pub ◌>>=◌ : {A B : Type 0} → Reads A → (A → Reads B) → Reads B
◌>>=◌ p q size s = after (p size s) (λ a t. q a size t)

abbrev pub give : {A : Type 0} → A → Reads A
give a size s = got a s

-- a reading, with the place of its first byte
abbrev pub here : {A : Type 0} → Reads A → Reads (ℕ × A)
here p size s = after (p size s) (λ a t. got (place size s, a) t)

-- the number that some bytes are, lowest first
abbrev pub number_of : List ℕ → ℕ
number_of [] = 0
number_of (b ∷ bs) = b + 256 * number_of bs

-- a field of k bytes: one number; a fault at its first byte where the file ends before or inside it
abbrev pub number : ℕ → Reads ℕ
number k size s =
    cond (nat_le k (length s.rest))
    (got (number_of (take k s.rest)) (record { rest = drop k s.rest; totals = s.totals }))
    (fault 1 (place size s))

-- a field whose number must pass a test
abbrev pub only : (ℕ → Bool) → Reads ℕ → Reads ℕ
only test p size s = after (p size s) (λ n t. cond (test n) (got n t) (fault 1 (place size s)))

-- a byte within bounds
abbrev pub ranged : ℕ → ℕ → Reads ℕ
ranged least most = only (λ n. nat_le least n && nat_le n most) (number 1)

-- a byte that names a case of an enumeration
abbrev pub chosen : {A : Type 0} → Option A → Spot → ℕ → Read A
chosen None t p = fault 1 p
chosen (Some a) t p = got a t

abbrev pub named : {A : Type 0} → (ℕ → Option A) → Reads A
named which size s = after (number 1 size s) (λ n t. chosen (which n) t (place size s))

abbrev pub total : Kind → Totals → ℕ
total Blocks t = t.blocks
total Insts t = t.insts
total Values t = t.values
total Operands t = t.operands
total Entries t = t.entries

-- n more of a kind
abbrev pub raised : Kind → ℕ → Totals → Totals
raised Blocks n t = record { blocks = t.blocks + n; insts = t.insts; values = t.values; operands = t.operands; entries = t.entries }
raised Insts n t = record { blocks = t.blocks; insts = t.insts + n; values = t.values; operands = t.operands; entries = t.entries }
raised Values n t = record { blocks = t.blocks; insts = t.insts; values = t.values + n; operands = t.operands; entries = t.entries }
raised Operands n t = record { blocks = t.blocks; insts = t.insts; values = t.values; operands = t.operands + n; entries = t.entries }
raised Entries n t = record { blocks = t.blocks; insts = t.insts; values = t.values; operands = t.operands; entries = t.entries + n }

-- a count of a kind, read at a place: too small a one is a fault of its own, and one beyond what the limit leaves is another
abbrev pub admitted : ℕ → ℕ → ℕ → Kind → Spot → Read ℕ
admitted at n least kind s =
    cond (nat_le least n)
    (cond (nat_le n (limit kind - total kind s.totals)) (got n (record { rest = s.rest; totals = raised kind n s.totals })) (fault 2 at))
    (fault 1 at)

-- a count of a kind, in k bytes
abbrev pub count : ℕ → ℕ → Kind → Reads ℕ
count k least kind size s = after (number k size s) (λ n t. admitted (place size s) n least kind t)

-- n things of one form, one after another
abbrev pub repeated : {A : Type 0} → ℕ → Reads A → Reads (List A)
repeated zero p = give []
repeated (suc n) p = p >>= λ a. repeated n p >>= λ more. give (a ∷ more)

-- a field that stands only where its bit of the map byte does; what else it is then
abbrev pub standing : {A : Type 0} → ℕ → ℕ → A → Reads A → Reads A
standing map bit absent p = cond (map / bit % 2 == 1) p (give absent)

abbrev pub present : {A : Type 0} → Reads A → Reads (Option A)
present p = p >>= λ a. give (Some a)

abbrev pub value_at : ℕ → Value
value_at n = record { 0 = n }

abbrev pub block_at : ℕ → Block
block_at n = record { 0 = n }

abbrev pub value : Reads Value
value = number 2 >>= λ n. give (value_at n)

abbrev pub target : Reads Block
target = number 2 >>= λ n. give (block_at n)

abbrev pub flag_of : ℕ → Option Bool
flag_of n = cond (n == 0) (Some false) (cond (n == 1) (Some true) None)

-- the types of parameters or results; operands; the arguments of a destination, which may be none
abbrev pub types : Reads (List Ty)
types = count 1 1 Values >>= λ n. repeated n (named type_of)

abbrev pub uses : ℕ → Reads (List Value)
uses least = count 1 least Operands >>= λ n. repeated n value

abbrev pub destination : Reads Destination
destination = target >>= λ b. uses 0 >>= λ vs. give (record { target = b; args = vs })

-- destinations have no limit of their own
abbrev pub destinations : Reads (List Destination)
destinations = ranged 1 255 >>= λ n. repeated n destination

-- an instruction's map byte has no bit above bit 5
abbrev pub instruction : Reads Instruction
instruction =
    ranged 0 63 >>= λ map.
    named opcode_of >>= λ opcode.
    standing map 1 [] (uses 1) >>= λ operands.
    standing map 2 None (present (number 8)) >>= λ immediate.
    standing map 4 [] types >>= λ results.
    standing map 8 [] destinations >>= λ destinations.
    standing map 16 None (present (named flag_of)) >>= λ flag.
    standing map 32 None (present (number 4)) >>= λ location.
    give (record { opcode = opcode; operands = operands; immediate = immediate; results = results; destinations = destinations; flag = flag; location = location })

-- a block up to its instructions: parameters, and how many instructions follow; bit 1 of its map always stands
abbrev pub heading : Reads (List Ty × ℕ)
heading =
    ranged 2 3 >>= λ map.
    standing map 1 [] types >>= λ params.
    count 2 1 Insts >>= λ n. give (params, n)

abbrev pub body : Reads Body
body = heading >>= λ h. repeated h.1 instruction >>= λ is. give (record { params = h.0; insts = is })

-- an entry's map byte has bit 0 alone or bit 1 alone
abbrev pub entry_of : ℕ → Reads Entry
entry_of map =
    target >>= λ b. cond (map == 1) (give (to_block b)) (number 1 >>= λ k. give (to_edge b k))

abbrev pub order_entry : Reads Entry
order_entry = ranged 1 2 >>= entry_of

-- what a file comes to: a function, or its first fault in reading
pub data Outcome (A : Type 0) : Type 0 where
  done : A → Outcome A
  refused : ℕ → ℕ → Outcome A

-- bytes left over are a fault at the first of them
abbrev pub ended : {A : Type 0} → ℕ → Read A → Outcome A
ended size (got a s) = cond (length s.rest == 0) (done a) (refused 1 (place size s))
ended size (fault n p) = refused n p

abbrev pub order : Reads (List Entry)
order = count 2 1 Entries >>= λ n. repeated n order_entry

abbrev pub func : Reads Func
func = count 2 1 Blocks >>= λ n. repeated n body >>= λ bs. order >>= λ es. give (record { blocks = bs; order = es })

abbrev pub no_totals : Totals
no_totals = record { blocks = 0; insts = 0; values = 0; operands = 0; entries = 0 }

abbrev pub start : List ℕ → Spot
start file = record { rest = file; totals = no_totals }

-- the function that a file is, or its first fault: reading goes byte by byte, so the first that it meets
abbrev pub read : List ℕ → Outcome Func
read file = ended (length file) (func (length file) (start file))

-- a list of bytes
abbrev pub Bytes : List ℕ → Type 0
Bytes xs = (i : ℕ) → slice_index xs i < 256
