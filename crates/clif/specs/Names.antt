-- What the parts of a function, refusals and numbers that stand for nothing are called.
use Rattle.std.specs.Prelude.{ℕ, List, ◌++◌, codes, decimal}
use Rattle.clif.specs.declared.entities.Block.{Block}
use Rattle.clif.specs.declared.entities.Entry.{Entry}
use Rattle.clif.specs.declared.entities.Entry.TheVariants.{Block as to_block, Edge as to_edge}
use Rattle.clif.specs.declared.entities.Value.{Value}
use Rattle.clif.specs.declared.numbers.UnknownNumber.{UnknownNumber}
use Rattle.clif.specs.declared.opcodes.Opcode.{Opcode}
use Rattle.clif.specs.declared.opcodes.Opcode.TheVariants.{Iconst, Iadd, Imul, Umulhi, Icmp, UaddOverflow, Load, Store, Call, Jump, Brif, Return, Trap}
use Rattle.clif.specs.declared.refusals.Refusal.{Refusal}
use Rattle.clif.specs.declared.types.«Type».{«Type» as Ty}
use Rattle.clif.specs.declared.types.«Type».TheVariants.{I8, I16, I32, I64, I128}
use Rattle.clif.specs.Refusals.{refusal_number, refusal_place}

-- a value is v and its number, a block is block and its number
abbrev pub value_name : Value → List ℕ
value_name v = codes "v" ++ decimal v.0

abbrev pub block_name : Block → List ℕ
block_name b = codes "block" ++ decimal b.0

-- types and opcodes have the names of the original
abbrev pub type_name : Ty → List ℕ
type_name I8 = codes "i8"
type_name I16 = codes "i16"
type_name I32 = codes "i32"
type_name I64 = codes "i64"
type_name I128 = codes "i128"

abbrev pub opcode_name : Opcode → List ℕ
opcode_name Iconst = codes "iconst"
opcode_name Iadd = codes "iadd"
opcode_name Imul = codes "imul"
opcode_name Umulhi = codes "umulhi"
opcode_name Icmp = codes "icmp"
opcode_name UaddOverflow = codes "uadd_overflow"
opcode_name Load = codes "load"
opcode_name Store = codes "store"
opcode_name Call = codes "call"
opcode_name Jump = codes "jump"
opcode_name Brif = codes "brif"
opcode_name Return = codes "return"
opcode_name Trap = codes "trap"

-- an entry is a block, or an edge by its predecessor and destination index
abbrev pub entry_name : Entry → List ℕ
entry_name (to_block b) = block_name b
entry_name (to_edge b k) = codes "edge " ++ (decimal b.0 ++ (codes "." ++ decimal k))

-- a refusal, by its number and place
abbrev pub refused_at : ℕ → ℕ → List ℕ
refused_at n p = codes "refused " ++ (decimal n ++ (codes " at " ++ decimal p))

abbrev pub refusal_name : Refusal → List ℕ
refusal_name e = refused_at (refusal_number e) (refusal_place e)

-- a byte that stands for no type or opcode
abbrev pub unknown_number : UnknownNumber → List ℕ
unknown_number n = decimal n.0 ++ codes " stands for nothing"
