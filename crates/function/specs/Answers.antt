-- The answers of a function: what each question about it means.
use Rattle.std.specs.Prelude.{ℕ, ◌+◌, Bool, false, cond, ◌&&◌, List, [], ◌∷◌, Some, None, Option, nat_lt, slice_get}
use Rattle.clif.specs.declared.entities.Block.{Block}
use Rattle.clif.specs.declared.entities.Value.{Value}
use Rattle.clif.specs.declared.types.«Type».{«Type» as Ty}
use Rattle.function.specs.Holding.{Holds, block_entry, edge_entry}
use Rattle.function.specs.Numbering.{block_rows, inst_rows, value_rows, values_from}
use Rattle.function.specs.declared.function.BlockCall.{BlockCall}
use Rattle.function.specs.declared.function.Function.{Function}
use Rattle.function.specs.declared.rows.ValueDef.{ValueDef}
use Rattle.function.specs.declared.tables.Tables.{Tables}
use Rattle.reader.specs.Data.{Destination, Instruction, Func}
use Rattle.reader.specs.Within.{Within}
use Rattle.std.specs.List.{flat_map}
use Rattle.std.specs.Option.{option_map, option_map_or, option_and_then}

-- the tables behind a function
abbrev pub tables_of : Function → Tables
tables_of g = g.tables.now

-- the tables behind g are those of f. Contracts say this of each f, and not once in the type: before the checks the tables do
-- not say which f it was, and a ghost field holds facts alone
pub record Shows (g : Function) (f : Func) : Type 0 where
  pub within : Within f
  pub holds : Holds (tables_of g) f

-- a list, a flag, an option or a number out of something that may not be there
abbrev pub list_in : {X Y : Type 0} → Option X → (X → List Y) → List Y
list_in o g = option_map_or g o []

abbrev pub flag_in : {X : Type 0} → Option X → (X → Bool) → Bool
flag_in o g = option_map_or g o false

abbrev pub option_in : {X Y : Type 0} → Option X → (X → Option Y) → Option Y
option_in o g = option_and_then g o

abbrev pub number_in : {X : Type 0} → Option X → (X → ℕ) → ℕ
number_in o g = option_map_or g o 0

-- all instructions, in file order
abbrev pub all_insts : Func → List Instruction
all_insts f = flat_map (λ b. b.insts) f.blocks

abbrev pub inst_of : Func → ℕ → Option Instruction
inst_of f i = slice_get (all_insts f) i

-- the values that are a block's parameters, or an instruction's results
abbrev pub params_of : Func → ℕ → List Value
params_of f b = list_in (slice_get (block_rows f) b) (λ r. values_from r.first_param r.params)

abbrev pub results_of : Func → ℕ → List Value
results_of f i = list_in (slice_get (inst_rows f) i) (λ r. values_from r.first_result r.results)

-- the first instruction of a block, and the first behind it
abbrev pub first_of : Func → ℕ → ℕ
first_of f b = number_in (slice_get (block_rows f) b) (λ r. r.first_inst)

abbrev pub end_of : Func → ℕ → ℕ
end_of f b = number_in (slice_get (block_rows f) b) (λ r. r.first_inst + r.insts)

-- an instruction's block, and whether it is the last there
abbrev pub block_of : Func → ℕ → Option Block
block_of f i = option_map (λ r. r.block) (slice_get (inst_rows f) i)

abbrev pub last_of : Func → ℕ → Bool
last_of f i = flag_in (slice_get (inst_rows f) i) (λ r. r.last)

-- the instruction that ends a block
abbrev pub final : List Instruction → Option Instruction
final [] = None
final (x ∷ []) = Some x
final (x ∷ y ∷ ys) = final (y ∷ ys)

abbrev pub ending_of : Func → ℕ → Option Instruction
ending_of f b = option_in (slice_get f.blocks b) (λ x. final x.insts)

-- the destinations of the instruction that ends a block: the tables keep two
abbrev pub destination_of_block : Func → ℕ → ℕ → Option Destination
destination_of_block f b k = cond (nat_lt k 2) (option_in (ending_of f b) (λ x. slice_get x.destinations k)) None

-- a destination as it is handed out
abbrev pub call_of : BlockCall → Destination
call_of c = record { target = c.block; args = c.args.now }

-- the type and the definition of a value
abbrev pub type_of_value : Func → ℕ → Option Ty
type_of_value f v = option_map (λ r. r.ty) (slice_get (value_rows f) v)

abbrev pub def_of_value : Func → ℕ → Option ValueDef
def_of_value f v = option_map (λ r. r.def) (slice_get (value_rows f) v)

-- the first entry of the order that names a block, or an edge; only numbers that a function can have are kept
abbrev pub entry_of_block : Func → ℕ → Option ℕ
entry_of_block f b = cond (nat_lt b 64) (block_entry f.order b) None

abbrev pub entry_of_edge : Func → ℕ → ℕ → Option ℕ
entry_of_edge f b k = cond (nat_lt b 64 && nat_lt k 2) (edge_entry f.order b k) None
