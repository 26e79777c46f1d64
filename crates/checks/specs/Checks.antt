-- The checks of a function that was read, each as a property of the function, in the order in which they are made.
use Rattle.std.specs.Prelude.{ℕ, ◌^◌, Bool, true, false, cond, not, ◌&&◌, ◌||◌, List, [], ◌∷◌, ◌++◌, length, is_some, Some, None, Option, ◌==◌, nat_le, nat_lt, slice_get}
use Rattle.checks.specs.Tests.{Test, tests_from}
use Rattle.std.specs.List.{list_all}
use Rattle.clif.specs.Rows.{row_of, within_span}
use Rattle.clif.specs.Types.{type_number, type_bits}
use Rattle.clif.specs.declared.entities.Block.{Block}
use Rattle.clif.specs.declared.entities.Entry.{Entry}
use Rattle.clif.specs.declared.entities.Entry.TheVariants.{Block as to_block, Edge as to_edge}
use Rattle.clif.specs.declared.entities.Value.{Value}
use Rattle.checks.specs.declared.rows.Shape.{Shape}
use Rattle.clif.specs.declared.opcodes.Row.{Row}
use Rattle.clif.specs.declared.types.«Type».{«Type» as Ty}
use Rattle.function.specs.Answers.{all_insts, inst_of, params_of, results_of, block_of, last_of, ending_of, list_in, type_of_value, def_of_value, entry_of_block, entry_of_edge}
use Rattle.function.specs.Numbering.{uses_of, value_rows}
use Rattle.function.specs.declared.rows.ValueDef.{ValueDef}
use Rattle.function.specs.declared.rows.ValueDef.TheVariants.{Param, Result}
use Rattle.reader.specs.Data.{Destination, Instruction, Func}

abbrev pub same_flag : Bool → Bool → Bool
same_flag true b = b
same_flag false b = not b

-- Rows (3)

-- a constant is of one of the types up to I64, and has no bit above its width; nothing else has an immediate
abbrev pub width_fits : ℕ → Option Ty → Bool
width_fits n None = false
width_fits n (Some t) = nat_le (type_bits t) 64 && nat_lt n (2 ^ type_bits t)

abbrev pub first_type : Func → List Value → Option Ty
first_type f [] = None
first_type f (v ∷ vs) = type_of_value f v.0

abbrev pub constant_fits : Func → Option ℕ → List Value → Bool
constant_fits f None vs = true
constant_fits f (Some n) vs = width_fits n (first_type f vs)

-- what a row looks at: how many operands, results and destinations there are, whether the immediate and the flag stand,
-- and whether the instruction is the last of its block
abbrev pub shape_of : Instruction → Bool → List Value → Shape
shape_of x last results = record {
  operands = length x.operands;
  results = length results;
  destinations = length x.destinations;
  immediate = is_some x.immediate;
  flag = is_some x.flag;
  last = last;
}

-- an instruction looks as its opcode's row says, and is a terminator exactly where it is the last of its block
abbrev pub shape_fits : Row → Shape → Bool
shape_fits row x =
    within_span row.operands x.operands
    && (within_span row.results x.results
    && (within_span row.destinations x.destinations
    && (same_flag row.immediate x.immediate
    && ((row.flag || not x.flag)
    && same_flag row.class.terminator x.last))))

abbrev pub row_fits : Func → Instruction → Bool → List Value → Bool
row_fits f x last results = shape_fits (row_of x.opcode) (shape_of x last results) && constant_fits f x.immediate results

-- Numbers (4)

abbrev pub same_type : Option Ty → Option Ty → Bool
same_type (Some s) (Some t) = type_number s == type_number t
same_type (Some s) None = false
same_type None t = false

-- as many values here as there, and of the same types
abbrev pub same_types : Func → List Value → List Value → Bool
same_types f [] [] = true
same_types f [] (w ∷ ws) = false
same_types f (v ∷ vs) [] = false
same_types f (v ∷ vs) (w ∷ ws) = same_type (type_of_value f v.0) (type_of_value f w.0) && same_types f vs ws

-- the block is there, and the arguments are like its parameters in number and type
abbrev pub destination_fits : Func → Destination → Bool
destination_fits f d = nat_lt d.target.0 (length f.blocks) && same_types f d.args (params_of f d.target.0)

abbrev pub value_exists : Func → Value → Bool
value_exists f v = nat_lt v.0 (length (value_rows f))

abbrev pub numbers_fit : Func → Instruction → Bool
numbers_fit f x = list_all (value_exists f) (uses_of x) && list_all (destination_fits f) x.destinations

-- The order (5)

abbrev pub is_entry : Option ℕ → ℕ → Bool
is_entry None e = false
is_entry (Some i) e = i == e

abbrev pub is_before : Option ℕ → ℕ → Bool
is_before None e = false
is_before (Some i) e = nat_lt i e

abbrev pub destinations_of_block : Func → ℕ → List Destination
destinations_of_block f b = list_in (ending_of f b) (λ x. x.destinations)

-- a block: there, named first here, block 0 exactly at entry 0, and each destination of its last instruction is ordered;
-- an edge: one of a block's destinations, named first here, behind the entry of that block
abbrev pub entry_fits : Func → ℕ → Entry → Bool
entry_fits f e (to_block b) =
    nat_lt b.0 (length f.blocks)
    && (is_entry (entry_of_block f b.0) e
    && (same_flag (e == 0) (b.0 == 0)
    && list_all (λ d. is_some (entry_of_block f d.target.0)) (destinations_of_block f b.0)))
entry_fits f e (to_edge b k) =
    nat_lt b.0 (length f.blocks)
    && (nat_lt k (length (destinations_of_block f b.0))
    && (is_entry (entry_of_edge f b.0 k) e
    && is_before (entry_of_block f b.0) e))

-- Uses (6)

-- block c has an entry before that of block b
abbrev pub ordered_before : Option ℕ → Option ℕ → Bool
ordered_before c None = false
ordered_before c (Some e) = is_before c e

-- instruction j, which stands in block c, comes before instruction i of block b
abbrev pub inst_before : Func → ℕ → ℕ → ℕ → Option Block → Bool
inst_before f b i j None = false
inst_before f b i j (Some c) = cond (c.0 == b) (nat_lt j i) (ordered_before (entry_of_block f c.0) (entry_of_block f b))

-- what defines a value comes before instruction i of block b
abbrev pub def_before : Func → ℕ → ℕ → ValueDef → Bool
def_before f b i (Param c k) = c.0 == b || ordered_before (entry_of_block f c.0) (entry_of_block f b)
def_before f b i (Result j k) = inst_before f b i j.0 (block_of f j.0)

abbrev pub value_before : Func → ℕ → ℕ → Value → Bool
value_before f b i v = elim (def_of_value f v.0) [ None ↦ false | Some d ↦ def_before f b i d ]

-- all that instruction i uses is defined before it; a block that the order leaves out is not looked at
abbrev pub uses_fit : Func → ℕ → Option Block → Bool
uses_fit f i None = true
uses_fit f i (Some b) = not (is_some (entry_of_block f b.0)) || list_all (value_before f b.0 i) (list_in (inst_of f i) uses_of)

-- The tests, in their order: instruction by instruction the row and then the numbers, then the order entry by entry, then
-- the uses instruction by instruction

abbrev pub with_inst : Func → ℕ → (Instruction → Bool) → Bool
with_inst f i test = elim (inst_of f i) [ None ↦ true | Some x ↦ test x ]

abbrev pub row_test : Func → ℕ → Test
row_test f i = record { passes = with_inst f i (λ x. row_fits f x (last_of f i) (results_of f i)); number = 3; place = i }

abbrev pub numbers_test : Func → ℕ → Test
numbers_test f i = record { passes = with_inst f i (numbers_fit f); number = 4; place = i }

abbrev pub entry_test : Func → ℕ → Test
entry_test f e = record { passes = elim (slice_get f.order e) [ None ↦ true | Some x ↦ entry_fits f e x ]; number = 5; place = e }

abbrev pub uses_test : Func → ℕ → Test
uses_test f i = record { passes = uses_fit f i (block_of f i); number = 6; place = i }

-- each instruction's two tests; each entry's; each instruction's of its uses
abbrev pub tests_of_inst : Func → ℕ → List Test
tests_of_inst f i = row_test f i ∷ numbers_test f i ∷ []

abbrev pub tests_of_entry : Func → ℕ → List Test
tests_of_entry f e = entry_test f e ∷ []

abbrev pub tests_of_uses : Func → ℕ → List Test
tests_of_uses f i = uses_test f i ∷ []

-- n instructions from i on; n entries from e on
abbrev pub inst_tests : Func → ℕ → ℕ → List Test
inst_tests f = tests_from (tests_of_inst f)

abbrev pub entry_tests : Func → ℕ → ℕ → List Test
entry_tests f = tests_from (tests_of_entry f)

abbrev pub uses_tests : Func → ℕ → ℕ → List Test
uses_tests f = tests_from (tests_of_uses f)

abbrev pub all_tests : Func → List Test
all_tests f = inst_tests f 0 (length (all_insts f)) ++ (entry_tests f 0 (length f.order) ++ uses_tests f 0 (length (all_insts f)))
