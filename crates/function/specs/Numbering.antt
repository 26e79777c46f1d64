-- Numbers: blocks, instructions and values are numbered from 0 in file order, a block's parameters before the results of
-- its instructions; uses (operands, then destination arguments) stand in file order too.
use Rattle.std.specs.Prelude.{ℕ, suc, ◌+◌, Bool, true, false, List, [], ◌∷◌, ◌++◌, map, length, Option, slice_get}
use Rattle.clif.specs.declared.entities.Inst.{Inst}
use Rattle.clif.specs.declared.entities.Value.{Value}
use Rattle.clif.specs.declared.types.«Type».{«Type» as Ty}
use Rattle.function.specs.declared.rows.BlockData.{BlockData}
use Rattle.function.specs.declared.rows.DestData.{DestData}
use Rattle.function.specs.declared.rows.InstData.{InstData}
use Rattle.function.specs.declared.rows.ValueData.{ValueData}
use Rattle.function.specs.declared.rows.ValueDef.{ValueDef}
use Rattle.function.specs.declared.rows.ValueDef.TheVariants.{Param, Result}
use Rattle.reader.specs.Data.{Destination, Instruction, Body, Func}
use Rattle.reader.specs.Reading.{value_at, block_at}
use Rattle.std.specs.List.{flat_map, enumerate_from, range_with_len}

-- how many instructions, values and uses come before a place in the file
pub record Numbers : Type 0 where
  pub insts : ℕ
  pub values : ℕ
  pub uses : ℕ

-- what an instruction uses: its operands, then the arguments of its destinations
abbrev pub uses_of : Instruction → List Value
uses_of x = x.operands ++ flat_map (λ d. d.args) x.destinations

abbrev pub past_params : Body → Numbers → Numbers
past_params b n = record { insts = n.insts; values = n.values + length b.params; uses = n.uses }

abbrev pub past_inst : Instruction → Numbers → Numbers
past_inst x n = record { insts = n.insts + 1; values = n.values + length x.results; uses = n.uses + length (uses_of x) }

abbrev pub past_insts : List Instruction → Numbers → Numbers
past_insts [] n = n
past_insts (x ∷ xs) n = past_insts xs (past_inst x n)

abbrev pub past_body : Body → Numbers → Numbers
past_body b n = past_insts b.insts (past_params b n)

abbrev pub inst_number : ℕ → Inst
inst_number n = record { 0 = n }

abbrev pub none_before : Numbers
none_before = record { insts = 0; values = 0; uses = 0 }

-- a list over the blocks, each with its number and what comes before it
abbrev pub over_blocks : {X : Type 0} → (ℕ → Numbers → Body → List X) → ℕ → Numbers → List Body → List X
over_blocks g b n [] = []
over_blocks g b n (x ∷ xs) = g b n x ++ over_blocks g (suc b) (past_body x n) xs

-- a list over the instructions of a block, each with what comes before it and whether it is the last
abbrev pub is_last : List Instruction → Bool
is_last [] = true
is_last (x ∷ xs) = false

abbrev pub over_insts : {X : Type 0} → (Bool → Numbers → Instruction → List X) → Numbers → List Instruction → List X
over_insts g n [] = []
over_insts g n (x ∷ xs) = g (is_last xs) n x ++ over_insts g (past_inst x n) xs

-- the values that one parameter list or result list defines, by their indices from k on
abbrev pub defined : (ℕ → ValueDef) → ℕ → List Ty → List ValueData
defined def k ts = map (λ p. record { ty = p.1; def = def p.0 }) (enumerate_from k ts)

-- the rows of the destinations of an instruction whose arguments begin at use u
abbrev pub dest_rows : ℕ → List Destination → List DestData
dest_rows u [] = []
dest_rows u (d ∷ ds) = record { target = d.target; first_arg = u; args = length d.args } ∷ dest_rows (u + length d.args) ds

-- one row for each block and instruction, with its numbers
abbrev pub block_row : Numbers → List Ty → ℕ → BlockData
block_row n params count = record { first_param = n.values; params = length params; first_inst = n.insts; insts = count }

abbrev pub inst_row : ℕ → Bool → Numbers → Instruction → InstData
inst_row b last n x = record {
  block = block_at b;
  last = last;
  opcode = x.opcode;
  first_use = n.uses;
  operands = length x.operands;
  uses = length (uses_of x);
  first_result = n.values;
  results = length x.results;
  destinations = length x.destinations;
  immediate = x.immediate;
  flag = x.flag;
  location = x.location;
}

-- the two places for the destinations of a block's last instruction
abbrev pub two_places : Bool → List DestData → List (Option DestData)
two_places false ds = []
two_places true ds = slice_get ds 0 ∷ slice_get ds 1 ∷ []

-- an instruction's two places, if it is the last of its block
abbrev pub dest_places : Bool → Numbers → Instruction → List (Option DestData)
dest_places last n x = two_places last (dest_rows (n.uses + length x.operands) x.destinations)

-- the rows of a function
abbrev pub block_rows : Func → List BlockData
block_rows f = over_blocks (λ b n x. block_row n x.params (length x.insts) ∷ []) 0 none_before f.blocks

abbrev pub inst_rows : Func → List InstData
inst_rows f = over_blocks (λ b n x. over_insts (λ last m i. inst_row b last m i ∷ []) (past_params x n) x.insts) 0 none_before f.blocks

abbrev pub value_rows : Func → List ValueData
value_rows f = over_blocks (λ b n x. defined (Param (block_at b)) 0 x.params ++ over_insts (λ last m i. defined (Result (inst_number m.insts)) 0 i.results) (past_params x n) x.insts) 0 none_before f.blocks

abbrev pub all_uses : Func → List Value
all_uses f = over_blocks (λ b n x. over_insts (λ last m i. uses_of i) (past_params x n) x.insts) 0 none_before f.blocks

abbrev pub all_destinations : Func → List (Option DestData)
all_destinations f = over_blocks (λ b n x. over_insts dest_places (past_params x n) x.insts) 0 none_before f.blocks

-- n values from v on
abbrev pub values_from : ℕ → ℕ → List Value
values_from v n = map value_at (range_with_len v n)
