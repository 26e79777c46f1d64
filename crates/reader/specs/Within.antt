-- The functions that a file can hold: every number fits its field, every count its own, and every total its limit.
use Rattle.std.specs.Prelude.{ℕ, ◌+◌, ◌^◌, ◌<◌, ◌≤◌, List, [], ◌∷◌, length, IfSome}
use Rattle.clif.specs.declared.entities.Value.{Value}
use Rattle.clif.specs.declared.entities.Entry.{Entry}
use Rattle.clif.specs.declared.entities.Entry.TheVariants.{Block as to_block, Edge as to_edge}
use Rattle.reader.specs.Data.{Destination, Instruction, Body, Func, limit}
use Rattle.reader.specs.declared.totals.Kind.TheVariants.{Blocks, Insts, Values, Operands, Entries}
use Rattle.std.specs.List.{AllByRecursion}

-- the sum of a size over a list
abbrev pub sum_of : {E : Type 0} → (E → ℕ) → List E → ℕ
sum_of size [] = 0
sum_of size (x ∷ xs) = size x + sum_of size xs

-- how many operands and destination arguments an instruction has, and a block
abbrev pub uses_in : Instruction → ℕ
uses_in x = length x.operands + sum_of (λ d. length d.args) x.destinations

abbrev pub body_uses : Body → ℕ
body_uses b = sum_of uses_in b.insts

-- how many values a block defines
abbrev pub body_values : Body → ℕ
body_values b = length b.params + sum_of (λ x. length x.results) b.insts

abbrev pub WordValue : Value → Type 0
WordValue v = v.0 < 65536

-- what a destination, an instruction, a block and an entry can hold
pub record FitsDestination (d : Destination) : Type 0 where
  pub target_word : d.target.0 < 65536
  pub args_count : length d.args ≤ 255
  pub args_words : AllByRecursion WordValue d.args

pub record FitsInstruction (x : Instruction) : Type 0 where
  pub operand_count : length x.operands ≤ 255
  pub operand_words : AllByRecursion WordValue x.operands
  pub immediate_bits : IfSome x.immediate (λ n. n < 2 ^ 64)
  pub result_count : length x.results ≤ 255
  pub destination_count : length x.destinations ≤ 255
  pub each_destination : AllByRecursion FitsDestination x.destinations
  pub location_bits : IfSome x.location (λ n. n < 2 ^ 32)

pub record FitsBody (b : Body) : Type 0 where
  pub param_count : length b.params ≤ 255
  pub some_inst : 1 ≤ length b.insts
  pub each_inst : AllByRecursion FitsInstruction b.insts

abbrev pub FitsEntry : Entry → Type 0
FitsEntry (to_block b) = b.0 < 65536
FitsEntry (to_edge b k) = (b.0 < 65536) × (k < 256)

-- a function within the limits
pub record Within (f : Func) : Type 0 where
  pub some_block : 1 ≤ length f.blocks
  pub some_entry : 1 ≤ length f.order
  pub each_block : AllByRecursion FitsBody f.blocks
  pub each_entry : AllByRecursion FitsEntry f.order
  pub few_blocks : length f.blocks ≤ limit Blocks
  pub few_insts : sum_of (λ b. length b.insts) f.blocks ≤ limit Insts
  pub few_values : sum_of body_values f.blocks ≤ limit Values
  pub few_operands : sum_of body_uses f.blocks ≤ limit Operands
  pub few_entries : length f.order ≤ limit Entries
