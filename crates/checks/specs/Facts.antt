-- What later layers may rely on: the facts that an accepted function has.
use Rattle.std.specs.Prelude.{◌≡◌, ℕ, ◌<◌, true, length, is_some, Some, slice_get}
use Rattle.checks.specs.Checks.{destination_fits, destinations_of_block, row_fits, value_before, value_exists}
use Rattle.std.specs.List.{list_all}
use Rattle.clif.specs.Rows.{row_of}
use Rattle.clif.specs.declared.entities.Block.{Block}
use Rattle.clif.specs.declared.entities.Entry.TheVariants.{Block as to_block, Edge as to_edge}
use Rattle.function.specs.Answers.{inst_of, block_of, last_of, results_of, entry_of_block, entry_of_edge, list_in}
use Rattle.function.specs.Numbering.{uses_of}
use Rattle.reader.specs.Data.{Instruction, Func}
use Rattle.reader.specs.Reading.{block_at}

pub record Facts (f : Func) : Type 0 where
  -- every instruction looks as its opcode's row says
  pub rows : (i : ℕ) (x : Instruction) → inst_of f i ≡ Some x → row_fits f x (last_of f i) (results_of f i) ≡ true
  -- every block ends in its only terminator
  pub terminators : (i : ℕ) (x : Instruction) → inst_of f i ≡ Some x → (row_of x.opcode).class.terminator ≡ last_of f i
  -- every value that an instruction uses exists, and so does every destination, whose arguments are like the parameters
  pub values : (i : ℕ) (x : Instruction) → inst_of f i ≡ Some x → list_all (value_exists f) (uses_of x) ≡ true
  pub destinations : (i : ℕ) (x : Instruction) → inst_of f i ≡ Some x → list_all (destination_fits f) x.destinations ≡ true
  -- the order begins with block 0
  pub begins : slice_get f.order 0 ≡ Some (to_block (block_at 0))
  -- every entry names a block or an edge that is there, and is the only one to do so
  pub blocks_once : (e : ℕ) (b : Block) → slice_get f.order e ≡ Some (to_block b) → (b.0 < length f.blocks) × (entry_of_block f b.0 ≡ Some e)
  pub edges_once : (e : ℕ) (b : Block) (k : ℕ) → slice_get f.order e ≡ Some (to_edge b k) → (k < length (destinations_of_block f b.0)) × (entry_of_edge f b.0 k ≡ Some e)
  -- an edge stands behind its predecessor
  pub edges_behind : (e : ℕ) (b : Block) (k : ℕ) → slice_get f.order e ≡ Some (to_edge b k) → (i : ℕ) × (entry_of_block f b.0 ≡ Some i) × (i < e)
  -- every destination of an ordered block is ordered
  pub destinations_ordered : (e : ℕ) (b : Block) → slice_get f.order e ≡ Some (to_block b) → list_all (λ d. is_some (entry_of_block f d.target.0)) (destinations_of_block f b.0) ≡ true
  -- every use in an ordered block comes after its definition
  pub uses_behind : (i : ℕ) (b : Block) → block_of f i ≡ Some b → is_some (entry_of_block f b.0) ≡ true → list_all (value_before f b.0 i) (list_in (inst_of f i) uses_of) ≡ true
