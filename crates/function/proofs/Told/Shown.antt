-- What the tables hold that show a function: how many rows, parts of the uses and of the values, and how the rows stand to the function.
use Rattle.std.proofs.Common.{◌≡◌, ℕ, ◌+◌, ◌≤◌, List, length, take, drop, Some, sym, ap, ◌∙◌, arith}
use Rattle.clif.specs.declared.entities.Value.{Value}
use Rattle.std.specs.List.{AllZip}
use Rattle.std.proofs.lemmas.Slice.Zip.{AllZip-long}
use Rattle.function.proofs.Filled.Contents.{Fits, of_blocks}
use Rattle.function.proofs.Filled.Sizes.{all_fits, values_count}
use Rattle.function.proofs.Told.Places.{RowOf, BlockOf, blocks_each, rows_each}
use Rattle.function.proofs.Told.Reading.{Part, part_whole, part_read, values_part}
use Rattle.function.specs.Answers.{Shows, all_insts}
use Rattle.function.specs.declared.tables.Tables.{Tables}
use Rattle.function.specs.Numbering.{none_before, block_rows, inst_rows, value_rows, all_uses, values_from}
use Rattle.function.specs.declared.function.Function.{Function}
use Rattle.reader.specs.Data.{Func}
use Rattle.reader.specs.Reading.{value_at}
use Rattle.std.proofs.lemmas.List.{length-map}
use Rattle.std.proofs.lemmas.List.FromFn.{length-map-range_with_len}

abbrev pub held : Function → Tables
held g = g.tables.now

module _ (g : Function) (f : Func) (h : Shows g f) where
  pub room : Fits (of_blocks 0 none_before f.blocks)
  room = all_fits f h.within

  pub uses_shown : (a k : ℕ) (xs : List Value) → Part (all_uses f) a k xs → take k (drop a (held g).uses.rows) ≡ xs
  uses_shown = part_read (value_at 0) 4096 (all_uses f) (held g).uses (ap (λ s. s.uses) h.holds) room.uses

  pub numbers_shown : (a k : ℕ) → a + k ≤ length (value_rows f) → take k (drop a (held g).numbers.rows) ≡ values_from a k
  numbers_shown a k l =
      let n = length (value_rows f) in
      part_read (value_at 0) 2048 (values_from 0 n) (held g).numbers (ap (λ s. s.numbers) h.holds) (omega (arith, length-map-range_with_len value_at 0 n, room.values))
      a k (values_from a k) (values_part n a k l)

  -- the rows of blocks and of instructions
  pub blocks_match : AllZip (BlockOf (length (value_rows f))) (block_rows f) f.blocks
  blocks_match = blocks_each (length (value_rows f)) 0 none_before f.blocks (omega (arith, values_count f h.within)) (omega (arith, h.within.few_insts))

  pub insts_match : AllZip (RowOf (all_uses f) (length (value_rows f))) (inst_rows f) (all_insts f)
  insts_match = rows_each (all_uses f) (length (value_rows f)) 0 none_before f.blocks (part_whole (all_uses f)) (omega (arith, values_count f h.within))

  pub blocks_shown : (held g).blocks.len ≡ length f.blocks
  blocks_shown = ap (λ s. s.blocks.len) h.holds ∙ length-map (block_rows f) Some ∙ sym (AllZip-long _ (block_rows f) f.blocks blocks_match)

  pub insts_shown : (held g).insts.len ≡ length (all_insts f)
  insts_shown = ap (λ s. s.insts.len) h.holds ∙ length-map (inst_rows f) Some ∙ sym (AllZip-long _ (inst_rows f) (all_insts f) insts_match)
