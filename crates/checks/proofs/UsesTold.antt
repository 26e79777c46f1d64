-- The tests of uses, block by block.
use Rattle.std.proofs.Common.{◌≡◌, ℕ, zero, suc, ◌+◌, ◌-◌, ◌<◌, ◌≤◌, true, false, cond, ltb, length, is_some, None, Some, Option, sym, ap, ◌∙◌, ⊎_elim, arith, slice_get}
use Rattle.checks.specs.Checks.{uses_test, uses_tests, tests_of_uses, value_before}
use Rattle.checks.specs.Tests.{first_fault}
use Rattle.checks.proofs.Runs.{tests_more}
use Rattle.function.proofs.Places.Blocks.{first_at_zero, end_is_next, end_is_all, end_is, before_bound}
use Rattle.function.proofs.Places.Insts.{within_block}
use Rattle.function.specs.Answers.{all_insts, inst_of, first_of, end_of, entry_of_block, list_in, number_in}
use Rattle.function.specs.Numbering.{uses_of, block_rows}
use Rattle.function.specs.declared.rows.BlockData.{BlockData}
use Rattle.reader.specs.Data.{Func}
use Rattle.std.specs.List.{list_all}
use Rattle.std.proofs.lemmas.Bool.{lt-ltb, le-ltb, cases_lt}

-- what is left of the tests at instruction i
abbrev pub left_from : Func → ℕ → ℕ → Option (ℕ × ℕ)
left_from f n i = first_fault (uses_tests f i (n - i))

-- the first instruction of block b, or behind the last one
abbrev pub start_of : Func → ℕ → ℕ
start_of f b = cond (ltb b (length f.blocks)) (first_of f b) (length (all_insts f))

module _ (f : Func) where
  pub start_below : (b : ℕ) → b < length f.blocks → start_of f b ≡ first_of f b
  start_below b h = rw (lt-ltb b (length f.blocks) h)

  pub start_behind : (b : ℕ) → length f.blocks ≤ b → start_of f b ≡ length (all_insts f)
  start_behind b h = rw (le-ltb b (length f.blocks) h)

  pub start_zero : 1 ≤ length f.blocks → start_of f 0 ≡ 0
  start_zero h = start_below 0 h ∙ first_at_zero f

  pub end_is_start : (b : ℕ) → b < length f.blocks → end_of f b ≡ start_of f (b + 1)
  end_is_start b h = let s : suc b ≡ b + 1 = omega arith in let e : start_of f (suc b) ≡ start_of f (b + 1) = ap (start_of f) s in
      ⊎_elim (λ (l : suc b < length f.blocks). end_is_next f b l ∙ sym (start_below (suc b) l) ∙ e)
      (λ (l : length f.blocks ≤ suc b). end_is_all f b (omega arith) ∙ sym (start_behind (suc b) l) ∙ e) (cases_lt (suc b) (length f.blocks))

first_end : (o : Option BlockData) → number_in o (λ r. r.first_inst) ≤ number_in o (λ r. r.first_inst + r.insts)
first_end None = omega arith
first_end (Some r) = omega arith

pub first_before_end : (f : Func) (b : ℕ) → first_of f b ≤ end_of f b
first_before_end f b = first_end (slice_get (block_rows f) b)

-- an instruction of block b
module _ (f : Func) (b i : ℕ) (h : b < length f.blocks) (l : first_of f b ≤ i) (g : i < end_of f b) where
  pub unordered_passes : is_some (entry_of_block f b) ≡ false → (uses_test f i).passes ≡ true
  unordered_passes e = rw (within_block f b i h l g, e)

  pub ordered_test : is_some (entry_of_block f b) ≡ true → (uses_test f i).passes ≡ list_all (value_before f b i) (list_in (inst_of f i) uses_of)
  ordered_test e = rw (within_block f b i h l g, e)

-- a block that the order leaves out is passed over
pub skip_block : (f : Func) (n b k : ℕ) → b < length f.blocks → is_some (entry_of_block f b) ≡ false → first_of f b + k ≤ end_of f b → end_of f b ≤ n
    → left_from f n (first_of f b) ≡ left_from f n (first_of f b + k)
skip_block f n b zero h e l m = ap (left_from f n) (omega arith)
skip_block f n b (suc k) h e l m =
    let i = first_of f b + k in
    let s : i + 1 ≡ first_of f b + suc k = omega arith in
    skip_block f n b k h e (omega arith) m ∙ tests_more (tests_of_uses f) n i (omega arith) (rw (unordered_passes f b i h (omega arith) (omega arith) e)) ∙ ap (left_from f n) s

-- no block ends behind the last instruction
pub end_below : (f : Func) (b : ℕ) → b < length f.blocks → end_of f b ≤ length (all_insts f)
end_below f b h = let a = end_is f b h in let m = before_bound (suc b) f.blocks in omega arith
