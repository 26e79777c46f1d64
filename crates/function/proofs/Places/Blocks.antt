-- The first instruction of a block, the first behind it, and the one that ends it.
use Rattle.std.proofs.Common.{◌≡◌, ℕ, zero, suc, ◌+◌, ◌<◌, ◌≤◌, List, [], ◌∷◌, length, Some, Option, sym, refl, ap, ◌∙◌, arith, slice_get}
use Rattle.function.specs.Answers.{all_insts, first_of, end_of, ending_of, final, option_in, number_in}
use Rattle.function.specs.Numbering.{Numbers, none_before, over_blocks, past_inst, past_insts, past_body, past_params, block_row}
use Rattle.function.specs.declared.rows.BlockData.{BlockData}
use Rattle.reader.specs.Data.{Instruction, Body, Func}
use Rattle.reader.specs.Within.{Within, FitsBody}
use Rattle.std.proofs.lemmas.List.{length-append}
use Rattle.std.specs.List.{flat_map, AllByRecursion}

-- how many instructions block k has, and the blocks before it
abbrev pub size : ℕ → List Body → ℕ
size k xs = number_in (slice_get xs k) (λ x. length x.insts)

abbrev pub before : ℕ → List Body → ℕ
before zero xs = 0
before (suc k) [] = 0
before (suc k) (x ∷ xs) = length x.insts + before k xs

pub before_more : (k : ℕ) (xs : List Body) → before k xs + size k xs ≡ before (suc k) xs
before_more zero [] = omega arith
before_more (suc k) [] = omega arith
before_more zero (x ∷ xs) = omega arith
before_more (suc k) (x ∷ xs) = omega (arith, before_more k xs)

before_all : (xs : List Body) → before (length xs) xs ≡ length (flat_map (λ x. x.insts) xs)
before_all [] = refl
before_all (x ∷ xs) = omega (arith, before_all xs, length-append x.insts (flat_map (λ y. y.insts) xs))

pub before_bound : (k : ℕ) (xs : List Body) → before k xs ≤ length (flat_map (λ x. x.insts) xs)
before_bound zero xs = omega arith
before_bound (suc k) [] = omega arith
before_bound (suc k) (x ∷ xs) = omega (arith, before_bound k xs, length-append x.insts (flat_map (λ y. y.insts) xs))

past_number : (xs : List Instruction) (n : Numbers) → (past_insts xs n).insts ≡ n.insts + length xs
past_number [] n = omega arith
past_number (x ∷ xs) n = omega (arith, past_number xs (past_inst x n))

-- the row of a block says that its instructions are k from a on
record Span (o : Option BlockData) (a k : ℕ) : Type 0 where
  first : number_in o (λ r. r.first_inst) ≡ a
  end : number_in o (λ r. r.first_inst + r.insts) ≡ a + k

spans : (xs : List Body) (b : ℕ) (n : Numbers) (k : ℕ) → k < length xs
    → Span (slice_get (over_blocks (λ c m x. block_row m x.params (length x.insts) ∷ []) b n xs) k) (n.insts + before k xs) (size k xs)
spans [] b n k h = absurd (omega arith)
spans (x ∷ xs) b n zero h = record { first = omega arith; end = omega arith }
spans (x ∷ xs) b n (suc k) h =
    let e : n.insts + before (suc k) (x ∷ xs) ≡ (past_body x n).insts + before k xs = omega (arith, past_number x.insts (past_params x n)) in
    rw e (spans xs (suc b) (past_body x n) k (omega arith))

module _ (f : Func) where
  pub first_is : (b : ℕ) → b < length f.blocks → first_of f b ≡ before b f.blocks
  first_is b h = omega (arith, (spans f.blocks 0 none_before b h).first)

  pub end_is : (b : ℕ) → b < length f.blocks → end_of f b ≡ before (suc b) f.blocks
  end_is b h = omega (arith, (spans f.blocks 0 none_before b h).end, before_more b f.blocks)

  pub first_at_zero : first_of f 0 ≡ 0
  first_at_zero = at_start f.blocks
    where
      at_start : (xs : List Body) → first_of (record { blocks = xs; order = [] }) 0 ≡ 0
      at_start [] = refl
      at_start (x ∷ xs) = refl

  pub end_is_next : (b : ℕ) → suc b < length f.blocks → end_of f b ≡ first_of f (suc b)
  end_is_next b h = end_is b (omega arith) ∙ sym (first_is (suc b) h)

  pub end_is_all : (b : ℕ) → suc b ≡ length f.blocks → end_of f b ≡ length (all_insts f)
  end_is_all b h = end_is b (omega arith) ∙ ap (λ k. before k f.blocks) h ∙ before_all f.blocks

-- every block has an instruction that ends it
final_there : (xs : List Instruction) → 1 ≤ length xs → (x : Instruction) × (final xs ≡ Some x)
final_there [] h = absurd (omega arith)
final_there (x ∷ []) h = (x, refl)
final_there (x ∷ y ∷ ys) h = final_there (y ∷ ys) (omega arith)

ending_in : (xs : List Body) → AllByRecursion FitsBody xs → (b : ℕ) → b < length xs → (x : Instruction) × (option_in (slice_get xs b) (λ y. final y.insts) ≡ Some x)
ending_in [] w b h = absurd (omega arith)
ending_in (x ∷ xs) w zero h = final_there x.insts w.0.some_inst
ending_in (x ∷ xs) w (suc b) h = ending_in xs w.1 b (omega arith)

pub ending_there : (f : Func) → Within f → (b : ℕ) → b < length f.blocks → (x : Instruction) × (ending_of f b ≡ Some x)
ending_there f w = ending_in f.blocks w.each_block
