-- The block of an instruction, and whether it ends that block.
use Rattle.std.proofs.Common.{◌≡◌, ℕ, zero, suc, ◌+◌, ◌-◌, ◌<◌, ◌≤◌, true, List, [], ◌∷◌, length, Some, Option, sym, refl, ap, ◌∙◌, subst, ap₂, inl, inr, add-zero, zero-add, arith, slice_get}
use Rattle.clif.specs.declared.entities.Block.{Block}
use Rattle.function.proofs.Places.Blocks.{size, before, before_more, first_is, end_is}
use Rattle.function.proofs.Places.Lists.{get_front, get_behind, get_within}
use Rattle.function.specs.Answers.{all_insts, inst_of, block_of, last_of, first_of, end_of, ending_of, final, option_in, flag_in}
use Rattle.function.specs.Numbering.{Numbers, none_before, over_insts, over_blocks, past_inst, past_body, past_params, inst_row, inst_rows}
use Rattle.function.specs.declared.rows.InstData.{InstData}
use Rattle.reader.specs.Data.{Instruction, Body, Func}
use Rattle.reader.specs.Reading.{block_at}
use Rattle.std.proofs.lemmas.List.{length-append}
use Rattle.std.proofs.lemmas.Bool.{cases_lt, false≢true}
use Rattle.std.specs.List.{flat_map}
use Rattle.std.specs.Option.{option_map}

-- the instructions of some blocks, and the rows of a block and of several
abbrev pub insts_in : List Body → List Instruction
insts_in = flat_map (λ x. x.insts)

abbrev pub rows : ℕ → Numbers → List Instruction → List InstData
rows b = over_insts (λ last m x. inst_row b last m x ∷ [])

abbrev pub rows_in : ℕ → Numbers → List Body → List InstData
rows_in = over_blocks (λ b n x. rows b (past_params x n) x.insts)

pub length_rows : (b : ℕ) (n : Numbers) (xs : List Instruction) → length (rows b n xs) ≡ length xs
length_rows b n [] = refl
length_rows b n (x ∷ xs) = ap suc (length_rows b (past_inst x n) xs)

pub length_rows_in : (b : ℕ) (n : Numbers) (xs : List Body) → length (rows_in b n xs) ≡ length (insts_in xs)
length_rows_in b n [] = refl
length_rows_in b n (x ∷ xs) =
    length-append (rows b (past_params x n) x.insts) _
    ∙ ap₂ ◌+◌ (length_rows b _ x.insts) (length_rows_in (suc b) (past_body x n) xs)
    ∙ sym (length-append x.insts (insts_in xs))

-- an instruction stands in block b, by its row; where it is the last there, it is the one that ends the block
pub record Stands (row : Option InstData) (inst : Option Instruction) (b : ℕ) (ending : Option Instruction) : Type 0 where
  pub there : (x : Instruction) × (inst ≡ Some x)
  pub block : option_map (λ r. r.block) row ≡ Some (block_at b)
  pub last : flag_in row (λ r. r.last) ≡ true → ending ≡ inst

-- instruction j of a block
stands : (b : ℕ) (n : Numbers) (xs : List Instruction) (j : ℕ) → j < length xs → Stands (slice_get (rows b n xs) j) (slice_get xs j) b (final xs)
stands b n [] j h = absurd (omega arith)
stands b n (x ∷ []) zero h = record { there = (x, refl); block = refl; last = λ _. refl }
stands b n (x ∷ []) (suc j) h = absurd (omega arith)
stands b n (x ∷ y ∷ ys) zero h = record { there = (x, refl); block = refl; last = λ e. absurd (false≢true e) }
stands b n (x ∷ y ∷ ys) (suc j) h = stands b (past_inst x n) (y ∷ ys) j (omega arith)

-- instruction j of block k, counted from b
stands_in : (b : ℕ) (n : Numbers) (xs : List Body) (k j : ℕ) → j < size k xs
    → Stands (slice_get (rows_in b n xs) (before k xs + j)) (slice_get (insts_in xs) (before k xs + j)) (b + k) (option_in (slice_get xs k) (λ x. final x.insts))
stands_in b n [] k j h = absurd (omega arith)
stands_in b n (x ∷ xs) zero j h =
    let m = past_params x n in
    let l : j < length (rows b m x.insts) = omega (arith, length_rows b m x.insts) in
    rw (zero-add, add-zero, get_front (rows b m x.insts) _ j l, get_front x.insts _ j h) (stands b m x.insts j h)
stands_in b n (x ∷ xs) (suc k) j h =
    let m = past_params x n in
    let i = before (suc k) (x ∷ xs) + j in
    let p = get_behind (rows b m x.insts) (rows_in (suc b) (past_body x n) xs) i (before k xs + j) (omega (arith, length_rows b m x.insts)) in
    let q = get_behind x.insts (insts_in xs) i (before k xs + j) (omega arith) in
    let e : b + suc k ≡ suc b + k = omega arith in
    rw (p, q, e) (stands_in (suc b) (past_body x n) xs k j h)

-- every instruction is instruction j of some block k
record Place (xs : List Body) (i : ℕ) : Type 0 where
  k : ℕ
  j : ℕ
  below : k < length xs
  inside : j < size k xs
  is : before k xs + j ≡ i

place : (xs : List Body) (i : ℕ) → i < length (insts_in xs) → Place xs i
place [] i h = absurd (omega arith)
place (x ∷ xs) i h = elim (cases_lt i (length x.insts)) [
  | inl l ↦ record { k = 0; j = i; below = omega arith; inside = l; is = omega arith }
  | inr l ↦
      let p = place xs (i - length x.insts) (omega (arith, length-append x.insts (insts_in xs))) in
      record { k = suc p.k; j = p.j; below = omega arith; inside = p.inside; is = omega arith }
]

module _ (f : Func) where
  -- instruction i stands in block b
  abbrev pub At : ℕ → ℕ → Type 0
  At i b = Stands (slice_get (inst_rows f) i) (inst_of f i) b (ending_of f b)

  pub stands_at : (b j : ℕ) → j < size b f.blocks → At (before b f.blocks + j) b
  stands_at b j h =
      let i = before b f.blocks + j in
      subst (λ c. Stands (slice_get (inst_rows f) i) (inst_of f i) c (ending_of f b)) (zero-add b) (stands_in 0 none_before f.blocks b j h)

  found : (i : ℕ) → i < length (all_insts f) → (b : ℕ) × (b < length f.blocks) × At i b
  found i h =
      let p = place f.blocks i h in
      (p.k, p.below, subst (λ c. At c p.k) p.is (stands_at p.k p.j p.inside))

  named : (i : ℕ) (b : Block) → block_of f i ≡ Some b → (b.0 < length f.blocks) × At i b.0
  named i b h =
      let l = get_within (λ r. r.block) (inst_rows f) i b h in
      let (c, below, s) = found i (omega (arith, length_rows_in 0 none_before f.blocks)) in
      let e : block_at c ≡ b = cc (s.block, h) in
      subst (λ d. (d.0 < length f.blocks) × At i d.0) e (below, s)

  pub inst_there : (i : ℕ) → i < length (all_insts f) → (x : Instruction) × (b : Block) × (inst_of f i ≡ Some x) × (block_of f i ≡ Some b)
  inst_there i h =
      let (b, below, s) = found i h in
      (s.there.0, block_at b, s.there.1, s.block)

  pub last_is_ending : (i : ℕ) (b : Block) → last_of f i ≡ true → block_of f i ≡ Some b → ending_of f b.0 ≡ inst_of f i
  last_is_ending i b l h = (named i b h).1.last l

  pub within_block : (b i : ℕ) → b < length f.blocks → first_of f b ≤ i → i < end_of f b → block_of f i ≡ Some (block_at b)
  within_block b i h l g =
      let j = i - before b f.blocks in
      let e : before b f.blocks + j ≡ i = omega (arith, first_is f b h) in
      subst (λ c. block_of f c ≡ Some (block_at b)) e (stands_at b j (omega (arith, end_is f b h, before_more b f.blocks))).block

  pub block_below : (i : ℕ) (b : Block) → block_of f i ≡ Some b → b.0 < length f.blocks
  block_below i b h = (named i b h).0
