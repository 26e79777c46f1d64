-- What a function within the limits has fits the tables.
use Rattle.std.proofs.Common.{◌≡◌, ℕ, suc, ◌+◌, ◌*◌, ◌≤◌, Bool, List, [], ◌∷◌, ◌++◌, length, refl, ◌∙◌, ap₂, mul-suc, arith}
use Rattle.function.proofs.Filled.Contents.{Fits, of_inst, of_body, of_blocks}
use Rattle.function.proofs.Filled.Values.{length_defined}
use Rattle.function.specs.Numbering.{Numbers, none_before, over_insts, over_blocks, uses_of, dest_places, past_inst, past_body, past_params, value_rows}
use Rattle.reader.specs.Data.{Instruction, Body, Func}
use Rattle.reader.specs.Within.{Within, FitsBody, sum_of, uses_in, body_uses, body_values}
use Rattle.std.proofs.lemmas.List.{length-append}
use Rattle.std.specs.List.{flat_map, AllByRecursion}

length_both : {X : Type 0} (xs ys : List X) {m n : ℕ} → length xs ≡ m → length ys ≡ n → length (xs ++ ys) ≡ m + n
length_both xs ys e f = length-append xs ys ∙ ap₂ ◌+◌ e f

sum_same : {X : Type 0} (k : ℕ) (xs : List X) → sum_of (λ x. k) xs ≡ k * length xs
sum_same k [] = omega arith
sum_same k (x ∷ xs) = omega (arith, sum_same k xs, mul-suc k (length xs))

length_joined : {X A : Type 0} (f : X → List A) (xs : List X) → length (flat_map f xs) ≡ sum_of (λ x. length (f x)) xs
length_joined f [] = refl
length_joined f (x ∷ xs) = length_both (f x) (flat_map f xs) refl (length_joined f xs)

length_uses : (x : Instruction) → length (uses_of x) ≡ uses_in x
length_uses x = length_both x.operands _ refl (length_joined (λ d. d.args) x.destinations)

-- lists over instructions and over blocks, from the lengths of the parts
length_over_insts : {X : Type 0} (g : Bool → Numbers → Instruction → List X) (size : Instruction → ℕ)
    → ((last : Bool) (n : Numbers) (x : Instruction) → length (g last n x) ≡ size x)
    → (n : Numbers) (xs : List Instruction) → length (over_insts g n xs) ≡ sum_of size xs
length_over_insts g size h n [] = refl
length_over_insts g size h n (x ∷ xs) = length_both (g _ n x) _ (h _ n x) (length_over_insts g size h (past_inst x n) xs)

length_over_blocks : {X : Type 0} (g : ℕ → Numbers → Body → List X) (size : Body → ℕ)
    → ((b : ℕ) (n : Numbers) (x : Body) → FitsBody x → length (g b n x) ≡ size x)
    → (b : ℕ) (n : Numbers) (xs : List Body) → AllByRecursion FitsBody xs → length (over_blocks g b n xs) ≡ sum_of size xs
length_over_blocks g size h b n [] w = refl
length_over_blocks g size h b n (x ∷ xs) w = length_both (g b n x) _ (h b n x w.0) (length_over_blocks g size h (suc b) (past_body x n) xs w.1)

-- a block has two places for destinations, since one instruction is the last
pub two_places_each : (n : Numbers) (xs : List Instruction) → 1 ≤ length xs → length (over_insts dest_places n xs) ≡ 2
two_places_each n [] h = absurd (omega arith)
two_places_each n (x ∷ []) h = refl
two_places_each n (x ∷ y ∷ ys) h = two_places_each (past_inst x n) (y ∷ ys) (omega arith)

module _ (f : Func) (w : Within f) where
  over : {X : Type 0} (g : ℕ → Numbers → Body → List X) (size : Body → ℕ) → ((b : ℕ) (n : Numbers) (x : Body) → FitsBody x → length (g b n x) ≡ size x)
      → length (over_blocks g 0 none_before f.blocks) ≡ sum_of size f.blocks
  over g size h = length_over_blocks g size h 0 none_before f.blocks w.each_block

  pub values_count : length (value_rows f) ≡ sum_of body_values f.blocks
  values_count = over (λ b n x. (of_body b n x).values) body_values
      (λ b n x h. length_both _ _ (length_defined _ 0 x.params)
      (length_over_insts (λ last m i. (of_inst b last m i).values) (λ i. length i.results) (λ last m i. length_defined _ 0 i.results) (past_params x n) x.insts))

  pub all_fits : Fits (of_blocks 0 none_before f.blocks)
  all_fits = record {
    blocks = omega (arith, over (λ b n x. (of_body b n x).blocks) (λ x. 1) (λ b n x h. refl), sum_same 1 f.blocks);
    insts = omega (
      arith,
      over (λ b n x. (of_body b n x).insts) (λ x. length x.insts)
          (λ b n x h. let e = sum_same 1 x.insts in
          length_over_insts (λ last m i. (of_inst b last m i).insts) (λ i. 1) (λ last m i. refl) (past_params x n) x.insts ∙ omega arith),
    );
    values = omega (arith, values_count);
    uses = omega (
      arith,
      over (λ b n x. (of_body b n x).uses) body_uses
          (λ b n x h. length_over_insts (λ last m i. uses_of i) uses_in (λ last m i. length_uses i) (past_params x n) x.insts),
    );
    destinations = omega (
      arith,
      over (λ b n x. (of_body b n x).destinations) (λ x. 2)
          (λ b n x h. two_places_each _ x.insts h.some_inst),
      sum_same 2 f.blocks,
    );
  }
