-- Where each block and edge is first named in the order, as one entry more is noted.
use Rattle.std.proofs.Common.{◌≡◌, ℕ, suc, ◌+◌, ◌*◌, ◌/◌, ◌%◌, ◌<◌, Bool, true, false, cond, ltb, List, [], ◌∷◌, ◌++◌, map, length, get_or, set, Some, None, Option, sym, refl, ap, ◌∙◌, ⊎_elim, add-zero, zero-add, arith}
use mathlib.Core.Path.{fun_ext}
use Rattle.clif.specs.declared.entities.Entry.{Entry}
use Rattle.clif.specs.declared.entities.Entry.TheVariants.{Block as to_block, Edge as to_edge}
use Rattle.function.specs.Cells.{Cells}
use Rattle.function.specs.Filling.{noted, noted_block, noted_edge}
use Rattle.function.specs.Holding.{names_block, names_edge}
use Rattle.std.specs.Option.{option_or, option_map_or}
use Rattle.std.proofs.lemmas.List.{length-set, get_or-set_same, get_or-set_other}
use Rattle.std.proofs.lemmas.List.FromFn.{fill_by_all, get_or-map-range_with_len, length-map-range_with_len}
use Rattle.std.specs.List.{position_from, range_with_len}
use Rattle.std.proofs.lemmas.Bool.{cases_eq, cond_both, eq-eqb, ne_eqb, ltb-true, ltb-false, and_from, and_left, and_right}

-- one place written
module _ {X : Type 0} (g h : ℕ → X) (n i : ℕ) (y : X) (here : i < n → y ≡ h i) (others : (j : ℕ) → (j ≡ i → ⊥) → g j ≡ h j) where
  get_written : (j : ℕ) → j < n → get_or (set (map g (range_with_len 0 n)) i y) j y ≡ h j
  get_written j m = let l = length-map-range_with_len g 0 n in ⊎_elim
      (λ (e : j ≡ i). rw e (get_or-set_same _ i y y (omega arith) ∙ here (omega arith)))
      (λ e. get_or-set_other _ i j y y e ∙ get_or-map-range_with_len g 0 n j j y m (zero-add j) ∙ others j e)
      (cases_eq j i)

  set_by_index : set (map g (range_with_len 0 n)) i y ≡ map h (range_with_len 0 n)
  set_by_index = fill_by_all h _ n y (length-set (map g (range_with_len 0 n)) i y ∙ length-map-range_with_len g 0 n) get_written

or_none : (o : Option ℕ) → option_or o None ≡ o
or_none None = refl
or_none (Some v) = refl

-- the entry that one more at the end makes the first
first_more : (test : Entry → Bool) (e : ℕ) (done : List Entry) (x : Entry)
    → position_from test e (done ++ x ∷ []) ≡ option_or (position_from test e done) (cond (test x) (Some (e + length done)) None)
first_more test e [] x = rw add-zero
first_more test e (y ∷ ys) x = go (test y) (first_more test (e + 1) ys x)
  where
    go : (b : Bool) → position_from test (e + 1) (ys ++ x ∷ []) ≡ option_or (position_from test (e + 1) ys) (cond (test x) (Some (e + 1 + length ys)) None)
        → cond b (Some e) (position_from test (e + 1) (ys ++ x ∷ [])) ≡ option_or (cond b (Some e) (position_from test (e + 1) ys)) (cond (test x) (Some (e + suc (length ys))) None)
    go true ih = refl
    go false ih = let k : e + 1 + length ys ≡ e + suc (length ys) = omega arith in rw (← k) ih

-- the first entries by the tests of n places
abbrev pub firsts : (ℕ → Entry → Bool) → ℕ → List Entry → Cells (Option ℕ)
firsts test n order = record { rows = map (λ i. position_from (test i) 0 order) (range_with_len 0 n); len = 0 }

module _ (test : ℕ → Entry → Bool) (n : ℕ) (done : List Entry) (x : Entry) where
  same_first : (i : ℕ) → test i x ≡ false → position_from (test i) 0 done ≡ position_from (test i) 0 (done ++ x ∷ [])
  same_first i h = sym (first_more (test i) 0 done x ∙ rw h (or_none _))

  -- an entry that no place stands for
  none_first : ((i : ℕ) → test i x ≡ false) → firsts test n done ≡ firsts test n (done ++ x ∷ [])
  none_first h = ap (λ (g : ℕ → Option ℕ). record { rows = map g (range_with_len 0 n); len = 0 }) (fun_ext (λ i. same_first i (h i)))

  -- an entry that one place stands for
  one_first : (i : ℕ) → test i x ≡ true → ((j : ℕ) → (j ≡ i → ⊥) → test j x ≡ false)
      → noted i (length done) (firsts test n done) ≡ firsts test n (done ++ x ∷ [])
  one_first i here others =
      ap (λ (xs : List (Option ℕ)). record { rows = xs; len = 0 }) (set_by_index _ _ n i _
      (λ h. rw (get_or-map-range_with_len (λ j. position_from (test j) 0 done) 0 n i i None h (zero-add i)) (sym (first_more (test i) 0 done x ∙ rw (here, zero-add))))
      (λ j h. same_first j (others j h)))

pub block_noted : (n : ℕ) (done : List Entry) (x : Entry) → noted_block x (length done) (firsts names_block n done) ≡ firsts names_block n (done ++ x ∷ [])
block_noted n done (to_block b) = one_first names_block n done (to_block b) b.0 (eq-eqb _ _ refl) (λ j h. ne_eqb b.0 j (λ e. h (sym e)))
block_noted n done (to_edge b k) = none_first names_block n done (to_edge b k) (λ i. refl)

-- place 2 * b + k stands for edge k of block b
abbrev pub names_place : ℕ → Entry → Bool
names_place i = names_edge (i / 2) (i % 2)

pub edge_noted : (n : ℕ) (done : List Entry) (x : Entry) → noted_edge x (length done) (firsts names_place n done) ≡ firsts names_place n (done ++ x ∷ [])
edge_noted n done (to_block b) = none_first names_place n done (to_block b) (λ i. refl)
edge_noted n done (to_edge b k) = cond_both (ltb k 2) (Some (2 * b.0 + k)) None
    (λ o. option_map_or (λ i. noted i (length done) (firsts names_place n done)) o (firsts names_place n done) ≡ firsts names_place n (done ++ to_edge b k ∷ []))
    (λ e. let l = ltb-true k 2 e in one_first names_place n done (to_edge b k) (2 * b.0 + k)
    (and_from _ _ (eq-eqb b.0 _ (omega arith)) (eq-eqb k _ (omega arith)))
    (λ j h. ⊎_elim
    (λ (p : b.0 ≡ j / 2). and_right _ _ (ne_eqb k (j % 2) (λ q. h (omega arith))))
    (λ p. and_left _ _ (ne_eqb b.0 (j / 2) p))
    (cases_eq b.0 (j / 2))))
    (λ e. let l = ltb-false k 2 e in none_first names_place n done (to_edge b k) (λ i. and_right _ _ (ne_eqb k (i % 2) (omega arith))))
