-- A table of a list, with more pushed to it, is the table of the longer list.
use Rattle.std.proofs.Common.{◌≡◌, ℕ, zero, suc, ◌+◌, ◌<◌, ◌≤◌, List, [], ◌∷◌, ◌++◌, map, length, take, set, replicate, Some, None, Option, sym, refl, ap, ◌∙◌, arith}
use Rattle.function.proofs.Parts.{same_cells}
use Rattle.function.specs.Cells.{Cells, pushed, pushed_all, table}
use Rattle.std.proofs.lemmas.List.{append-nil, append_assoc, length-append, length-map, length_push, map-append, take-replicate}

-- what stands in front of more has room where both have
pub room_before : {E : Type 0} (xs ys : List E) (n : ℕ) → length (xs ++ ys) ≤ n → length xs ≤ n
room_before xs ys n h = omega (arith, length-append xs ys)

module _ {E : Type 0} (z : E) where
  -- a place behind the list is written: how much zero stands behind it does not matter
  padded : (n m k : ℕ) (xs : List E) (x : E) → n ≤ length xs + m → n ≤ suc (length xs + k)
      → set (take n (xs ++ replicate m z)) (length xs) x ≡ take n (xs ++ x ∷ replicate k z)
  padded zero m k [] x h g = refl
  padded zero m k (y ∷ ys) x h g = refl
  padded (suc n) zero k [] x h g = absurd (omega arith)
  padded (suc n) (suc m) k [] x h g = ap (λ ys. x ∷ ys) (take-replicate n m z (omega arith) ∙ sym (take-replicate n k z (omega arith)))
  padded (suc n) m k (y ∷ ys) x h g = ap (λ zs. y ∷ zs) (padded n m k ys x (omega arith) (omega arith))

  module _ (n : ℕ) where
    pub pushed_one : (xs : List E) (x : E) → length xs < n → pushed n x (table n z xs) ≡ table n z (xs ++ x ∷ [])
    pushed_one xs x h = same_cells _ _ _ _
        (padded n n n xs x (omega arith) (omega arith) ∙ ap (take n) (sym (append_assoc xs (x ∷ []) (replicate n z))))
        (let l = length_push xs x in omega arith)

    pub pushed_more : (ys xs : List E) → length (xs ++ ys) ≤ n → pushed_all n ys (table n z xs) ≡ table n z (xs ++ ys)
    pushed_more [] xs h = ap (table n z) (sym (append-nil xs))
    pushed_more (y ∷ ys) xs h =
        let e = append_assoc xs (y ∷ []) ys in
        ap (pushed_all n ys) (pushed_one xs y (omega (arith, length-append xs (y ∷ ys))))
        ∙ pushed_more ys (xs ++ y ∷ []) (rw e h)
        ∙ ap (table n z) e

-- a table of options: rows, and None behind them
abbrev pub rows_table : {E : Type 0} → ℕ → List E → Cells (Option E)
rows_table n xs = table n None (map Some xs)

pub pushed_rows : {E : Type 0} (n : ℕ) (ys zs xs : List E) → ys ≡ zs → length (xs ++ zs) ≤ n → pushed_all n (map Some ys) (rows_table n xs) ≡ rows_table n (xs ++ zs)
pushed_rows n ys zs xs e h =
    let m = map-append Some xs zs in
    ap (λ us. pushed_all n (map Some us) (rows_table n xs)) e ∙ pushed_more None n (map Some zs) (map Some xs) (rw (← m, length-map) h) ∙ ap (table n None) (sym m)
