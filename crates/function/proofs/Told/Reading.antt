-- Reading a table of a list: one place, or a part.
use Rattle.std.proofs.Common.{◌≡◌, ℕ, zero, suc, ◌+◌, ◌-◌, ◌*◌, ◌<◌, ◌≤◌, cond, ltb, List, [], ◌∷◌, ◌++◌, map, length, get_or, take, drop, replicate, Some, None, Option, sym, refl, ap, ◌∙◌, ⊎_elim, add-zero, zero-add, arith, slice_get}
use Rattle.function.proofs.Filled.Tables.{rows_table}
use Rattle.function.specs.Cells.{Cells, table}
use Rattle.function.specs.Holding.{edge_place}
use Rattle.function.specs.Numbering.{values_from}
use Rattle.reader.specs.Reading.{value_at}
use Rattle.std.proofs.lemmas.List.{drop-append-le, drop_at, drop-drop, drop-take, get_or_past, length-append, length-drop, length-map, take_all, take-append-le, take_at, take-take}
use Rattle.std.specs.Option.{option_and_then}
use Rattle.std.specs.List.{range_with_len}
use Rattle.std.proofs.lemmas.List.FromFn.{get_or-map-range_with_len, length-map-range_with_len, take-map-range_with_len}
use Rattle.std.proofs.lemmas.Bool.{cases_lt, cond_below, cond_above, cond_both, ltb-true, ltb-false}

-- the k elements of us from a on are xs; xs stands in us at a
pub record Part {E : Type 0} (us : List E) (a k : ℕ) (xs : List E) : Type 0 where
  pub within : a + k ≤ length us
  pub is : take k (drop a us) ≡ xs

abbrev pub Stands : {E : Type 0} → List E → ℕ → List E → Type 0
Stands us a xs = Part us a (length xs) xs

module _ {E : Type 0} (z : E) where
  -- behind a list stand zeros
  zeros : (n m i : ℕ) → get_or (take n (replicate m z)) i z ≡ z
  zeros zero m i = refl
  zeros (suc n) zero i = refl
  zeros (suc n) (suc m) zero = refl
  zeros (suc n) (suc m) (suc i) = zeros n m i

  padded : (n m i : ℕ) (xs : List E) → length xs ≤ n → get_or (take n (xs ++ replicate m z)) i z ≡ get_or xs i z
  padded n m i [] h = zeros n m i
  padded zero m i (x ∷ xs) h = absurd (omega arith)
  padded (suc n) m zero (x ∷ xs) h = refl
  padded (suc n) m (suc i) (x ∷ xs) h = padded n m i xs (omega arith)

  take_past : (n : ℕ) (xs ys : List E) → length xs ≤ n → take n (xs ++ ys) ≡ xs ++ take (n - length xs) ys
  take_past n [] ys h = let e : n ≡ n - 0 = omega arith in ap (λ m. take m ys) e
  take_past zero (x ∷ xs) ys h = absurd (omega arith)
  take_past (suc n) (x ∷ xs) ys h =
      let e : n - length xs ≡ suc n - suc (length xs) = omega arith in
      ap (λ zs. x ∷ zs) (take_past n xs ys (omega arith) ∙ ap (λ m. xs ++ take m ys) e)

  -- one place, and a part, of a table of xs
  module _ (n : ℕ) (xs : List E) (c : Cells E) (is : c ≡ table n z xs) (few : length xs ≤ n) where
    pub place_read : (i : ℕ) → get_or c.rows i z ≡ get_or xs i z
    place_read i = ap (λ t. get_or t.rows i z) is ∙ padded n n i xs few

    pub part_read : (a k : ℕ) (us : List E) → Part xs a k us → take k (drop a c.rows) ≡ us
    part_read a k us p =
        ap (λ t. take k (drop a t.rows)) is
        ∙ ap (λ ys. take k (drop a ys)) (take_past n xs (replicate n z) few)
        ∙ ap (take k) (drop-append-le a xs _ (omega (arith, p.within)))
        ∙ take-append-le k (drop a xs) _ (omega (arith, p.within, length-drop a xs))
        ∙ p.is

-- one place of a table of rows
rows_get : {E : Type 0} (xs : List E) (i : ℕ) → get_or (map Some xs) i None ≡ slice_get xs i
rows_get [] i = refl
rows_get (x ∷ xs) zero = refl
rows_get (x ∷ xs) (suc i) = rows_get xs i

pub row_read : {E : Type 0} (n : ℕ) (xs : List E) (c : Cells _) → c ≡ rows_table n xs → length xs ≤ n → (i : ℕ) → get_or c.rows i None ≡ slice_get xs i
row_read n xs c is few i = place_read None n (map Some xs) c is (rw length-map few) i ∙ rows_get xs i

-- one place of a table with two places for each block
pub at_edge : {X : Type 0} (b k : ℕ) (read : ℕ → Option X) (d : Option X) → (k < 2 → d ≡ read (2 * b + k)) → (2 ≤ k → d ≡ None) → d ≡ option_and_then read (edge_place b k)
at_edge b k read d below past =
    cond_both (ltb k 2) (Some (2 * b + k)) None (λ o. d ≡ option_and_then read o) (λ e. below (ltb-true k 2 e)) (λ e. past (ltb-false k 2 e))

-- one place of a list by index
pub index_read : {X : Type 0} (g : ℕ → X) (n i : ℕ) (d : X) → get_or (map g (range_with_len 0 n)) i d ≡ cond (ltb i n) (g i) d
index_read g n i d = ⊎_elim
    (λ (h : i < n). get_or-map-range_with_len g 0 n i i d h (zero-add i) ∙ cond_below i n (g i) d h)
    (λ (h : n ≤ i). cond_above i n (g i) d _ h (get_or_past _ i d (omega (arith, length-map-range_with_len g 0 n))))
    (cases_lt i n)

-- the whole list, what stands in front, and what stands behind that
module _ {E : Type 0} (us : List E) where
  pub part_whole : Stands us 0 us
  part_whole = record { within = omega arith; is = take_all _ us (omega arith) }

  module _ (a : ℕ) (xs ys : List E) (p : Stands us a (xs ++ ys)) where
    pub part_front : Stands us a xs
    part_front =
        let l = length-append xs ys in record {
          within = omega (arith, p.within);
          is = sym (take-take (length xs) (length (xs ++ ys)) (drop a us) (omega arith)) ∙ ap (take (length xs)) p.is ∙ take_at xs ys _ refl;
        }

    pub part_back : Stands us (a + length xs) ys
    part_back =
        let l = length-append xs ys in record {
          within = omega (arith, p.within);
          is = ap (take (length ys)) (sym (drop-drop (length xs) a us)) ∙ sym (drop-take (length xs) (length ys) (drop a us))
              ∙ ap (drop (length xs)) (ap (λ k. take k (drop a us)) (sym l) ∙ p.is) ∙ drop_at xs ys _ refl;
        }

-- a part of the values
drop_values : (a n v w : ℕ) → a + v ≡ w → drop a (values_from v n) ≡ values_from w (n - a)
drop_values zero n v w e = let m : n ≡ n - 0 = omega arith in let z : v ≡ w = omega arith in rw (← m, z)
drop_values (suc a) zero v w e = let z : 0 - suc a ≡ 0 = omega arith in rw z
drop_values (suc a) (suc n) v w e = drop_values a n (v + 1) w (omega arith) ∙ ap (values_from w) (omega arith)

pub values_part : (n a k : ℕ) → a + k ≤ n → Part (values_from 0 n) a k (values_from a k)
values_part n a k h = record {
  within = omega (arith, length-map-range_with_len value_at 0 n);
  is = ap (take k) (drop_values a n 0 a (add-zero a)) ∙ take-map-range_with_len value_at a (n - a) k (omega arith);
}
