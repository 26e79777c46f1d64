-- Lists of words and of types, read at once: what the code tests is what reading one by one finds.
use Rattle.std.proofs.Common.{◌≡◌, ℕ, zero, suc, ◌+◌, ◌-◌, ◌*◌, ◌/◌, ◌%◌, ◌<◌, ◌≤◌, List, [], ◌∷◌, length, take, drop, is_some, Some, None, Option, refl, add-zero, arith}
use Rattle.clif.specs.Types.{type_of}
use Rattle.clif.specs.declared.types.«Type».{«Type» as Ty}
use Rattle.std.proofs.lemmas.Bool.{le-leb}
use Rattle.std.proofs.lemmas.List.Sums.{prefix_len-le-length}
use Rattle.reader.specs.declared.totals.Totals.{Totals}
use Rattle.reader.specs.Reading.{Spot, got, fault, repeated, value, named}
use Rattle.reader.specs.Parts.{words_of, types_of, typed_front}

pub words_length : (bs : List ℕ) → length (words_of bs) ≡ length bs / 2
words_length [] = refl
words_length (a ∷ []) = refl
words_length (a ∷ b ∷ more) = omega (arith, words_length more)

pub types_length : (bs : List ℕ) → typed_front bs ≡ length bs → length (types_of bs) ≡ length bs
types_length [] h = refl
types_length (b ∷ bs) h = go (type_of b) refl (types_length bs)
  where
    go : (o : Option Ty) → type_of b ≡ o → (typed_front bs ≡ length bs → length (types_of bs) ≡ length bs) → length (types_of (b ∷ bs)) ≡ suc (length bs)
    go None e ih = let k : 0 ≡ suc (length bs) = rw e at h in absurd (omega arith)
    go (Some t) e ih = let k : 1 + typed_front bs ≡ suc (length bs) = rw e at h in let r = ih (omega arith) in rw (e, r)

module _ (size : ℕ) (ts : Totals) where
  abbrev at : List ℕ → Spot
  at xs = record { rest = xs; totals = ts }

  pub words_ok : (n : ℕ) (xs : List ℕ) → 2 * n ≤ length xs → repeated n value size (at xs) ≡ got (words_of (take (2 * n) xs)) (at (drop (2 * n) xs))
  words_ok zero xs h = refl
  words_ok (suc n) [] h = absurd (omega arith)
  words_ok (suc n) (a ∷ []) h = absurd (omega arith)
  words_ok (suc n) (a ∷ b ∷ more) h =
      let e : 2 * suc n ≡ suc (suc (2 * n)) = omega arith in
      let t = le-leb 2 (suc (suc (length more))) (omega arith) in
      let ih = words_ok n more (omega arith) in
      rw (e, t, ih)

  -- the fault is at the word that the file ends in
  pub words_cut : (n : ℕ) (xs : List ℕ) → length xs < 2 * n → repeated n value size (at xs) ≡ fault 1 (size - length xs % 2)
  words_cut zero xs h = absurd (omega arith)
  words_cut (suc n) [] h = refl
  words_cut (suc n) (a ∷ []) h = refl
  words_cut (suc n) (a ∷ b ∷ more) h =
      let m : suc (suc (length more)) % 2 ≡ length more % 2 = omega arith in
      let t = le-leb 2 (suc (suc (length more))) (omega arith) in
      let ih = words_cut n more (omega arith) in
      rw (m, t, ih)

  -- one byte that names a type, or none
  type_at : (b : ℕ) (bs : List ℕ) (t : Ty) → type_of b ≡ Some t → named type_of size (at (b ∷ bs)) ≡ got t (at bs)
  type_at b bs t e = let l = le-leb 1 (suc (length bs)) (omega arith) in rw (l, add-zero, e)

  type_none : (b : ℕ) (bs : List ℕ) → type_of b ≡ None → named type_of size (at (b ∷ bs)) ≡ fault 1 (size - suc (length bs))
  type_none b bs e = let l = le-leb 1 (suc (length bs)) (omega arith) in rw (l, add-zero, e)

  pub types_ok : (n : ℕ) (xs : List ℕ) → n ≤ typed_front (take n xs) → repeated n (named type_of) size (at xs) ≡ got (types_of (take n xs)) (at (drop n xs))
  types_ok zero xs h = refl
  types_ok (suc n) [] h = absurd (omega arith)
  types_ok (suc n) (b ∷ bs) h = go (type_of b) refl (types_ok n bs)
    where
      go : (o : Option Ty) → type_of b ≡ o
          → (n ≤ typed_front (take n bs) → repeated n (named type_of) size (at bs) ≡ got (types_of (take n bs)) (at (drop n bs)))
          → repeated (suc n) (named type_of) size (at (b ∷ bs)) ≡ got (types_of (take (suc n) (b ∷ bs))) (at (drop (suc n) (b ∷ bs)))
      go None e ih = let k : suc n ≤ 0 = rw e at h in absurd (omega arith)
      go (Some t) e ih = let k : suc n ≤ 1 + typed_front (take n bs) = rw e at h in let r = ih (omega arith) in rw (type_at b bs t e, r, e)

  pub types_cut : (n : ℕ) (xs : List ℕ) → typed_front (take n xs) < n → repeated n (named type_of) size (at xs) ≡ fault 1 (size - (length xs - typed_front (take n xs)))
  types_cut zero xs h = absurd (omega arith)
  types_cut (suc n) [] h = refl
  types_cut (suc n) (b ∷ bs) h = go (type_of b) refl (types_cut n bs)
    where
      go : (o : Option Ty) → type_of b ≡ o
          → (typed_front (take n bs) < n → repeated n (named type_of) size (at bs) ≡ fault 1 (size - (length bs - typed_front (take n bs))))
          → repeated (suc n) (named type_of) size (at (b ∷ bs)) ≡ fault 1 (size - (length (b ∷ bs) - typed_front (take (suc n) (b ∷ bs))))
      go None e ih = let d : suc (length bs) - 0 ≡ suc (length bs) = omega arith in rw (type_none b bs e, e, d)
      go (Some t) e ih =
          let k : 1 + typed_front (take n bs) < suc n = rw e at h in let r = ih (omega arith) in
          let d : suc (length bs) - (1 + typed_front (take n bs)) ≡ length bs - typed_front (take n bs) = omega arith in
          rw (type_at b bs t e, e, d, r)

pub typed_below : (n : ℕ) (xs : List ℕ) → typed_front (take n xs) ≤ length (take n xs)
typed_below n xs = prefix_len-le-length (λ b. is_some (type_of b)) (take n xs)
