-- Two options, or two lists, whose elements are related one by one.
use Rattle.std.proofs.Common.{ℕ, zero, suc, List, [], ◌∷◌, ◌++◌, slice_get, Some, None, Option}
use Rattle.std.specs.List.{AllZip}

module _ {X Y : Type 0} (R : X → Y → Type 0) where
  abbrev pub Both : Option X → Option Y → Type 0
  Both None None = Unit {0}
  Both None (Some y) = ⊥
  Both (Some x) None = ⊥
  Both (Some x) (Some y) = R x y

  pub both_elim : (P : Option X → Option Y → Type 0) → P None None → ((x : X) (y : Y) → R x y → P (Some x) (Some y)) → (o : Option X) (p : Option Y) → Both o p → P o p
  both_elim P none some None None h = none
  both_elim P none some None (Some y) h = absurd h
  both_elim P none some (Some x) None h = absurd h
  both_elim P none some (Some x) (Some y) h = some x y h

  pub each_append : (xs : List X) (ys : List Y) (us : List X) (vs : List Y) → AllZip R xs ys → AllZip R us vs → AllZip R (xs ++ us) (ys ++ vs)
  each_append [] [] us vs h k = k
  each_append [] (y ∷ ys) us vs h k = absurd h
  each_append (x ∷ xs) [] us vs h k = absurd h
  each_append (x ∷ xs) (y ∷ ys) us vs h k = (h.0, each_append xs ys us vs h.1 k)

  pub each_at : (xs : List X) (ys : List Y) → AllZip R xs ys → (i : ℕ) → Both (slice_get xs i) (slice_get ys i)
  each_at [] [] h i = tt
  each_at [] (y ∷ ys) h i = absurd h
  each_at (x ∷ xs) [] h i = absurd h
  each_at (x ∷ xs) (y ∷ ys) h zero = h.0
  each_at (x ∷ xs) (y ∷ ys) h (suc i) = each_at xs ys h.1 i
