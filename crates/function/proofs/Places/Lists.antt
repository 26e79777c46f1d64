-- The elements of a list, by their places.
use Rattle.std.proofs.Common.{◌≡◌, ℕ, zero, suc, ◌+◌, ◌<◌, List, [], ◌∷◌, ◌++◌, length, Some, refl, ap, arith, slice_get}
use Rattle.std.specs.Option.{option_map}

module _ {X : Type 0} where
  -- of two lists, one behind the other
  pub get_front : (xs ys : List X) (i : ℕ) → i < length xs → slice_get (xs ++ ys) i ≡ slice_get xs i
  get_front [] ys i h = absurd (omega arith)
  get_front (x ∷ xs) ys zero h = refl
  get_front (x ∷ xs) ys (suc i) h = get_front xs ys i (omega arith)

  pub get_behind : (xs ys : List X) (i j : ℕ) → i ≡ length xs + j → slice_get (xs ++ ys) i ≡ slice_get ys j
  get_behind [] ys i j e = let same : i ≡ j = omega arith in ap (slice_get ys) same
  get_behind (x ∷ xs) ys zero j e = absurd (omega arith)
  get_behind (x ∷ xs) ys (suc i) j e = get_behind xs ys i j (omega arith)

  -- what is there is within the list
  pub get_within : {Y : Type 0} (g : X → Y) (xs : List X) (i : ℕ) (y : Y) → option_map g (slice_get xs i) ≡ Some y → i < length xs
  get_within g [] i y h = let z : ◌≡◌ {A = ℕ} 0 1 = cc in absurd (omega arith)
  get_within g (x ∷ xs) zero y h = omega arith
  get_within g (x ∷ xs) (suc i) y h = omega (arith, get_within g xs i y h)
