-- A slice written by calls.
use Rattle.std.proofs.Common.{◌≡◌, List, [], ◌∷◌, length, replicate, refl}
use Rattle.std.specs.List.{FoldsTo}

-- where each call answers x and changes nothing, x stands everywhere
module _ {F X : Type 0} (R : F → X → F → Type 0) (f : F) (x : X) (same : (y : X) (q : F) → R f y q → (y ≡ x) × (q ≡ f)) where
  pub filled : (ys : List X) → (last : F) × FoldsTo R f ys last → ys ≡ replicate (length ys) x
  filled [] r = refl
  filled (y ∷ ys) (last, (q, k, rest)) = let s = same y q k in rw (s.0, ← filled ys (last, rw s.1 at rest))
