-- Loops that test each element: what is left to test, one turn on.
use Rattle.std.proofs.Common.{◌≡◌, suc, false, ◌&&◌, List, [], ◌∷◌, length, refl, ap, arith}
use Rattle.checks.specs.Checks.{same_type, same_types}
use Rattle.std.specs.List.{list_all, zip}
use Rattle.clif.specs.declared.entities.Value.{Value}
use Rattle.function.specs.Answers.{type_of_value}
use Rattle.reader.specs.Data.{Func}
use Rattle.std.proofs.lemmas.Bool.{and_right}

-- values here and there, side by side
module _ (f : Func) (vs ws : List Value) where
  pub types_long : (length vs ≡ length ws → ⊥) → same_types f vs ws ≡ false
  types_long h = go vs ws h
    where
      go : (ps qs : List Value) → (length ps ≡ length qs → ⊥) → same_types f ps qs ≡ false
      go [] [] h = absurd (h refl)
      go [] (b ∷ qs) h = refl
      go (a ∷ ps) [] h = refl
      go (a ∷ ps) (b ∷ qs) h = and_right (same_type (type_of_value f a.0) (type_of_value f b.0)) _ (go ps qs (λ e. h (ap suc e)))

  pub types_zipped : length vs ≡ length ws → same_types f vs ws ≡ list_all (λ p. same_type (type_of_value f p.0.0) (type_of_value f p.1.0)) (zip vs ws)
  types_zipped h = go vs ws h
    where
      go : (ps qs : List Value) → length ps ≡ length qs → same_types f ps qs ≡ list_all (λ p. same_type (type_of_value f p.0.0) (type_of_value f p.1.0)) (zip ps qs)
      go [] [] h = refl
      go [] (b ∷ qs) h = absurd (omega arith)
      go (a ∷ ps) [] h = absurd (omega arith)
      go (a ∷ ps) (b ∷ qs) h = ap (λ t. same_type (type_of_value f a.0) (type_of_value f b.0) && t) (go ps qs (omega arith))
