-- Tests in an order: the first that fails decides.
use Rattle.std.specs.Prelude.{ℕ, zero, suc, Bool, cond, List, [], ◌∷◌, ◌++◌, Some, None, Ok, Err, Option, Result}
use Rattle.clif.specs.Refusals.{refusal_number, refusal_place}
use Rattle.clif.specs.declared.refusals.Refusal.{Refusal}

-- a test: whether it passes, and the number and place of the fault if it does not
pub record Test : Type 0 where
  pub passes : Bool
  pub number : ℕ
  pub place : ℕ

-- the fault of the first test that does not pass
abbrev pub first_fault : List Test → Option (ℕ × ℕ)
first_fault [] = None
first_fault (t ∷ ts) = cond t.passes (first_fault ts) (Some (t.number, t.place))

-- an answer as a fault
abbrev pub fault_of : Result (Unit {0}) Refusal → Option (ℕ × ℕ)
fault_of (Ok _) = None
fault_of (Err e) = Some (refusal_number e, refusal_place e)

-- the tests of n numbers, from i on
abbrev pub tests_from : (ℕ → List Test) → ℕ → ℕ → List Test
tests_from each i zero = []
tests_from each i (suc n) = each i ++ tests_from each (suc i) n
