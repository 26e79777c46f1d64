-- The case of an enumeration that has a given number.
use Rattle.std.specs.Prelude.{ℕ, cond, List, [], ◌∷◌, Some, None, Option, Result, ◌==◌, ok_or}
use Rattle.clif.specs.declared.numbers.UnknownNumber.{UnknownNumber}

-- the first of some cases whose number is n
abbrev pub numbered : {E : Type 0} → (E → ℕ) → List E → ℕ → Option E
numbered number [] n = None
numbered number (e ∷ es) n = cond (number e == n) (Some e) (numbered number es n)

-- the case that a byte stands for, or the byte where there is none
abbrev pub decoded : {E : Type 0} → (ℕ → Option E) → ℕ → Result E UnknownNumber
decoded which n = ok_or (which n) (record { 0 = n })
