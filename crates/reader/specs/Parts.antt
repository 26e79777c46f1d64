-- What the parts of a file that records borrow stand for.
use Rattle.std.specs.Prelude.{ℕ, zero, suc, List, [], ◌∷◌, is_some}
use Rattle.std.specs.List.{filter_map, prefix_len}
use Rattle.clif.specs.Types.{type_of}
use Rattle.clif.specs.declared.entities.Value.{Value}
use Rattle.clif.specs.declared.types.«Type».{«Type» as Ty}
use Rattle.reader.specs.Reading.{Reads, got, fault, Spot, number_of, value_at}

-- the values that words name
abbrev pub words_of : List ℕ → List Value
words_of [] = []
words_of (a ∷ []) = []
words_of (a ∷ b ∷ more) = value_at (number_of (a ∷ b ∷ [])) ∷ words_of more

-- the types that bytes name
abbrev pub types_of : List ℕ → List Ty
types_of = filter_map type_of

-- how many bytes at the front name types
abbrev pub typed_front : List ℕ → ℕ
typed_front = prefix_len (λ b. is_some (type_of b))

-- what at most n readings of one form give, up to the first fault
abbrev pub several : {X : Type 0} → ℕ → Reads X → ℕ → Spot → List X
several zero p size s = []
several (suc n) p size s = elim (p size s) [ got x t ↦ x ∷ several n p size t | fault k at ↦ [] ]
