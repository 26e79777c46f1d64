-- A growing list over lent storage: what it holds, and the room behind that.
use Rattle.std.specs.Prelude.{◌≡◌, ℕ, ◌+◌, ◌<◌, List, [], ◌∷◌, ◌++◌, length, Some, None, Ok, Err, Option, Result, slice_index_or}
use Rattle.storage.specs.Reversal.{Reversed}

-- the elements held, and what stands in the places that are free
pub record Held (E : Type 0) : Type 0 where
  pub items : List E
  pub room : List E

-- how many elements there is room for in all
abbrev pub capacity : {E : Type 0} → Held E → ℕ
capacity h = length h.items + length h.room

-- one more element: it takes the first free place; where there is none, nothing changes
abbrev pub pushed : {E : Type 0} → E → Held E → Held E
pushed x h = elim h.room [ [] ↦ h | y ∷ ys ↦ record { items = h.items ++ (x ∷ []); room = ys } ]

-- where there is no free place, the element comes back
abbrev pub push_answer : {E : Type 0} → E → Held E → Result (Unit {0}) E
push_answer x h = elim h.room [ [] ↦ Err x | y ∷ ys ↦ Ok tt ]

-- the last element is taken away, and its place is free; from an empty list nothing is taken
abbrev pub Popped : {E : Type 0} → Option E → Held E → Held E → Type 0
Popped None before after = (before.items ≡ []) × (after ≡ before)
Popped (Some x) before after = (before.items ≡ after.items ++ (x ∷ [])) × (after.room ≡ x ∷ before.room)

-- what a push is good for: the room in all stays, what was held stays where it was, and the element is added exactly if there
-- is a free place
pub record PushLaws {E : Type 0} (x : E) (h : Held E) : Type 0 where
  pub room : capacity (pushed x h) ≡ capacity h
  pub kept : (k : ℕ) (d : E) → k < length h.items → slice_index_or (pushed x h).items k d ≡ slice_index_or h.items k d
  pub added : 0 < length h.room → (pushed x h).items ≡ h.items ++ (x ∷ [])
  pub full : length h.room ≡ 0 → pushed x h ≡ h

-- the elements turned round, the room as it was
pub record Turned {E : Type 0} (before after : Held E) : Type 0 where
  pub items : Reversed before.items after.items
  pub room : after.room ≡ before.room
