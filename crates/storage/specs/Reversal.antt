-- A list turned round.
use Rattle.std.specs.Prelude.{◌≡◌, ℕ, ◌-◌, ◌<◌, List, length, slice_index_or}

-- as long as before, and element i is what element n - 1 - i was
pub record Reversed {E : Type 0} (before after : List E) : Type 0 where
  pub len : length after ≡ length before
  pub places : (i : ℕ) (d : E) → i < length before → slice_index_or after i d ≡ slice_index_or before (length before - 1 - i) d
