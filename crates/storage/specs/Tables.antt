-- A table by number over lent storage.
use Rattle.std.specs.Prelude.{◌≡◌, ℕ, ◌<◌, ◌≤◌, List, length, replicate, ◌≢◌, slice_index_or, slice_set}

-- the elements that have a place, and the one of every other number
pub record Table (E : Type 0) : Type 0 where
  pub elems : List E
  pub default : E

-- the element of a number
abbrev pub at : {E : Type 0} → Table E → ℕ → E
at t i = slice_index_or t.elems i t.default

-- every number has the default; n of them have a place
abbrev pub fresh : {E : Type 0} → ℕ → E → Table E
fresh n d = record { elems = replicate n d; default = d }

-- what a fresh table is good for: each number has the default
abbrev pub FreshLaw : {E : Type 0} → ℕ → E → Type 0
FreshLaw n d = (k : ℕ) → at (fresh n d) k ≡ d

-- number i has element x; one that has no place keeps the default
abbrev pub written : {E : Type 0} → Table E → ℕ → E → Table E
written t i x = record { elems = slice_set t.elems i x; default = t.default }

-- what a write is good for: that number has the element, all others keep theirs, and no place is gained or lost
pub record WriteLaws {E : Type 0} (t : Table E) (i : ℕ) (x : E) : Type 0 where
  pub same : i < length t.elems → at (written t i x) i ≡ x
  pub other : (k : ℕ) → (k ≢ i) → at (written t i x) k ≡ at t k
  pub beyond : length t.elems ≤ i → written t i x ≡ t
  pub places : length (written t i x).elems ≡ length t.elems
