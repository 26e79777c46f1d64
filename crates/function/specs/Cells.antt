-- What a table holds.
use Rattle.std.specs.Prelude.{ℕ, ◌+◌, min, List, ◌++◌, length, take, replicate, slice_set}
use Rattle.std.specs.List.{fold}

-- a table's places, and how many of them are in use
pub record Cells (E : Type 0) : Type 0 where
  pub rows : List E
  pub len : ℕ

-- one more element, in a table of n places; none where it is full
abbrev pub pushed : {E : Type 0} → ℕ → E → Cells E → Cells E
pushed n x c = record { rows = slice_set c.rows c.len x; len = min (c.len + 1) n }

-- one place written
abbrev pub written : {E : Type 0} → ℕ → E → Cells E → Cells E
written i x c = record { rows = slice_set c.rows i x; len = c.len }

-- several elements, one after another
abbrev pub pushed_all : {E : Type 0} → ℕ → List E → Cells E → Cells E
pushed_all n xs c = fold (λ t x. pushed n x t) c xs

-- the table of a list, in n places: what is behind the list is zero
abbrev pub table : {E : Type 0} → ℕ → E → List E → Cells E
table n zero xs = record { rows = take n (xs ++ replicate n zero); len = length xs }
