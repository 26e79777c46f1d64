-- The types of values: their numbers in a file and their widths.
use Rattle.std.specs.Prelude.{ℕ, List, [], ◌∷◌, Option}
use Rattle.clif.specs.Find.{numbered}
use Rattle.clif.specs.declared.types.«Type».{«Type» as Ty}
use Rattle.clif.specs.declared.types.«Type».TheVariants.{I8, I16, I32, I64, I128}

-- the number that stands for a type in a file
abbrev pub type_number : Ty → ℕ
type_number I8 = 1
type_number I16 = 2
type_number I32 = 3
type_number I64 = 4
type_number I128 = 5

abbrev pub all_types : List Ty
all_types = I8 ∷ I16 ∷ I32 ∷ I64 ∷ I128 ∷ []

-- the type that a number stands for, if there is one
abbrev pub type_of : ℕ → Option Ty
type_of = numbered type_number all_types

-- the width of a value of a type
abbrev pub type_bits : Ty → ℕ
type_bits I8 = 8
type_bits I16 = 16
type_bits I32 = 32
type_bits I64 = 64
type_bits I128 = 128
