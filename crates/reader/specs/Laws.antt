-- What reading and writing have to do with each other.
use Rattle.std.specs.Prelude.{◌≡◌, ℕ, ◌↔◌, List}
use Rattle.reader.specs.Data.{Func}
use Rattle.reader.specs.Within.{Within}
use Rattle.reader.specs.Writing.{encode}
use Rattle.reader.specs.Reading.{read, done}

-- a file reads as f exactly if it is the bytes of f, and f is within the limits: reading undoes writing, and writing undoes reading
abbrev pub FormatLaw : List ℕ → Type 0
FormatLaw file = (f : Func) → (read file ≡ done f) ↔ ((file ≡ encode f) × Within f)
