-- What a file comes to.
use Rattle.std.specs.Prelude.{◌≡◌, ℕ, true, ◌↔◌, List, is_ok, Some, None, Ok, Err, Option, Result}
use Rattle.checks.specs.Checks.{all_tests}
use Rattle.checks.specs.Facts.{Facts}
use Rattle.checks.specs.Tests.{first_fault}
use Rattle.clif.specs.Refusals.{refusal_number, refusal_place}
use Rattle.clif.specs.declared.refusals.Refusal.{Refusal}
use Rattle.function.specs.Holding.{Holds, zero_store}
use Rattle.function.specs.declared.tables.Tables.{Tables}
use Rattle.reader.specs.Data.{Func}
use Rattle.reader.specs.Reading.{Outcome, done, refused, read}
use Rattle.reader.specs.Within.{Within}
use Rattle.reader.specs.Writing.{encode}

-- a function has every checked property exactly if no test of it fails
abbrev pub Checked : Func → Type 0
Checked f = first_fault (all_tests f) ≡ None

-- the first fault of a file: that of reading, else the first of the tests
abbrev pub judged : Outcome Func → Option (ℕ × ℕ)
judged (done f) = first_fault (all_tests f)
judged (refused n p) = Some (n, p)

abbrev pub first_fault_of : List ℕ → Option (ℕ × ℕ)
first_fault_of file = judged (read file)

-- a file is accepted as f
pub record Accepted (file : List ℕ) (f : Func) : Type 0 where
  pub bytes : file ≡ encode f
  pub within : Within f
  pub checked : Checked f

-- an answer says this number at this place
abbrev pub Said : Result (Unit {0}) Refusal → ℕ → ℕ → Type 0
Said (Ok _) n p = ⊥
Said (Err e) n p = (refusal_number e ≡ n) × (refusal_place e ≡ p)

abbrev pub ZeroIfRefused : Result (Unit {0}) Refusal → Tables → Type 0
ZeroIfRefused (Ok _) t = Unit {0}
ZeroIfRefused (Err e) t = t ≡ zero_store

-- what loading a file promises: it is accepted exactly if the file is the bytes of a function within the limits that has
-- every checked property; the tables then hold that function, and it has the facts that later layers rely on; it is
-- refused with a number at a place exactly if they are the first fault; and after a refusal every table is zero
pub record Loaded (file : List ℕ) (r : Result (Unit {0}) Refusal) (t : Tables) : Type 0 where
  pub accepts : (is_ok r ≡ true) ↔ ((f : Func) × Accepted file f)
  pub holds : (f : Func) → Accepted file f → Holds t f
  pub facts : (f : Func) → Accepted file f → Facts f
  pub refuses : (n p : ℕ) → Said r n p ↔ (first_fault_of file ≡ Some (n, p))
  pub zero : ZeroIfRefused r t
