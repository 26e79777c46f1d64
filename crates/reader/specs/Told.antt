-- What a call of the reader says, as a reading.
use Rattle.std.specs.Prelude.{◌≡◌, Ok, Err, Result}
use Rattle.clif.specs.Refusals.{refusal_number, refusal_place}
use Rattle.clif.specs.declared.refusals.Refusal.{Refusal}
use Rattle.reader.specs.Reading.{Spot, Reads, Read, got, fault}
use Rattle.reader.specs.declared.fields.Fields.{Fields}

-- where a reader stands
abbrev pub spot : Fields → Spot
spot x = record { rest = x.rest.now; totals = x.totals }

-- an answer as a reading: what it stands for and where the reader then stands, or the fault
abbrev pub told : {B X : Type 0} → (B → X) → Result B Refusal → Spot → Read X
told f (Ok b) s = got (f b) s
told f (Err e) s = fault (refusal_number e) (refusal_place e)

-- a call that reads as p: its answer and where the reader then stands are what p gives, in the same file
pub record ReadAs {B X : Type 0} (f : B → X) (p : Reads X) (x : Fields) (r : Result B Refusal) (y : Fields) : Type 0 where
  pub tells : told f r (spot y) ≡ p x.size (spot x)
  pub size : y.size ≡ x.size
