use Rattle.std.proofs.Common.{◌≡◌}
use Rattle.reader.specs.Reading.{destination}
use Rattle.reader.specs.Told.{spot}
use Rattle.reader.proofs.Turns.{Went}
use Rattle.reader.proofs.fields.Fields.destinations.Given as goal

abbrev pub invariant-loop-k : goal.invariant-loop-k
invariant-loop-k l = record {
  went : Went destination l.initial.self.size l.n l._k (spot l.initial.self) (spot l.self);
  size : l.self.size ≡ l.initial.self.size;
}
