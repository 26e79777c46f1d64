use Rattle.std.proofs.Common.{◌≡◌}
use Rattle.function.specs.Filling.{stored}
use Rattle.reader.specs.Stream.{left, mapped_outcome, due}
use Rattle.function.proofs.tables.Tables.store_file.Given as goal

abbrev pub invariant-loop-item : goal.invariant-loop-item
invariant-loop-item l = mapped_outcome (λ t. stored t l.self) (left l.reader) ≡ mapped_outcome (λ t. stored t l.initial.self) (left l.initial.reader)

abbrev pub decreases-loop-item : goal.decreases-loop-item
decreases-loop-item l = due l.reader
