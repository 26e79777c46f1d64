use Rattle.std.proofs.Common.{[]}
use Rattle.analysis.specs.Marks.{work_of, left, Going, Beyond, Kept, SamePlaces}
use Rattle.analysis.proofs.uses.Counting.propagate.Given as goal
use Rattle.function.specs.Answers.{Shows}
use Rattle.reader.specs.Data.{Func}

abbrev pub invariant-loop-value : goal.invariant-loop-value
invariant-loop-value l =
    ((f : Func) → Shows l.func f →
    (Going f [] (work_of l.initial.self) → Going f [] (work_of l.self)) × Beyond f (work_of l.initial.self).states (work_of l.self).states)
    × Kept (work_of l.initial.self) (work_of l.self)
    × SamePlaces l.initial.self l.self

abbrev pub decreases-loop-value : goal.decreases-loop-value
decreases-loop-value l = left (work_of l.self)
