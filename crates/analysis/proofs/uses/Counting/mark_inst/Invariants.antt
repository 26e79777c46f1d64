use Rattle.std.proofs.Common.{◌≡◌, take}
use Rattle.analysis.specs.Marks.{work_of, marked_all, counts, Kept, SamePlaces}
use Rattle.analysis.proofs.uses.Counting.mark_inst.Given as goal
use Rattle.function.specs.Answers.{Shows}
use Rattle.reader.specs.Data.{Func}

abbrev pub invariant-loop-val : goal.invariant-loop-val
invariant-loop-val l =
    ((f : Func) → Shows l.func f → (work_of l.self) ≡ marked_all (work_of l.initial.self) (counts f (take l.val-index l.val-items)))
    × Kept (work_of l.initial.self) (work_of l.self)
    × SamePlaces l.initial.self l.self
