use Rattle.std.proofs.Common.{◌≡◌, take}
use Rattle.analysis.specs.Marks.{work_of, marked_all, counts, Kept, SamePlaces}
use Rattle.analysis.proofs.uses.Counting.mark_all.Given as goal
use Rattle.function.specs.Answers.{Shows, all_insts}
use Rattle.function.specs.Numbering.{uses_of}
use Rattle.reader.specs.Data.{Func}
use Rattle.std.specs.List.{flat_map}

abbrev pub invariant-loop-i : goal.invariant-loop-i
invariant-loop-i l =
    ((f : Func) → Shows l.func f → (work_of l.self) ≡ marked_all (work_of l.initial.self) (counts f (flat_map uses_of (take l.i (all_insts f)))))
    × Kept (work_of l.initial.self) (work_of l.self)
    × SamePlaces l.initial.self l.self
