use Rattle.std.proofs.Common.{◌≡◌, ℕ, Some, Option, refl, ap, ◌∙◌}
use Rattle.analysis.proofs.Marking.{mark_turned, mark_kept, kept_mark, kept_same}
use Rattle.analysis.specs.Marks.{Work, work_of, marked, Kept}
use Rattle.analysis.proofs.uses.Counting.mark_use.Goals as goal

kept_after : (w v : Work) (o : Option ℕ) → v ≡ marked w o → Kept w v
kept_after w v o e = rw e (kept_mark w o)

pub returns-then-mark : goal.returns-then-mark
returns-then-mark c =
    let w = work_of c.args.self.now in
    let m = mark_turned w c.in-Some.first.0 c.mark.new.self c.mark.ensures.after c.push.new.self c.if-mark.ensures.answer c.push.ensures.after in
    record { marks = λ f s. m ∙ ap (marked w) (c.in-Some.ensures f s); kept = kept_after w _ (Some c.in-Some.first.0) m; places = (refl, refl) }

pub returns-else-mark : goal.returns-else-mark
returns-else-mark c =
    let w = work_of c.args.self.now in
    let m = mark_kept w c.in-Some.first.0 c.mark.new.self c.mark.ensures.after c.if-mark.ensures.answer in
    record { marks = λ f s. m ∙ ap (marked w) (c.in-Some.ensures f s); kept = kept_after w _ (Some c.in-Some.first.0) m; places = (refl, refl) }

pub returns-in_default : goal.returns-in_default
unfolding marked
returns-in_default c =
    let w = work_of c.args.self.now in
    record { marks = λ f s. ap (marked w) (c.in_default.ensures f s); kept = kept_same w; places = (refl, refl) }
