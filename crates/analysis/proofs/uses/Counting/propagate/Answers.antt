use Rattle.std.proofs.Common.{sym, subst, ◌∙◌, arith}
use Rattle.analysis.proofs.Marking.{left_popped, kept_popped, kept_more}
use Rattle.analysis.proofs.Least.{going_again, beyond_again}
use Rattle.analysis.specs.Marks.{Work, work_of, Went, Kept, uses_behind}
use Rattle.analysis.proofs.uses.Counting.propagate.Goals as goal
use Rattle.storage.specs.Held.{Held}

pub loop-value-smaller : goal.loop-value-smaller
loop-value-smaller c =
    omega (arith, left_popped (work_of c.loop-value.self) c.pop.new.self c.in-Some.value c.in-Some.ensures.0, c.mark_def.ensures.kept.falls)

pub loop-value-preserved : goal.loop-value-preserved
loop-value-preserved c =
    let p = c.in-Some.ensures in
    let start = work_of c.args.self.now in
    let w = work_of c.loop-value.self in
    let popped : Work = record { states = w.states; stack = c.pop.new.self } in
    let after = work_of c.mark_def.new.self in (
      λ f s.
          let i = c.loop-value.invariant.0 f s in
          let e = c.mark_def.ensures.marks f s in (
            λ g. going_again f w (i.0 g) c.in-Some.value c.pop.new.self p.0 p.1 after e,
            beyond_again f start.states w c.pop.new.self after (uses_behind f c.in-Some.value.0) i.1 e,
          ),
      kept_more start popped after (kept_more start w popped c.loop-value.invariant.1 (kept_popped w c.pop.new.self c.in-Some.value p.0 p.1)) c.mark_def.ensures.kept,
      (c.mark_def.ensures.places.0 ∙ c.loop-value.invariant.2.0, c.mark_def.ensures.places.1 ∙ c.loop-value.invariant.2.1),
    )

pub returns : goal.returns
returns c =
    let p = c.in_default.ensures in
    let start = work_of c.args.self.now in
    let w = work_of c.loop-value.self in
    record {
      works = λ f s.
          let i = c.loop-value.invariant.0 f s in
          record {
            went = λ g. subst (λ (h : Held _). Went f (record { states = w.states; stack = h })) (sym p.1) (record { going = i.0 g; none = p.0 });
            beyond = i.1;
          };
      kept = subst (λ (h : Held _). Kept start (record { states = w.states; stack = h })) (sym p.1) c.loop-value.invariant.1;
      places = c.loop-value.invariant.2;
    }
