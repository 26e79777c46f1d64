use Rattle.std.proofs.Common.{ap, ◌∙◌}
use Rattle.analysis.proofs.Marking.{use_more, kept_more}
use Rattle.analysis.specs.Marks.{work_of, marked_all, counts}
use Rattle.analysis.proofs.uses.Counting.mark_inst.Goals as goal
use Rattle.reader.specs.Reading.{value_at}
use Rattle.std.proofs.lemmas.List.{take_all}

pub loop-val-preserved : goal.loop-val-preserved
loop-val-preserved c = (
  λ f s. use_more f (work_of c.args.self.now) (work_of c.loop-val.self) (work_of c.mark_use.new.self) c.inst_uses-val-items.result.now c.loop-val.val-index (value_at 0) c.loop-val-test.true (c.loop-val.invariant.0 f s) (c.mark_use.ensures.marks f s),
  kept_more (work_of c.args.self.now) (work_of c.loop-val.self) (work_of c.mark_use.new.self) c.loop-val.invariant.1 c.mark_use.ensures.kept,
  (c.mark_use.ensures.places.0 ∙ c.loop-val.invariant.2.0, c.mark_use.ensures.places.1 ∙ c.loop-val.invariant.2.1),
)

pub returns : goal.returns
returns c =
    let all = take_all c.loop-val.val-index c.inst_uses-val-items.result.now c.loop-val-test.false in
    record {
      marks = λ f s. c.loop-val.invariant.0 f s ∙ ap (λ us. marked_all (work_of c.args.self.now) (counts f us)) (all ∙ c.inst_uses-val-items.ensures f s);
      kept = c.loop-val.invariant.1;
      places = c.loop-val.invariant.2;
    }
