use Rattle.std.proofs.Common.{ap, ◌∙◌, arith}
use Rattle.analysis.proofs.Marking.{inst_more, kept_more}
use Rattle.analysis.specs.Marks.{work_of, marked_all, counts}
use Rattle.analysis.proofs.uses.Counting.mark_all.Goals as goal
use Rattle.function.specs.Answers.{all_insts}
use Rattle.function.specs.Numbering.{uses_of}
use Rattle.std.proofs.lemmas.List.{take_all}
use Rattle.std.specs.List.{flat_map}

pub loop-i-preserved : goal.loop-i-preserved
loop-i-preserved c = (
  λ f s. inst_more f (work_of c.args.self.now) (work_of c.loop-i.self) (work_of c.mark_inst.new.self) c.loop-i.i (omega (arith, c.num_insts-insts.ensures.value f s)) (c.loop-i.invariant.0 f s) (c.mark_inst.ensures.marks f s),
  kept_more (work_of c.args.self.now) (work_of c.loop-i.self) (work_of c.mark_inst.new.self) c.loop-i.invariant.1 c.mark_inst.ensures.kept,
  (c.mark_inst.ensures.places.0 ∙ c.loop-i.invariant.2.0, c.mark_inst.ensures.places.1 ∙ c.loop-i.invariant.2.1),
)

pub returns : goal.returns
returns c = record {
  marks = λ f s.
      let all = take_all c.loop-i.i (all_insts f) (omega (arith, c.num_insts-insts.ensures.value f s)) in
      c.loop-i.invariant.0 f s ∙ ap (λ is. marked_all (work_of c.args.self.now) (counts f (flat_map uses_of is))) all;
  kept = c.loop-i.invariant.1;
  places = c.loop-i.invariant.2;
}
