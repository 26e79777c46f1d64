use Rattle.std.proofs.Common.{ap, ◌∙◌}
use Rattle.analysis.proofs.Marking.{first_of_list}
use Rattle.std.specs.Option.{option_map}
use Rattle.function.specs.Answers.{results_of}
use Rattle.analysis.proofs.uses.first_result.Goals as goal

pub returns : goal.returns
returns c = λ f s.
    ap (option_map (λ v. v.0)) (c.copied.ensures ∙ c.first.ensures.value) ∙ first_of_list c.inst_results.result.now (results_of f c.args.inst.0) (c.inst_results.ensures f s)
