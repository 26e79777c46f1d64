use Rattle.std.proofs.Common.{rules, ◌≢◌, length, sym, ◌∙◌}
use Rattle.std.proofs.lemmas.Bool.{ne_eqb}
use Rattle.std.proofs.lemmas.Iterator.Search.{all_from_yields_List}
use Rattle.std.proofs.lemmas.Iterator.{YieldsList-from_slice, YieldsList-from_zip}
use Rattle.checks.specs.Checks.{same_type}
use Rattle.checks.proofs.Loops.{types_long, types_zipped}
use Rattle.function.specs.Answers.{type_of_value}
use Rattle.checks.proofs.numbers.same_types.Goals as goal

pub returns-then-a-b : goal.returns-then-a-b
returns-then-a-b c = λ f h.
    all_from_yields_List (λ p. same_type (type_of_value f p.0.0) (type_of_value f p.1.0)) c.all.new.self _ _ c.all.ensures.ran
    (YieldsList-from_zip {s = c.zip.result} (YieldsList-from_slice c.args.a.now cc) (YieldsList-from_slice c.args.b.now cc)) (λ x b q k. search rules)
    ∙ sym (types_zipped f c.args.a.now c.args.b.now (search rules))

pub returns-else-a-b : goal.returns-else-a-b
returns-else-a-b c = λ f h.
    let n : length c.args.a.now ≢ length c.args.b.now = search rules in
    ne_eqb _ _ n ∙ sym (types_long f c.args.a.now c.args.b.now n)
