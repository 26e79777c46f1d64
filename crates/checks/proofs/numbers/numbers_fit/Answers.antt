use Rattle.std.proofs.Common.{ap, sym, ◌∙◌}
use Rattle.std.specs.List.{list_all}
use Rattle.checks.specs.Checks.{value_exists}
use Rattle.checks.proofs.NumberTold.{numbers_at}
use Rattle.function.proofs.Places.Insts.{inst_there, last_is_ending}
use Rattle.checks.proofs.numbers.numbers_fit.Goals as goal

pub returns-then-values_exist : goal.returns-then-values_exist
returns-then-values_exist c = λ f h l t.
    let i = c.args.inst.0 in
    let (x, b, ix, bx) = inst_there f i l in
    let v = sym c.if-values_exist.true ∙ c.values_exist.ensures f h ∙ ap (list_all (value_exists f)) (c.inst_uses.ensures f h) in
    numbers_at f i x b _ c.destinations_fit.result ix bx (λ e. last_is_ending f i b e bx) t v (c.destinations_fit.ensures f h)
