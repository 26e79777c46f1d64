use Rattle.std.proofs.Common.{true, Some, None, sym, ap, ◌∙◌}
use Rattle.checks.specs.Checks.{entry_fits}
use Rattle.checks.proofs.OrderTold.{entry_told, few_kept}
use Rattle.checks.proofs.order.entry_passes.Goals as goal

pub returns-in-Some : goal.returns-in-Some
returns-in-Some c = λ f h p.
    c.entry_fits.ensures f h ∙ entry_told f (few_kept f h.within p) c.args.e c.in-Some.x
    ∙ ap (λ o. elim o [ None ↦ true | Some y ↦ entry_fits f c.args.e y ]) (sym c.in-Some.is ∙ c.entry.ensures f h)
