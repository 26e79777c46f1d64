use Rattle.std.proofs.Common.{◌∙◌}
use Rattle.checks.proofs.OrderTold.{leads_is}
use Rattle.checks.proofs.order.leads.Goals as goal

pub returns : goal.returns
returns c = λ f h. c.is_some.ensures ∙ leads_is _ _ (c.destination.ensures f h)
