use Rattle.std.proofs.Common.{sym, subst}
use Rattle.function.specs.Holding.{Holds}
use Rattle.checks.proofs.load.check_tables.Goals as goal

pub returns : goal.returns
returns c = λ f w h. c.check.ensures f (record { within = w; holds = subst (λ t. Holds t f) (sym c.function.ensures) h })
