use Rattle.analysis.proofs.Least.{cleared_is}
use Rattle.analysis.proofs.states.UseStates.clear.Goals as goal

pub returns : goal.returns
returns c = rw (← c.self.view_is) (cleared_is c.self.inside.states.now c.fill.new.self c.args.n c.min-n.result c.min-n.ensures (c.fill.ensures.after (λ y k. k)))
