use Rattle.std.proofs.Common.{rules}
use Rattle.function.proofs.Told.Shown.{blocks_shown}
use Rattle.function.proofs.function.Function.num_blocks.Goals as goal

pub returns-clause-value : goal.returns-clause-value
returns-clause-value c f h = let e = blocks_shown c.args.self f h in search rules
