use Rattle.std.proofs.Common.{rules}
use Rattle.function.proofs.Told.Blocks.{params_told}
use Rattle.function.proofs.function.Function.block_params.Goals as goal

pub returns : goal.returns
returns c f h = let e = params_told c.args.self f h c.args.block.0 in search rules
