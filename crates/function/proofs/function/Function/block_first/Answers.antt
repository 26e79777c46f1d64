use Rattle.std.proofs.Common.{rules}
use Rattle.function.proofs.Told.Blocks.{first_told}
use Rattle.function.proofs.function.Function.block_first.Goals as goal

pub returns : goal.returns
returns c f h = let e = first_told c.args.self f h c.args.block.0 in search rules
