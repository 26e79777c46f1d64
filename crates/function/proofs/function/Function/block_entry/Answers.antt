use Rattle.std.proofs.Common.{rules}
use Rattle.function.proofs.Told.Orders.{block_entry_told}
use Rattle.function.proofs.function.Function.block_entry.Goals as goal

pub returns : goal.returns
returns c f h = let e = block_entry_told c.args.self f h c.args.block.0 in search rules
