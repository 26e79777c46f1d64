use Rattle.std.proofs.Common.{rules}
use Rattle.function.proofs.Told.Orders.{entry_told}
use Rattle.function.proofs.function.Function.entry.Goals as goal

pub returns : goal.returns
returns c f h = let e = entry_told c.args.self f h c.args.k in search rules
