use Rattle.std.proofs.Common.{rules}
use Rattle.function.proofs.Told.Orders.{def_told}
use Rattle.function.proofs.function.Function.value_def.Goals as goal

pub returns : goal.returns
returns c f h = let e = def_told c.args.self f h c.args.value.0 in search rules
