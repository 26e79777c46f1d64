use Rattle.std.proofs.Common.{rules}
use Rattle.function.proofs.Told.Insts.{last_told}
use Rattle.function.proofs.function.Function.is_last.Goals as goal

pub returns : goal.returns
returns c f h = let e = last_told c.args.self f h c.args.inst.0 in search rules
