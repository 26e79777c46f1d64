use Rattle.std.proofs.Common.{rules}
use Rattle.function.proofs.Told.Insts.{args_told}
use Rattle.function.proofs.function.Function.inst_args.Goals as goal

pub returns : goal.returns
returns c f h = let e = args_told c.args.self f h c.args.inst.0 in search rules
