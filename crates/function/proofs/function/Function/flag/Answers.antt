use Rattle.std.proofs.Common.{rules}
use Rattle.function.proofs.Told.Insts.{flag_told}
use Rattle.function.proofs.function.Function.flag.Goals as goal

pub returns-in_err-inst_data : goal.returns-in_err-inst_data
returns-in_err-inst_data c f h = let e = flag_told c.args.self f h c.args.inst.0 in search rules

pub returns : goal.returns
returns c f h = let e = flag_told c.args.self f h c.args.inst.0 in search rules
