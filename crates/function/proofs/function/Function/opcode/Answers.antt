use Rattle.std.proofs.Common.{rules}
use Rattle.function.proofs.Told.Insts.{opcode_told}
use Rattle.function.proofs.function.Function.opcode.Goals as goal

pub returns : goal.returns
returns c f h = let e = opcode_told c.args.self f h c.args.inst.0 in search rules
