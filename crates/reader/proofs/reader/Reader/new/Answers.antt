use Rattle.std.proofs.Common.{arith}
use Rattle.reader.proofs.Format.Laws.{format_law}
use Rattle.reader.proofs.reader.Reader.new.Goals as goal

pub returns-clause-law : goal.returns-clause-law
returns-clause-law c = format_law c.args.file.now (λ i. omega (arith, c.type_inv.file i))
