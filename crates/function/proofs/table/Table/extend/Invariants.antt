use Rattle.std.proofs.Common.{◌≡◌}
use Rattle.function.specs.Cells.{pushed_all}
use Rattle.function.proofs.table.Table.extend.Given as goal

abbrev pub invariant-loop-x : goal.invariant-loop-x
invariant-loop-x g l = l.self ≡ pushed_all g.row.N l.yielded l.fn.self
