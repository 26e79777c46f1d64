use Rattle.std.proofs.Common.{◌≡◌, ◌-◌}
use Rattle.checks.specs.Checks.{entry_tests}
use Rattle.checks.specs.Steps.{InstsPass}
use Rattle.checks.specs.Tests.{first_fault}
use Rattle.function.specs.Answers.{Shows}
use Rattle.reader.specs.Data.{Func}
use Rattle.checks.proofs.order.check_order.Given as goal

abbrev pub invariant-loop-e : goal.invariant-loop-e
invariant-loop-e l = (f : Func) → Shows l.func f → InstsPass f → first_fault (entry_tests f 0 l.n) ≡ first_fault (entry_tests f l.e (l.n - l.e))
