use Rattle.std.proofs.Common.{◌≡◌, true, take}
use Rattle.checks.specs.Checks.{uses_tests, value_before}
use Rattle.checks.specs.Tests.{first_fault}
use Rattle.std.specs.List.{list_all}
use Rattle.checks.proofs.UsesTold.{left_from, start_of}
use Rattle.function.specs.Answers.{Shows}
use Rattle.reader.specs.Data.{Func}
use Rattle.checks.proofs.uses.early_use.Given as goal

abbrev pub invariant-loop-v : goal.invariant-loop-v
invariant-loop-v l = (f : Func) → Shows l.func f → list_all (value_before f l.b l.i) (take l.v-index l.v-items) ≡ true

abbrev pub invariant-loop-i : goal.invariant-loop-i
invariant-loop-i l = (f : Func) → Shows l.func f → first_fault (uses_tests f 0 l.insts) ≡ left_from f l.insts l.i

abbrev pub invariant-loop-b : goal.invariant-loop-b
invariant-loop-b l = (f : Func) → Shows l.func f → first_fault (uses_tests f 0 l.insts) ≡ left_from f l.insts (start_of f l.b)
