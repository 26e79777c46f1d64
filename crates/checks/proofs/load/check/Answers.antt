use Rattle.std.proofs.Common.{◌++◌, length, sym, ◌∙◌}
use Rattle.checks.specs.Checks.{inst_tests, entry_tests, uses_tests}
use Rattle.checks.proofs.Runs.{fault_behind, fault_before}
use Rattle.function.specs.Answers.{all_insts}
use Rattle.std.proofs.lemmas.Result.{err_from_is_err_and}
use Rattle.checks.proofs.load.check.Goals as goal

pub returns-in_err-check_insts : goal.returns-in_err-check_insts
returns-in_err-check_insts c =
    let p = err_from_is_err_and c.from_residual.result c.from_residual.ensures.1 in
    rw (p.1, p.2) (λ f h. sym (fault_before (inst_tests f 0 (length (all_insts f))) _ _ (sym (c.in_err-check_insts.ensures f h))))

pub returns-in_err-check_order : goal.returns-in_err-check_order
returns-in_err-check_order c =
    let p = err_from_is_err_and c.from_residual-in_err-check_order.result c.from_residual-in_err-check_order.ensures.1 in
    rw (p.1, p.2) (λ f h.
    let a = sym (c.in_ok-check_insts.ensures f h) in
    sym (fault_behind (inst_tests f 0 (length (all_insts f))) _ a
    ∙ fault_before (entry_tests f 0 (length f.order)) _ _ (sym (c.in_err-check_order.ensures f h a))))

pub returns : goal.returns
returns c = λ f h.
    let a = sym (c.in_ok-check_insts.ensures f h) in
    c.check_uses.ensures f h
    ∙ sym (fault_behind (inst_tests f 0 (length (all_insts f))) (entry_tests f 0 (length f.order) ++ uses_tests f 0 (length (all_insts f))) a
    ∙ fault_behind (entry_tests f 0 (length f.order)) (uses_tests f 0 (length (all_insts f))) (sym (c.in_ok-check_order.ensures f h a)))
