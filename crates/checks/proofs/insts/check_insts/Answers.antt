use Rattle.std.proofs.Common.{◌<◌, length, sym, ◌∙◌, arith}
use Rattle.checks.specs.Checks.{tests_of_inst}
use Rattle.checks.proofs.Runs.{tests_begin, tests_more, stopped, ended}
use Rattle.function.specs.Answers.{all_insts}
use Rattle.checks.proofs.insts.check_insts.Goals as goal

pub loop-i-init : goal.loop-i-init
loop-i-init c = λ f h. tests_begin (tests_of_inst f) c.num_insts-n.result

pub returns-then-not-row_fits : goal.returns-then-not-row_fits
returns-then-not-row_fits c = λ f h.
    let row = sym (c.row_fits.ensures f h) ∙ c.if-not-row_fits.true in
    stopped (tests_of_inst f) c.num_insts-n.result c.loop-i.i (length (all_insts f)) (c.num_insts-n.ensures.value f h) (c.loop-i.invariant f h) (3, c.loop-i.i) c.loop-i-test.true (rw row)

pub returns-then-not-numbers_fit : goal.returns-then-not-numbers_fit
returns-then-not-numbers_fit c = λ f h.
    let row = sym (c.row_fits.ensures f h) ∙ c.if-not-row_fits.false in
    let l : c.loop-i.i < length (all_insts f) = omega (arith, c.num_insts-n.ensures.value f h, c.loop-i-test.true) in
    let numbers = sym (c.numbers_fit.ensures f h l row) ∙ c.if-not-numbers_fit.true in
    stopped (tests_of_inst f) c.num_insts-n.result c.loop-i.i (length (all_insts f)) (c.num_insts-n.ensures.value f h) (c.loop-i.invariant f h) (4, c.loop-i.i) c.loop-i-test.true (rw (row, numbers))

pub loop-i-preserved : goal.loop-i-preserved
loop-i-preserved c = λ f h.
    let row = sym (c.row_fits.ensures f h) ∙ c.if-not-row_fits.false in
    let l : c.loop-i.i < length (all_insts f) = omega (arith, c.num_insts-n.ensures.value f h, c.loop-i-test.true) in
    let numbers = sym (c.numbers_fit.ensures f h l row) ∙ c.if-not-numbers_fit.false in
    c.loop-i.invariant f h ∙ tests_more (tests_of_inst f) c.num_insts-n.result c.loop-i.i c.loop-i-test.true (rw (row, numbers))

pub returns : goal.returns
returns c = λ f h. ended (tests_of_inst f) c.num_insts-n.result c.loop-i.i (length (all_insts f)) (c.num_insts-n.ensures.value f h) (c.loop-i.invariant f h) c.loop-i-test.false
