use Rattle.std.proofs.Common.{length, sym, ◌∙◌}
use Rattle.checks.specs.Checks.{tests_of_entry}
use Rattle.checks.proofs.Runs.{tests_begin, tests_more, stopped, ended}
use Rattle.checks.proofs.order.check_order.Goals as goal

pub loop-e-init : goal.loop-e-init
loop-e-init c = λ f h p. tests_begin (tests_of_entry f) c.num_entries-n.result

pub returns-then-not-entry_passes : goal.returns-then-not-entry_passes
returns-then-not-entry_passes c = λ f h p.
    let q = sym (c.entry_passes.ensures f h p) ∙ c.if-not-entry_passes.true in
    stopped (tests_of_entry f) c.num_entries-n.result c.loop-e.e (length f.order) (c.num_entries-n.ensures.value f h) (c.loop-e.invariant f h p) (5, c.loop-e.e) c.loop-e-test.true (rw q)

pub loop-e-preserved : goal.loop-e-preserved
loop-e-preserved c = λ f h p.
    let q = sym (c.entry_passes.ensures f h p) ∙ c.if-not-entry_passes.false in
    c.loop-e.invariant f h p ∙ tests_more (tests_of_entry f) c.num_entries-n.result c.loop-e.e c.loop-e-test.true (rw q)

pub returns : goal.returns
returns c = λ f h p. ended (tests_of_entry f) c.num_entries-n.result c.loop-e.e (length f.order) (c.num_entries-n.ensures.value f h) (c.loop-e.invariant f h p) c.loop-e-test.false
