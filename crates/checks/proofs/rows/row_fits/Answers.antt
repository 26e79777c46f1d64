use Rattle.std.proofs.Common.{length, is_some, sym, ap, ◌∙◌}
use Rattle.checks.proofs.RowTold.{row_told, same_shape, shape_in}
use Rattle.function.specs.Answers.{inst_of, last_of, results_of}
use Rattle.checks.proofs.rows.row_fits.Goals as goal

pub returns-then-shape_fits : goal.returns-then-shape_fits
returns-then-shape_fits c = λ f h.
    let i = c.args.inst.0 in
    row_told f (inst_of f i) (last_of f i) (results_of f i) c.in-Some.opcode c.row.result _ _ c.constant_fits.result
    (sym c.in-Some.is ∙ c.opcode.ensures f h) c.row.ensures
    (same_shape _ (shape_in (inst_of f i) (last_of f i) (results_of f i))
    (ap length (c.inst_args.ensures f h)) (ap length (c.inst_results.ensures f h)) (c.num_destinations.ensures f h)
    (c.is_some.ensures ∙ ap is_some (c.immediate.ensures f h)) (c.is_some-2.ensures ∙ ap is_some (c.flag.ensures f h)) (c.is_last.ensures f h))
    (sym c.if-shape_fits.true ∙ c.shape_fits.ensures) (c.constant_fits.ensures f h)
