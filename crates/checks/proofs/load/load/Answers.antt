use Rattle.std.proofs.Common.{sym, ◌∙◌}
use Rattle.checks.proofs.Judged.{loaded_unread, loaded_refused, loaded_taken}
use Rattle.std.proofs.lemmas.Result.{err_from_is_err_and}
use Rattle.checks.proofs.load.load.Goals as goal

pub returns-in_err-fill : goal.returns-in_err-fill
returns-in_err-fill c =
    let p = err_from_is_err_and c.from_residual.result c.from_residual.ensures.1 in
    let e = c.in_err-fill.ensures.filled in
    rw (p.1, p.2) (loaded_unread c.args.file.now c.fill.ensures.law c.in_err-fill.field-0.0 c.fill.new.self e.0 e.1)

pub returns-then-is_err : goal.returns-then-is_err
returns-then-is_err c =
    let (f, r, w, h) = c.in_ok-fill.ensures.filled in
    loaded_refused c.args.file.now c.fill.ensures.law f r c.check_tables-answer.result c.clear.new.self
    (sym c.is_err.ensures.value ∙ c.if-is_err.true) (c.check_tables-answer.ensures f w h) c.clear.ensures

pub returns-else-is_err : goal.returns-else-is_err
returns-else-is_err c =
    let (f, r, w, h) = c.in_ok-fill.ensures.filled in
    loaded_taken c.args.file.now c.fill.ensures.law f r c.check_tables-answer.result c.fill.new.self
    (sym c.is_err.ensures.value ∙ c.if-is_err.false) (c.check_tables-answer.ensures f w h) h
