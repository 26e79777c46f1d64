use Rattle.std.proofs.Common.{sym, ◌∙◌}
use Rattle.function.proofs.Whole.{fill_ok}
use Rattle.function.proofs.tables.Tables.fill.Goals as goal

pub returns-else-is_err : goal.returns-else-is_err
returns-else-is_err c = record {
  filled = fill_ok c.args.file.now c.store_file-answer.result c.clear.new.self c.store_file-answer.new.self
      (sym c.is_err.ensures.value ∙ c.if-is_err.false) c.store_file-answer.ensures.law c.clear.ensures c.store_file-answer.ensures.stored;
  law = c.store_file-answer.ensures.law;
}
