use Rattle.std.proofs.Common.{◌<◌, IfSome, Ok, sym, refl, ap, ◌∙◌, subst}
use Rattle.function.specs.Filling.{stored, tail_of}
use Rattle.function.proofs.Whole.{record_stored, file_stored}
use Rattle.reader.specs.Stream.{left, handed, mapped_outcome, due, Counts}
use Rattle.std.proofs.lemmas.Result.{err_from_is_err_and}
use Rattle.function.proofs.tables.Tables.store_file.Goals as goal

pub loop-item-init : goal.loop-item-init
loop-item-init c = refl

pub returns-in_err-item : goal.returns-in_err-item
returns-in_err-item c =
    let s = c.args.self.now in
    let u = c.loop-item.self in
    let x = c.in_ok-reader.reader in
    let p = err_from_is_err_and c.from_residual-in_err-item.result c.from_residual-in_err-item.ensures.1 in
    rw (p.1, p.2) (record {
      stored = ap (mapped_outcome (λ f. stored (tail_of f) s)) c.in_ok-reader.ensures.begins ∙ sym (file_stored x s c.in_ok-reader.ensures.fresh)
          ∙ sym c.loop-item.invariant ∙ ap (mapped_outcome (λ t. stored t u)) c.in_err-item.ensures.hands;
      law = c.new.ensures.law;
    })

pub loop-item-smaller : goal.loop-item-smaller
loop-item-smaller c = subst (λ o. IfSome o (λ _. due c.next.new.self < due c.loop-item.reader)) c.in-Some.is c.in_ok-item.ensures.falls

pub loop-item-preserved : goal.loop-item-preserved
loop-item-preserved c =
    let y = c.next.new.self in
    record_stored c.in-Some.item c.loop-item.reader y c.loop-item.self c.store.new.self c.at_block_end.result
    (c.in_ok-item.ensures.hands ∙ ap (λ o. handed (Ok o) (left y)) c.in-Some.is) c.at_block_end.ensures
    (subst (λ o. Counts o y) c.in-Some.is c.in_ok-item.ensures.counts) c.store.ensures
    ∙ c.loop-item.invariant

pub returns : goal.returns
returns c =
    let s = c.args.self.now in
    let u = c.loop-item.self in
    let x = c.in_ok-reader.reader in
    let y = c.next.new.self in
    record {
      stored = ap (mapped_outcome (λ f. stored (tail_of f) s)) c.in_ok-reader.ensures.begins ∙ sym (file_stored x s c.in_ok-reader.ensures.fresh)
          ∙ sym c.loop-item.invariant ∙ ap (mapped_outcome (λ t. stored t u)) (c.in_ok-item.ensures.hands ∙ ap (λ o. handed (Ok o) (left y)) c.in_default.is);
      law = c.new.ensures.law;
    }
