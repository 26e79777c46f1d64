use Rattle.std.proofs.Common.{arith}
use Rattle.std.proofs.lemmas.Result.{err_from_is_err_and}
use Rattle.reader.proofs.Handing.{inst_handed, inst_refused, block_handed, block_refused, count_refused, entry_handed, entry_refused}
use Rattle.reader.proofs.reader.Reader.next.Goals as goal

pub returns-in_err-inst : goal.returns-in_err-inst
returns-in_err-inst c =
    let p = err_from_is_err_and c.from_residual.result c.from_residual.ensures.1 in
    rw (p.1, p.2) (inst_refused c.args.self.now c.read.new.fields _ c.if-self-gt0.true c.in_err-inst.ensures)

pub returns-then-self-gt0 : goal.returns-then-self-gt0
returns-then-self-gt0 c = inst_handed c.args.self.now c.read.new.fields c.in_ok-inst.inst c.if-self-gt0.true c.in_ok-inst.ensures

pub returns-in_err-block : goal.returns-in_err-block
returns-in_err-block c =
    let p = err_from_is_err_and c.from_residual-in_err-block.result c.from_residual-in_err-block.ensures.1 in
    rw (p.1, p.2) (block_refused c.args.self.now c.read-then-self-gt0-2.new.fields _ (omega arith) c.if-self-gt0-2.true c.in_err-block.ensures)

pub returns-then-self-gt0-2 : goal.returns-then-self-gt0-2
returns-then-self-gt0-2 c = block_handed c.args.self.now c.read-then-self-gt0-2.new.fields c.in_ok-block.block (omega arith) c.if-self-gt0-2.true c.in_ok-block.ensures

pub returns-in_err-count : goal.returns-in_err-count
returns-in_err-count c =
    let p = err_from_is_err_and c.from_residual-in_err-count.result c.from_residual-in_err-count.ensures.1 in
    rw (p.1, p.2) (count_refused c.args.self.now c.entries_due.new.self _ (omega arith) (omega arith) c.in_err-count.ensures)

pub returns-in_err-order : goal.returns-in_err-order
returns-in_err-order c =
    let p = err_from_is_err_and c.from_residual-in_err-order.result c.from_residual-in_err-order.ensures.1 in
    rw (p.1, p.2) (entry_refused c.args.self.now c.entries_due.new.self c.read-then-count-gt0.new.fields c.in_ok-count.count (omega arith) (omega arith) c.if-count-gt0.true c.in_ok-count.ensures _ c.in_err-order.ensures)

pub returns-then-count-gt0 : goal.returns-then-count-gt0
returns-then-count-gt0 c =
    entry_handed c.args.self.now c.entries_due.new.self c.read-then-count-gt0.new.fields c.in_ok-count.count (omega arith) (omega arith) c.if-count-gt0.true c.in_ok-count.ensures
    c.in_ok-order.order c.in_ok-order.ensures
