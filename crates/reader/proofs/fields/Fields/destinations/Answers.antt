use Rattle.std.proofs.Common.{sym, ap, ◌∙◌, arith}
use Rattle.std.proofs.lemmas.Result.{err_from_is_err_and}
use Rattle.reader.specs.Reading.{destination}
use Rattle.reader.specs.Told.{spot}
use Rattle.reader.proofs.Turns.{went_on, went_wrong, went_whole}
use Rattle.reader.proofs.fields.Fields.destinations.Goals as goal

pub returns-in_err-read : goal.returns-in_err-read
returns-in_err-read c =
    let x = c.args.self.now in
    let y = c.loop-k.self in
    let p = err_from_is_err_and c.from_residual.result c.from_residual.ensures.1 in
    let at = ap (λ n. destination n (spot y)) c.loop-k.invariant.size in
    rw (p.1, p.2) (record {
      tells = sym (went_wrong destination x.size c.args.n c.loop-k._k (spot x) (spot y) _ _ c.loop-k-test.true (sym at ∙ sym c.in_err-read.ensures.tells) c.loop-k.invariant.went);
      size = c.read.ensures.size ∙ c.loop-k.invariant.size;
    })

pub loop-k-preserved : goal.loop-k-preserved
loop-k-preserved c =
    let x = c.args.self.now in
    let y = c.loop-k.self in
    let at = ap (λ n. destination n (spot y)) c.loop-k.invariant.size in record {
      went = went_on destination x.size c.args.n c.loop-k._k (spot x) (spot y) _ _ c.loop-k-test.true (sym at ∙ sym c.in_ok-read.ensures.tells) c.loop-k.invariant.went;
      size = c.read.ensures.size ∙ c.loop-k.invariant.size;
    }

pub returns : goal.returns
returns c =
    let x = c.args.self.now in
    record { tells = went_whole destination x.size c.args.n c.loop-k._k (spot x) (spot c.loop-k.self) (omega arith) c.loop-k.invariant.went; size = c.loop-k.invariant.size }
