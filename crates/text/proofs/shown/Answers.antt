use Rattle.std.proofs.Common.{◌∙◌, ap₂}
use Rattle.std.proofs.lemmas.Result.{IfOk-weaker}
use Rattle.std.proofs.lemmas.Bool.{false≢true}
use Rattle.text.proofs.shown.Goals as goal
use Rattle.text.specs.Text.{refusal_line}

pub returns-in-Ok : goal.returns-in-Ok
returns-in-Ok c =
    let l = c.in-Ok.ensures in
    IfOk-weaker c.function_text.result _ _
    (λ s told. record { accepted = λ f a. told f a.within (l.holds f a); refused = λ n p q. absurd ((l.refuses n p).1 q) })
    c.function_text.ensures

pub returns-in-Err : goal.returns-in-Err
returns-in-Err c =
    let l = c.in-Err.ensures in
    IfOk-weaker c.refusal_line.result _ _
    (λ s told. record { accepted = λ f a. absurd (false≢true (l.accepts.1 (f, a))); refused = λ n p q. let s = (l.refuses n p).1 q in told ∙ ap₂ refusal_line s.0 s.1 })
    c.refusal_line.ensures
