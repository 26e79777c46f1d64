use Rattle.std.proofs.Common.{◌≡◌, ℕ, List, ◌++◌, sym, ap, ◌∙◌, subst, append_assoc}
use Rattle.function.specs.Answers.{Shows}
use Rattle.function.specs.Holding.{Holds}
use Rattle.text.proofs.lines.function_text.Goals as goal
use Rattle.text.specs.Text.{Begins}

-- what is added twice behind a first line leaves it in front
begins : (line first one two text : List ℕ) → first ≡ line → text ≡ (first ++ one) ++ two → Begins line text
begins line first one two text is whole = (one ++ two, whole ∙ append_assoc first one two ∙ ap (λ l. l ++ (one ++ two)) is)

pub returns : goal.returns
returns c f within holds =
    let shows : Shows c.function-function.result f = record { within = within; holds = subst (λ t. Holds t f) (sym c.function-function.ensures) holds } in
    let one = c.in_ok-push_str.ensures.bytes in
    let two = c.in_ok-push_str-2.ensures.bytes in
    begins _ _ _ _ _ (c.in_ok-text.ensures f shows) (two ∙ ap (λ l. l ++ c.as_str-2.result.now) one)
