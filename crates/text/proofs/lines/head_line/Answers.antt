use Rattle.std.proofs.Common.{◌∙◌}
use Rattle.std.proofs.lemmas.Result.{IfOk-weaker}
use Rattle.text.proofs.lines.head_line.Goals as goal
use Rattle.text.specs.Text.{totals_line}

pub returns : goal.returns
returns c =
    IfOk-weaker c.format.result _ _
    (λ s e f shows.
    e ∙ (λ k. totals_line (c.num_blocks-blocks.ensures.value f shows k) (c.num_insts-insts.ensures.value f shows k) (c.num_values-values.ensures.value f shows k)))
    c.format.ensures.ok
