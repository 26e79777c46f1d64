use Rattle.std.proofs.Common.{◌-◌, refl, ap, ◌∙◌, rules}
use Rattle.function.specs.Cells.{pushed_all}
use Rattle.function.specs.Numbering.{values_from}
use Rattle.reader.specs.Reading.{value_at}
use Rattle.function.proofs.Parts.{pushed_items}
use Rattle.std.proofs.lemmas.Iterator.{YieldsList-from_range, YieldsList-from_map}
use Rattle.function.proofs.fill.number.Goals as goal

pub returns : goal.returns
returns c =
    pushed_items 2048 _ _ c.extend.ensures (YieldsList-from_map _ value_at (YieldsList-from_range c.len.result c.args.n _ c.map.ensures.source refl) c.map.ensures.closure (λ x r q k. search rules))
    ∙ ap (λ m. pushed_all 2048 (values_from m (c.args.n - m)) c.args.numbers.now) c.len.ensures.value
