use Rattle.std.proofs.Common.{[], cond, sym, ap, ◌∙◌}
use Rattle.function.specs.Cells.{pushed_all}
use Rattle.function.proofs.Parts.{pushed_items}
use Rattle.std.proofs.lemmas.Iterator.{YieldsList-from_slice}
use Rattle.std.proofs.lemmas.Iterator.Consumers.{YieldsList-from_copied}
use Rattle.function.proofs.fill.push_places.Goals as goal

pub returns-then-last : goal.returns-then-last
returns-then-last c =
    pushed_items 128 _ _ c.extend.ensures (YieldsList-from_copied (YieldsList-from_slice c.args.places.now.rows cc))
    ∙ ap (λ last. pushed_all 128 (cond last c.args.places.now.rows []) c.args.destinations.now) (sym c.if-last.true)
