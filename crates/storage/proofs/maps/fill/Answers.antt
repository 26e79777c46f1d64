use Rattle.std.proofs.Common.{rules}
use Rattle.storage.proofs.Filled.{filled}
use Rattle.storage.proofs.maps.fill.Goals as goal

pub returns : goal.returns
returns g c = rw (filled _ _ c.args.x (λ y q k. search rules) _ c.fill_with.ensures.ran, c.fill_with.ensures.len)
