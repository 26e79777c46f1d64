use Rattle.std.proofs.Common.{rules}
use Rattle.std.proofs.lemmas.Iterator.Search.{all_from_yields_List}
use Rattle.std.proofs.lemmas.Iterator.{YieldsList-from_slice}
use Rattle.checks.specs.Checks.{value_exists}
use Rattle.checks.proofs.numbers.values_exist.Goals as goal

pub returns : goal.returns
returns c = λ f h. let n = c.num_values-n.ensures.value f h in all_from_yields_List (value_exists f) _ _ _ c.all.ensures.ran (YieldsList-from_slice c.args.values.now cc) (λ x b q k. search (rules, n))
