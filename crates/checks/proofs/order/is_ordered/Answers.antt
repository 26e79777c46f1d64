use Rattle.std.proofs.Common.{is_some, sym, ap, ◌∙◌}
use Rattle.checks.specs.Steps.{maybe_ordered}
use Rattle.function.specs.Answers.{call_of}
use Rattle.std.specs.Option.{option_map}
use Rattle.checks.proofs.order.is_ordered.Goals as goal

pub returns-in-Some : goal.returns-in-Some
returns-in-Some c = λ f h. c.is_some.ensures ∙ ap is_some (c.block_entry.ensures f h) ∙ ap (λ o. maybe_ordered f (option_map call_of o)) (sym c.in-Some.is)
