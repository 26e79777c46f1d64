use Rattle.std.proofs.Common.{refl, length-take, arith}
use Rattle.reader.proofs.Lengths.{types_ok, types_cut, typed_below}
use Rattle.reader.proofs.fields.Fields.types.Goals as goal

pub overflow_sub-self : goal.overflow_sub-self
overflow_sub-self c = let x = c.args.self.now.rest.now in omega (arith, typed_below c.from-n.result x, length-take c.from-n.result x)

pub returns-then-good-n : goal.returns-then-good-n
returns-then-good-n c =
    let x = c.args.self.now in
    let w = types_cut x.size x.totals c.from-n.result x.rest.now (omega arith) in
    record { tells = rw (← c.from-n.ensures, w, c.saturating_sub.ensures, c.typed-good.ensures); size = refl }

pub split_at-requires : goal.split_at-requires
split_at-requires c = let x = c.args.self.now.rest.now in omega (arith, typed_below c.from-n.result x, length-take c.from-n.result x)

pub invariant_of-result : goal.invariant_of-result
invariant_of-result c =
    let x = c.args.self.now.rest.now in
    record { each = rw c.split_at.ensures.front (omega (arith, typed_below c.from-n.result x, length-take c.from-n.result x)) }

pub returns : goal.returns
returns c =
    let x = c.args.self.now in
    let w = types_ok x.size x.totals c.from-n.result x.rest.now (omega arith) in
    record { tells = rw (← c.from-n.ensures, w, c.split_at.ensures.front, c.split_at.ensures.back); size = refl }
