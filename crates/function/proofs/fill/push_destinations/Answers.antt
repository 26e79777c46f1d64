use Rattle.std.proofs.Common.{map, length, Some, sym, ap, ◌∙◌, arith}
use Rattle.function.specs.Cells.{pushed_all}
use Rattle.function.specs.Filling.{placed}
use Rattle.function.proofs.Loops.{placed_length, dest_row_next, dest_args_next}
use Rattle.function.proofs.Parts.{pushed_items}
use Rattle.reader.specs.Records.{destinations_of, destination_of, values_in}
use Rattle.std.specs.List.{flat_map}
use Rattle.std.proofs.lemmas.Iterator.Consumers.{YieldsList-from_first}
use Rattle.function.proofs.fill.push_destinations.Goals as goal

pub loop-d-preserved : goal.loop-d-preserved
loop-d-preserved c =
    let d = destination_of c.in-Some.d in
    let ds = destinations_of c.next.new.self in
    let all = destinations_of c.loop-d.d-iterator in
    let now = c.loop-d.invariant in
    let e = c.in-Some.ensures.steps in
    let args = pushed_items 4096 _ _ c.extend.ensures (YieldsList-from_first (λ x. x) values_in d.args cc) in
    record {
      count = omega (arith, now.count, ap length e);
      few = omega (arith, now.few, (c.in-Some.ensures.goes.on tt).2);
      places = dest_row_next d ds all c.loop-d.uses c.extend.new.self e args c.loop-d.kept.places c.push.new.self c.len.result _ c.len.ensures.value c.len-in-loop-d.ensures.value c.push.ensures ∙ now.places;
      uses = dest_args_next d ds all c.loop-d.uses c.extend.new.self e args ∙ now.uses;
    }

pub returns : goal.returns
returns c =
    let u = c.loop-d.uses in
    let now = c.loop-d.invariant in
    let none = c.in-None.ensures.steps.0 in
    record {
      kept = record {
        count = omega (arith, now.count, ap length none, placed_length (destinations_of c.args.destinations) c.args.uses.now);
        places = sym (ap (λ ds. pushed_all 2 (map Some (placed ds u)) c.loop-d.kept.places) none) ∙ now.places;
      };
      pushed = sym (ap (λ ds. pushed_all 4096 (flat_map (λ d. d.args) ds) u) none) ∙ now.uses;
    }
