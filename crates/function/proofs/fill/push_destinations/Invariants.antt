use Rattle.std.proofs.Common.{◌≡◌, ◌+◌, ◌≤◌, map, length, Some, None, []}
use Rattle.function.specs.Cells.{pushed_all, table}
use Rattle.function.specs.Filling.{placed}
use Rattle.reader.specs.Records.{destinations_of}
use Rattle.std.specs.List.{flat_map}
use Rattle.function.proofs.fill.push_destinations.Given as goal

abbrev pub invariant-loop-d : goal.invariant-loop-d
invariant-loop-d l = record {
  count : l.kept.count + length (destinations_of l.d-iterator) ≡ length (destinations_of l.destinations);
  few : l.kept.count + l.d-iterator.left ≤ l.destinations.left;
  places : pushed_all 2 (map Some (placed (destinations_of l.d-iterator) l.uses)) l.kept.places ≡ pushed_all 2 (map Some (placed (destinations_of l.destinations) l.initial.uses)) (table 2 None []);
  uses : pushed_all 4096 (flat_map (λ d. d.args) (destinations_of l.d-iterator)) l.uses ≡ pushed_all 4096 (flat_map (λ d. d.args) (destinations_of l.destinations)) l.initial.uses;
}
