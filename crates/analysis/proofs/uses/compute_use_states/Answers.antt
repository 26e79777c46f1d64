use Rattle.std.proofs.Common.{◌≡◌, length, refl, sym, ap, ◌∙◌, arith}
use Rattle.analysis.proofs.Least.{computed, length_cleared, state_once}
use Rattle.analysis.specs.Marks.{Work, work_of, cleared}
use Rattle.analysis.specs.Uses.{Enough}
use Rattle.analysis.proofs.uses.compute_use_states.Goals as goal
use Rattle.clif.specs.declared.entities.Value.{Value}
use Rattle.std.proofs.lemmas.List.{length-append}
use Rattle.storage.specs.Held.{Held, capacity}

pub returns-then-room-values : goal.returns-then-room-values
returns-then-room-values c = record {
  states = λ f s. (λ e. omega (arith, c.num_values-values.ensures.value f s, e.0, e.1), refl, refl);
  size = (refl, refl);
  refused = (refl, refl);
  law = state_once;
}

pub returns : goal.returns
returns c =
    let xs = c.args.states.now in
    let h = c.args.multiple_stack.now in
    let start : Work = record { states = c.clear.new.self; stack = c.clear-2.new.self } in
    let counted = work_of c.mark_all.new.self in
    let after = work_of c.propagate.new.self in
    let states_end = c.states-1.given.1 (sym (c.propagate.ensures.places.0 ∙ c.mark_all.ensures.places.0)) in
    let stack_end = c.multiple_stack-1.given.1 (sym (c.propagate.ensures.places.1 ∙ c.mark_all.ensures.places.1)) in
    let table = ap length c.clear.ensures ∙ length_cleared c.num_values-values.result xs in
    let room : capacity start.stack ≡ capacity h = omega (arith, ap (λ (q : Held Value). capacity q) c.clear-2.ensures, length-append h.items h.room) in
    rw (states_end, stack_end) (record {
      states = λ f s.
          let n = c.num_values-values.ensures.value f s in
          let enough : Enough f xs h = (omega arith, omega arith) in
          let d = computed f xs h start counted after enough (c.clear.ensures ∙ ap (λ k. cleared k xs) n) c.clear-2.ensures (c.mark_all.ensures.marks f s) (c.propagate.ensures.works f s) in
          (enough, d.0, d.1);
      size = (
        c.propagate.ensures.kept.size.0 ∙ c.mark_all.ensures.kept.size.0 ∙ table,
        c.propagate.ensures.kept.size.1 ∙ c.mark_all.ensures.kept.size.1 ∙ room,
      );
      refused = tt;
      law = state_once;
    })
