use Rattle.std.proofs.Common.{◌≡◌, ℕ, [], cond, map, Some, sym, ap, ◌∙◌, rules}
use Rattle.clif.specs.declared.types.«Type».{«Type» as Ty}
use Rattle.function.specs.Cells.{pushed, pushed_all}
use Rattle.function.specs.Filling.{numbered, placed, row_now}
use Rattle.function.specs.Numbering.{defined, inst_number, uses_of}
use Rattle.function.specs.declared.rows.ValueDef.TheVariants.{Result}
use Rattle.function.proofs.Loops.{values_pushed, placed_length, places_kept}
use Rattle.function.proofs.Parts.{pushed_items}
use Rattle.std.proofs.lemmas.List.Sums.{fold-append}
use Rattle.reader.specs.Reading.{block_at}
use Rattle.reader.specs.Records.{instruction_of, types_in, values_in}
use Rattle.std.proofs.lemmas.Iterator.{YieldsList-from_map}
use Rattle.std.proofs.lemmas.Iterator.Consumers.{YieldsList-from_first, YieldsList-from_enumerate}
use Rattle.std.specs.List.{flat_map}
use Rattle.function.proofs.tables.Tables.store_inst.Goals as goal

pub returns : goal.returns
returns c =
    let s = c.args.self.now in
    let x = instruction_of c.args.x in
    let last = c.args.last in
    let def = Result (inst_number c.len-2.result) in
    let vs = values_pushed def x.results s.values c.extend.new.self (pushed_items 2048 _ _ c.extend.ensures
    (YieldsList-from_map _ (λ (p : ℕ × Ty). Some (record { ty = p.1; def = def p.0 })) (YieldsList-from_enumerate (YieldsList-from_first (λ t. t) types_in x.results cc) cc) c.map.ensures.closure (λ y r q k. search rules)))
    ∙ ap (λ n. pushed_all 2048 (map Some (defined (Result (inst_number n)) 0 x.results)) s.values) c.len-2.ensures.value in
    let args = flat_map (λ d. d.args) x.destinations in
    let e = pushed_items 4096 _ _ c.extend-2.ensures (YieldsList-from_first (λ v. v) values_in x.operands cc) in
    let more = c.push_destinations-kept in
    let kept = rw e at more.ensures.kept in
    let uses : more.new.uses ≡ pushed_all 4096 (uses_of x) s.uses = more.ensures.pushed ∙ ap (pushed_all 4096 args) e ∙ sym (fold-append (λ t v. pushed 4096 v t) s.uses x.operands args) in
    let count = kept.count ∙ placed_length x.destinations (pushed_all 4096 x.operands s.uses) in
    let places = c.push_places.ensures ∙ ap (λ ds. pushed_all 128 ds s.destinations) (ap (λ t. cond last t.rows []) kept.places ∙ places_kept last (placed x.destinations (pushed_all 4096 x.operands s.uses))) in
    let row : record {
      block = block_at c.saturating_sub.result;
      last = last;
      opcode = x.opcode;
      first_use = c.len-first_use.result;
      operands = c.len-4.result;
      uses = c.saturating_sub-2.result;
      first_result = c.len-first_result.result;
      results = c.len-results.result;
      destinations = more.result.count;
      immediate = x.immediate;
      flag = x.flag;
      location = x.location;
    } ≡ row_now last x s = cc in λ i. record {
      blocks = s.blocks;
      insts = (c.push.ensures ∙ ap (λ r. pushed 1024 (Some r) s.insts) row) i;
      values = vs i;
      numbers = (c.number.ensures ∙ ap (λ n. numbered n s.numbers) (c.len-3.ensures.value ∙ ap (λ v. v.len) vs)) i;
      uses = uses i;
      destinations = places i;
      order = s.order;
      block_entries = s.block_entries;
      edge_entries = s.edge_entries;
    }
