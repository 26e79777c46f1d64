use Rattle.std.proofs.Common.{◌≡◌, ℕ, map, Some, ap, ◌∙◌, rules}
use Rattle.function.specs.Cells.{pushed, pushed_all}
use Rattle.function.specs.Filling.{numbered, numbers_now}
use Rattle.function.specs.Numbering.{block_row, defined}
use Rattle.function.specs.declared.rows.ValueDef.TheVariants.{Param}
use Rattle.clif.specs.declared.types.«Type».{«Type» as Ty}
use Rattle.function.proofs.Loops.{values_pushed}
use Rattle.function.proofs.Parts.{pushed_items}
use Rattle.reader.specs.Reading.{block_at}
use Rattle.reader.specs.Records.{types_in}
use Rattle.std.proofs.lemmas.Iterator.{YieldsList-from_map}
use Rattle.std.proofs.lemmas.Iterator.Consumers.{YieldsList-from_first, YieldsList-from_enumerate}
use Rattle.function.proofs.tables.Tables.store_block.Goals as goal

pub returns : goal.returns
returns c =
    let s = c.args.self.now in
    let ts = types_in c.args.b.params in
    let def = Param (block_at c.len.result) in
    let vs = values_pushed def ts s.values c.extend.new.self (pushed_items 2048 _ _ c.extend.ensures
    (YieldsList-from_map _ (λ (p : ℕ × Ty). Some (record { ty = p.1; def = def p.0 })) (YieldsList-from_enumerate (YieldsList-from_first (λ x. x) types_in ts cc) cc) c.map.ensures.closure (λ x r q k. search rules)))
    ∙ ap (λ n. pushed_all 2048 (map Some (defined (Param (block_at n)) 0 ts)) s.values) c.len.ensures.value in
    let row : record { first_param = c.len-2.result; params = c.len-3.result; first_inst = c.len-4.result; insts = c.from.result } ≡ block_row (numbers_now s) ts c.args.b.insts = cc in λ i. record {
      blocks = (c.push.ensures ∙ ap (λ r. pushed 64 (Some r) s.blocks) row) i;
      insts = s.insts;
      values = vs i;
      numbers = (c.number.ensures ∙ ap (λ n. numbered n s.numbers) (c.len-5.ensures.value ∙ ap (λ v. v.len) vs)) i;
      uses = s.uses;
      destinations = s.destinations;
      order = s.order;
      block_entries = s.block_entries;
      edge_entries = s.edge_entries;
    }
