-- The tables hold what is stored.
use Rattle.std.proofs.Common.{◌≡◌, ◌≤◌, List, [], ◌∷◌, ◌++◌, length, Some, sym, refl, ap, ◌∙◌}
use Rattle.clif.specs.declared.entities.Entry.{Entry}
use Rattle.function.proofs.Filled.Blocks.{Kept, blocks_are}
use Rattle.function.proofs.Filled.Contents.{Contents, store_with, nothing, of_blocks}
use Rattle.function.proofs.Filled.Entries.{firsts, names_place, block_noted, edge_noted}
use Rattle.function.proofs.Filled.Sizes.{all_fits}
use Rattle.function.proofs.Filled.Tables.{pushed_rows, room_before}
use Rattle.function.specs.Filling.{stored, store_entry, store_order, noted_block, noted_edge}
use Rattle.function.specs.Holding.{store_of, zero_store, names_block}
use Rattle.function.specs.Numbering.{none_before}
use Rattle.reader.specs.Data.{Func}
use Rattle.reader.specs.Within.{Within}
use Rattle.std.proofs.lemmas.List.{append-nil, append_assoc, length-map}

-- the order, entry by entry
module _ (a : Contents) where
  entry_is : (done : List Entry) (x : Entry) → length (done ++ x ∷ []) ≤ 128 → store_entry x (store_with a done) ≡ store_with a (done ++ x ∷ [])
  unfolding store_with
  entry_is done x h =
      let l = length-map done Some in λ i. record {
        blocks = (store_with a []).blocks;
        insts = (store_with a []).insts;
        values = (store_with a []).values;
        numbers = (store_with a []).numbers;
        uses = (store_with a []).uses;
        destinations = (store_with a []).destinations;
        order = pushed_rows 128 _ _ done refl h i;
        block_entries = (ap (λ e. noted_block x e (firsts names_block 64 done)) l ∙ block_noted 64 done x) i;
        edge_entries = (ap (λ e. noted_edge x e (firsts names_place 128 done)) l ∙ edge_noted 128 done x) i;
      }

  order_is : (xs done : List Entry) → length (done ++ xs) ≤ 128 → store_order xs (store_with a done) ≡ store_with a (done ++ xs)
  order_is [] done h = ap (store_with a) (sym (append-nil done))
  order_is (x ∷ xs) done h =
      let e = append_assoc done (x ∷ []) xs in
      let g = rw (← e) at h in
      ap (store_order xs) (entry_is done x (room_before (done ++ x ∷ []) xs 128 g)) ∙ order_is xs (done ++ x ∷ []) g ∙ ap (store_with a) e

-- where storing starts, and where it ends
start : Kept zero_store nothing none_before 0
unfolding store_with
start = record { is = refl; blocks = refl; insts = refl; values = refl; uses = refl }

end : (f : Func) → store_with (of_blocks 0 none_before f.blocks) f.order ≡ store_of f
unfolding store_with
end f = refl

pub stored_is : (f : Func) → Within f → stored (record { insts = []; blocks = f.blocks; order = f.order }) zero_store ≡ store_of f
stored_is f w =
    ap (store_order f.order) (blocks_are f.blocks zero_store nothing none_before 0 start (all_fits f w))
    ∙ order_is (of_blocks 0 none_before f.blocks) f.order [] w.few_entries
    ∙ end f
