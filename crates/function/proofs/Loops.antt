-- Values and destinations, as they are stored.
use Rattle.std.proofs.Common.{◌≡◌, ℕ, suc, Bool, true, false, cond, List, [], ◌∷◌, map, length, Some, None, Option, sym, refl, ap, ◌∙◌}
use Rattle.std.proofs.lemmas.Simd.{map-map}
use Rattle.std.proofs.lemmas.List.Sums.{fold-append}
use Rattle.std.specs.List.{flat_map, enumerate_from}
use Rattle.reader.specs.Data.{Destination}
use Rattle.function.specs.declared.rows.DestData.{DestData}
use Rattle.clif.specs.declared.entities.Value.{Value}
use Rattle.clif.specs.declared.types.«Type».{«Type» as Ty}
use Rattle.function.specs.Cells.{Cells, pushed, pushed_all, table}
use Rattle.function.specs.Filling.{placed}
use Rattle.function.specs.Numbering.{defined, two_places}
use Rattle.function.specs.declared.rows.ValueData.{ValueData}
use Rattle.function.specs.declared.rows.ValueDef.{ValueDef}

-- a value of each type pushed, as an iterator hands the types out with their indices
pub values_pushed : (def : ℕ → ValueDef) (ts : List Ty) (old new : Cells (Option ValueData))
    → new ≡ pushed_all 2048 (map (λ (p : ℕ × Ty). Some (record { ty = p.1; def = def p.0 })) (enumerate_from 0 ts)) old → new ≡ pushed_all 2048 (map Some (defined def 0 ts)) old
values_pushed def ts old new e = e ∙ ap (λ vs. pushed_all 2048 vs old) (sym (map-map Some (λ (p : ℕ × Ty). record { ty = p.1; def = def p.0 }) (enumerate_from 0 ts)))

-- one destination stored
module _ (d : Destination) (ds all : List Destination) (c e : Cells Value) (h : all ≡ d ∷ ds) (f : e ≡ pushed_all 4096 d.args c) where
  pub dest_row_next : (k j : Cells (Option DestData)) (u n : ℕ) → u ≡ c.len → n ≡ length d.args → j ≡ pushed 2 (Some (record { target = d.target; first_arg = u; args = n })) k
      → pushed_all 2 (map Some (placed ds e)) j ≡ pushed_all 2 (map Some (placed all c)) k
  dest_row_next k j u n z m g = rw (h, f, g, z, m)

  pub dest_args_next : pushed_all 4096 (flat_map (λ x. x.args) ds) e ≡ pushed_all 4096 (flat_map (λ x. x.args) all) c
  dest_args_next = rw (h, f, fold-append (λ t x. pushed 4096 x t) c d.args (flat_map (λ x. x.args) ds))

-- the first two of some rows
places_full : (ds : List DestData) (a b : Option DestData) → (pushed_all 2 (map Some ds) (record { rows = a ∷ b ∷ []; len = 2 })).rows ≡ a ∷ b ∷ []
places_full [] a b = refl
places_full (d ∷ ds) a b = places_full ds a b

pub places_kept : (last : Bool) (ds : List DestData) → cond last (pushed_all 2 (map Some ds) (table 2 None [])).rows [] ≡ two_places last ds
places_kept false ds = refl
places_kept true [] = refl
places_kept true (d ∷ []) = refl
places_kept true (d ∷ e ∷ ds) = places_full ds (Some d) (Some e)

pub placed_length : (ds : List Destination) (c : Cells Value) → length (placed ds c) ≡ length ds
placed_length [] c = refl
placed_length (d ∷ ds) c = ap suc (placed_length ds (pushed_all 4096 d.args c))
