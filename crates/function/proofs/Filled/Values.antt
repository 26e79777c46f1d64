-- Values with their numbers, and destinations with the places of their arguments, as they are stored.
use Rattle.std.proofs.Common.{◌≡◌, ℕ, zero, suc, ◌+◌, ◌-◌, ◌≤◌, Bool, List, [], ◌∷◌, ◌++◌, length, Some, Option, refl, ap, ap₂, ◌∙◌, zero-add, arith}
use Rattle.clif.specs.declared.entities.Value.{Value}
use Rattle.clif.specs.declared.types.«Type».{«Type» as Ty}
use Rattle.function.proofs.Filled.Tables.{rows_table, pushed_more, room_before}
use Rattle.function.specs.Cells.{Cells, table, pushed_all}
use Rattle.function.specs.Filling.{numbered, placed}
use Rattle.function.specs.Numbering.{Numbers, uses_of, defined, dest_rows, two_places, dest_places, values_from}
use Rattle.function.specs.declared.rows.ValueData.{ValueData}
use Rattle.function.specs.declared.rows.ValueDef.{ValueDef}
use Rattle.reader.specs.Data.{Destination, Instruction}
use Rattle.reader.specs.Reading.{value_at}
use Rattle.std.proofs.lemmas.List.FromFn.{length-enumerate_from, length-map-range_with_len}
use Rattle.std.proofs.lemmas.List.{append_assoc, length-append, length-map}
use Rattle.std.specs.List.{flat_map, enumerate_from}

-- values, and the table of their numbers
pub length_defined : (def : ℕ → ValueDef) (k : ℕ) (ts : List Ty) → length (defined def k ts) ≡ length ts
length_defined def k ts = length-map (enumerate_from k ts) _ ∙ length-enumerate_from k ts

values_more : (v n k w j : ℕ) → v + n ≡ w → n + k ≡ j → values_from v n ++ values_from w k ≡ values_from v j
values_more v zero k w j e f = let z : w ≡ v = omega arith in let l : k ≡ j = omega arith in rw (z, l)
values_more v (suc n) k w j e f = let g : j ≡ suc (n + k) = omega arith in rw g (ap (λ vs. value_at v ∷ vs) (values_more (v + 1) n k w (n + k) (omega arith) refl))

-- values, and the numbers of all
pub numbers_defined : (ds vs : List ValueData) (c : Cells (Option ValueData)) → c ≡ rows_table 2048 (vs ++ ds) → length (vs ++ ds) ≤ 2048
    → numbered c.len (table 2048 (value_at 0) (values_from 0 (length vs))) ≡ table 2048 (value_at 0) (values_from 0 (length (vs ++ ds)))
numbers_defined ds vs c e h =
    let m = length vs in
    let k = length (vs ++ ds) in
    let more : values_from 0 m ++ values_from m (k - m) ≡ values_from 0 k = values_more 0 m (k - m) m k (zero-add m) (omega (arith, length-append vs ds)) in
    ap₂ (λ j l. pushed_all 2048 (values_from l (j - l)) (table 2048 (value_at 0) (values_from 0 m)))
    (ap (λ t. t.len) e ∙ length-map (vs ++ ds) Some) (length-map-range_with_len value_at 0 m)
    ∙ pushed_more (value_at 0) 2048 (values_from m (k - m)) (values_from 0 m) (rw more (omega (arith, length-map-range_with_len value_at 0 k)))
    ∙ ap (table 2048 (value_at 0)) more

-- destinations, whose arguments are stored behind the uses us
placed_is : (ds : List Destination) (us : List Value) → length (us ++ flat_map (λ d. d.args) ds) ≤ 4096 → placed ds (table 4096 (value_at 0) us) ≡ dest_rows (length us) ds
placed_is [] us h = refl
placed_is (d ∷ ds) us h =
    let g = rw (← append_assoc) at h in
    let q = room_before (us ++ d.args) (flat_map (λ d. d.args) ds) 4096 g in
    ap (λ rows. record { target = d.target; first_arg = length us; args = length d.args } ∷ rows)
    (ap (placed ds) (pushed_more (value_at 0) 4096 d.args us q) ∙ placed_is ds (us ++ d.args) g ∙ ap (λ u. dest_rows u ds) (length-append us d.args))

-- the two places of an instruction behind the uses us
pub places_are : (last : Bool) (n : Numbers) (x : Instruction) (us : List Value) → length us ≡ n.uses → length (us ++ uses_of x) ≤ 4096
    → two_places last (placed x.destinations (pushed_all 4096 x.operands (table 4096 (value_at 0) us))) ≡ dest_places last n x
places_are last n x us e h =
    let g = rw (← append_assoc) at h in
    let o = us ++ x.operands in
    ap (λ c. two_places last (placed x.destinations c)) (pushed_more (value_at 0) 4096 x.operands us (room_before o (flat_map (λ d. d.args) x.destinations) 4096 g))
    ∙ ap (two_places last) (placed_is x.destinations o g ∙ ap (λ u. dest_rows u x.destinations) (length-append us x.operands ∙ ap (λ u. u + length x.operands) e))
