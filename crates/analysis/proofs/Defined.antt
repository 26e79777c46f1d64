-- The first result of an instruction is defined by it.
use Rattle.std.proofs.Common.{◌≡◌, ℕ, zero, suc, ◌+◌, ◌-◌, ◌<◌, ◌≤◌, Bool, List, [], ◌∷◌, ◌++◌, length, Some, None, Option, sym, refl, ap, ◌∙◌, ⊎_elim, arith, slice_get}
use Rattle.analysis.specs.Uses.{first_result_of}
use Rattle.clif.specs.declared.types.«Type».{«Type» as Ty}
use Rattle.function.proofs.Places.Lists.{get_front, get_behind, get_within}
use Rattle.function.specs.Answers.{def_of_value, list_in}
use Rattle.function.specs.Numbering.{Numbers, past_params, past_inst, past_insts, past_body, over_insts, over_blocks, is_last, defined, inst_row, inst_number, inst_rows, values_from, none_before}
use Rattle.function.specs.declared.rows.InstData.{InstData}
use Rattle.function.specs.declared.rows.ValueData.{ValueData}
use Rattle.function.specs.declared.rows.ValueDef.{ValueDef}
use Rattle.function.specs.declared.rows.ValueDef.TheVariants.{Param, Result}
use Rattle.reader.specs.Data.{Instruction, Body, Func}
use Rattle.reader.specs.Reading.{block_at}
use Rattle.std.proofs.lemmas.List.{length-append}
use Rattle.std.proofs.lemmas.Bool.{cases_lt}
use Rattle.std.specs.Option.{option_map}

length_defined : (def : ℕ → ValueDef) (k : ℕ) (ts : List Ty) → length (defined def k ts) ≡ length ts
length_defined def k [] = refl
length_defined def k (t ∷ ts) = ap suc (length_defined def (k + 1) ts)

abbrev row_of_inst : ℕ → Bool → Numbers → Instruction → List InstData
row_of_inst b last m i = inst_row b last m i ∷ []

abbrev values_of_inst : Bool → Numbers → Instruction → List ValueData
values_of_inst last m i = defined (Result (inst_number m.insts)) 0 i.results

abbrev values_of_block : ℕ → Numbers → Body → List ValueData
values_of_block b n x = defined (Param (block_at b)) 0 x.params ++ over_insts values_of_inst (past_params x n) x.insts

abbrev rows_of_block : ℕ → Numbers → Body → List InstData
rows_of_block b n x = over_insts (row_of_inst b) (past_params x n) x.insts

-- how much the numbers grow
insts_grow : (b : ℕ) (n : Numbers) (xs : List Instruction) → (past_insts xs n).insts ≡ n.insts + length (over_insts (row_of_inst b) n xs)
insts_grow b n [] = omega arith
insts_grow b n (x ∷ xs) = let h = insts_grow b (past_inst x n) xs in omega arith

values_grow : (n : Numbers) (xs : List Instruction) → (past_insts xs n).values ≡ n.values + length (over_insts values_of_inst n xs)
values_grow n [] = omega arith
values_grow n (x ∷ xs) =
    let h = values_grow (past_inst x n) xs in
    let a = length-append (defined (Result (inst_number n.insts)) 0 x.results) (over_insts values_of_inst (past_inst x n) xs) in
    let d = length_defined (Result (inst_number n.insts)) 0 x.results in omega arith

-- a row with a result, and the value that stands there
record Leads (n : Numbers) (row : Option InstData) (j : ℕ) (values : List ValueData) : Type 0 where
  at : (r : InstData) → row ≡ Some r → 0 < r.results → (p : ℕ) × (r.first_result ≡ n.values + p) × (option_map (λ v. v.def) (slice_get values p) ≡ Some (Result (inst_number (n.insts + j)) 0))

first_defined : (def : ℕ → ValueDef) (ts : List Ty) (more : List ValueData) → 0 < length ts → option_map (λ v. v.def) (slice_get (defined def 0 ts ++ more) 0) ≡ Some (def 0)
first_defined def [] more h = absurd (omega arith)
first_defined def (t ∷ ts) more h = refl

leads_insts : (b : ℕ) (n : Numbers) (xs : List Instruction) (j : ℕ) → Leads n (slice_get (over_insts (row_of_inst b) n xs) j) j (over_insts values_of_inst n xs)
leads_insts b n [] j = record { at = λ r e h. let z : ◌≡◌ {A = ℕ} 0 1 = cc in absurd (omega arith) }
leads_insts b n (x ∷ xs) zero = record {
  at = λ r e h.
      let same : inst_row b (is_last xs) n x ≡ r = cc in
      let size : length x.results ≡ r.results = ap (λ q. q.results) same in
      let first : n.values ≡ r.first_result = ap (λ q. q.first_result) same in
      let num : n.insts ≡ n.insts + 0 = omega arith in
      (0, omega arith, first_defined (Result (inst_number n.insts)) x.results (over_insts values_of_inst (past_inst x n) xs) (omega arith) ∙ ap (λ m. Some (Result (inst_number m) 0)) num);
}
leads_insts b n (x ∷ xs) (suc j) = record {
  at = λ r e h.
      let (p, q, s) = (leads_insts b (past_inst x n) xs j).at r e h in
      let d = length_defined (Result (inst_number n.insts)) 0 x.results in
      let num : n.insts + 1 + j ≡ n.insts + suc j = omega arith in
      let skip = get_behind (defined (Result (inst_number n.insts)) 0 x.results) (over_insts values_of_inst (past_inst x n) xs) (length x.results + p) p (omega arith) in
      (length x.results + p, omega arith, ap (option_map (λ v. v.def)) skip ∙ s ∙ ap (λ m. Some (Result (inst_number m) 0)) num);
}

leads_blocks : (b : ℕ) (n : Numbers) (xs : List Body) (j : ℕ) → Leads n (slice_get (over_blocks rows_of_block b n xs) j) j (over_blocks values_of_block b n xs)
leads_blocks b n [] j = record { at = λ r e h. let z : ◌≡◌ {A = ℕ} 0 1 = cc in absurd (omega arith) }
leads_blocks b n (x ∷ xs) j = record {
  at = λ r e h.
      let rows = rows_of_block b n x in
      let params = defined (Param (block_at b)) 0 x.params in
      let inner = over_insts values_of_inst (past_params x n) x.insts in
      let values = over_blocks values_of_block (suc b) (past_body x n) xs in
      let d : length params ≡ length x.params = length_defined (Param (block_at b)) 0 x.params in
      let both : length (params ++ inner) ≡ length params + length inner = length-append params inner in
      ⊎_elim
      (λ (l : j < length rows).
      let (p, q, s) = (leads_insts b (past_params x n) x.insts j).at r (sym (get_front rows (over_blocks rows_of_block (suc b) (past_body x n) xs) j l) ∙ e) h in
      let in_block : slice_get (params ++ inner) (length x.params + p) ≡ slice_get inner p = get_behind params inner (length x.params + p) p (omega arith) in
      let there = ap (option_map (λ v. v.def)) in_block ∙ s in
      let within = get_within (λ v. v.def) (params ++ inner) (length x.params + p) (Result (inst_number (n.insts + j)) 0) there in
      (length x.params + p, omega arith, ap (option_map (λ v. v.def)) (get_front (params ++ inner) values (length x.params + p) within) ∙ there))
      (λ (l : length rows ≤ j).
      let k = j - length rows in
      let row = get_behind rows (over_blocks rows_of_block (suc b) (past_body x n) xs) j k (omega arith) in
      let (p, q, s) = (leads_blocks (suc b) (past_body x n) xs k).at r (sym row ∙ e) h in
      let grown = insts_grow b (past_params x n) x.insts in
      let more = values_grow (past_params x n) x.insts in
      let num : (past_body x n).insts + k ≡ n.insts + j = omega arith in
      let skip = get_behind (params ++ inner) values (length (params ++ inner) + p) p refl in
      (length (params ++ inner) + p, omega arith, ap (option_map (λ v. v.def)) skip ∙ s ∙ ap (λ m. Some (Result (inst_number m) 0)) num))
      (cases_lt j (length rows));
}

-- the first result of a row
first_in_row : (o : Option InstData) (w : ℕ) → option_map (λ v. v.0) (slice_get (list_in o (λ r. values_from r.first_result r.results)) 0) ≡ Some w
    → (r : InstData) × (o ≡ Some r) × (0 < r.results) × (r.first_result ≡ w)
first_in_row None w e = let z : ◌≡◌ {A = ℕ} 0 1 = cc in absurd (omega arith)
first_in_row (Some r) w e = (r, refl, (sized r.results e).0, (sized r.results e).1) where
  sized : (k : ℕ) → option_map (λ v. v.0) (slice_get (values_from r.first_result k) 0) ≡ Some w → (0 < k) × (r.first_result ≡ w)
  sized zero h = let z : ◌≡◌ {A = ℕ} 0 1 = cc in absurd (omega arith)
  sized (suc k) h = (omega arith, cc)

pub first_def : (f : Func) (i w : ℕ) → first_result_of f i ≡ Some w → def_of_value f w ≡ Some (Result (inst_number i) 0)
first_def f i w e =
    let (r, row, some, same) = first_in_row (slice_get (inst_rows f) i) w e in
    let (p, q, s) = (leads_blocks 0 none_before f.blocks i).at r row some in
    let num : 0 + i ≡ i = omega arith in
    let place : p ≡ w = omega arith in
    ap (λ v. def_of_value f v) (sym place) ∙ s ∙ ap (λ m. Some (Result (inst_number m) 0)) num
