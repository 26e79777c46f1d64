-- Where the instructions, the blocks and the destinations of a function stand in its tables.
use Rattle.std.proofs.Common.{◌≡◌, ℕ, zero, suc, ◌+◌, ◌*◌, ◌<◌, ◌≤◌, List, [], ◌∷◌, length, get_or, None, Option, sym, refl, ap, ◌∙◌, subst, arith, slice_get}
use Rattle.clif.specs.declared.entities.Value.{Value}
use Rattle.std.specs.List.{AllZip}
use Rattle.function.proofs.Filled.Sizes.{two_places_each}
use Rattle.function.proofs.Told.Each.{Both, each_append, each_at}
use Rattle.function.proofs.Told.Reading.{Part, Stands, part_front, part_back}
use Rattle.function.specs.Answers.{option_in, final}
use Rattle.function.specs.Numbering.{Numbers, over_blocks, over_insts, uses_of, past_params, past_inst, past_insts, past_body, block_row, inst_row, dest_rows, dest_places}
use Rattle.function.specs.declared.rows.BlockData.{BlockData}
use Rattle.function.specs.declared.rows.DestData.{DestData}
use Rattle.function.specs.declared.rows.InstData.{InstData}
use Rattle.reader.specs.Data.{Destination, Instruction, Body}
use Rattle.reader.specs.Within.{FitsBody, sum_of, body_values}
use Rattle.std.proofs.lemmas.List.{get_or_append_left, get_or-append_right, length-append}
use Rattle.std.specs.List.{flat_map, AllByRecursion}

-- what instructions and blocks use and define, and the places for destinations
abbrev insts_uses : Numbers → List Instruction → List Value
insts_uses n xs = over_insts (λ last m i. uses_of i) n xs

abbrev blocks_uses : ℕ → Numbers → List Body → List Value
blocks_uses b n xs = over_blocks (λ c m x. insts_uses (past_params x m) x.insts) b n xs

abbrev blocks_dests : ℕ → Numbers → List Body → List (Option DestData)
blocks_dests b n xs = over_blocks (λ c m x. over_insts dest_places (past_params x m) x.insts) b n xs

abbrev insts_values : List Instruction → ℕ
insts_values xs = sum_of (λ x. length x.results) xs

-- the numbers behind several instructions
past_counts : (xs : List Instruction) (n : Numbers) → ((past_insts xs n).insts ≡ n.insts + length xs)
    × ((past_insts xs n).values ≡ n.values + insts_values xs) × ((past_insts xs n).uses ≡ n.uses + length (insts_uses n xs))
past_counts [] n = omega arith
past_counts (x ∷ xs) n = omega (arith, past_counts xs (past_inst x n), length-append (uses_of x) (insts_uses (past_inst x n) xs))

-- what a row of an instruction, of a block and of a destination says of it, where us are all uses and v is the number of values
pub record RowOf (us : List Value) (v : ℕ) (r : InstData) (x : Instruction) : Type 0 where
  pub opcode : r.opcode ≡ x.opcode
  pub immediate : r.immediate ≡ x.immediate
  pub flag : r.flag ≡ x.flag
  pub location : r.location ≡ x.location
  pub destinations : r.destinations ≡ length x.destinations
  pub operands : Part us r.first_use r.operands x.operands
  pub uses : Part us r.first_use r.uses (uses_of x)
  pub results : r.first_result + r.results ≤ v

pub record BlockOf (v : ℕ) (r : BlockData) (x : Body) : Type 0 where
  pub params : r.first_param + r.params ≤ v
  pub insts : r.first_inst + r.insts ≤ 1024

pub record DestOf (us : List Value) (r : DestData) (d : Destination) : Type 0 where
  pub target : r.target ≡ d.target
  pub args : Part us r.first_arg r.args d.args

pub blocks_each : (v b : ℕ) (n : Numbers) (xs : List Body) → n.values + sum_of body_values xs ≤ v → n.insts + sum_of (λ x. length x.insts) xs ≤ 1024
    → AllZip (BlockOf v) (over_blocks (λ c m x. block_row m x.params (length x.insts) ∷ []) b n xs) xs
blocks_each v b n [] h k = tt
blocks_each v b n (x ∷ xs) h k =
    let e = past_counts x.insts (past_params x n) in
    (record { params = omega arith; insts = omega arith }, blocks_each v (suc b) (past_body x n) xs (omega arith) (omega arith))

-- one of a list's first two elements
one_of_two : {X : Type 0} (xs : List X) (k : ℕ) → k < 2 → get_or (slice_get xs 0 ∷ slice_get xs 1 ∷ []) k None ≡ slice_get xs k
one_of_two xs zero h = refl
one_of_two xs (suc zero) h = refl
one_of_two xs (suc (suc k)) h = absurd (omega arith)

module _ (us : List Value) where
  -- the arguments of destinations from a use on
  dests_each : (u : ℕ) (ds : List Destination) → Stands us u (flat_map (λ d. d.args) ds) → AllZip (DestOf us) (dest_rows u ds) ds
  dests_each u [] p = tt
  dests_each u (d ∷ ds) p = (record { target = refl; args = part_front us u d.args _ p }, dests_each (u + length d.args) ds (part_back us u d.args _ p))

  -- what stands behind a block
  block_back : (b : ℕ) (n : Numbers) (x : Body) (xs : List Body) → Stands us n.uses (blocks_uses b n (x ∷ xs))
      → Stands us (past_body x n).uses (blocks_uses (suc b) (past_body x n) xs)
  block_back b n x xs p =
      let m = past_params x n in
      let ys = blocks_uses (suc b) (past_body x n) xs in
      subst (λ u. Stands us u ys) (sym (past_counts x.insts m).2) (part_back us n.uses (insts_uses m x.insts) ys p)

  -- the destinations of the instruction that ends a block
  last_dest : (k : ℕ) → k < 2 → (n : Numbers) (xs : List Instruction) → 1 ≤ length xs → Stands us n.uses (insts_uses n xs)
      → Both (DestOf us) (get_or (over_insts dest_places n xs) k None) (option_in (final xs) (λ x. slice_get x.destinations k))
  last_dest k h n [] some p = absurd (omega arith)
  last_dest k h n (x ∷ []) some p =
      let u = n.uses + length x.operands in
      let ds = x.destinations in
      let q = part_back us n.uses x.operands (flat_map (λ d. d.args) ds) (part_front us n.uses (uses_of x) [] p) in
      subst (λ o. Both (DestOf us) o (slice_get ds k)) (sym (one_of_two (dest_rows u ds) k h)) (each_at (DestOf us) (dest_rows u ds) ds (dests_each u ds q) k)
  last_dest k h n (x ∷ y ∷ ys) some p = last_dest k h (past_inst x n) (y ∷ ys) (omega arith) (part_back us n.uses (uses_of x) _ p)

  -- two places for each block
  pub dest_at : (k : ℕ) → k < 2 → (i b : ℕ) (n : Numbers) (xs : List Body) → AllByRecursion FitsBody xs → Stands us n.uses (blocks_uses b n xs)
      → Both (DestOf us) (get_or (blocks_dests b n xs) (2 * i + k) None) (option_in (option_in (slice_get xs i) (λ x. final x.insts)) (λ x. slice_get x.destinations k))
  dest_at k h i b n [] w p = tt
  dest_at k h zero b n (x ∷ xs) w p =
      let m = past_params x n in
      let here = over_insts dest_places m x.insts in
      let two = two_places_each m x.insts w.0.some_inst in
      let e : get_or (blocks_dests b n (x ∷ xs)) (2 * 0 + k) None ≡ get_or here k None =
      ap (λ j. get_or (blocks_dests b n (x ∷ xs)) j None) (omega arith) ∙ get_or_append_left here _ None k (omega arith) in
      subst (λ o. Both (DestOf us) o (option_in (final x.insts) (λ y. slice_get y.destinations k))) (sym e)
      (last_dest k h m x.insts w.0.some_inst (part_front us n.uses (insts_uses m x.insts) _ p))
  dest_at k h (suc i) b n (x ∷ xs) w p =
      let m = past_params x n in
      let here = over_insts dest_places m x.insts in
      let e : get_or (blocks_dests b n (x ∷ xs)) (2 * suc i + k) None ≡ get_or (blocks_dests (suc b) (past_body x n) xs) (2 * i + k) None =
      get_or-append_right here _ 2 (2 * suc i + k) None (two_places_each m x.insts w.0.some_inst) (omega arith)
      ∙ ap (λ j. get_or (blocks_dests (suc b) (past_body x n) xs) j None) (omega arith) in
      subst (λ o. Both (DestOf us) o (option_in (option_in (slice_get xs i) (λ y. final y.insts)) (λ y. slice_get y.destinations k))) (sym e)
      (dest_at k h i (suc b) (past_body x n) xs w.1 (block_back b n x xs p))

  -- the rows of instructions, block by block
  module _ (v : ℕ) where
    insts_each : (b : ℕ) (n : Numbers) (xs : List Instruction) → Stands us n.uses (insts_uses n xs) → n.values + insts_values xs ≤ v
        → AllZip (RowOf us v) (over_insts (λ last m i. inst_row b last m i ∷ []) n xs) xs
    insts_each b n [] p h = tt
    insts_each b n (x ∷ xs) p h =
        let m = past_inst x n in
        let q = part_front us n.uses (uses_of x) (insts_uses m xs) p in (
          record {
            opcode = refl;
            immediate = refl;
            flag = refl;
            location = refl;
            destinations = refl;
            operands = part_front us n.uses x.operands (flat_map (λ d. d.args) x.destinations) q;
            uses = q;
            results = omega arith;
          },
          insts_each b m xs (part_back us n.uses (uses_of x) (insts_uses m xs) p) (omega arith),
        )

    pub rows_each : (b : ℕ) (n : Numbers) (xs : List Body) → Stands us n.uses (blocks_uses b n xs) → n.values + sum_of body_values xs ≤ v
        → AllZip (RowOf us v) (over_blocks (λ c m x. over_insts (λ last k i. inst_row c last k i ∷ []) (past_params x m) x.insts) b n xs) (flat_map (λ x. x.insts) xs)
    rows_each b n [] p h = tt
    rows_each b n (x ∷ xs) p h =
        let m = past_params x n in
        let e = past_counts x.insts m in
        each_append (RowOf us v) _ x.insts _ (flat_map (λ y. y.insts) xs)
        (insts_each b m x.insts (part_front us n.uses (insts_uses m x.insts) _ p) (omega arith))
        (rows_each (suc b) (past_body x n) xs (block_back b n x xs p) (omega arith))
