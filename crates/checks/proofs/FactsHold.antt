-- What passing every test says.
use Rattle.std.proofs.Common.{◌≡◌, ℕ, zero, suc, ◌+◌, ◌<◌, ◌≤◌, Bool, true, false, not, ◌&&◌, ◌||◌, eqb, ltb, List, [], ◌∷◌, ◌++◌, length, is_some, Some, None, Option, sym, refl, ap, ◌∙◌, arith, slice_get}
use Rattle.checks.specs.Checks.{row_test, numbers_test, entry_test, uses_test, inst_tests, entry_tests, uses_tests, tests_of_inst, tests_of_entry, tests_of_uses, all_tests, same_flag, is_entry, is_before, entry_fits, destinations_of_block, row_fits, numbers_fit, shape_fits, shape_of, value_exists, uses_fit}
use Rattle.checks.proofs.Runs.{front_passes, back_passes, first_passes, each_passes}
use Rattle.checks.specs.Facts.{Facts}
use Rattle.checks.specs.Tests.{first_fault}
use Rattle.std.specs.List.{list_all}
use Rattle.clif.specs.Rows.{row_of, within_span}
use Rattle.clif.specs.declared.entities.Block.{Block}
use Rattle.clif.specs.declared.entities.Entry.{Entry}
use Rattle.clif.specs.declared.entities.Entry.TheVariants.{Block as to_block, Edge as to_edge}
use Rattle.function.proofs.Places.Insts.{length_rows_in}
use Rattle.function.proofs.Places.Lists.{get_within}
use Rattle.function.specs.Answers.{all_insts, inst_of, block_of, last_of, results_of, entry_of_block, entry_of_edge}
use Rattle.function.specs.Numbering.{uses_of, inst_rows, none_before}
use Rattle.reader.specs.Data.{Instruction, Func}
use Rattle.reader.specs.Reading.{block_at}
use Rattle.reader.specs.Within.{Within}
use Rattle.std.proofs.lemmas.Bool.{and_parts, ltb-true, eqb-true, true≢false}

module _ (f : Func) where
  pub insts_each : (i n k : ℕ) → first_fault (inst_tests f i n) ≡ None → k < n → ((row_test f (i + k)).passes ≡ true) × ((numbers_test f (i + k)).passes ≡ true)
  insts_each i n k e h =
      let a = first_passes (row_test f (i + k)) (numbers_test f (i + k) ∷ []) (each_passes (tests_of_inst f) i n k e h) in
      (a.0, (first_passes (numbers_test f (i + k)) [] a.1).0)

  entries_each : (i n k : ℕ) → first_fault (entry_tests f i n) ≡ None → k < n → (entry_test f (i + k)).passes ≡ true
  entries_each i n k e h = (first_passes (entry_test f (i + k)) [] (each_passes (tests_of_entry f) i n k e h)).0

  uses_each : (i n k : ℕ) → first_fault (uses_tests f i n) ≡ None → k < n → (uses_test f (i + k)).passes ≡ true
  uses_each i n k e h = (first_passes (uses_test f (i + k)) [] (each_passes (tests_of_uses f) i n k e h)).0

nth_below : {X : Type 0} (xs : List X) (i : ℕ) (x : X) → slice_get xs i ≡ Some x → i < length xs
nth_below [] i x e = absurd (let z : ◌≡◌ {A = ℕ} 0 1 = cc in omega arith)
nth_below (y ∷ ys) zero x e = omega arith
nth_below (y ∷ ys) (suc i) x e = let h = nth_below ys i x e in omega arith

nth_first : {X : Type 0} (xs : List X) → 1 ≤ length xs → (x : X) × (slice_get xs 0 ≡ Some x)
nth_first [] h = absurd (omega arith)
nth_first (x ∷ xs) h = (x, refl)

same_flags : (a b : Bool) → same_flag a b ≡ true → a ≡ b
same_flags true b e = sym e
same_flags false true e = absurd (true≢false (sym e))
same_flags false false e = refl

is_entry_true : (o : Option ℕ) (e : ℕ) → is_entry o e ≡ true → o ≡ Some e
is_entry_true None e h = absurd (true≢false (sym h))
is_entry_true (Some i) e h = ap Some (eqb-true i e h)

is_before_true : (o : Option ℕ) (e : ℕ) → is_before o e ≡ true → (i : ℕ) × (o ≡ Some i) × (i < e)
is_before_true None e h = absurd (true≢false (sym h))
is_before_true (Some i) e h = (i, refl, ltb-true i e h)

ordered_all : (b p : Bool) → b ≡ true → (not b || p) ≡ true → p ≡ true
ordered_all true p h e = e
ordered_all false p h e = absurd (true≢false (sym h))

zero_entry : (f : Func) (x : Entry) → entry_fits f 0 x ≡ true → x ≡ to_block (block_at 0)
zero_entry f (to_block b) h =
    let a = (and_parts (ltb b.0 (length f.blocks)) _ h).1 in
    let c = (and_parts (is_entry (entry_of_block f b.0) 0) _ a).1 in
    let d = (and_parts (same_flag (eqb 0 0) (eqb b.0 0)) _ c).0 in
    ap (λ n. to_block (record { 0 = n })) (eqb-true b.0 0 d)
zero_entry f (to_edge b k) h =
    let a = (and_parts (ltb b.0 (length f.blocks)) _ h).1 in
    let c = (and_parts (ltb k (length (destinations_of_block f b.0))) _ a).1 in
    let d = (and_parts (is_entry (entry_of_edge f b.0 k) 0) _ c).1 in
    let p = is_before_true (entry_of_block f b.0) 0 d in
    absurd (omega (arith, p.2))

pub facts_hold : (f : Func) → Within f → first_fault (all_tests f) ≡ None → Facts f
facts_hold f w e = record {
  rows = row;
  terminators = λ i x h. terminator i x h;
  values = λ i x h. (and_parts (list_all (value_exists f) (uses_of x)) _ (number i x h)).0;
  destinations = λ i x h. (and_parts (list_all (value_exists f) (uses_of x)) _ (number i x h)).1;
  begins = let o = nth_first f.order w.some_entry in o.1 ∙ ap Some (zero_entry f o.0 (entry 0 o.0 o.1));
  blocks_once = λ k b h.
      let a = and_parts (ltb b.0 (length f.blocks)) _ (entry k (to_block b) h) in
      (ltb-true b.0 (length f.blocks) a.0, is_entry_true (entry_of_block f b.0) k (and_parts (is_entry (entry_of_block f b.0) k) _ a.1).0);
  edges_once = λ k b j h. let a = edge k b j h in (ltb-true j (length (destinations_of_block f b.0)) a.0, is_entry_true (entry_of_edge f b.0 j) k (and_parts (is_entry (entry_of_edge f b.0 j) k) _ a.1).0);
  edges_behind = λ k b j h. is_before_true (entry_of_block f b.0) k (and_parts (is_entry (entry_of_edge f b.0 j) k) _ (edge k b j h).1).1;
  destinations_ordered = λ k b h.
      let a = (and_parts (ltb b.0 (length f.blocks)) _ (entry k (to_block b) h)).1 in
      let c = (and_parts (is_entry (entry_of_block f b.0) k) _ a).1 in
      (and_parts (same_flag (eqb k 0) (eqb b.0 0)) _ c).1;
  uses_behind = λ i b h o. ordered_all (is_some (entry_of_block f b.0)) _ o (sym (ap (uses_fit f i) h) ∙ use_at i b h);
}
  where
    n : ℕ
    n = length (all_insts f)

    insts : first_fault (inst_tests f 0 n) ≡ None
    insts = front_passes (inst_tests f 0 n) (entry_tests f 0 (length f.order) ++ uses_tests f 0 n) e

    rest : first_fault (entry_tests f 0 (length f.order) ++ uses_tests f 0 n) ≡ None
    rest = back_passes (inst_tests f 0 n) (entry_tests f 0 (length f.order) ++ uses_tests f 0 n) e

    at_zero : (i : ℕ) → i ≡ 0 + i
    at_zero i = omega arith

    row : (i : ℕ) (x : Instruction) → inst_of f i ≡ Some x → row_fits f x (last_of f i) (results_of f i) ≡ true
    row i x h =
        sym (ap (λ o. elim o [ None ↦ true | Some y ↦ row_fits f y (last_of f i) (results_of f i) ]) h)
        ∙ ap (λ j. (row_test f j).passes) (at_zero i) ∙ (insts_each f 0 n i insts (nth_below (all_insts f) i x h)).0

    number : (i : ℕ) (x : Instruction) → inst_of f i ≡ Some x → numbers_fit f x ≡ true
    number i x h =
        sym (ap (λ o. elim o [ None ↦ true | Some y ↦ numbers_fit f y ]) h)
        ∙ ap (λ j. (numbers_test f j).passes) (at_zero i) ∙ (insts_each f 0 n i insts (nth_below (all_insts f) i x h)).1

    terminator : (i : ℕ) (x : Instruction) → inst_of f i ≡ Some x → (row_of x.opcode).class.terminator ≡ last_of f i
    terminator i x h =
        let r = row_of x.opcode in
        let s = shape_of x (last_of f i) (results_of f i) in
        let a = (and_parts (shape_fits r s) _ (row i x h)).0 in
        let b = (and_parts (within_span r.operands s.operands) _ a).1 in
        let c = (and_parts (within_span r.results s.results) _ b).1 in
        let d = (and_parts (within_span r.destinations s.destinations) _ c).1 in
        let g = (and_parts (same_flag r.immediate s.immediate) _ d).1 in
        same_flags r.class.terminator (last_of f i) (and_parts (r.flag || not s.flag) _ g).1

    entry : (k : ℕ) (x : Entry) → slice_get f.order k ≡ Some x → entry_fits f k x ≡ true
    entry k x h =
        sym (ap (λ o. elim o [ None ↦ true | Some y ↦ entry_fits f k y ]) h)
        ∙ ap (λ j. (entry_test f j).passes) (at_zero k)
        ∙ entries_each f 0 (length f.order) k (front_passes (entry_tests f 0 (length f.order)) (uses_tests f 0 n) rest) (nth_below f.order k x h)

    edge : (k : ℕ) (b : Block) (j : ℕ) → slice_get f.order k ≡ Some (to_edge b j)
        → (ltb j (length (destinations_of_block f b.0)) ≡ true) × ((is_entry (entry_of_edge f b.0 j) k && is_before (entry_of_block f b.0) k) ≡ true)
    edge k b j h =
        let a = (and_parts (ltb b.0 (length f.blocks)) _ (entry k (to_edge b j) h)).1 in
        and_parts (ltb j (length (destinations_of_block f b.0))) _ a

    use_at : (i : ℕ) (b : Block) → block_of f i ≡ Some b → (uses_test f i).passes ≡ true
    use_at i b h =
        let l = get_within (λ r. r.block) (inst_rows f) i b h in
        ap (λ j. (uses_test f j).passes) (at_zero i)
        ∙ uses_each f 0 n i (back_passes (entry_tests f 0 (length f.order)) (uses_tests f 0 n) rest) (omega (arith, length_rows_in 0 none_before f.blocks))
