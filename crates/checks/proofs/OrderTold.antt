-- What the tables say of an entry of the order, once the rows fit.
use Rattle.std.proofs.Common.{◌≡◌, ℕ, zero, suc, ◌+◌, ◌<◌, ◌≤◌, Bool, true, false, cond, ◌&&◌, eqb, ltb, List, [], ◌∷◌, length, is_some, Some, None, Option, sym, refl, ap, ◌∙◌, ⊎_elim, arith, slice_get}
use Rattle.checks.specs.Checks.{entry_fits, destinations_of_block, is_entry, is_before, same_flag, row_test, row_fits}
use Rattle.checks.specs.Steps.{maybe_ordered, kept_entry_fits, InstsPass}
use Rattle.std.specs.List.{list_all}
use Rattle.checks.proofs.FactsHold.{insts_each}
use Rattle.checks.proofs.NumberTold.{two_pass, row_says}
use Rattle.function.proofs.Places.Ends.{ending_is_last}
use Rattle.function.proofs.Places.Insts.{inst_there, last_is_ending}
use Rattle.reader.specs.Reading.{block_at}
use Rattle.reader.specs.Within.{Within}
use Rattle.clif.specs.declared.entities.Entry.{Entry}
use Rattle.clif.specs.declared.entities.Entry.TheVariants.{Block as to_block, Edge as to_edge}
use Rattle.std.specs.Option.{option_map}
use Rattle.function.specs.declared.function.BlockCall.{BlockCall}
use Rattle.function.specs.Answers.{call_of, ending_of, entry_of_block, entry_of_edge, option_in, list_in, all_insts, last_of, results_of}
use Rattle.reader.specs.Data.{Destination, Instruction, Func}
use Rattle.std.proofs.lemmas.Bool.{lt-ltb, le-ltb, cases_lt, ltb-true}

nth_some : {X : Type 0} (xs : List X) (k : ℕ) → is_some (slice_get xs k) ≡ ltb k (length xs)
nth_some [] k = sym (le-ltb k 0 (omega arith))
nth_some (x ∷ xs) zero = sym (lt-ltb 0 (suc (length xs)) (omega arith))
nth_some (x ∷ xs) (suc k) = nth_some xs k ∙ shift
  where
    shift : ltb k (length xs) ≡ ltb (suc k) (suc (length xs))
    shift = ⊎_elim (λ (h : k < length xs). lt-ltb k (length xs) h ∙ sym (lt-ltb (suc k) (suc (length xs)) (omega arith)))
        (λ (h : length xs ≤ k). le-ltb k (length xs) h ∙ sym (le-ltb (suc k) (suc (length xs)) (omega arith))) (cases_lt k (length xs))

-- of a block's destinations, at most two, the tables keep all
module _ (f : Func) (o : Option Instruction) (few : length (list_in o (λ x. x.destinations)) ≤ 2) where
  ordered_kept : (maybe_ordered f (option_in o (λ x. slice_get x.destinations 0)) && maybe_ordered f (option_in o (λ x. slice_get x.destinations 1)))
      ≡ list_all (λ d. is_some (entry_of_block f d.target.0)) (list_in o (λ x. x.destinations))
  ordered_kept = go o few
    where
      go : (o : Option Instruction) → length (list_in o (λ x. x.destinations)) ≤ 2
          → (maybe_ordered f (option_in o (λ x. slice_get x.destinations 0)) && maybe_ordered f (option_in o (λ x. slice_get x.destinations 1)))
          ≡ list_all (λ d. is_some (entry_of_block f d.target.0)) (list_in o (λ x. x.destinations))
      go None h = refl
      go (Some x) h = two_pass (λ d. is_some (entry_of_block f d.target.0)) (maybe_ordered f) refl (λ d. refl) x.destinations h

  leads_kept : (k : ℕ) → is_some (cond (ltb k 2) (option_in o (λ x. slice_get x.destinations k)) None) ≡ ltb k (length (list_in o (λ x. x.destinations)))
  leads_kept k = ⊎_elim
      (λ (h : k < 2). ap (λ t. is_some (cond t (option_in o (λ x. slice_get x.destinations k)) None)) (lt-ltb k 2 h) ∙ go o)
      (λ (h : 2 ≤ k). ap (λ t. is_some (cond t (option_in o (λ x. slice_get x.destinations k)) None)) (le-ltb k 2 h) ∙ sym (le-ltb k _ (omega arith)))
      (cases_lt k 2)
    where
      go : (o : Option Instruction) → is_some (option_in o (λ x. slice_get x.destinations k)) ≡ ltb k (length (list_in o (λ x. x.destinations)))
      go None = sym (le-ltb k 0 (omega arith))
      go (Some x) = nth_some x.destinations k

-- a destination that was handed out is there
pub leads_is : (o : Option BlockCall) (p : Option Destination) → option_map call_of o ≡ p → is_some o ≡ is_some p
leads_is None p e = ap is_some e
leads_is (Some d) p e = ap is_some e

under : (b p q : Bool) → (b ≡ true → p ≡ q) → (b && p) ≡ (b && q)
under true p q h = h refl
under false p q h = refl

pub entry_told : (f : Func) → ((b : ℕ) → b < length f.blocks → length (destinations_of_block f b) ≤ 2) → (e : ℕ) (x : Entry) → kept_entry_fits f e x ≡ entry_fits f e x
entry_told f few e (to_block b) = under (ltb b.0 (length f.blocks)) _ _ λ t.
    ap (λ u. is_entry (entry_of_block f b.0) e && (same_flag (eqb e 0) (eqb b.0 0) && u)) (ordered_kept f (ending_of f b.0) (few b.0 (ltb-true b.0 (length f.blocks) t)))
entry_told f few e (to_edge b k) = under (ltb b.0 (length f.blocks)) _ _ λ t.
    ap (λ u. u && (is_entry (entry_of_edge f b.0 k) e && is_before (entry_of_block f b.0) e)) (leads_kept f (ending_of f b.0) (few b.0 (ltb-true b.0 (length f.blocks) t)) k)

-- every row fits, so no block has more than two destinations
pub few_kept : (f : Func) → Within f → InstsPass f → (b : ℕ) → b < length f.blocks → length (destinations_of_block f b) ≤ 2
few_kept f w p b h =
    let (i, l, last, blk) = ending_is_last f w b h in
    let (x, c, ix, cx) = inst_there f i l in
    let end = last_is_ending f i (block_at b) last blk ∙ ix in
    let row = ap (λ j. (row_test f j).passes) (let z : i ≡ 0 + i = omega arith in z) ∙ (insts_each f 0 (length (all_insts f)) i p l).0 in
    let r : row_fits f x (last_of f i) (results_of f i) ≡ true = sym (ap (λ o. elim o [ None ↦ true | Some y ↦ row_fits f y (last_of f i) (results_of f i) ]) ix) ∙ row in
    let few = (row_says f x (last_of f i) (results_of f i) r).0 in
    let e : length (destinations_of_block f b) ≡ length x.destinations = ap (λ o. length (list_in o (λ y. y.destinations))) end in
    omega arith
