-- Reading and writing undo each other: the law of the format.
use Rattle.std.proofs.Common.{◌≡◌, ℕ, ◌≤◌, Bool, true, false, cond, eqb, List, [], ◌++◌, length, sym, refl, ap, ◌∙◌, subst, arith}
use Rattle.reader.specs.Data.{Func, limit}
use Rattle.reader.specs.Within.{Within}
use Rattle.reader.specs.Writing.{encode}
use Rattle.reader.specs.Reading.{Spot, Read, got, fault, done, refused, ended, place, func, start, no_totals, Bytes, total}
use Rattle.reader.specs.Laws.{FormatLaw}
use Rattle.reader.specs.declared.totals.Kind.{Kind}
use Rattle.reader.specs.declared.totals.Kind.TheVariants.{Blocks, Insts, Values, Operands, Entries}
use Rattle.reader.proofs.Format.Costs.{Under, add, each, total_add, total_none}
use Rattle.reader.proofs.Format.Records.{FitsFunc, func_cost, func_codes}
use Rattle.std.proofs.lemmas.List.{append-nil, nil_from_length}
use Rattle.std.proofs.lemmas.Bool.{eqb-true}

-- a file that is done was read to its end
ended_done : {A : Type 0} (size : ℕ) (r : Read A) (a : A) → ended size r ≡ done a → (u : Spot) × (r ≡ got a u) × (u.rest ≡ [])
ended_done size (got b u) a h = go (eqb (length u.rest) 0) refl h
  where
    go : (t : Bool) → eqb (length u.rest) 0 ≡ t → cond t (done b) (refused 1 (place size u)) ≡ done a → (v : Spot) × (got b u ≡ got a v) × (v.rest ≡ [])
    go true t e = let same : b ≡ a = cc in (u, ap (λ x. got x u) same, nil_from_length u.rest (eqb-true (length u.rest) 0 t))
    go false t e = let z : ◌≡◌ {A = ℕ} 0 1 = cc in absurd (omega arith)
ended_done size (fault n p) a h = let z : ◌≡◌ {A = ℕ} 0 1 = cc in absurd (omega arith)

under_none : Under no_totals
under_none k = omega (arith, total_none k)

-- a function's totals from none
from_none : (f : Func) (k : Kind) → total k (add no_totals (func_cost f)) ≡ func_cost f k
from_none f k = omega (arith, total_add no_totals (func_cost f) k, total_none k)

-- within the limits: its parts fit, and so do its totals
apart : (f : Func) → Within f → FitsFunc f × Under (add no_totals (func_cost f))
apart f w = (
  record { some_block = w.some_block; some_entry = w.some_entry; each_block = w.each_block; each_entry = w.each_entry },
  λ k. rw (from_none f k) (each (λ k. func_cost f k ≤ limit k) w.few_blocks w.few_insts w.few_values w.few_operands w.few_entries k),
)

together : (f : Func) → FitsFunc f → Under (add no_totals (func_cost f)) → Within f
together f h l =
    let few : (k : Kind) → func_cost f k ≤ limit k = λ k. rw from_none at (l k) in
    record {
      some_block = h.some_block;
      some_entry = h.some_entry;
      each_block = h.each_block;
      each_entry = h.each_entry;
      few_blocks = few Blocks;
      few_insts = few Insts;
      few_values = few Values;
      few_operands = few Operands;
      few_entries = few Entries;
    }

-- a file reads as f exactly if it is the bytes of f, and f is within the limits
pub format_law : (xs : List ℕ) → Bytes xs → FormatLaw xs
format_law xs bs f = (
  λ h.
      let (u, e, end) = ended_done (length xs) (func (length xs) (start xs)) f h in
      let c = func_codes.back (length xs) (start xs) f u bs under_none e in
      (c.bytes ∙ (ap (λ x. encode f ++ x) end ∙ append-nil (encode f)), together f c.fits (subst Under c.raise c.under)),
  λ (same, within).
      let (fits, few) = apart f within in
      let all = same ∙ sym (append-nil (encode f)) in
      ap (λ x. ended (length xs) (func (length xs) (start x))) all ∙ ap (ended (length xs)) (func_codes.there (length xs) f [] no_totals fits few),
)
