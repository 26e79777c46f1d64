-- Uses counted one after another.
use Rattle.std.proofs.Common.{◌≡◌, ℕ, zero, suc, ◌+◌, ◌<◌, ◌≤◌, Bool, true, false, cond, List, [], ◌∷◌, ◌++◌, length, get_or, take, set, Some, None, count_by, Option, sym, refl, ap, ◌∙◌, ⊎_elim, arith, slice_get}
use lib.Seq.{take-set-lt}
use Rattle.analysis.specs.Marks.{turns, Work, stacked, marked, marked_all, is_open, left, counts, Kept}
use Rattle.analysis.specs.Uses.{counted_on, raised}
use Rattle.reader.specs.Data.{Func, Instruction}
use Rattle.function.specs.Answers.{all_insts, inst_of, list_in}
use Rattle.std.specs.List.{flat_map, slice_get}
use Rattle.analysis.specs.declared.states.ValueUseState.{ValueUseState}
use Rattle.analysis.specs.declared.states.ValueUseState.TheVariants.{Unused, Once, Multiple}
use Rattle.clif.specs.declared.entities.Value.{Value}
use Rattle.reader.specs.Reading.{value_at}
use Rattle.std.proofs.lemmas.List.{get_or_past, set_past, length-append, map-append, take_more, append-nil, append_assoc, get_or-take, length-set}
use Rattle.std.proofs.lemmas.List.Sums.{sum_by-set}
use Rattle.std.proofs.lemmas.Bool.{cases_lt}
use Rattle.function.specs.Numbering.{uses_of}
use Rattle.std.specs.Option.{option_map}
use Rattle.storage.specs.Held.{Held, capacity, pushed}

-- one mark, and then others
pub marked_more : (w : Work) (os : List (Option ℕ)) (o : Option ℕ) → marked_all w (os ++ (o ∷ [])) ≡ marked (marked_all w os) o
marked_more w [] o = refl
marked_more w (p ∷ os) o = marked_more (marked w p) os o

pub marked_both : (w : Work) (os ps : List (Option ℕ)) → marked_all w (os ++ ps) ≡ marked_all (marked_all w os) ps
marked_both w [] ps = refl
marked_both w (o ∷ os) ps = marked_both (marked w o) os ps

-- the first of a list, where there is one
pub first_of_list : (xs ys : List Value) → xs ≡ ys → option_map (λ v. v.0) (slice_get xs 0) ≡ option_map (λ v. v.0) (slice_get ys 0)
first_of_list [] ys e = rw (← e)
first_of_list (x ∷ xs) ys e = rw (← e)

-- a mark, by what became of the states and the stack
module _ (w : Work) (v : ℕ) (xs : List ValueUseState) (e : xs ≡ set w.states v (raised (get_or w.states v Multiple))) where
  pub mark_turned : (h : Held Value) → true ≡ turns (get_or w.states v Multiple) → h ≡ pushed (value_at v) w.stack → record { states = xs; stack = h } ≡ marked w (Some v)
  unfolding marked
  mark_turned h t p = rw (← t, p, e)

  pub mark_kept : false ≡ turns (get_or w.states v Multiple) → record { states = xs; stack = w.stack } ≡ marked w (Some v)
  unfolding marked
  mark_kept t = rw (← t, e)

-- a mark leaves no more to do than there was
pushed_length : (x : Value) (h : Held Value) → length (pushed x h).items ≤ length h.items + 1
pushed_length x h = elim h.room as (λ r. length (pushed x (record { items = h.items; room = r })).items ≤ length h.items + 1) [
  | [] ↦ omega arith
  | y ∷ ys ↦ omega (arith, length-append h.items (x ∷ []))
]

stacked_length : (b : Bool) (v : ℕ) (h : Held Value) → length (stacked b v h).items ≤ length h.items + cond b 1 0
stacked_length true v h = pushed_length (value_at v) h
stacked_length false v h = omega arith

weight_raised : (s : ValueUseState) → cond (is_open (raised s)) 1 0 + cond (turns s) 1 0 ≡ cond (is_open s) 1 0
weight_raised Unused = refl
weight_raised Once = refl
weight_raised Multiple = refl

open_mark : (xs : List ValueUseState) (v : ℕ) → count_by is_open (set xs v (raised (get_or xs v Multiple))) + cond (turns (get_or xs v Multiple)) 1 0 ≡ count_by is_open xs
open_mark xs v = ⊎_elim
    (λ (h : v < length xs). let a = sum_by-set (λ s. cond (is_open s) 1 0) xs v (raised (get_or xs v Multiple)) Multiple h in let b = weight_raised (get_or xs v Multiple) in omega arith)
    (λ (h : length xs ≤ v). rw (get_or_past xs v Multiple h, set_past xs v Multiple h) (omega arith))
    (cases_lt v (length xs))

pub left_mark : (w : Work) (o : Option ℕ) → left (marked w o) ≤ left w
unfolding marked left
left_mark w None = omega arith
left_mark w (Some v) =
    let a = open_mark w.states v in
    let b = stacked_length (turns (get_or w.states v Multiple)) v w.stack in omega arith

-- a mark keeps the sizes of table and stack
stacked_capacity : (b : Bool) (v : ℕ) (h : Held Value) → capacity (stacked b v h) ≡ capacity h
stacked_capacity true v h = elim h.room as (λ r. capacity (pushed (value_at v) (record { items = h.items; room = r })) ≡ capacity (record { items = h.items; room = r })) [
  | [] ↦ refl
  | y ∷ ys ↦ omega (arith, length-append h.items (value_at v ∷ []))
]
stacked_capacity false v h = refl

pub kept_mark : (w : Work) (o : Option ℕ) → Kept w (marked w o)
unfolding marked
kept_mark w None = record { falls = left_mark w None; size = (refl, refl) }
kept_mark w (Some v) = record {
  falls = left_mark w (Some v);
  size = (length-set w.states v (raised (get_or w.states v Multiple)), stacked_capacity (turns (get_or w.states v Multiple)) v w.stack);
}

pub kept_same : (w : Work) → Kept w w
kept_same w = record { falls = omega arith; size = (refl, refl) }

pub kept_more : (start w next : Work) → Kept start w → Kept w next → Kept start next
kept_more start w next a b = record { falls = omega (arith, a.falls, b.falls); size = (b.size.0 ∙ a.size.0, b.size.1 ∙ a.size.1) }

-- one use more of an instruction; one instruction more
pub use_more : (f : Func) (start w next : Work) (us : List Value) (i : ℕ) (d : Value) → i < length us
    → w ≡ marked_all start (counts f (take i us)) → next ≡ marked w (counted_on f (get_or us i d).0)
    → next ≡ marked_all start (counts f (take (i + 1) us))
use_more f start w next us i d h e n =
    let m = marked_more start (counts f (take i us)) (counted_on f (get_or us i d).0) in
    let t = ap (counts f) (take_more us i d h) in
    let a = map-append (λ u. counted_on f u.0) (take i us) (get_or us i d ∷ []) in
    let z = ap (λ o. marked o (counted_on f (get_or us i d).0)) e in
    n ∙ z ∙ sym m ∙ sym (ap (marked_all start) (t ∙ a))

joined_more : (xs : List Instruction) (i : ℕ) → i < length xs → flat_map uses_of (take (i + 1) xs) ≡ flat_map uses_of (take i xs) ++ list_in (slice_get xs i) uses_of
joined_more [] i h = absurd (omega arith)
joined_more (x ∷ xs) zero h = append-nil (uses_of x)
joined_more (x ∷ xs) (suc i) h =
    let e : suc i + 1 ≡ suc (i + 1) = omega arith in
    rw e (ap (λ l. uses_of x ++ l) (joined_more xs i (omega arith)) ∙ sym (append_assoc (uses_of x) (flat_map uses_of (take i xs)) (list_in (slice_get xs i) uses_of)))

pub inst_more : (f : Func) (start w next : Work) (i : ℕ) → i < length (all_insts f)
    → w ≡ marked_all start (counts f (flat_map uses_of (take i (all_insts f)))) → next ≡ marked_all w (counts f (list_in (inst_of f i) uses_of))
    → next ≡ marked_all start (counts f (flat_map uses_of (take (i + 1) (all_insts f))))
inst_more f start w next i h e n =
    let before = flat_map uses_of (take i (all_insts f)) in
    let here = list_in (inst_of f i) uses_of in
    let m = marked_both start (counts f before) (counts f here) in
    let t = ap (counts f) (joined_more (all_insts f) i h) in
    let a = map-append (λ u. counted_on f u.0) before here in
    let z = ap (λ o. marked_all o (counts f here)) e in
    n ∙ z ∙ sym m ∙ sym (ap (marked_all start) (t ∙ a))

-- one less on the stack
pub left_popped : (w : Work) (next : Held Value) (x : Value) → w.stack.items ≡ next.items ++ (x ∷ []) → left (record { states = w.states; stack = next }) + 1 ≡ left w
unfolding left
left_popped w next x e = omega (arith, ap (λ (l : List Value). length l) e, length-append next.items (x ∷ []))

pub kept_popped : (w : Work) (next : Held Value) (x : Value) → w.stack.items ≡ next.items ++ (x ∷ []) → next.room ≡ x ∷ w.stack.room → Kept w (record { states = w.states; stack = next })
kept_popped w next x e r = record {
  falls = omega (arith, left_popped w next x e);
  size = (refl, omega (arith, ap (λ (l : List Value). length l) e, ap (λ (l : List Value). length l) r, length-append next.items (x ∷ [])));
}

-- the same within the first n states
pub open_mark_in : (n : ℕ) (xs : List ValueUseState) (v : ℕ) → v < n → count_by is_open (take n (set xs v (raised (get_or xs v Multiple)))) + cond (turns (get_or xs v Multiple)) 1 0 ≡ count_by is_open (take n xs)
open_mark_in n xs v h = rw (take-set-lt n xs v (raised (get_or xs v Multiple)) h, ← get_or-take n xs v Multiple h) (open_mark (take n xs) v)
