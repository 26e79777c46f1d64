-- Counting uses ends in the least solution.
use Rattle.std.proofs.Common.{◌≡◌, ℕ, zero, suc, ◌+◌, ◌-◌, ◌<◌, ◌≤◌, min, Bool, true, false, cond, eqb, ◌⊎◌, List, [], ◌∷◌, ◌++◌, length, get_or, take, drop, set, replicate, Some, None, count_by, Option, sym, refl, ap, ◌∙◌, subst, inl, inr, ⊎_elim, arith, slice_get}
use Rattle.analysis.proofs.Defined.{first_def}
use Rattle.analysis.proofs.Marking.{open_mark_in}
use Rattle.analysis.specs.Marks.{turns, Work, stacked, marked, marked_all, is_open, counts, Waits, ManyNow, AllMany, Sure, Closed, inst_of_def, uses_behind, Sound, Going, Went, Beyond, Worked, cleared}
use Rattle.analysis.specs.Uses.{first_result_of, counted_by, counted_on, is_value, counts_on, uses, use_count, used_by, Many, twice, again, StateOf, StateLaw, UseStatesFound, Enough, raised}
use Rattle.analysis.specs.declared.states.ValueUseState.{ValueUseState}
use Rattle.analysis.specs.declared.states.ValueUseState.TheVariants.{Unused, Once, Multiple}
use Rattle.clif.specs.declared.entities.Value.{Value}
use Rattle.function.proofs.Places.Lists.{get_within}
use Rattle.function.specs.Answers.{all_insts, inst_of, list_in, def_of_value}
use Rattle.function.specs.Numbering.{uses_of, value_rows, inst_number}
use Rattle.function.specs.declared.rows.ValueDef.{ValueDef}
use Rattle.function.specs.declared.rows.ValueDef.TheVariants.{Param, Result}
use Rattle.reader.specs.Data.{Func, Instruction}
use Rattle.reader.specs.Reading.{value_at}
use Rattle.std.proofs.lemmas.List.{get_or_past, get_or-set_same, get_or-set_other, length-set, append_assoc, append-nil, length-replicate, get_or-replicate, get_or_append_left, length-take, length-append, length-drop, get_or-append-add, get_or-drop, get_or_default, drop_all}
use Rattle.std.proofs.lemmas.List.Sums.{sum_by-cons, sum_by-append, sum_by_push, count_by-le-length}
use Rattle.std.proofs.lemmas.Bool.{cases_lt, cases_eq, eqb-true, eq-eqb, ne_eqb}
use Rattle.std.specs.List.{flat_map}
use Rattle.storage.specs.Held.{Held, pushed}

-- Values on which uses count

some_none : {X : Type 0} {x : X} → None ≡ Some x → ⊥
some_none e = let z : ◌≡◌ {A = ℕ} 0 1 = cc in omega arith

-- a value on which a use counts is counted on itself
counted_twice : (f : Func) (u w : ℕ) (d : Option ValueDef) → def_of_value f u ≡ d → counted_by f u d ≡ Some w → counted_on f w ≡ Some w
unfolding counted_on
counted_twice f u w None h e = absurd (some_none e)
counted_twice f u w (Some (Param b k)) h e = let same : u ≡ w = cc in subst (λ v. counted_by f v (def_of_value f v) ≡ Some v) same (ap (counted_by f u) h)
counted_twice f u w (Some (Result i k)) h e = ap (counted_by f w) (first_def f i.0 w e) ∙ e

pub counted_self : (f : Func) (u w : ℕ) → counted_on f u ≡ Some w → counted_on f w ≡ Some w
unfolding counted_on
counted_self f u w e = counted_twice f u w (def_of_value f u) refl e

counted_there : (f : Func) (u w : ℕ) (d : Option ValueDef) → def_of_value f u ≡ d → counted_by f u d ≡ Some w → u < length (value_rows f)
counted_there f u w None h e = absurd (some_none e)
counted_there f u w (Some d) h e = get_within (λ r. r.def) (value_rows f) u d h

pub counted_below : (f : Func) (u w : ℕ) → counted_on f u ≡ Some w → u < length (value_rows f)
unfolding counted_on
counted_below f u w e = counted_there f u w (def_of_value f u) refl e

-- One mark

module _ (w : Work) (v : ℕ) where
  pub at_same : get_or (marked w (Some v)).states v Multiple ≡ raised (get_or w.states v Multiple)
  unfolding marked
  at_same = ⊎_elim
      (λ (h : v < length w.states). get_or-set_same w.states v (raised (get_or w.states v Multiple)) Multiple h)
      (λ (h : length w.states ≤ v).
      let a = get_or_past (set w.states v (raised (get_or w.states v Multiple))) v Multiple (omega (arith, length-set w.states v (raised (get_or w.states v Multiple)))) in
      let b = get_or_past w.states v Multiple h in a ∙ sym (ap raised b))
      (cases_lt v (length w.states))

  pub at_other : (u : ℕ) → (u ≡ v → ⊥) → get_or (marked w (Some v)).states u Multiple ≡ get_or w.states u Multiple
  unfolding marked
  at_other u n = get_or-set_other w.states v u (raised (get_or w.states v Multiple)) Multiple n

raised_stays : (s : ValueUseState) → s ≡ Multiple → raised s ≡ Multiple
raised_stays s e = ap raised e

-- what is Multiple stays so
pub many_stays : (w : Work) (o : Option ℕ) (u : ℕ) → get_or w.states u Multiple ≡ Multiple → get_or (marked w o).states u Multiple ≡ Multiple
unfolding marked
many_stays w None u e = e
many_stays w (Some v) u e = ⊎_elim
    (λ (h : u ≡ v). subst (λ x. get_or (marked w (Some v)).states x Multiple ≡ Multiple) (sym h) (at_same w v ∙ raised_stays (get_or w.states v Multiple) (subst (λ x. get_or w.states x Multiple ≡ Multiple) h e)))
    (λ (h : u ≡ v → ⊥). at_other w v u h ∙ e)
    (cases_eq u v)

-- Waiting

waits_front : (v : ℕ) (xs ys : List Value) → Waits v xs → Waits v (xs ++ ys)
waits_front v [] ys h = absurd h
waits_front v (x ∷ xs) ys (inl e) = inl e
waits_front v (x ∷ xs) ys (inr h) = inr (waits_front v xs ys h)

waits_last : (v : ℕ) (xs : List Value) (x : Value) → x.0 ≡ v → Waits v (xs ++ (x ∷ []))
waits_last v [] x e = inl e
waits_last v (y ∷ xs) x e = inr (waits_last v xs x e)

waits_cases : (v : ℕ) (xs : List Value) (x : Value) → Waits v (xs ++ (x ∷ [])) → Waits v xs ⊎ (x.0 ≡ v)
waits_cases v [] x (inl e) = inr e
waits_cases v [] x (inr h) = absurd h
waits_cases v (y ∷ xs) x (inl e) = inl (inl e)
waits_cases v (y ∷ xs) x (inr h) = ⊎_elim (λ g. inl (inr g)) (λ e. inr e) (waits_cases v xs x h)

-- where there is room, the element goes on the stack
record Grown (x : Value) (h g : Held Value) : Type 0 where
  items : g.items ≡ h.items ++ (x ∷ [])
  room : length g.room + 1 ≡ length h.room

grown : (x : Value) (items room : List Value) → 1 ≤ length room → Grown x (record { items = items; room = room }) (pushed x (record { items = items; room = room }))
grown x items [] l = absurd (omega arith)
grown x items (y ∷ ys) l = record { items = refl; room = omega arith }

turned_stack : (v : ℕ) (h : Held Value) (b : Bool) → b ≡ true → 1 ≤ length h.room → Grown (value_at v) h (stacked b v h)
turned_stack v h true e l = grown (value_at v) h.items h.room l
turned_stack v h false e l = let z : ◌≡◌ {A = ℕ} 0 1 = cc in absurd (omega arith)

kept_stack : (v : ℕ) (h : Held Value) (b : Bool) → b ≡ false → stacked b v h ≡ h
kept_stack v h b e = rw e

bit_true : (b : Bool) → b ≡ true → cond {A = ℕ} b 1 0 ≡ 1
bit_true b e = rw e

bit_false : (b : Bool) → b ≡ false → cond {A = ℕ} b 1 0 ≡ 0
bit_false b e = rw e

bool_cases : (b : Bool) → (b ≡ true) ⊎ (b ≡ false)
bool_cases true = inl refl
bool_cases false = inr refl

turned_many : (x : ValueUseState) → turns x ≡ true → raised x ≡ Multiple
turned_many Unused t = let z : ◌≡◌ {A = ℕ} 0 1 = cc in absurd (omega arith)
turned_many Once t = refl
turned_many Multiple t = refl

module _ (f : Func) (w : Work) (s : Sound f w) (v : ℕ) (self : counted_on f v ≡ Some v) where
  abbrev turn : Bool
  turn = turns (get_or w.states v Multiple)

  room_there : turn ≡ true → 1 ≤ length w.stack.room
  room_there e = let a = open_mark_in (length (value_rows f)) w.states v (counted_below f v v self) in let one = bit_true turn e in omega (arith, s.room)

  sound_some : Sound f (marked w (Some v))
  unfolding marked
  sound_some = ⊎_elim
      (λ (e : turn ≡ true).
      let g = turned_stack v w.stack turn e (room_there e) in
      let a = open_mark_in (length (value_rows f)) w.states v (counted_below f v v self) in
      let one = bit_true turn e in
      record {
        room = omega (arith, s.room, g.room);
        firsts = λ u h. ⊎_elim (λ i. s.firsts u i) (λ (q : v ≡ u). subst (λ x. counted_on f x ≡ Some x) q self) (waits_cases u w.stack.items (value_at v) (subst (Waits u) g.items h));
        full = λ u h. ⊎_elim (λ i. many_stays w (Some v) u (s.full u i)) (λ (q : v ≡ u). subst (λ x. get_or (marked w (Some v)).states x Multiple ≡ Multiple) q (at_same w v ∙ turned_many (get_or w.states v Multiple) e)) (waits_cases u w.stack.items (value_at v) (subst (Waits u) g.items h));
      })
      (λ (e : turn ≡ false).
      let k = kept_stack v w.stack turn e in
      let a = open_mark_in (length (value_rows f)) w.states v (counted_below f v v self) in
      let none = bit_false turn e in
      let same : length (stacked turn v w.stack).room ≡ length w.stack.room = ap (λ (h : Held Value). length h.room) k in
      record {
        room = omega (arith, s.room);
        firsts = λ u h. s.firsts u (subst (λ (q : Held Value). Waits u q.items) k h);
        full = λ u h. many_stays w (Some v) u (s.full u (subst (λ (q : Held Value). Waits u q.items) k h));
      })
      (bool_cases turn)

  waits_some : (u : ℕ) (more : List Value) → Waits u (more ++ w.stack.items) → Waits u (more ++ (marked w (Some v)).stack.items)
  unfolding marked
  waits_some u more h = ⊎_elim
      (λ (e : turn ≡ true).
      let g = turned_stack v w.stack turn e (room_there e) in
      subst (λ xs. Waits u (more ++ xs)) (sym g.items) (subst (Waits u) (append_assoc more w.stack.items (value_at v ∷ [])) (waits_front u (more ++ w.stack.items) (value_at v ∷ []) h)))
      (λ (e : turn ≡ false). subst (λ (q : Held Value). Waits u (more ++ q.items)) (sym (kept_stack v w.stack turn e)) h)
      (bool_cases turn)

  -- what becomes Multiple waits
  waits_new : (more : List Value) → get_or (marked w (Some v)).states v Multiple ≡ Multiple → (get_or w.states v Multiple ≡ Multiple) ⊎ Waits v (more ++ (marked w (Some v)).stack.items)
  unfolding marked
  waits_new more h = ⊎_elim
      (λ (e : turn ≡ true).
      let g = turned_stack v w.stack turn e (room_there e) in
      inr (subst (λ xs. Waits v (more ++ xs)) (sym g.items) (subst (Waits v) (append_assoc more w.stack.items (value_at v ∷ [])) (waits_last v (more ++ w.stack.items) (value_at v) refl))))
      (λ (e : turn ≡ false). inl (was_many (get_or w.states v Multiple) e (sym (at_same w v) ∙ h)))
      (bool_cases turn)
    where
      was_many : (x : ValueUseState) → turns x ≡ false → raised x ≡ Multiple → x ≡ Multiple
      was_many Unused t r = let z : ◌≡◌ {A = ℕ} 0 1 = cc in absurd (omega arith)
      was_many Once t r = let z : ◌≡◌ {A = ℕ} 0 1 = cc in absurd (omega arith)
      was_many Multiple t r = refl

-- a mark on a value that is Multiple for sure
pub record Fair (f : Func) (o : Option ℕ) : Type 0 where
  pub many : (v : ℕ) → o ≡ Some v → Many f v
  pub used : (v : ℕ) → o ≡ Some v → 1 ≤ use_count f v
  pub self : (v : ℕ) → o ≡ Some v → counted_on f v ≡ Some v

raised_many : (f : Func) (v : ℕ) (s : ValueUseState) → 1 ≤ use_count f v → Sure f v s → raised s ≡ Multiple
raised_many f v Unused l h = absurd (omega arith)
raised_many f v Once l h = refl
raised_many f v Multiple l h = refl

sure_many : (f : Func) (v : ℕ) (s : ValueUseState) → s ≡ Multiple → Many f v → Sure f v s
sure_many f v s e h = subst (Sure f v) (sym e) h

pub all_stays : (w : Work) (o : Option ℕ) (os : List (Option ℕ)) → AllMany w.states os → AllMany (marked w o).states os
all_stays w o [] h = tt
all_stays w o (None ∷ os) h = (tt, all_stays w o os h.1)
all_stays w o (Some v ∷ os) h = (many_stays w o v h.0, all_stays w o os h.1)

module _ (f : Func) (more : List Value) (w : Work) (g : Going f more w) (v : ℕ) (fair : Fair f (Some v)) where
  abbrev after : Work
  after = marked w (Some v)

  many_after : v < length (value_rows f) → get_or after.states v Multiple ≡ Multiple
  many_after l = at_same w v ∙ raised_many f v (get_or w.states v Multiple) (fair.used v refl) (g.each v l)

  each_after : (u : ℕ) → u < length (value_rows f) → Sure f u (get_or after.states u Multiple)
  each_after u l = ⊎_elim
      (λ (e : u ≡ v). sure_many f u (get_or after.states u Multiple) (subst (λ x. get_or after.states x Multiple ≡ Multiple) (sym e) (many_after (subst (λ x. x < length (value_rows f)) e l))) (subst (Many f) (sym e) (fair.many v refl)))
      (λ (e : u ≡ v → ⊥). subst (Sure f u) (sym (at_other w v u e)) (g.each u l))
      (cases_eq u v)

  keep : (u : ℕ) → Waits u (more ++ w.stack.items) ⊎ Closed f w.states u → Waits u (more ++ after.stack.items) ⊎ Closed f after.states u
  keep u (inl h) = inl (waits_some f w g.sound v (fair.self v refl) u more h)
  keep u (inr h) = inr (all_stays w (Some v) (counts f (uses_behind f u)) h)

  closed_after : (u : ℕ) → u < length (value_rows f) → get_or after.states u Multiple ≡ Multiple → Waits u (more ++ after.stack.items) ⊎ Closed f after.states u
  closed_after u l h = ⊎_elim
      (λ (e : u ≡ v). subst (λ x. Waits x (more ++ after.stack.items) ⊎ Closed f after.states x) (sym e)
      (⊎_elim (λ q. keep v (g.closed v (subst (λ x. x < length (value_rows f)) e l) q)) (λ q. inl q)
      (waits_new f w g.sound v (fair.self v refl) more (subst (λ x. get_or after.states x Multiple ≡ Multiple) e h))))
      (λ (e : u ≡ v → ⊥). keep u (g.closed u l (sym (at_other w v u e) ∙ h)))
      (cases_eq u v)

  going_some : Going f more after
  going_some = record { sound = sound_some f w g.sound v (fair.self v refl); each = each_after; closed = closed_after }

pub going_mark : (f : Func) (more : List Value) (w : Work) (o : Option ℕ) → Going f more w → Fair f o → Going f more (marked w o) × ManyNow (marked w o).states o
unfolding marked
going_mark f more w None g fair = (g, tt)
going_mark f more w (Some v) g fair = (going_some f more w g v fair, many_after f more w g v fair (counted_below f v v (fair.self v refl)))

-- one after another
abbrev pub AllFair : Func → List (Option ℕ) → Type 0
AllFair f [] = Unit {0}
AllFair f (o ∷ os) = Fair f o × AllFair f os

now_stays : (w : Work) (o p : Option ℕ) → ManyNow w.states o → ManyNow (marked w p).states o
now_stays w None p h = tt
now_stays w (Some v) p h = many_stays w p v h

now_stays_all : (w : Work) (o : Option ℕ) (ps : List (Option ℕ)) → ManyNow w.states o → ManyNow (marked_all w ps).states o
now_stays_all w o [] h = h
now_stays_all w o (p ∷ ps) h = now_stays_all (marked w p) o ps (now_stays w o p h)

pub going_all : (f : Func) (more : List Value) (w : Work) (os : List (Option ℕ)) → Going f more w → AllFair f os → Going f more (marked_all w os) × AllMany (marked_all w os).states os
going_all f more w [] g fair = (g, tt)
going_all f more w (o ∷ os) g fair =
    let (h, m) = going_mark f more w o g fair.0 in
    let (r, a) = going_all f more (marked w o) os h fair.1 in
    (r, (now_stays_all (marked w o) o os m, a))

-- Taking a value up

part_count : (p : Value → Bool) (xs : List Instruction) (i : ℕ) → count_by p (list_in (slice_get xs i) uses_of) ≤ count_by p (flat_map uses_of xs)
part_count p [] i = omega arith
part_count p (x ∷ xs) zero = omega (arith, sum_by-append (λ u. cond (p u) 1 0) (uses_of x) (flat_map uses_of xs))
part_count p (x ∷ xs) (suc i) = omega (arith, sum_by-append (λ u. cond (p u) 1 0) (uses_of x) (flat_map uses_of xs), part_count p xs i)

used_once : (f : Func) (u : Value) (v : ℕ) → counted_on f u.0 ≡ Some v → cond {A = ℕ} (counts_on f v u) 1 0 ≡ 1
used_once f u v e = bit_true (counts_on f v u) (ap (λ o. is_value o v) e ∙ eq-eqb v v refl)

-- what the instruction uses whose first result is p, a Multiple value
module _ (f : Func) (p : ℕ) (m : Many f p) (i : ℕ) (first : first_result_of f i ≡ Some p) where
  fair_list : (us : List Value) → ((v : ℕ) → count_by (counts_on f v) us ≤ used_by f i v) → AllFair f (counts f us)
  fair_list [] h = tt
  fair_list (u ∷ us) h =
      let here : (v : ℕ) → counted_on f u.0 ≡ Some v → 1 ≤ used_by f i v =
      λ v e. omega (arith, h v, sum_by-cons (λ x. cond (counts_on f v x) 1 0) u us, used_once f u v e) in
      let rest : (v : ℕ) → count_by (counts_on f v) us ≤ used_by f i v =
      λ v. omega (arith, h v, sum_by-cons (λ x. cond (counts_on f v x) 1 0) u us) in
      let fair : Fair f (counted_on f u.0) = record {
        many = λ v e. again i (here v e) first m;
        used = λ v e. omega (arith, here v e, part_count (counts_on f v) (all_insts f) i);
        self = λ v e. counted_self f u.0 v e;
      } in
      (fair, fair_list us rest)

fair_behind_in : (f : Func) (p : ℕ) (d : Option ValueDef) → Many f p → counted_by f p d ≡ Some p → AllFair f (counts f (list_in (inst_of_def d) (λ i. list_in (inst_of f i.0) uses_of)))
fair_behind_in f p None m e = tt
fair_behind_in f p (Some (Param b k)) m e = tt
fair_behind_in f p (Some (Result i k)) m e = fair_list f p m i.0 e (list_in (inst_of f i.0) uses_of) (λ v. omega arith)

fair_behind : (f : Func) (p : ℕ) → Many f p → counted_on f p ≡ Some p → AllFair f (counts f (uses_behind f p))
unfolding counted_on
fair_behind f p m e = fair_behind_in f p (def_of_value f p) m e

-- the value that is taken up is closed afterwards
module _ (f : Func) (w : Work) (g : Going f [] w) (x : Value) (next : Held Value) (items : w.stack.items ≡ next.items ++ (x ∷ [])) (room : next.room ≡ x ∷ w.stack.room) where
  waited : Waits x.0 w.stack.items
  waited = subst (Waits x.0) (sym items) (waits_last x.0 next.items x refl)

  left_waiting : (v : ℕ) → Waits v next.items → Waits v w.stack.items
  left_waiting v h = subst (Waits v) (sym items) (waits_front v next.items (x ∷ []) h)

  abbrev popped : Work
  popped = record { states = w.states; stack = next }

  going_popped : Going f (x ∷ []) popped
  going_popped = record {
    sound = record {
      room = omega (arith, g.sound.room, ap (λ (l : List Value). length l) room);
      firsts = λ v h. g.sound.firsts v (left_waiting v h);
      full = λ v h. g.sound.full v (left_waiting v h);
    };
    each = g.each;
    closed = λ v l h. ⊎_elim
        (λ q. ⊎_elim (λ r. inl (inr r)) (λ (r : x.0 ≡ v). inl (inl r)) (waits_cases v next.items x (subst (Waits v) items q)))
        (λ q. inr q)
        (g.closed v l h);
  }

  self : counted_on f x.0 ≡ Some x.0
  self = g.sound.firsts x.0 waited

  many_there : Many f x.0
  many_there = subst (Sure f x.0) (g.sound.full x.0 waited) (g.each x.0 (counted_below f x.0 x.0 self))

  pub going_again : (later : Work) → later ≡ marked_all popped (counts f (uses_behind f x.0)) → Going f [] later
  going_again later e =
      let (r, a) = going_all f (x ∷ []) popped (counts f (uses_behind f x.0)) going_popped (fair_behind f x.0 many_there self) in
      let end = marked_all popped (counts f (uses_behind f x.0)) in
      subst (Going f []) (sym e) (record {
        sound = r.sound;
        each = r.each;
        closed = λ v l h. ⊎_elim (λ q. open_or_closed end a v q) (λ q. inr q) (r.closed v l h);
      })
    where
      open_or_closed : (end : Work) → AllMany end.states (counts f (uses_behind f x.0)) → (v : ℕ) → Waits v ((x ∷ []) ++ end.stack.items) → Waits v end.stack.items ⊎ Closed f end.states v
      open_or_closed end a v (inl q) = inr (subst (Closed f end.states) q a)
      open_or_closed end a v (inr q) = inl q

-- Counting every use once

-- what so many uses make of a value
abbrev pub capped : ℕ → ValueUseState
capped zero = Unused
capped (suc zero) = Once
capped (suc (suc n)) = Multiple

capped_more : (n : ℕ) → raised (capped n) ≡ capped (n + 1)
capped_more zero = refl
capped_more (suc zero) = refl
capped_more (suc (suc n)) = let e : suc (suc n) + 1 ≡ suc (suc (n + 1)) = omega arith in rw e

abbrev pub count_of : ℕ → List (Option ℕ) → ℕ
count_of v os = count_by (λ o. is_value o v) os

pub record Counted (f : Func) (os : List (Option ℕ)) (w : Work) : Type 0 where
  pub sound : Sound f w
  pub each : (v : ℕ) → v < length (value_rows f) → get_or w.states v Multiple ≡ capped (count_of v os)
  pub waits : (v : ℕ) → v < length (value_rows f) → get_or w.states v Multiple ≡ Multiple → Waits v w.stack.items

count_push : (v : ℕ) (os : List (Option ℕ)) (o : Option ℕ) → count_of v (os ++ (o ∷ [])) ≡ count_of v os + cond {A = ℕ} (is_value o v) 1 0
count_push v os o = sum_by_push (λ p. cond (is_value p v) 1 0) os o

module _ (f : Func) (os : List (Option ℕ)) (w : Work) (c : Counted f os w) (v : ℕ) (self : counted_on f v ≡ Some v) where
  each_counted : (u : ℕ) → u < length (value_rows f) → get_or (marked w (Some v)).states u Multiple ≡ capped (count_of u (os ++ (Some v ∷ [])))
  each_counted u l = ⊎_elim
      (λ (e : v ≡ u).
      let n : count_of u (os ++ (Some v ∷ [])) ≡ count_of u os + 1 = omega (arith, count_push u os (Some v), bit_true (eqb v u) (eq-eqb v u e)) in
      subst (λ x. get_or (marked w (Some v)).states x Multiple ≡ raised (get_or w.states x Multiple)) e (at_same w v) ∙ ap raised (c.each u l) ∙ capped_more (count_of u os) ∙ ap capped (sym n))
      (λ (e : v ≡ u → ⊥).
      let n : count_of u (os ++ (Some v ∷ [])) ≡ count_of u os = omega (arith, count_push u os (Some v), bit_false (eqb v u) (ne_eqb v u e)) in
      at_other w v u (λ q. e (sym q)) ∙ c.each u l ∙ ap capped (sym n))
      (cases_eq v u)

  waits_counted : (u : ℕ) → u < length (value_rows f) → get_or (marked w (Some v)).states u Multiple ≡ Multiple → Waits u (marked w (Some v)).stack.items
  waits_counted u l h = ⊎_elim
      (λ (e : v ≡ u). subst (λ x. Waits x (marked w (Some v)).stack.items) e
      (⊎_elim (λ q. waits_some f w c.sound v self v [] (c.waits v (counted_below f v v self) q)) (λ q. q)
      (waits_new f w c.sound v self [] (subst (λ x. get_or (marked w (Some v)).states x Multiple ≡ Multiple) (sym e) h))))
      (λ (e : v ≡ u → ⊥). waits_some f w c.sound v self u [] (c.waits u l (sym (at_other w v u (λ q. e (sym q))) ∙ h)))
      (cases_eq v u)

  counted_some : Counted f (os ++ (Some v ∷ [])) (marked w (Some v))
  counted_some = record { sound = sound_some f w c.sound v self; each = each_counted; waits = waits_counted }

counted_none : (f : Func) (os : List (Option ℕ)) (w : Work) → Counted f os w → Counted f (os ++ (None ∷ [])) (marked w None)
unfolding marked
counted_none f os w c = record {
  sound = c.sound;
  each = λ v l. c.each v l ∙ ap capped (let n : count_of v os ≡ count_of v (os ++ (None ∷ [])) = omega (arith, count_push v os None) in n);
  waits = c.waits;
}

counted_mark : (f : Func) (os : List (Option ℕ)) (w : Work) (u : ℕ) (o : Option ℕ) → counted_on f u ≡ o → Counted f os w → Counted f (os ++ (o ∷ [])) (marked w o)
counted_mark f os w u None e c = counted_none f os w c
counted_mark f os w u (Some v) e c = counted_some f os w c v (counted_self f u v e)

counted_all : (f : Func) (os : List (Option ℕ)) (w : Work) (us : List Value) → Counted f os w → Counted f (os ++ counts f us) (marked_all w (counts f us))
counted_all f os w [] c = subst (λ l. Counted f l w) (sym (append-nil os)) c
counted_all f os w (u ∷ us) c =
    let o = counted_on f u.0 in
    subst (λ l. Counted f l (marked_all (marked w o) (counts f us))) (append_assoc os (o ∷ []) (counts f us))
    (counted_all f (os ++ (o ∷ [])) (marked w o) us (counted_mark f os w u.0 o refl c))

-- nothing counted yet
pub counted_start : (f : Func) (w : Work) (rest : List ValueUseState) → w.states ≡ replicate (length (value_rows f)) Unused ++ rest → w.stack.items ≡ [] → length (value_rows f) ≤ length w.stack.room → Counted f [] w
counted_start f w rest e n r =
    let m = length (value_rows f) in
    let front : length (replicate m Unused) ≡ m = length-replicate m Unused in
    let at : (v : ℕ) → v < m → get_or w.states v Multiple ≡ Unused =
    λ v l. ap (λ xs. get_or xs v Multiple) e ∙ get_or_append_left (replicate m Unused) rest Multiple v (omega arith) ∙ get_or-replicate m v Unused Multiple l in
    let nobody : (v : ℕ) → Waits v w.stack.items → ⊥ = λ v h. subst (Waits v) n h in
    let few : count_by is_open (take m w.states) ≤ m = omega (arith, count_by-le-length is_open (take m w.states), length-take m w.states) in
    record {
      sound = record { room = omega arith; firsts = λ v h. absurd (nobody v h); full = λ v h. absurd (nobody v h) };
      each = at;
      waits = λ v l h. let z : ◌≡◌ {A = ℕ} 0 1 = cc (at v l) in absurd (omega arith);
    }

count_uses : (f : Func) (v : ℕ) (us : List Value) → count_of v (counts f us) ≡ count_by (counts_on f v) us
count_uses f v [] = refl
count_uses f v (u ∷ us) =
    let a = sum_by-cons (λ o. cond (is_value o v) 1 0) (counted_on f u.0) (counts f us) in
    let b = sum_by-cons (λ x. cond (counts_on f v x) 1 0) u us in
    let c = count_uses f v us in omega arith

sure_capped : (f : Func) (v n : ℕ) → n ≡ use_count f v → Sure f v (capped n)
sure_capped f v zero e = sym e
sure_capped f v (suc zero) e = sym e
sure_capped f v (suc (suc n)) e = twice (omega arith)

pub going_start : (f : Func) (w later : Work) → Counted f [] w → later ≡ marked_all w (counts f (uses f)) → Going f [] later
going_start f w later c e =
    let d = counted_all f [] w (uses f) c in
    subst (Going f []) (sym e) (record {
      sound = d.sound;
      each = λ v l. subst (Sure f v) (sym (d.each v l)) (sure_capped f v (count_of v (counts f (uses f))) (count_uses f v (uses f)));
      closed = λ v l h. inl (d.waits v l h);
    })

-- The end: nothing waits

hit : (xs : List ValueUseState) (v : ℕ) (o : Option ℕ) → is_value o v ≡ true → ManyNow xs o → get_or xs v Multiple ≡ Multiple
hit xs v None h m = let z : ◌≡◌ {A = ℕ} 0 1 = cc in absurd (omega arith)
hit xs v (Some w) h m = subst (λ x. get_or xs x Multiple ≡ Multiple) (eqb-true w v h) m

one_many : (f : Func) (xs : List ValueUseState) (v : ℕ) (us : List Value) → AllMany xs (counts f us) → 1 ≤ count_by (counts_on f v) us → get_or xs v Multiple ≡ Multiple
one_many f xs v [] a l = absurd (omega arith)
one_many f xs v (u ∷ us) a l = elim (bool_cases (counts_on f v u)) [
  | inl h ↦ hit xs v (counted_on f u.0) h a.0
  | inr h ↦ one_many f xs v us a.1 (omega (arith, sum_by-cons (λ x. cond (counts_on f v x) 1 0) u us, bit_false (counts_on f v u) h))
]

behind_is : (f : Func) (i w : ℕ) → def_of_value f w ≡ Some (Result (inst_number i) 0) → uses_behind f w ≡ list_in (inst_of f i) uses_of
behind_is f i w e = ap (λ d. list_in (inst_of_def d) (λ j. list_in (inst_of f j.0) uses_of)) e

module _ (f : Func) (w : Work) (g : Went f w) where
  nobody : (v : ℕ) → Waits v ([] ++ w.stack.items) → ⊥
  nobody v h = subst (Waits v) g.none h

  two_many : (v : ℕ) (s : ValueUseState) → Sure f v s → 2 ≤ use_count f v → s ≡ Multiple
  two_many v Unused h l = absurd (omega arith)
  two_many v Once h l = absurd (omega arith)
  two_many v Multiple h l = refl

  -- every value of the smallest set is Multiple
  complete : (v : ℕ) → v < length (value_rows f) → Many f v → get_or w.states v Multiple ≡ Multiple
  complete v l (twice h) = two_many v (get_or w.states v Multiple) (g.going.each v l) h
  complete v l (again {w = u} i used first m) =
      let d = first_def f i u first in
      let below = get_within (λ r. r.def) (value_rows f) u (Result (inst_number i) 0) d in
      let closed : Closed f w.states u = ⊎_elim (λ h. absurd (nobody u h)) (λ h. h) (g.going.closed u below (complete u below m)) in
      one_many f w.states v (list_in (inst_of f i) uses_of) (subst (λ us. AllMany w.states (counts f us)) (behind_is f i u d) closed) used

  settled : (v : ℕ) (s : ValueUseState) → (Many f v → s ≡ Multiple) → Sure f v s → StateOf f v s
  settled v Unused m h = h
  settled v Once m h = (h, λ q. let z : ◌≡◌ {A = ℕ} 0 1 = cc (m q) in omega arith)
  settled v Multiple m h = h

  pub least : (v : ℕ) → v < length (value_rows f) → StateOf f v (get_or w.states v Multiple)
  least v l = settled v (get_or w.states v Multiple) (complete v l) (g.going.each v l)

-- Places beyond the values

pub beyond_none : (f : Func) (xs : List ValueUseState) → Beyond f xs xs
beyond_none f xs = (refl, λ v l. refl)

pub beyond_more : (f : Func) (xs ys zs : List ValueUseState) → Beyond f xs ys → Beyond f ys zs → Beyond f xs zs
beyond_more f xs ys zs (a, b) (c, d) = (c ∙ a, λ v l. d v l ∙ b v l)

beyond_mark : (f : Func) (w : Work) (u : ℕ) (o : Option ℕ) → counted_on f u ≡ o → Beyond f w.states (marked w o).states
unfolding marked
beyond_mark f w u None e = beyond_none f w.states
beyond_mark f w u (Some v) e =
    let below = counted_below f v v (counted_self f u v e) in
    let y = raised (get_or w.states v Multiple) in
    (length-set w.states v y, λ x l. get_or-set_other w.states v x y Unused (λ q. omega arith))

pub beyond_all : (f : Func) (w : Work) (us : List Value) → Beyond f w.states (marked_all w (counts f us)).states
beyond_all f w [] = beyond_none f w.states
beyond_all f w (u ∷ us) =
    let next = marked w (counted_on f u.0) in
    beyond_more f w.states next.states (marked_all next (counts f us)).states (beyond_mark f w u.0 (counted_on f u.0) refl) (beyond_all f next us)

-- clearing
pub length_cleared : (n : ℕ) (xs : List ValueUseState) → length (cleared n xs) ≡ length xs
length_cleared n xs = omega (arith, length-append (replicate (min n (length xs)) Unused) (drop n xs), length-replicate (min n (length xs)) Unused, length-drop n xs)

module _ (f : Func) (xs : List ValueUseState) (h : length (value_rows f) ≤ length xs) where
  pub cleared_front : cleared (length (value_rows f)) xs ≡ replicate (length (value_rows f)) Unused ++ drop (length (value_rows f)) xs
  cleared_front = let e : min (length (value_rows f)) (length xs) ≡ length (value_rows f) = omega arith in ap (λ k. replicate k Unused ++ drop (length (value_rows f)) xs) e

  pub cleared_beyond : Beyond f xs (cleared (length (value_rows f)) xs)
  cleared_beyond =
      let n = length (value_rows f) in
      let e : min n (length xs) ≡ n = omega arith in
      let r : length (replicate (min n (length xs)) Unused) ≡ min n (length xs) = length-replicate (min n (length xs)) Unused in (
        length_cleared n xs,
        λ v l.
            let k = v - n in
            let at : v ≡ length (replicate (min n (length xs)) Unused) + k = omega arith in
            let sum : n + k ≡ v = omega arith in
            ap (λ j. get_or (cleared n xs) j Unused) at ∙ get_or-append-add (replicate (min n (length xs)) Unused) (drop n xs) k Unused ∙ get_or-drop n xs k Unused ∙ ap (λ j. get_or xs j Unused) sum,
      )

-- a value that nothing uses is not Multiple
never_many : (f : Func) (v : ℕ) → use_count f v ≡ 0 → Many f v → ⊥
never_many f v e (twice h) = omega arith
never_many f v e (again i h first m) = omega (arith, part_count (counts_on f v) (all_insts f) i)

pub state_once : (f : Func) → StateLaw f
state_once f v Unused Unused a b = refl
state_once f v Unused Once a b = absurd (omega arith)
state_once f v Unused Multiple a b = absurd (never_many f v a b)
state_once f v Once Unused a b = absurd (omega arith)
state_once f v Once Once a b = refl
state_once f v Once Multiple a b = absurd (a.1 b)
state_once f v Multiple Unused a b = absurd (never_many f v b a)
state_once f v Multiple Once a b = absurd (b.1 a)
state_once f v Multiple Multiple a b = refl

pub beyond_again : (f : Func) (start : List ValueUseState) (w : Work) (next : Held Value) (after : Work) (us : List Value) → Beyond f start w.states
    → after ≡ marked_all (record { states = w.states; stack = next }) (counts f us) → Beyond f start after.states
beyond_again f start w next after us b e =
    beyond_more f start w.states after.states b (subst (λ (x : Work). Beyond f w.states x.states) (sym e) (beyond_all f (record { states = w.states; stack = next }) us))

-- the first places written anew
pub cleared_is : (xs ys : List ValueUseState) (n m : ℕ) → m ≡ min n (length xs) → ys ≡ replicate (length (take (m - 0) xs)) Unused → ys ++ drop (m - 0) xs ≡ cleared n xs
cleared_is xs ys n m e h =
    let size : length (take (m - 0) xs) ≡ min n (length xs) = omega (arith, length-take (m - 0) xs) in
    let front : ys ≡ replicate (min n (length xs)) Unused = h ∙ ap (λ k. replicate k Unused) size in
    let back : drop (m - 0) xs ≡ drop n xs = ⊎_elim
    (λ (l : n < length xs). ap (λ k. drop k xs) (omega arith))
    (λ (l : length xs ≤ n). let a = drop_all (m - 0) xs (omega arith) in let b = drop_all n xs l in a ∙ sym b)
    (cases_lt n (length xs)) in
    rw (front, back)

-- all together
pub computed : (f : Func) (xs : List ValueUseState) (h : Held Value) (start counted after : Work) → Enough f xs h
    → start.states ≡ cleared (length (value_rows f)) xs → start.stack ≡ record { items = []; room = h.items ++ h.room }
    → counted ≡ marked_all start (counts f (uses f)) → Worked f counted after
    → UseStatesFound f xs after.states × (after.stack.items ≡ [])
computed f xs h start counted after (a, b) e k c w =
    let n = length (value_rows f) in
    let room : length start.stack.room ≡ length h.items + length h.room = ap (λ (q : Held Value). length q.room) k ∙ length-append h.items h.room in
    let begun = counted_start f start (drop n xs) (e ∙ cleared_front f xs a) (ap (λ (q : Held Value). q.items) k) (omega arith) in
    let went = w.went (going_start f start counted begun c) in
    let begins : Beyond f xs start.states = subst (Beyond f xs) (sym e) (cleared_beyond f xs a) in
    let goes : Beyond f start.states counted.states = subst (λ (q : Work). Beyond f start.states q.states) (sym c) (beyond_all f start (uses f)) in
    let whole = beyond_more f xs start.states after.states begins (beyond_more f start.states counted.states after.states goes w.beyond) in
    let size = whole.0 in (
      record {
        each = λ v l. subst (StateOf f v) (get_or_default after.states v Multiple Unused (omega arith)) (least f after went v l);
        beyond = whole.1;
      },
      went.none,
    )
