-- The fields that every record is made of.
use Rattle.std.proofs.Common.{◌≡◌, ℕ, zero, suc, ◌+◌, ◌-◌, ◌/◌, ◌%◌, ◌^◌, ◌<◌, ◌≤◌, Bool, true, false, cond, ◌&&◌, eqb, leb, ◌↔◌, List, [], ◌∷◌, ◌++◌, length, take, drop, is_some, IfSome, Some, None, Option, sym, refl, ap, ◌∙◌, subst, ap₂, arith}
use native.Mathlib.Nat.{one-le-pow}
use Rattle.reader.specs.Data.{limit}
use Rattle.reader.specs.Within.{sum_of}
use Rattle.reader.specs.Writing.{little, listed, filled, optional}
use Rattle.reader.specs.Reading.{Spot, Read, got, fault, Reads, place, ◌>>=◌, give, total, raised, number_of, number, only, ranged, chosen, named, count, repeated, standing, present}
use Rattle.reader.specs.declared.totals.Kind.{Kind}
use Rattle.reader.proofs.Format.Numbers.{length_little, number_little, number_below, little_number}
use Rattle.reader.proofs.Format.Costs.{Cost, free, both, share, Under, add_free, add_share, under_before, under_raised, total_raised}
use Rattle.reader.proofs.Format.Codes.{spot, Codes, after_got, bind, give_codes, never_codes, recode, keyed, mapped}
use Rattle.std.proofs.lemmas.List.{append-nil, length-append, take_at, drop_at, take-append-drop, nil_from_length}
use Rattle.std.proofs.lemmas.Bool.{le-leb, leb-true, and_from, and_parts, true≢false, false≢true}
use Rattle.std.specs.List.{flat_map, AllByRecursion}

-- a test was passed
passed : {A : Type 0} (b : Bool) (r : Read A) (n p : ℕ) (a : A) (u : Spot) → cond b r (fault n p) ≡ got a u → (b ≡ true) × (r ≡ got a u)
passed true r n p a u h = (refl, h)
passed false r n p a u h = let z : ◌≡◌ {A = ℕ} 0 1 = cc in absurd (omega arith)

pub number_codes : (k : ℕ) → Codes (λ n. n < 256 ^ k) (little k) (λ n. free) (number k)
number_codes k = record {
  there = λ size n tail t h l.
      let enough = le-leb k (length (little k n ++ tail)) (omega (arith, length-append (little k n) tail, length_little k n)) in
      rw (enough, take_at (little k n) tail k (length_little k n), drop_at (little k n) tail k (length_little k n), number_little k n h, add_free t);
  back = λ size s n u bs l e.
      let (enough, same) = passed (leb k (length s.rest)) (got (number_of (take k s.rest)) (spot (drop k s.rest) s.totals)) 1 (place size s) n u e in
      let le = leb-true k (length s.rest) enough in
      let value : number_of (take k s.rest) ≡ n = cc in
      let rest : drop k s.rest ≡ u.rest = cc in
      let stays : s.totals ≡ u.totals = cc in
      record {
        fits = subst (λ x. x < 256 ^ k) value (number_below k s.rest bs le);
        bytes = sym (take-append-drop k s.rest) ∙ ap₂ (λ x y. x ++ y) (sym (little_number k s.rest bs le) ∙ ap (little k) value) rest;
        raise = cc (add_free s.totals);
        under = subst Under stays l;
      };
}

-- a number of one byte
pub byte_codes : Codes (λ n. n < 256) (λ n. n ∷ []) (λ n. free) (number 1)
byte_codes = recode (number_codes 1) (λ n. (λ h. h, λ h. h)) (λ n h. ap (λ x. x ∷ []) (omega (arith, h))) (λ n h k. refl)

-- a count: within what the limit leaves
pub count_codes : (k least : ℕ) (kind : Kind) → Codes (λ n. (least ≤ n) × (n < 256 ^ k)) (little k) (share kind) (count k least kind)
count_codes k least kind = record {
  there = λ size n tail t h l.
      let room = subst Under (add_share kind n t) l kind in
      let few = le-leb n (limit kind - total kind t) (omega (arith, total_raised kind n t, room)) in
      let start = (number_codes k).there size n tail t h.1 (subst Under (sym (add_free t)) (under_before t (share kind n) l)) in
      rw (start, add_free t, le-leb least n h.0, few, add_share kind n t);
  back = λ size s n u bs l e.
      let (m, t, e₁, e₂) = after_got (number k size s) _ n u e in
      let start = (number_codes k).back size s m t bs l e₁ in
      let (enough, e₃) = passed (leb least m) _ 1 (place size s) n u e₂ in
      let (few, e₄) = passed (leb m _) (got m (spot t.rest (raised kind m t.totals))) 2 (place size s) n u e₃ in
      let value : m ≡ n = cc in
      let rest : t.rest ≡ u.rest = cc in
      let here : t.totals ≡ s.totals = start.raise ∙ add_free s.totals in
      let raise : u.totals ≡ raised kind n s.totals = cc in
      let room : total kind s.totals + n ≤ limit kind = omega (arith, l kind, ap (total kind) here, leb-true m _ few) in
      record {
        fits = (rw value at (leb-true least m enough), rw value at start.fits);
        bytes = start.bytes ∙ ap₂ (λ x y. little k x ++ y) value rest;
        raise = raise ∙ sym (add_share kind n s.totals);
        under = subst Under (sym raise) (under_raised kind n s.totals l room);
      };
}

-- a count in more bytes than its limit needs
pub capped_codes : (k least : ℕ) (kind : Kind) → limit kind < 256 ^ k → Codes (λ n. least ≤ n) (little k) (share kind) (count k least kind)
capped_codes k least kind small = record {
  there = λ size n tail t h l.
      let room = subst Under (add_share kind n t) l kind in
      (count_codes k least kind).there size n tail t (h, omega (arith, total_raised kind n t, room)) l;
  back = λ size s n u bs l e.
      let c = (count_codes k least kind).back size s n u bs l e in
      record { fits = c.fits.0; bytes = c.bytes; raise = c.raise; under = c.under };
}

-- a number that must pass a test
pub only_codes : {w : ℕ → List ℕ} {ok : ℕ → Type 0} {p : Reads ℕ} (test : ℕ → Bool)
    → Codes ok w (λ n. free) p → Codes (λ n. (test n ≡ true) × ok n) w (λ n. free) (only test p)
only_codes {w} {ok} test P =
    bind (λ n m. (test n ≡ true) × (m ≡ n)) (λ m. []) (λ m. free) (λ s n size t. cond (test n) (got n t) (fault 1 (place size s))) P
    (λ s n h. tested (test n) n (λ size. place size s))
    (λ n. (λ h. (n, h.1, (h.0, refl)), λ h. (subst (λ x. test x ≡ true) (sym h.2.1) h.2.0, subst ok (sym h.2.1) h.1)))
    (λ n m h. ap w h.1 ∙ sym (append-nil (w n)))
    (λ n m h k. refl)
  where
    tested : (b : Bool) (n : ℕ) (at : ℕ → ℕ) → Codes (λ m. (b ≡ true) × (m ≡ n)) (λ m. []) (λ m. free) (λ size t. cond b (got n t) (fault 1 (at size)))
    tested true n at = recode give_codes (λ m. (λ h. h.1, λ h. (refl, h))) (λ m h. refl) (λ m h k. refl)
    tested false n at = never_codes (λ m h. false≢true h.0)

-- a byte within bounds
pub ranged_codes : (least most : ℕ) → most ≤ 255 → Codes (λ n. (least ≤ n) × (n ≤ most)) (λ n. n ∷ []) (λ n. free) (ranged least most)
ranged_codes least most small =
    recode (only_codes (λ n. leb least n && leb n most) byte_codes)
    (λ n. (
      λ h. (and_from (leb least n) (leb n most) (le-leb least n h.0) (le-leb n most h.1), omega arith),
      λ h. let (low, high) = and_parts (leb least n) (leb n most) h.0 in (leb-true least n low, leb-true n most high),
    ))
    (λ n h. refl)
    (λ n h k. refl)

-- a byte that names a case
pub named_codes : {A : Type 0} (which : ℕ → Option A) (code : A → ℕ)
    → ((a : A) → code a < 256) → ((a : A) → which (code a) ≡ Some a) → ((n : ℕ) (a : A) → which n ≡ Some a → n ≡ code a)
    → Codes (λ a. Unit {0}) (λ a. code a ∷ []) (λ a. free) (named which)
named_codes which code small this only_this =
    bind (λ n a. which n ≡ Some a) (λ a. []) (λ a. free) (λ s n size t. chosen (which n) t (place size s)) (number_codes 1)
    (λ s n h. choice (which n) (λ size. place size s))
    (λ a. (λ h. (code a, small a, this a), λ h. tt))
    (λ n a h. ap (λ x. x ∷ []) (omega (arith, small a, only_this n a h)))
    (λ n a h k. refl)
  where
    choice : {A : Type 0} (o : Option A) (at : ℕ → ℕ) → Codes (λ a. o ≡ Some a) (λ a. []) (λ a. free) (λ size t. chosen o t (at size))
    choice None at = never_codes (λ a h. let z : ◌≡◌ {A = ℕ} 0 1 = cc in omega arith)
    choice (Some b) at = recode give_codes (λ a. (λ h. cc, λ h. cc)) (λ a h. refl) (λ a h k. refl)

-- a list of things of one form
pub repeated_codes : {A : Type 0} {ok : A → Type 0} {w : A → List ℕ} {cost : A → Cost} {p : Reads A}
    → Codes ok w cost p → (n : ℕ) → Codes (λ xs. (length xs ≡ n) × AllByRecursion ok xs) (flat_map w) (λ xs k. sum_of (λ x. cost x k) xs) (repeated n p)
repeated_codes {w = w} {cost} P zero =
    recode give_codes (λ xs. (λ h. nil_from_length xs h.0, λ h. rw h (refl, tt))) (λ xs h. ap (flat_map w) h) (λ xs h k. ap (sum_of (λ x. cost x k)) h)
repeated_codes {A} {ok} {w} {cost} {p} P (suc n) =
    bind (λ a xs. (more : List A) × ((length more ≡ n) × AllByRecursion ok more) × (xs ≡ a ∷ more)) (λ xs. flat_map w (drop 1 xs)) (λ xs k. sum_of (λ x. cost x k) (drop 1 xs))
    (λ s a. repeated n p >>= λ more. give (a ∷ more)) P
    (λ s a h. mapped (λ more. a ∷ more) (repeated_codes P n) (λ xs. (λ h. h, λ h. h)) (λ more. refl) (λ more k. refl))
    parts
    (λ a xs h. rw h.2)
    (λ a xs h k. rw h.2)
  where
    parts : (xs : List A) → ((length xs ≡ suc n) × AllByRecursion ok xs) ↔ ((a : A) × ok a × ((more : List A) × ((length more ≡ n) × AllByRecursion ok more) × (xs ≡ a ∷ more)))
    parts [] = (λ h. absurd (omega (arith, h.0)), λ h. absurd (omega (arith, ap length h.2.2)))
    parts (x ∷ xs) = (
      λ h. (x, h.1.0, (xs, (omega (arith, h.0), h.1.1), refl)),
      λ (a, fine, (more, h, same)).
          let e : x ≡ a = cc in let e' : xs ≡ more = cc in
          (ap suc (ap length e' ∙ h.0), (subst ok (sym e) fine, subst (AllByRecursion ok) (sym e') h.1)),
    )

-- a field that stands exactly if its bit does
pub standing_codes : {A : Type 0} {ok : A → Type 0} {w : A → List ℕ} {cost : A → Cost} {p : Reads A} (map bit : ℕ) (stands : A → Bool) (absent : A)
    → Codes (λ a. (stands a ≡ true) × ok a) w cost p
    → ((a : A) → ((stands a ≡ false) × ok a) ↔ (a ≡ absent)) → w absent ≡ [] → ((k : Kind) → cost absent k ≡ 0)
    → Codes (λ a. (stands a ≡ eqb (map / bit % 2) 1) × ok a) w cost (standing map bit absent p)
standing_codes {A} {ok} {w} {cost} {p} map bit stands absent P only_absent bytes costs = go (eqb (map / bit % 2) 1)
  where
    go : (b : Bool) → Codes (λ a. (stands a ≡ b) × ok a) w cost (cond b p (give absent))
    go true = P
    go false = recode give_codes only_absent (λ a h. ap w h ∙ bytes) (λ a h k. ap (λ x. cost x k) h ∙ costs k)

-- a list with its count
abbrev pub counted_bytes : {A : Type 0} → ℕ → (A → List ℕ) → List A → List ℕ
counted_bytes k w xs = little k (length xs) ++ flat_map w xs

pub counted_codes : {A : Type 0} {ok : A → Type 0} {w : A → List ℕ} {cost : A → Cost} {p : Reads A} {okN : ℕ → Type 0} {costN : ℕ → Cost} {c : Reads ℕ} (k : ℕ)
    → Codes okN (little k) costN c → Codes ok w cost p
    → Codes (λ xs. okN (length xs) × AllByRecursion ok xs) (counted_bytes k w) (λ xs. both (costN (length xs)) (λ k. sum_of (λ x. cost x k) xs)) (c >>= λ n. repeated n p)
counted_codes k C P =
    recode (keyed {known = λ xs. Unit {0}} length C (λ n h. recode (repeated_codes P n) (λ xs. (λ h. (h.0.1, h.1), λ h. ((tt, h.0), h.1))) (λ xs h. refl) (λ xs h k. refl)))
    (λ xs. (λ h. (tt, h), λ h. h.1)) (λ xs h. refl) (λ xs h k. refl)

-- a list field of an instruction or a block, of at least one element where it stands
pub list_field : {A : Type 0} {ok : A → Type 0} {w : A → List ℕ} {cost : A → Cost} {p : Reads A} {costN : ℕ → Cost} {c : Reads ℕ} (map bit k : ℕ)
    → Codes (λ n. (1 ≤ n) × (n < 256 ^ k)) (little k) costN c → Codes ok w cost p → ((k : Kind) → costN 0 k ≡ 0)
    → Codes (λ xs. (filled xs ≡ eqb (map / bit % 2) 1) × ((length xs < 256 ^ k) × AllByRecursion ok xs)) (listed k w) (λ xs. both (costN (length xs)) (λ k. sum_of (λ x. cost x k) xs))
    (standing map bit [] (c >>= λ n. repeated n p))
list_field {A} {ok} {w} map bit k C P none =
    standing_codes map bit filled []
    (recode (counted_codes k C P) fits bytes (λ xs h k. refl))
    absent refl (λ k. omega (arith, none k))
  where
    fits : (xs : List A) → ((filled xs ≡ true) × ((length xs < 256 ^ k) × AllByRecursion ok xs)) ↔ (((1 ≤ length xs) × (length xs < 256 ^ k)) × AllByRecursion ok xs)
    fits [] = (λ h. absurd (false≢true h.0), λ h. absurd (omega arith))
    fits (x ∷ xs) = (λ h. ((omega arith, h.1.0), h.1.1), λ h. (refl, (h.0.1, h.1)))

    bytes : (xs : List A) → ((1 ≤ length xs) × (length xs < 256 ^ k)) × AllByRecursion ok xs → listed k w xs ≡ counted_bytes k w xs
    bytes [] h = absurd (omega (arith, h.0.0))
    bytes (x ∷ xs) h = refl

    absent : (xs : List A) → ((filled xs ≡ false) × ((length xs < 256 ^ k) × AllByRecursion ok xs)) ↔ (xs ≡ [])
    absent [] = (λ h. refl, λ h. (refl, (omega (arith, one-le-pow k 256 (omega arith)), tt)))
    absent (x ∷ xs) = (λ h. absurd (true≢false h.0), λ h. absurd (omega (arith, ap length h)))

-- a field with one thing in it, where it stands
pub option_field : {A : Type 0} {ok : A → Type 0} {w : A → List ℕ} {p : Reads A} (map bit : ℕ)
    → Codes ok w (λ a. free) p
    → Codes (λ o. (is_some o ≡ eqb (map / bit % 2) 1) × IfSome o ok) (optional w) (λ o. free) (standing map bit None (present p))
option_field {A} {ok} {w} map bit P =
    standing_codes map bit is_some None
    (mapped Some P fits (λ a. refl) (λ a k. refl))
    absent refl (λ k. refl)
  where
    fits : (o : Option A) → ((is_some o ≡ true) × IfSome o ok) ↔ ((a : A) × ok a × (o ≡ Some a))
    fits None = (λ h. absurd (false≢true h.0), λ h. let e = h.2 in let z : ◌≡◌ {A = ℕ} 0 1 = cc in absurd (omega arith))
    fits (Some a) = (λ h. (a, h.1, refl), λ h. let same = h.2 in let e : a ≡ h.0 = cc in (refl, subst ok (sym e) h.1))

    absent : (o : Option A) → ((is_some o ≡ false) × IfSome o ok) ↔ (o ≡ None)
    absent None = (λ h. refl, λ h. (refl, tt))
    absent (Some a) = (λ h. absurd (true≢false h.0), λ h. let z : ◌≡◌ {A = ℕ} 0 1 = cc in absurd (omega arith))
