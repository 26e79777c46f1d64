-- A way of reading undoes a way of writing: the relation, and its rules.
use Rattle.std.proofs.Common.{◌≡◌, ℕ, ◌+◌, ◌↔◌, List, [], ◌++◌, sym, refl, ap, ◌∙◌, subst, add-zero, arith}
use Rattle.reader.specs.Reading.{Spot, Read, got, fault, Reads, after, ◌>>=◌, give, Bytes}
use Rattle.reader.specs.declared.totals.Kind.{Kind}
use Rattle.reader.specs.declared.totals.Totals.{Totals}
use Rattle.reader.proofs.Format.Numbers.{bytes_after}
use Rattle.reader.proofs.Format.Costs.{Cost, free, both, add, Under, add_same, add_free, add_both, under_before}
use Rattle.std.proofs.lemmas.List.{append_assoc, append-nil}

abbrev pub spot : List ℕ → Totals → Spot
spot bs t = record { rest = bs; totals = t }

-- what has been read, from s to u, is a, written by w, at a cost, and what may be read
pub record Came {A : Type 0} (ok : A → Type 0) (w : A → List ℕ) (cost : A → Cost) (s : Spot) (a : A) (u : Spot) : Type 0 where
  pub fits : ok a
  pub bytes : s.rest ≡ w a ++ u.rest
  pub raise : u.totals ≡ add s.totals (cost a)
  pub under : Under u.totals

-- p reads back exactly what w writes of the values that are ok, as long as the totals stay within the limits
pub record Codes {A : Type 0} (ok : A → Type 0) (w : A → List ℕ) (cost : A → Cost) (p : Reads A) : Type 0 where
  pub there : (size : ℕ) (a : A) (tail : List ℕ) (t : Totals) → ok a → Under (add t (cost a)) → p size (spot (w a ++ tail) t) ≡ got a (spot tail (add t (cost a)))
  pub back : (size : ℕ) (s : Spot) (a : A) (u : Spot) → Bytes s.rest → Under s.totals → p size s ≡ got a u → Came ok w cost s a u

-- one thing was read, and then the other
pub after_got : {A B : Type 0} (r : Read A) (k : A → Spot → Read B) (b : B) (u : Spot) → after r k ≡ got b u → (a : A) × (t : Spot) × (r ≡ got a t) × (k a t ≡ got b u)
after_got (got a t) k b u h = (a, t, refl, h)
after_got (fault n p) k b u h = let z : ◌≡◌ {A = ℕ} 0 1 = cc in absurd (omega arith)

pub bind : {A B : Type 0} {okA : A → Type 0} {wA : A → List ℕ} {costA : A → Cost} {p : Reads A}
    {ok : B → Type 0} {w : B → List ℕ} {cost : B → Cost}
    (ok' : A → B → Type 0) (w' : B → List ℕ) (cost' : B → Cost) (q : Spot → A → Reads B)
    → Codes okA wA costA p
    → ((s : Spot) (a : A) → okA a → Codes (ok' a) w' cost' (q s a))
    → ((b : B) → ok b ↔ ((a : A) × okA a × ok' a b))
    → ((a : A) (b : B) → ok' a b → w b ≡ wA a ++ w' b)
    → ((a : A) (b : B) → ok' a b → (k : Kind) → cost b k ≡ both (costA a) (cost' b) k)
    → Codes ok w cost (λ size s. after (p size s) (λ a t. q s a size t))
bind {wA = wA} {costA} {p} {w = w} {cost} ok' w' cost' q P Q parts bytes costs = record {
  there = λ size b tail t h l.
      let (a, first, then) = (parts b).0 h in
      let s = spot (w b ++ tail) t in
      let t₁ = add t (costA a) in
      let split = ap (λ x. x ++ tail) (bytes a b then) ∙ append_assoc (wA a) (w' b) tail in
      let sum = add_same t (cost b) (both (costA a) (cost' b)) (costs a b then) ∙ sym (add_both t (costA a) (cost' b)) in
      let l₂ = subst Under sum l in
      let one = ap (λ x. p size (spot x t)) split ∙ P.there size a (w' b ++ tail) t first (under_before t₁ (cost' b) l₂) in
      let two = (Q s a first).there size b tail t₁ then l₂ in
      ap (λ r. after r (λ a t. q s a size t)) one ∙ (two ∙ ap (λ x. got b (spot tail x)) (sym sum));
  back = λ size s b u bs l e.
      let (a, t, e₁, e₂) = after_got (p size s) (λ a t. q s a size t) b u e in
      let one = P.back size s a t bs l e₁ in
      let two = (Q s a one.fits).back size t b u (bytes_after (wA a) t.rest (subst Bytes one.bytes bs)) one.under e₂ in
      record {
        fits = (parts b).1 (a, one.fits, two.fits);
        bytes = one.bytes ∙ (ap (λ x. wA a ++ x) two.bytes ∙ (sym (append_assoc (wA a) (w' b) u.rest) ∙ ap (λ x. x ++ u.rest) (sym (bytes a b two.fits))));
        raise = two.raise ∙ (ap (λ x. add x (cost' b)) one.raise ∙ (add_both s.totals (costA a) (cost' b) ∙ sym (add_same s.totals (cost b) (both (costA a) (cost' b)) (costs a b two.fits))));
        under = two.under;
      };
}

-- the value is known
pub give_codes : {A : Type 0} {a : A} → Codes (λ b. b ≡ a) (λ b. []) (λ b. free) (give a)
give_codes {a = a} = record {
  there = λ size b tail t h l. cc (h, add_free t);
  back = λ size s b u bs l e.
      let stays : s ≡ u = cc in
      record { fits = cc; bytes = cc; raise = cc (add_free s.totals); under = subst (λ (x : Spot). Under x.totals) stays l };
}

-- nothing is read, and nothing could be
pub never_codes : {A : Type 0} {ok : A → Type 0} {w : A → List ℕ} {cost : A → Cost} {n : ℕ → Spot → ℕ} {p : ℕ → Spot → ℕ}
    → ((a : A) → ok a → ⊥) → Codes ok w cost (λ size s. fault (n size s) (p size s))
never_codes never = record {
  there = λ size a tail t h l. absurd (never a h);
  back = λ size s a u bs l e. let z : ◌≡◌ {A = ℕ} 0 1 = cc in absurd (omega arith);
}

-- the same reading, said otherwise
pub recode : {A : Type 0} {ok ok' : A → Type 0} {w w' : A → List ℕ} {cost cost' : A → Cost} {p : Reads A}
    → Codes ok w cost p
    → ((a : A) → ok' a ↔ ok a)
    → ((a : A) → ok a → w' a ≡ w a)
    → ((a : A) → ok a → (k : Kind) → cost' a k ≡ cost a k)
    → Codes ok' w' cost' p
recode {w = w} {w'} {cost} {cost'} {p} P same bytes costs = record {
  there = λ size a tail t h l.
      let fits = (same a).0 h in
      let sum = add_same t (cost' a) (cost a) (costs a fits) in
      ap (λ x. p size (spot (x ++ tail) t)) (bytes a fits) ∙ (P.there size a tail t fits (subst Under sum l) ∙ ap (λ x. got a (spot tail x)) (sym sum));
  back = λ size s a u bs l e.
      let c = P.back size s a u bs l e in
      record {
        fits = (same a).1 c.fits;
        bytes = c.bytes ∙ ap (λ x. x ++ u.rest) (sym (bytes a c.fits));
        raise = c.raise ∙ sym (add_same s.totals (cost' a) (cost a) (costs a c.fits));
        under = c.under;
      };
}

-- one part, which is a function of the whole, and then what depends on it
pub keyed : {A B : Type 0} {okA : A → Type 0} {wA : A → List ℕ} {costA : A → Cost} {p : Reads A}
    {known ok' : B → Type 0} {w' : B → List ℕ} {cost' : B → Cost} {q : A → Reads B} (key : B → A)
    → Codes okA wA costA p
    → ((a : A) → okA a → Codes (λ b. (known b × (key b ≡ a)) × ok' b) w' cost' (q a))
    → Codes (λ b. known b × (okA (key b) × ok' b)) (λ b. wA (key b) ++ w' b) (λ b. both (costA (key b)) (cost' b)) (p >>= q)
keyed {okA = okA} {wA} {costA} {known = known} {ok'} {w'} {cost'} {q} key P Q =
    bind (λ a b. (known b × (key b ≡ a)) × ok' b) w' cost' (λ s a. q a) P (λ s a. Q a)
    (λ b. (λ h. (key b, h.1.0, ((h.0, refl), h.1.1)), λ h. (h.2.0.0, (subst okA (sym h.2.0.1) h.1, h.2.1))))
    (λ a b h. ap (λ x. wA x ++ w' b) h.0.1)
    (λ a b h k. ap (λ x. costA x k + cost' b k) h.0.1)

-- a function of what is read
pub mapped : {A B : Type 0} {okA : A → Type 0} {wA : A → List ℕ} {costA : A → Cost} {p : Reads A}
    {ok : B → Type 0} {w : B → List ℕ} {cost : B → Cost} (f : A → B)
    → Codes okA wA costA p
    → ((b : B) → ok b ↔ ((a : A) × okA a × (b ≡ f a)))
    → ((a : A) → w (f a) ≡ wA a)
    → ((a : A) (k : Kind) → cost (f a) k ≡ costA a k)
    → Codes ok w cost (p >>= λ a. give (f a))
mapped {wA = wA} {costA} {w = w} {cost} f P parts bytes costs =
    bind (λ a b. b ≡ f a) (λ b. []) (λ b. free) (λ s a. give (f a)) P (λ s a h. give_codes) parts
    (λ a b h. ap w h ∙ (bytes a ∙ sym (append-nil (wA a))))
    (λ a b h k. ap (λ x. cost x k) h ∙ (costs a k ∙ sym (add-zero (costA a k))))
