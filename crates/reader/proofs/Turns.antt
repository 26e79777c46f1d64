-- A loop that reads n things of one form.
use Rattle.std.proofs.Common.{◌≡◌, ℕ, zero, suc, ◌+◌, ◌-◌, ◌<◌, ◌≤◌, List, [], ◌∷◌, ◌++◌, length, sym, refl, ap, ◌∙◌, arith}
use Rattle.std.proofs.lemmas.List.{append_assoc}
use Rattle.reader.specs.Reading.{Reads, Spot, Read, got, fault, after, repeated}
use Rattle.reader.specs.Parts.{several}

module _ {A : Type 0} (p : Reads A) (size : ℕ) where
  -- k of n things are read: `front`, and the rest from t
  pub record Went (n k : ℕ) (s t : Spot) : Type 0 where
    pub front : List A
    pub left : repeated n p size s ≡ after (repeated (n - k) p size t) (λ more u. got (front ++ more) u)

  step : (m : ℕ) (front : List A) (a : A) (t u : Spot) → p size t ≡ got a u
      → after (repeated (suc m) p size t) (λ more v. got (front ++ more) v) ≡ after (repeated m p size u) (λ more v. got ((front ++ a ∷ []) ++ more) v)
  step m front a t u e = rw e (go (repeated m p size u))
    where
      go : (r : Read (List A)) → after (after r (λ more v. got (a ∷ more) v)) (λ more v. got (front ++ more) v) ≡ after r (λ more v. got ((front ++ a ∷ []) ++ more) v)
      go (got more v) = ap (λ xs. got xs v) (sym (append_assoc front (a ∷ []) more))
      go (fault n q) = refl

  pub went_on : (n k : ℕ) (s t u : Spot) (a : A) → k < n → p size t ≡ got a u → Went n k s t → Went n (k + 1) s u
  went_on n k s t u a h e w = record {
    front = w.front ++ a ∷ [];
    left = let d : n - k ≡ suc (n - (k + 1)) = omega arith in w.left ∙ rw d (step (n - (k + 1)) w.front a t u e);
  }

  pub went_wrong : (n k : ℕ) (s t : Spot) (m q : ℕ) → k < n → p size t ≡ fault m q → Went n k s t → repeated n p size s ≡ fault m q
  went_wrong n k s t m q h e w = let d : n - k ≡ suc (n - (k + 1)) = omega arith in w.left ∙ rw (d, e)

  -- all that there is of n things
  pub several_all : (n : ℕ) (s t : Spot) (xs : List A) → repeated n p size s ≡ got xs t → several n p size s ≡ xs
  several_all zero s t xs e = cc
  several_all (suc n) s t xs e = go (λ u more v. several_all n u v more) (p size s) refl
    where
      all : (u : Spot) (r : Read (List A)) (a : A) → repeated n p size u ≡ r → ((more : List A) (v : Spot) → repeated n p size u ≡ got more v → several n p size u ≡ more)
          → after r (λ more v. got (a ∷ more) v) ≡ got xs t → a ∷ several n p size u ≡ xs
      all u (got more v) a e ih f = let g = ih more v e in cc
      all u (fault m q) a e ih f = absurd (let z : ◌≡◌ {A = ℕ} 0 1 = cc in omega arith)

      go : ((u : Spot) (more : List A) (v : Spot) → repeated n p size u ≡ got more v → several n p size u ≡ more) → (r : Read A) → p size s ≡ r → several (suc n) p size s ≡ xs
      go ih (got a u) r = let f : after (repeated n p size u) (λ more v. got (a ∷ more) v) ≡ got xs t = rw r at e in rw (r, several) (all u (repeated n p size u) a refl (ih u) f)
      go ih (fault m q) r = absurd (let f : ◌≡◌ {A = Read (List A)} (fault m q) (got xs t) = rw r at e in let z : ◌≡◌ {A = ℕ} 0 1 = cc in omega arith)

  pub went_whole : (n k : ℕ) (s t : Spot) → n ≤ k → Went n k s t → got (several n p size s) t ≡ repeated n p size s
  went_whole n k s t h w =
      let d : n - k ≡ 0 = omega arith in
      let e : repeated n p size s ≡ got (w.front ++ []) t = w.left ∙ rw d in
      ap (λ xs. got xs t) (several_all n s t (w.front ++ []) e) ∙ sym e

-- what a reading that went through went through
pub after_back : {A B : Type 0} (r : Read A) (k : A → Spot → Read B) (b : B) (t : Spot) → after r k ≡ got b t → (a : A) × (u : Spot) × (r ≡ got a u) × (k a u ≡ got b t)
after_back (got a u) k b t e = (a, u, refl, e)
after_back (fault n q) k b t e = absurd (let z : ◌≡◌ {A = ℕ} 0 1 = cc in omega arith)

pub repeated_length : {A : Type 0} (p : Reads A) (size n : ℕ) (s t : Spot) (xs : List A) → repeated n p size s ≡ got xs t → length xs ≡ n
repeated_length p size zero s t xs e = let z : xs ≡ [] = cc in rw z
repeated_length p size (suc n) s t xs e =
    let a = after_back (p size s) _ xs t e in
    let b = after_back (repeated n p size a.1) _ xs t a.3 in
    let h = repeated_length p size n a.1 b.1 b.0 b.2 in
    let z : xs ≡ a.0 ∷ b.0 = cc in rw (z, h)
