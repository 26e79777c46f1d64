-- Runs of tests: the first fault, test by test.
use Rattle.std.proofs.Common.{◌≡◌, ℕ, zero, suc, ◌+◌, ◌-◌, ◌<◌, ◌≤◌, Bool, true, false, cond, List, [], ◌∷◌, ◌++◌, Some, None, sym, refl, ap, ◌∙◌, arith}
use Rattle.checks.specs.Tests.{Test, first_fault, tests_from}

-- tests behind tests
pub fault_behind : (ts us : List Test) → first_fault ts ≡ None → first_fault (ts ++ us) ≡ first_fault us
fault_behind [] us e = refl
fault_behind (t ∷ ts) us e = go t.passes e (fault_behind ts us)
  where
    go : (b : Bool) → cond b (first_fault ts) (Some (t.number, t.place)) ≡ None → (first_fault ts ≡ None → first_fault (ts ++ us) ≡ first_fault us)
        → cond b (first_fault (ts ++ us)) (Some (t.number, t.place)) ≡ first_fault us
    go true e ih = ih e
    go false e ih = absurd (let z : ◌≡◌ {A = ℕ} 0 1 = cc in omega arith)

pub fault_before : (ts us : List Test) (p : ℕ × ℕ) → first_fault ts ≡ Some p → first_fault (ts ++ us) ≡ Some p
fault_before [] us p e = absurd (let z : ◌≡◌ {A = ℕ} 0 1 = cc in omega arith)
fault_before (t ∷ ts) us p e = go t.passes e (fault_before ts us p)
  where
    go : (b : Bool) → cond b (first_fault ts) (Some (t.number, t.place)) ≡ Some p → (first_fault ts ≡ Some p → first_fault (ts ++ us) ≡ Some p)
        → cond b (first_fault (ts ++ us)) (Some (t.number, t.place)) ≡ Some p
    go true e ih = ih e
    go false e ih = e

-- the tests before and behind, and each of a list
pub front_passes : (ts us : List Test) → first_fault (ts ++ us) ≡ None → first_fault ts ≡ None
front_passes [] us e = refl
front_passes (t ∷ ts) us e = go t.passes e (front_passes ts us)
  where
    go : (b : Bool) → cond b (first_fault (ts ++ us)) (Some (t.number, t.place)) ≡ None → (first_fault (ts ++ us) ≡ None → first_fault ts ≡ None) → cond b (first_fault ts) (Some (t.number, t.place)) ≡ None
    go true e ih = ih e
    go false e ih = absurd (let z : ◌≡◌ {A = ℕ} 0 1 = cc in omega arith)

pub back_passes : (ts us : List Test) → first_fault (ts ++ us) ≡ None → first_fault us ≡ None
back_passes [] us e = e
back_passes (t ∷ ts) us e = go t.passes e (back_passes ts us)
  where
    go : (b : Bool) → cond b (first_fault (ts ++ us)) (Some (t.number, t.place)) ≡ None → (first_fault (ts ++ us) ≡ None → first_fault us ≡ None) → first_fault us ≡ None
    go true e ih = ih e
    go false e ih = absurd (let z : ◌≡◌ {A = ℕ} 0 1 = cc in omega arith)

pub first_passes : (t : Test) (ts : List Test) → first_fault (t ∷ ts) ≡ None → (t.passes ≡ true) × (first_fault ts ≡ None)
first_passes t ts e = go t.passes refl
  where
    go : (b : Bool) → t.passes ≡ b → (t.passes ≡ true) × (first_fault ts ≡ None)
    go true h = (h, sym (ap (λ b. cond b (first_fault ts) (Some (t.number, t.place))) h) ∙ e)
    go false h = absurd (let z : ◌≡◌ {A = ℕ} 0 1 = cc (sym (ap (λ b. cond b (first_fault ts) (Some (t.number, t.place))) h) ∙ e) in omega arith)

-- the tests of one number after another
module _ (each : ℕ → List Test) where
  module _ (n i : ℕ) where
    pub tests_more : i < n → first_fault (each i) ≡ None → first_fault (tests_from each i (n - i)) ≡ first_fault (tests_from each (i + 1) (n - (i + 1)))
    tests_more h e =
        let s : n - i ≡ suc (n - (i + 1)) = omega arith in
        let t : suc i ≡ i + 1 = omega arith in
        rw s (fault_behind (each i) _ e ∙ ap (λ j. first_fault (tests_from each j (n - (i + 1)))) t)

    tests_stop : (p : ℕ × ℕ) → i < n → first_fault (each i) ≡ Some p → first_fault (tests_from each i (n - i)) ≡ Some p
    tests_stop p h e = let s : n - i ≡ suc (n - (i + 1)) = omega arith in rw s (fault_before (each i) _ p e)

    tests_end : n ≤ i → first_fault (tests_from each i (n - i)) ≡ None
    tests_end h = let s : n - i ≡ 0 = omega arith in rw s

    -- of m tests in all, those up to i having passed: the next one stops, or there is none
    module _ (m : ℕ) (all : n ≡ m) (passed : first_fault (tests_from each 0 n) ≡ first_fault (tests_from each i (n - i))) where
      pub stopped : (p : ℕ × ℕ) → i < n → first_fault (each i) ≡ Some p → Some p ≡ first_fault (tests_from each 0 m)
      stopped p h e = sym (ap (λ j. first_fault (tests_from each 0 j)) (sym all) ∙ passed ∙ tests_stop p h e)

      pub ended : n ≤ i → None ≡ first_fault (tests_from each 0 m)
      ended h = sym (ap (λ j. first_fault (tests_from each 0 j)) (sym all) ∙ passed ∙ tests_end h)

  pub tests_begin : (n : ℕ) → first_fault (tests_from each 0 n) ≡ first_fault (tests_from each 0 (n - 0))
  tests_begin n = let e : n ≡ n - 0 = omega arith in ap (λ m. first_fault (tests_from each 0 m)) e

  pub each_passes : (i n k : ℕ) → first_fault (tests_from each i n) ≡ None → k < n → first_fault (each (i + k)) ≡ None
  each_passes i zero k e h = absurd (omega arith)
  each_passes i (suc n) zero e h =
      let z : i ≡ i + 0 = omega arith in ap (λ j. first_fault (each j)) (sym z) ∙ front_passes (each i) (tests_from each (suc i) n) e
  each_passes i (suc n) (suc k) e h =
      let z : i + suc k ≡ suc i + k = omega arith in
      ap (λ j. first_fault (each j)) z ∙ each_passes (suc i) n k (back_passes (each i) (tests_from each (suc i) n) e) (omega arith)
