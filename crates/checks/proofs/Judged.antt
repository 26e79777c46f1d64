-- What a file comes to, from what reading it and checking its function say.
use Rattle.std.proofs.Common.{◌≡◌, ℕ, true, false, List, is_err, Some, None, Ok, Err, Option, Result, sym, refl, ap, ◌∙◌, ap₂, arith}
use Rattle.checks.proofs.FactsHold.{facts_hold}
use Rattle.checks.specs.Checks.{all_tests}
use Rattle.checks.specs.Tests.{first_fault, fault_of}
use Rattle.checks.specs.Verdict.{judged, Accepted, Loaded}
use Rattle.clif.specs.Refusals.{refusal_number, refusal_place}
use Rattle.clif.specs.declared.refusals.Refusal.{Refusal}
use Rattle.function.specs.Holding.{Holds, zero_store, store_of}
use Rattle.function.specs.declared.tables.Tables.{Tables}
use Rattle.reader.specs.Data.{Func}
use Rattle.reader.specs.Laws.{FormatLaw}
use Rattle.reader.specs.Reading.{Outcome, done, refused, read}
use Rattle.std.proofs.lemmas.Bool.{false≢true}

func_or : Func → Outcome Func → Func
func_or g (done f) = f
func_or g (refused n p) = g

done_same : (f g : Func) → done f ≡ done g → f ≡ g
unfolding func_or
done_same f g e = ap (func_or f) e

not_done : (n p : ℕ) (f : Func) → refused n p ≡ done f → ⊥
not_done n p f e = let z : ◌≡◌ {A = ℕ} 0 1 = ap (λ o. elim o [ done x ↦ 1 | refused m q ↦ 0 ]) e in omega arith

some_same : (a b c d : ℕ) → ◌≡◌ {A = Option (ℕ × ℕ)} (Some (a, b)) (Some (c, d)) → (a ≡ c) × (b ≡ d)
some_same a b c d e = let p : ◌≡◌ {A = ℕ × ℕ} (a, b) (c, d) = cc in (ap (λ x. x.0) p, ap (λ x. x.1) p)

some_none : {p : ℕ × ℕ} → Some p ≡ None → ⊥
some_none e = let z : ◌≡◌ {A = ℕ} 0 1 = cc in omega arith

module _ (file : List ℕ) (law : FormatLaw file) where
  -- refused in reading
  pub loaded_unread : (e : Refusal) (t : Tables) → read file ≡ refused (refusal_number e) (refusal_place e) → t ≡ zero_store → Loaded file (Err e) t
  loaded_unread e t r z =
      let none : (f : Func) → Accepted file f → ⊥ = λ f a. not_done _ _ f (sym r ∙ (law f).1 (a.bytes, a.within)) in
      record {
        accepts = (λ h. absurd (false≢true h), λ a. absurd (none a.0 a.1));
        holds = λ f a. absurd (none f a);
        facts = λ f a. facts_hold f a.within a.checked;
        refuses = λ n p. (λ s. ap judged r ∙ ap₂ (λ x y. Some (x, y)) s.0 s.1, λ q. some_same _ _ n p (sym (ap judged r) ∙ q));
        zero = z;
      }

  module _ (f : Func) (r : read file ≡ done f) where
    only : (g : Func) → Accepted file g → g ≡ f
    only g a = done_same g f (sym ((law g).1 (a.bytes, a.within)) ∙ r)

    pub loaded_bad : (e : Refusal) (t : Tables) → Some (refusal_number e, refusal_place e) ≡ first_fault (all_tests f) → t ≡ zero_store → Loaded file (Err e) t
    loaded_bad e t h z =
        let none : (g : Func) → Accepted file g → ⊥ = λ g a. some_none (h ∙ ap (λ x. first_fault (all_tests x)) (sym (only g a)) ∙ a.checked) in
        record {
          accepts = (λ b. absurd (false≢true b), λ a. absurd (none a.0 a.1));
          holds = λ g a. absurd (none g a);
          facts = λ g a. facts_hold g a.within a.checked;
          refuses = λ n p. (λ s. ap judged r ∙ sym h ∙ ap₂ (λ x y. Some (x, y)) s.0 s.1, λ q. some_same _ _ n p (h ∙ sym (ap judged r) ∙ q));
          zero = z;
        }

    pub loaded_good : (x : Unit {0}) (t : Tables) → None ≡ first_fault (all_tests f) → Holds t f → Loaded file (Ok x) t
    loaded_good x t h k =
        let me : Accepted file f = record { bytes = ((law f).0 r).0; within = ((law f).0 r).1; checked = sym h } in
        record {
          accepts = (λ b. (f, me), λ a. refl);
          holds = λ g a. k ∙ ap store_of (sym (only g a));
          facts = λ g a. facts_hold g a.within a.checked;
          refuses = λ n p. (λ s. absurd s, λ q. absurd (some_none (sym q ∙ ap judged r ∙ sym h)));
          zero = tt;
        }

    -- the answer of the checks, whichever it is
    pub loaded_refused : (x : Result (Unit {0}) Refusal) (t : Tables) → is_err x ≡ true → fault_of x ≡ first_fault (all_tests f) → t ≡ zero_store → Loaded file x t
    loaded_refused (Ok x) t b h z = absurd (false≢true b)
    loaded_refused (Err e) t b h z = loaded_bad e t h z

    pub loaded_taken : (x : Result (Unit {0}) Refusal) (t : Tables) → is_err x ≡ false → fault_of x ≡ first_fault (all_tests f) → Holds t f → Loaded file x t
    loaded_taken (Ok x) t b h k = loaded_good x t h k
    loaded_taken (Err e) t b h k = absurd (false≢true (sym b))
