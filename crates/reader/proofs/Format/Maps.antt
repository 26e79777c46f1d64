-- Map bytes: which fields stand, as the bits of a number.
use Rattle.std.proofs.Common.{◌≡◌, ℕ, zero, suc, ◌+◌, ◌*◌, ◌/◌, ◌%◌, ◌<◌, ◌≤◌, Bool, true, false, cond, eqb, sym, refl, ap, ◌∙◌, arith}
use native.Mathlib.Nat.{div-div-eq-div-mul}
use Rattle.std.proofs.lemmas.Bool.{eq-eqb, ne_eqb}

abbrev digit : Bool → ℕ
digit b = cond b 1 0

digit_le : (b : Bool) → digit b ≤ 1
digit_le true = omega arith
digit_le false = omega arith

-- a test is that of its digit, and the digit that of its test
of_digit : (b : Bool) (n : ℕ) → n ≡ digit b → b ≡ eqb n 1
of_digit true n h = sym (eq-eqb n 1 h)
of_digit false n h = sym (ne_eqb n 1 (omega arith))

to_digit : (b : Bool) (n : ℕ) → b ≡ eqb (n % 2) 1 → digit b ≡ n % 2
to_digit b n h = ap digit h ∙ go (n % 2) (omega arith)
  where
    go : (m : ℕ) → m < 2 → digit (eqb m 1) ≡ m
    go zero l = refl
    go (suc zero) l = refl
    go (suc (suc m)) l = absurd (omega arith)

-- the number of an instruction's six tests
abbrev pub number_of_six : (a b c d e f : Bool) → ℕ
number_of_six a b c d e f = digit a + (2 * digit b + (4 * digit c + (8 * digit d + (16 * digit e + 32 * digit f))))

-- each of the six is its bit of the number n
pub record SixBits (a b c d e f : Bool) (n : ℕ) : Type 0 where
  pub one : a ≡ eqb (n / 1 % 2) 1
  pub two : b ≡ eqb (n / 2 % 2) 1
  pub four : c ≡ eqb (n / 4 % 2) 1
  pub eight : d ≡ eqb (n / 8 % 2) 1
  pub sixteen : e ≡ eqb (n / 16 % 2) 1
  pub thirty_two : f ≡ eqb (n / 32 % 2) 1

module _ (a b c d e f : Bool) where
  pub six_below : number_of_six a b c d e f ≤ 63
  six_below = omega (arith, digit_le a, digit_le b, digit_le c, digit_le d, digit_le e, digit_le f)

  pub six_bits : (n : ℕ) → number_of_six a b c d e f ≡ n → SixBits a b c d e f n
  six_bits n h =
      let la = digit_le a in let lb = digit_le b in let lc = digit_le c in
      let ld = digit_le d in let le = digit_le e in let lf = digit_le f in
      record {
        one = of_digit a (n / 1 % 2) (omega arith);
        two = of_digit b (n / 2 % 2) (omega arith);
        four = of_digit c (n / 4 % 2) (omega arith);
        eight = of_digit d (n / 8 % 2) (omega arith);
        sixteen = of_digit e (n / 16 % 2) (omega arith);
        thirty_two = of_digit f (n / 32 % 2) (omega arith);
      }

  pub six_number : (n : ℕ) → n ≤ 63 → SixBits a b c d e f n → number_of_six a b c d e f ≡ n
  six_number n l h =
      let da = to_digit a (n / 1) h.one in let db = to_digit b (n / 2) h.two in let dc = to_digit c (n / 4) h.four in
      let dd = to_digit d (n / 8) h.eight in let de = to_digit e (n / 16) h.sixteen in let df = to_digit f (n / 32) h.thirty_two in
      omega (arith, div-div-eq-div-mul n 2 2, div-div-eq-div-mul n 4 2, div-div-eq-div-mul n 8 2, div-div-eq-div-mul n 16 2)

-- a block's map: bit 1 stands, and bit 0 is the test
pub one_bit : (a : Bool) (n : ℕ) → 2 + digit a ≡ n → a ≡ eqb (n / 1 % 2) 1
one_bit a n h = of_digit a (n / 1 % 2) (omega (arith, digit_le a))

pub one_number : (a : Bool) (n : ℕ) → 2 ≤ n → n ≤ 3 → a ≡ eqb (n / 1 % 2) 1 → 2 + digit a ≡ n
one_number a n l m h = omega (arith, to_digit a (n / 1) h)

pub one_below : (a : Bool) → 2 + digit a ≤ 3
one_below a = omega (arith, digit_le a)
