-- Numbers as bytes, lowest first: `number_of` undoes `little`, and `little` undoes `number_of`.
use Rattle.std.proofs.Common.{◌≡◌, ℕ, zero, suc, ◌+◌, ◌*◌, ◌/◌, ◌%◌, ◌^◌, ◌<◌, ◌≤◌, List, [], ◌∷◌, ◌++◌, length, take, refl, ap, pow-suc, arith}
use Rattle.reader.specs.Reading.{number_of, Bytes}
use Rattle.reader.specs.Writing.{little}

pub length_little : (k n : ℕ) → length (little k n) ≡ k
length_little zero n = refl
length_little (suc k) n = ap suc (length_little k (n / 256))

-- one more byte
pub more_bytes : (k : ℕ) → 256 ^ suc k ≡ 256 * 256 ^ k
more_bytes k = omega (arith, pow-suc 256 k)

pub number_little : (k n : ℕ) → n < 256 ^ k → number_of (little k n) ≡ n
number_little zero n h = omega (arith, h)
number_little (suc k) n h =
    let less : n / 256 < 256 ^ k = omega (arith, more_bytes k) in
    let low = number_little k (n / 256) less in omega arith

-- a list of bytes: its tail, and what follows a front
pub bytes_tail : (b : ℕ) (bs : List ℕ) → Bytes (b ∷ bs) → Bytes bs
bytes_tail b bs h i = h (suc i)

pub bytes_after : (xs bs : List ℕ) → Bytes (xs ++ bs) → Bytes bs
bytes_after [] bs h = h
bytes_after (x ∷ xs) bs h = bytes_after xs bs (bytes_tail x (xs ++ bs) h)

pub number_below : (k : ℕ) (bs : List ℕ) → Bytes bs → k ≤ length bs → number_of (take k bs) < 256 ^ k
number_below zero bs h l = omega arith
number_below (suc k) [] h l = omega arith
number_below (suc k) (b ∷ bs) h l =
    let low = number_below k bs (bytes_tail b bs h) (omega arith) in omega (arith, more_bytes k, h zero)

pub little_number : (k : ℕ) (bs : List ℕ) → Bytes bs → k ≤ length bs → little k (number_of (take k bs)) ≡ take k bs
little_number zero bs h l = refl
little_number (suc k) [] h l = absurd (omega arith)
little_number (suc k) (b ∷ bs) h l =
    let rest = number_of (take k bs) in
    let small : b < 256 = h zero in
    let this : (b + 256 * rest) % 256 ≡ b = omega arith in
    let next : (b + 256 * rest) / 256 ≡ rest = omega arith in
    rw (this, next) (ap (λ t. b ∷ t) (little_number k bs (bytes_tail b bs h) (omega arith)))
