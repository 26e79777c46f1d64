-- Totals, by kind: what is added to them, and that they are within the limits.
use Rattle.std.proofs.Common.{◌≡◌, ℕ, ◌+◌, ◌≤◌, List, [], ◌∷◌, refl, ap, ◌∙◌, add-zero, add_assoc, zero-add, arith}
use mathlib.Core.Path.{fun_ext}
use Rattle.reader.specs.Data.{limit}
use Rattle.reader.specs.Reading.{total, raised, no_totals}
use Rattle.reader.specs.Within.{sum_of}
use Rattle.reader.specs.declared.totals.Kind.{Kind}
use Rattle.reader.specs.declared.totals.Kind.TheVariants.{Blocks, Insts, Values, Operands, Entries}
use Rattle.reader.specs.declared.totals.Totals.{Totals}

-- how many of each kind
abbrev pub Cost : Type 0
Cost = Kind → ℕ

abbrev pub free : Cost
free k = 0

abbrev pub both : Cost → Cost → Cost
both c d k = c k + d k

-- n of one kind
abbrev pub share : Kind → ℕ → Cost
share kind n k = total k (raised kind n no_totals)

unfoldable pub add : Totals → Cost → Totals
add t c = record { blocks = t.blocks + c Blocks; insts = t.insts + c Insts; values = t.values + c Values; operands = t.operands + c Operands; entries = t.entries + c Entries }

abbrev pub Under : Totals → Type 0
Under t = (k : Kind) → total k t ≤ limit k

-- a fact of each kind
pub each : (P : Kind → Type 0) → P Blocks → P Insts → P Values → P Operands → P Entries → (k : Kind) → P k
each P b i v o e Blocks = b
each P b i v o e Insts = i
each P b i v o e Values = v
each P b i v o e Operands = o
each P b i v o e Entries = e

pub total_add : (t : Totals) (c : Cost) (k : Kind) → total k (add t c) ≡ total k t + c k
unfolding add
total_add t c = each (λ k. total k (add t c) ≡ total k t + c k) refl refl refl refl refl

pub total_raised : (kind : Kind) (n : ℕ) (t : Totals) → total kind (raised kind n t) ≡ total kind t + n
total_raised kind n t = each (λ k. total k (raised k n t) ≡ total k t + n) refl refl refl refl refl kind

-- equal costs add the same
pub add_same : (t : Totals) (c d : Cost) → ((k : Kind) → c k ≡ d k) → add t c ≡ add t d
add_same t c d h = ap (add t) (fun_ext h)

pub add_free : (t : Totals) → add t free ≡ t
unfolding add
add_free t = simp add-zero

pub add_both : (t : Totals) (c d : Cost) → add (add t c) d ≡ add t (both c d)
unfolding add
add_both t c d = simp add_assoc

pub add_share : (kind : Kind) (n : ℕ) (t : Totals) → add t (share kind n) ≡ raised kind n t
unfolding add
add_share Blocks n t = simp (zero-add, add-zero)
add_share Insts n t = simp (zero-add, add-zero)
add_share Values n t = simp (zero-add, add-zero)
add_share Operands n t = simp (zero-add, add-zero)
add_share Entries n t = simp (zero-add, add-zero)

-- what is within the limits was so before something was added
pub under_before : (t : Totals) (c : Cost) → Under (add t c) → Under t
under_before t c h k = omega (arith, h k, total_add t c k)

pub under_raised : (kind : Kind) (n : ℕ) (t : Totals) → Under t → total kind t + n ≤ limit kind → Under (raised kind n t)
under_raised Blocks n t h l = each (λ k. total k (raised Blocks n t) ≤ limit k) l (h Insts) (h Values) (h Operands) (h Entries)
under_raised Insts n t h l = each (λ k. total k (raised Insts n t) ≤ limit k) (h Blocks) l (h Values) (h Operands) (h Entries)
under_raised Values n t h l = each (λ k. total k (raised Values n t) ≤ limit k) (h Blocks) (h Insts) l (h Operands) (h Entries)
under_raised Operands n t h l = each (λ k. total k (raised Operands n t) ≤ limit k) (h Blocks) (h Insts) (h Values) l (h Entries)
under_raised Entries n t h l = each (λ k. total k (raised Entries n t) ≤ limit k) (h Blocks) (h Insts) (h Values) (h Operands) l

-- none of a kind, and a sum of nothing
pub total_none : (k : Kind) → total k no_totals ≡ 0
total_none = each (λ k. total k no_totals ≡ 0) refl refl refl refl refl

pub share_none : (kind k : Kind) → share kind 0 k ≡ 0
share_none kind k = ap (total k) (each (λ kind. raised kind 0 no_totals ≡ no_totals) refl refl refl refl refl kind) ∙ total_none k

pub sum_none : {E : Type 0} (xs : List E) → sum_of (λ x. 0) xs ≡ 0
sum_none [] = refl
sum_none (x ∷ xs) = omega (arith, sum_none xs)
