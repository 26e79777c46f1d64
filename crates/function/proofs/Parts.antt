-- Tables, and several elements pushed to one.
use Rattle.std.proofs.Common.{◌≡◌, ℕ, List, Option, sym, ap, ◌∙◌, map-id}
use Rattle.std.specs.Iterator.{Drains}
use Rattle.std.proofs.lemmas.Iterator.{YieldsList, items_from_drains}
use Rattle.function.specs.Cells.{Cells, pushed_all}

pub same_cells : {E : Type 0} (xs ys : List E) (m n : ℕ) → xs ≡ ys → m ≡ n → ◌≡◌ {A = Cells E} (record { rows = xs; len = m }) (record { rows = ys; len = n })
same_cells xs ys m n e f = cc

-- the items of an iterator pushed
pub pushed_items : {S E : Type 0} {steps : S → Option E → S → Type 0} {s : S} {all : List E} (n : ℕ) (old new : Cells E)
    → (xs : List E) × Drains steps s xs × (new ≡ pushed_all n xs old) → YieldsList steps (λ x. x) s all → new ≡ pushed_all n all old
pushed_items n old new (xs, d, e) all = e ∙ ap (λ ys. pushed_all n ys old) (sym (map-id xs) ∙ items_from_drains xs (d.1.0, d.1.1, λ _. (d.0, d.1.2)) all)
