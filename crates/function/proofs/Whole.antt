-- A file stored record by record.
use Rattle.std.proofs.Common.{◌≡◌, ℕ, Bool, false, eqb, List, [], ◌∷◌, length, is_err, Some, Ok, Err, Result, sym, refl, ap, ◌∙◌, arith}
use Rattle.std.proofs.lemmas.List.{nil_from_length}
use Rattle.std.proofs.lemmas.Bool.{eq-eqb, ne_eqb, true≢false}
use Rattle.function.proofs.Filled.Theorem.{stored_is}
use Rattle.function.specs.Filling.{stored, store_record, tail_of, stored_file, answered}
use Rattle.function.specs.Holding.{zero_store, store_of, Filled}
use Rattle.function.specs.declared.tables.Tables.{Tables}
use Rattle.clif.specs.declared.refusals.Refusal.{Refusal}
use Rattle.function.specs.Numbering.{is_last}
use Rattle.reader.proofs.Handing.{left_length}
use Rattle.reader.specs.Data.{Instruction, Func}
use Rattle.reader.specs.Laws.{FormatLaw}
use Rattle.reader.specs.Within.{Within}
use Rattle.reader.specs.Reading.{Outcome, done, refused, read}
use Rattle.reader.specs.Stream.{Tail, left, added, mapped_outcome, func_of, Counts}
use Rattle.reader.specs.declared.reader.Reader.{Reader}
use Rattle.reader.specs.declared.records.Record.{Record}
use Rattle.reader.specs.declared.records.Record.TheVariants.{Block as to_body, Inst as to_inst, Order as to_order}

pub mapped_same : {X Y : Type 0} (f g : X → Y) (o : Outcome X) → ((x : X) → o ≡ done x → f x ≡ g x) → mapped_outcome f o ≡ mapped_outcome g o
mapped_same f g (done x) h = ap done (h x refl)
mapped_same f g (refused n p) h = refl

mapped_twice : {X Y Z : Type 0} (f : Y → Z) (g : X → Y) (o : Outcome X) → mapped_outcome f (mapped_outcome g o) ≡ mapped_outcome (λ x. f (g x)) o
mapped_twice f g (done x) = refl
mapped_twice f g (refused n p) = refl

last_is : (xs : List Instruction) (n : ℕ) → length xs ≡ n → is_last xs ≡ eqb n 0
last_is [] n e = sym (eq-eqb n 0 (sym e))
last_is (x ∷ xs) n e = sym (ne_eqb n 0 (λ z. omega arith))

-- one record stored, and then what is left
record_first : (r : Record) (x : Reader) (t : Tail) (s : Tables) (last : Bool) → last ≡ eqb x.insts 0 → Counts (Some r) x → (length t.insts ≡ x.insts) × (length t.blocks ≡ x.blocks)
    → stored t (store_record r last s) ≡ stored (added r t) s
record_first (to_body b) x t s last e c h = rw (← c, ← h.0)
record_first (to_inst i) x t s last e c h = let k = last_is t.insts x.insts h.0 in rw (e, ← k)
record_first (to_order o) x t s last e c h =
    let a = nil_from_length t.insts (h.0 ∙ c.0) in
    let b = nil_from_length t.blocks (h.1 ∙ c.1) in
    rw (a, b)

pub record_stored : (r : Record) (x y : Reader) (s u : Tables) (last : Bool) → left x ≡ mapped_outcome (added r) (left y) → last ≡ eqb y.insts 0 → Counts (Some r) y → u ≡ store_record r last s
    → mapped_outcome (λ t. stored t u) (left y) ≡ mapped_outcome (λ t. stored t s) (left x)
record_stored r x y s u last e l c f =
    mapped_same (λ t. stored t u) (λ t. stored (added r t) s) (left y) (λ t d. ap (stored t) f ∙ record_first r y t s last l c (left_length y t d))
    ∙ sym (ap (mapped_outcome (λ t. stored t s)) e ∙ mapped_twice (λ t. stored t s) (added r) (left y))

-- a file begins with no instruction of an earlier block
pub file_stored : (x : Reader) (s : Tables) → x.insts ≡ 0 → mapped_outcome (λ t. stored t s) (left x) ≡ mapped_outcome (λ f. stored (tail_of f) s) (mapped_outcome func_of (left x))
file_stored x s z =
    mapped_same (λ t. stored t s) (λ t. stored (tail_of (func_of t)) s) (left x)
    (λ t d. let a = nil_from_length t.insts ((left_length x t d).0 ∙ z) in rw a)
    ∙ sym (mapped_twice (λ f. stored (tail_of f) s) func_of (left x))

-- a file that was stored whole is a function, and the tables are its own
pub file_filled : (file : List ℕ) (s : Tables) → FormatLaw file → stored_file file zero_store ≡ done s → (f : Func) × (read file ≡ done f) × Within f × (s ≡ store_of f)
file_filled file s law e = go (read file) refl
  where
    go : (o : Outcome Func) → read file ≡ o → (f : Func) × (read file ≡ done f) × Within f × (s ≡ store_of f)
    go (done f) r =
        let w = ((law f).0 r).1 in
        let k : done (stored (tail_of f) zero_store) ≡ done s = sym (ap (mapped_outcome (λ g. stored (tail_of g) zero_store)) r) ∙ e in
        let same : s ≡ stored (tail_of f) zero_store = cc in
        (f, r, w, same ∙ stored_is f w)
    go (refused n p) r =
        let k : refused n p ≡ done s = sym (ap (mapped_outcome (λ g. stored (tail_of g) zero_store)) r) ∙ e in
        let z : ◌≡◌ {A = ℕ} 0 1 = cc in absurd (omega arith)

pub fill_ok : (file : List ℕ) (r : Result (Unit {0}) Refusal) (u : Tables) (t : Tables) → is_err r ≡ false → FormatLaw file → u ≡ zero_store → stored_file file u ≡ answered r t → Filled file r t
fill_ok file (Ok x) u t h law z e = file_filled file t law (sym (ap (stored_file file) z) ∙ e)
fill_ok file (Err x) u t h law z e = absurd (true≢false h)
