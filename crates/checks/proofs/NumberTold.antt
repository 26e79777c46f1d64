-- What the tables say of the numbers that an instruction names, once its row fits.
use Rattle.std.proofs.Common.{◌≡◌, ℕ, ◌≤◌, Bool, true, false, not, ◌&&◌, ◌||◌, leb, List, [], ◌∷◌, length, is_some, Some, None, Option, sym, refl, ap, ◌∙◌, ap₂, arith, slice_get}
use Rattle.checks.specs.Checks.{shape_fits, shape_of, row_fits, same_flag, destination_fits, value_exists, numbers_fit, with_inst, row_test}
use Rattle.checks.specs.Steps.{maybe_fits, ends_fit}
use Rattle.std.specs.List.{list_all}
use Rattle.clif.specs.Rows.{row_of, within_span}
use Rattle.clif.specs.declared.entities.Block.{Block}
use Rattle.clif.specs.declared.entities.Value.{Value}
use Rattle.clif.specs.declared.opcodes.Opcode.{Opcode}
use Rattle.clif.specs.declared.opcodes.Opcode.TheVariants.{Iconst, Iadd, Imul, Umulhi, Icmp, UaddOverflow, Load, Store, Call, Jump, Brif, Return, Trap}
use Rattle.function.specs.Answers.{ending_of, list_in, option_in, inst_of, block_of, last_of, results_of}
use Rattle.function.specs.Numbering.{uses_of}
use Rattle.reader.specs.Data.{Destination, Instruction, Func}
use Rattle.std.proofs.lemmas.List.{nil_from_length}
use Rattle.std.proofs.lemmas.Bool.{and_parts, leb-true, true≢false}

-- no row has more than two destinations, and only terminators have any
pub few_destinations : (op : Opcode) → ((row_of op).destinations.most ≤ 2) × ((row_of op).class.terminator ≡ false → (row_of op).destinations.most ≡ 0)
few_destinations Iconst = (omega arith, λ e. refl)
few_destinations Iadd = (omega arith, λ e. refl)
few_destinations Imul = (omega arith, λ e. refl)
few_destinations Umulhi = (omega arith, λ e. refl)
few_destinations Icmp = (omega arith, λ e. refl)
few_destinations UaddOverflow = (omega arith, λ e. refl)
few_destinations Load = (omega arith, λ e. refl)
few_destinations Store = (omega arith, λ e. refl)
few_destinations Call = (omega arith, λ e. refl)
few_destinations Jump = (omega arith, λ e. absurd (true≢false e))
few_destinations Brif = (omega arith, λ e. absurd (true≢false e))
few_destinations Return = (omega arith, λ e. absurd (true≢false e))
few_destinations Trap = (omega arith, λ e. absurd (true≢false e))

same_false : (b : Bool) → same_flag b false ≡ true → b ≡ false
same_false true e = absurd (true≢false (sym e))
same_false false e = refl

-- what a fitting row says of destinations
pub row_says : (f : Func) (x : Instruction) (last : Bool) (rs : List Value) → row_fits f x last rs ≡ true → (length x.destinations ≤ 2) × (last ≡ false → x.destinations ≡ [])
row_says f x last rs h =
    let row = row_of x.opcode in
    let a = (and_parts (shape_fits row (shape_of x last rs)) _ h).0 in
    let b = (and_parts (within_span row.operands (length x.operands)) _ a).1 in
    let c = (and_parts (within_span row.results (length rs)) _ b).1 in
    let d = and_parts (within_span row.destinations (length x.destinations)) _ c in
    let e = (and_parts (same_flag row.immediate (is_some x.immediate)) _ d.1).1 in
    let g = (and_parts (row.flag || not (is_some x.flag)) _ e).1 in
    let m = leb-true (length x.destinations) row.destinations.most (and_parts (leb row.destinations.least (length x.destinations)) _ d.0).1 in
    let few = few_destinations x.opcode in
    (omega (arith, few.0), λ l. let t = same_false row.class.terminator (ap (same_flag row.class.terminator) (sym l) ∙ g) in nil_from_length x.destinations (omega (arith, few.1 t)))

and_true : (b : Bool) → (b && true) ≡ b
and_true true = refl
and_true false = refl

-- the two places that the tables keep are all that there is of at most two destinations
pub two_pass : (test : Destination → Bool) (maybe : Option Destination → Bool) → maybe None ≡ true → ((d : Destination) → maybe (Some d) ≡ test d) → (ds : List Destination) → length ds ≤ 2
    → (maybe (slice_get ds 0) && maybe (slice_get ds 1)) ≡ list_all test ds
two_pass test maybe n s [] h = ap₂ ◌&&◌ n n
two_pass test maybe n s (a ∷ []) h = ap₂ ◌&&◌ (s a) n
two_pass test maybe n s (a ∷ b ∷ []) h = ap₂ ◌&&◌ (s a) (s b ∙ sym (and_true (test b)))
two_pass test maybe n s (a ∷ b ∷ c ∷ ds) h = absurd (omega arith)

pub numbers_told : (f : Func) (x : Instruction) (last : Bool) (b : Block) (rs : List Value) → row_fits f x last rs ≡ true → (last ≡ true → ending_of f b.0 ≡ Some x)
    → (list_all (value_exists f) (uses_of x) && ends_fit f last (Some b)) ≡ numbers_fit f x
numbers_told f x true b rs h e = ap (λ t. list_all (value_exists f) (uses_of x) && t)
    (ap (λ o. maybe_fits f (option_in o (λ y. slice_get y.destinations 0)) && maybe_fits f (option_in o (λ y. slice_get y.destinations 1))) (e refl) ∙ two_pass (destination_fits f) (maybe_fits f) refl (λ d. refl) x.destinations (row_says f x true rs h).0)
numbers_told f x false b rs h e = ap (λ ds. list_all (value_exists f) (uses_of x) && list_all (destination_fits f) ds) (sym ((row_says f x false rs h).1 refl))

-- the same, of instruction i
pub numbers_at : (f : Func) (i : ℕ) (x : Instruction) (b : Block) (p q : Bool) → inst_of f i ≡ Some x → block_of f i ≡ Some b → (last_of f i ≡ true → ending_of f b.0 ≡ inst_of f i)
    → (row_test f i).passes ≡ true → p ≡ list_all (value_exists f) (list_in (inst_of f i) uses_of) → q ≡ ends_fit f (last_of f i) (block_of f i)
    → (p && q) ≡ with_inst f i (numbers_fit f)
numbers_at f i x b p q ix bx end row hp hq =
    let r : row_fits f x (last_of f i) (results_of f i) ≡ true = sym (ap (λ o. elim o [ None ↦ true | Some y ↦ row_fits f y (last_of f i) (results_of f i) ]) ix) ∙ row in
    ap₂ ◌&&◌ (hp ∙ ap (λ o. list_all (value_exists f) (list_in o uses_of)) ix) (hq ∙ ap (ends_fit f (last_of f i)) bx)
    ∙ numbers_told f x (last_of f i) b (results_of f i) r (λ l. end l ∙ ix)
    ∙ sym (ap (λ o. elim o [ None ↦ true | Some y ↦ numbers_fit f y ]) ix)
