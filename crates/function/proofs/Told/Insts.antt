-- What the tables tell of an instruction.
use Rattle.std.proofs.Common.{◌≡◌, ℕ, List, length, get_or, take, drop, Some, None, Option, sym, refl, ap, ◌∙◌, subst, slice_get}
use Rattle.clif.specs.declared.entities.Value.{Value}
use Rattle.function.proofs.Told.Each.{Both, both_elim, each_at}
use Rattle.function.proofs.Told.Places.{RowOf}
use Rattle.function.proofs.Told.Reading.{Part, row_read}
use Rattle.function.proofs.Told.Shown.{held, room, uses_shown, numbers_shown, insts_match}
use Rattle.function.specs.Answers.{Shows, list_in, flag_in, option_in, number_in, all_insts, inst_of, block_of, last_of, results_of}
use Rattle.function.specs.Numbering.{uses_of, inst_rows, value_rows, all_uses, values_from}
use Rattle.function.specs.declared.function.Function.{Function}
use Rattle.function.specs.declared.rows.InstData.{InstData}
use Rattle.reader.specs.Data.{Instruction, Func}
use Rattle.std.specs.Option.{option_map}

module _ (g : Function) (f : Func) (h : Shows g f) (i : ℕ) where
  abbrev at : Option InstData
  at = get_or (held g).insts.rows i None

  row : slice_get (inst_rows f) i ≡ at
  row = sym (row_read 1024 (inst_rows f) (held g).insts (ap (λ s. s.insts) h.holds) (room g f h).insts i)

  abbrev Row : InstData → Instruction → Type 0
  Row = RowOf (all_uses f) (length (value_rows f))

  match : Both Row at (inst_of f i)
  match = subst (λ p. Both Row p (inst_of f i)) row (each_at Row (inst_rows f) (all_insts f) (insts_match g f h) i)

  -- what each instruction has of its row, the one at i has of what stands there
  same : {Z : Type 0} (P : Option InstData → Z) (Q : Option Instruction → Z) → Q None ≡ P None → ((r : InstData) (x : Instruction) → Row r x → Q (Some x) ≡ P (Some r)) → Q (inst_of f i) ≡ P at
  same P Q none some = both_elim Row (λ p q. Q q ≡ P p) none some at (inst_of f i) match

  option_same : {Z : Type 0} (p : InstData → Option Z) (q : Instruction → Option Z) → ((r : InstData) (x : Instruction) → Row r x → q x ≡ p r) → option_in (inst_of f i) q ≡ option_in at p
  option_same p q t = same (λ k. option_in k p) (λ k. option_in k q) refl t

  uses_same : (n : InstData → ℕ) (xs : Instruction → List Value) → ((r : InstData) (x : Instruction) → Row r x → Part (all_uses f) r.first_use (n r) (xs x))
      → list_in (inst_of f i) xs ≡ list_in at (λ r. take (n r) (drop r.first_use (held g).uses.rows))
  uses_same n xs t = same (λ k. list_in k (λ r. take (n r) (drop r.first_use (held g).uses.rows))) (λ k. list_in k xs) refl
      (λ r x m. sym (uses_shown g f h r.first_use (n r) (xs x) (t r x m)))

  pub block_told : block_of f i ≡ option_map (λ r. r.block) at
  block_told = ap (option_map (λ r. r.block)) row

  pub last_told : last_of f i ≡ flag_in at (λ r. r.last)
  last_told = ap (λ p. flag_in p (λ r. r.last)) row

  pub opcode_told : option_map (λ x. x.opcode) (inst_of f i) ≡ option_map (λ r. r.opcode) at
  opcode_told = same (option_map (λ r. r.opcode)) (option_map (λ x. x.opcode)) refl (λ r x t. ap Some (sym t.opcode))

  pub immediate_told : option_in (inst_of f i) (λ x. x.immediate) ≡ option_in at (λ r. r.immediate)
  immediate_told = option_same (λ r. r.immediate) (λ x. x.immediate) (λ r x t. sym t.immediate)

  pub flag_told : option_in (inst_of f i) (λ x. x.flag) ≡ option_in at (λ r. r.flag)
  flag_told = option_same (λ r. r.flag) (λ x. x.flag) (λ r x t. sym t.flag)

  pub location_told : option_in (inst_of f i) (λ x. x.location) ≡ option_in at (λ r. r.location)
  location_told = option_same (λ r. r.location) (λ x. x.location) (λ r x t. sym t.location)

  pub destinations_told : number_in (inst_of f i) (λ x. length x.destinations) ≡ number_in at (λ r. r.destinations)
  destinations_told = same (λ p. number_in p (λ r. r.destinations)) (λ p. number_in p (λ x. length x.destinations)) refl (λ r x t. sym t.destinations)

  pub args_told : list_in (inst_of f i) (λ x. x.operands) ≡ list_in at (λ r. take r.operands (drop r.first_use (held g).uses.rows))
  args_told = uses_same (λ r. r.operands) (λ x. x.operands) (λ r x t. t.operands)

  pub uses_told : list_in (inst_of f i) uses_of ≡ list_in at (λ r. take r.uses (drop r.first_use (held g).uses.rows))
  uses_told = uses_same (λ r. r.uses) uses_of (λ r x t. t.uses)

  pub results_told : results_of f i ≡ list_in at (λ r. take r.results (drop r.first_result (held g).numbers.rows))
  results_told =
      let values : InstData → List Value = λ r. values_from r.first_result r.results in
      ap (λ p. list_in p values) row
      ∙ both_elim Row (λ p q. list_in p values ≡ list_in p (λ r. take r.results (drop r.first_result (held g).numbers.rows))) refl
      (λ r x t. sym (numbers_shown g f h r.first_result r.results t.results)) at (inst_of f i) match
