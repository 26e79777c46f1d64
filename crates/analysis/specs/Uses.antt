-- Use states: how often each value is used.
use Rattle.std.specs.Prelude.{◌≡◌, ℕ, ◌<◌, ◌≤◌, Bool, false, List, [], length, Some, None, Ok, Err, count_by, Option, Result as Outcome, ◌==◌, slice_index_or, slice_get}
use Rattle.analysis.specs.declared.states.ValueUseState.{ValueUseState}
use Rattle.analysis.specs.declared.states.ValueUseState.TheVariants.{Unused, Once, Multiple}
use Rattle.clif.specs.Refusals.{refusal_number, refusal_place}
use Rattle.clif.specs.declared.entities.Value.{Value}
use Rattle.clif.specs.declared.refusals.Refusal.{Refusal}
use Rattle.function.specs.Answers.{all_insts, inst_of, results_of, def_of_value, list_in}
use Rattle.function.specs.Numbering.{uses_of, value_rows}
use Rattle.function.specs.declared.rows.ValueDef.{ValueDef}
use Rattle.function.specs.declared.rows.ValueDef.TheVariants.{Param, Result}
use Rattle.reader.specs.Data.{Func}
use Rattle.std.specs.List.{flat_map}
use Rattle.std.specs.Option.{option_map}
use Rattle.storage.specs.Held.{Held, capacity}

abbrev pub use_state_number : ValueUseState → ℕ
use_state_number Unused = 0
use_state_number Once = 1
use_state_number Multiple = 2

-- one use more
abbrev pub raised : ValueUseState → ValueUseState
raised Unused = Once
raised Once = Multiple
raised Multiple = Multiple

-- the first result of an instruction, if it has one
abbrev pub first_result_of : Func → ℕ → Option ℕ
first_result_of f i = option_map (λ v. v.0) (slice_get (results_of f i) 0)

-- the value on which a use of v counts: a parameter itself; for a result the first result of its instruction
abbrev pub counted_by : Func → ℕ → Option ValueDef → Option ℕ
counted_by f v None = None
counted_by f v (Some (Param b k)) = Some v
counted_by f v (Some (Result i k)) = first_result_of f i.0

unfoldable pub counted_on : Func → ℕ → Option ℕ
counted_on f v = counted_by f v (def_of_value f v)

-- whether a use of u counts on v
abbrev pub is_value : Option ℕ → ℕ → Bool
is_value None v = false
is_value (Some w) v = w == v

abbrev pub counts_on : Func → ℕ → Value → Bool
counts_on f v u = is_value (counted_on f u.0) v

-- all uses of a function: each operand and each destination argument of each instruction of each block
abbrev pub uses : Func → List Value
uses f = flat_map uses_of (all_insts f)

-- how many uses count on v, in the whole function and by instruction i
abbrev pub use_count : Func → ℕ → ℕ
use_count f v = count_by (counts_on f v) (uses f)

abbrev pub used_by : Func → ℕ → ℕ → ℕ
used_by f i v = count_by (counts_on f v) (list_in (inst_of f i) uses_of)

-- the values that could be emitted in several places, as the smallest set: those with two uses, and those that an
-- instruction uses whose first result is one of them
pub data Many (f : Func) : ℕ → Type 0 where
  twice : {v : ℕ} → 2 ≤ use_count f v → Many f v
  again : {v w : ℕ} (i : ℕ) → 1 ≤ used_by f i v → first_result_of f i ≡ Some w → Many f w → Many f v

-- the state of value v: never used; used once and not one of these; one of these
abbrev pub StateOf : Func → ℕ → ValueUseState → Type 0
StateOf f v Unused = use_count f v ≡ 0
StateOf f v Once = (use_count f v ≡ 1) × (Many f v → ⊥)
StateOf f v Multiple = Many f v

-- a value has one state only
abbrev pub StateLaw : Func → Type 0
StateLaw f = (v : ℕ) (s t : ValueUseState) → StateOf f v s → StateOf f v t → s ≡ t

-- a table afterwards: each value has its state, and the places beyond are as before
pub record UseStatesFound (f : Func) (before after : List ValueUseState) : Type 0 where
  pub each : (v : ℕ) → v < length (value_rows f) → StateOf f v (slice_index_or after v Unused)
  pub beyond : (v : ℕ) → length (value_rows f) ≤ v → slice_index_or after v Unused ≡ slice_index_or before v Unused

-- the table and the stack have a place for each value
abbrev pub Enough : Func → List ValueUseState → Held Value → Type 0
Enough f states stack = (length (value_rows f) ≤ length states) × (length (value_rows f) ≤ capacity stack)

-- the table and the stack are as long as before
abbrev pub SameSize : List ValueUseState → Held Value → List ValueUseState → Held Value → Type 0
SameSize states stack states' stack' = (length states' ≡ length states) × (capacity stack' ≡ capacity stack)

-- counting is refused exactly if one of them is too short (10 at 0); afterwards the stack is empty, and what stands in its
-- free places is left open
abbrev pub Computed : Func → List ValueUseState → Held Value → Outcome (Unit {0}) Refusal → List ValueUseState → Held Value → Type 0
Computed f states stack (Ok _) states' stack' = Enough f states stack × UseStatesFound f states states' × (stack'.items ≡ [])
Computed f states stack (Err e) states' stack' = (Enough f states stack → ⊥) × (refusal_number e ≡ 10) × (refusal_place e ≡ 0)
