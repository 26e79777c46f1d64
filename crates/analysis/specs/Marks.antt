-- What the private functions of the use states do: one use counted after another.
use Rattle.std.specs.Prelude.{◌≡◌, ℕ, ◌+◌, ◌<◌, ◌≤◌, min, Bool, true, false, cond, ◌⊎◌, List, [], ◌∷◌, ◌++◌, map, length, take, drop, replicate, Some, None, count_by, Option, slice_index_or, slice_set}
use Rattle.analysis.specs.Uses.{counted_on, raised, use_count, Many, SameSize}
use Rattle.analysis.specs.declared.uses.Counting.{Counting}
use Rattle.analysis.specs.declared.states.ValueUseState.{ValueUseState}
use Rattle.analysis.specs.declared.states.ValueUseState.TheVariants.{Unused, Once, Multiple}
use Rattle.clif.specs.declared.entities.Inst.{Inst}
use Rattle.clif.specs.declared.entities.Value.{Value}
use Rattle.function.specs.Answers.{inst_of, list_in, def_of_value}
use Rattle.function.specs.Numbering.{uses_of, value_rows}
use Rattle.function.specs.declared.rows.ValueDef.{ValueDef}
use Rattle.function.specs.declared.rows.ValueDef.TheVariants.{Param, Result}
use Rattle.reader.specs.Data.{Func}
use Rattle.reader.specs.Reading.{value_at}
use Rattle.storage.specs.Held.{Held, pushed}

-- whether one use more makes the state Multiple for the first time
abbrev pub turns : ValueUseState → Bool
turns Unused = false
turns Once = true
turns Multiple = false

-- the first n states are Unused
abbrev pub cleared : ℕ → List ValueUseState → List ValueUseState
cleared n xs = replicate (min n (length xs)) Unused ++ drop n xs

-- the states, and the values whose instruction is still to be gone through
pub record Work : Type 0 where
  pub states : List ValueUseState
  pub stack : Held Value

abbrev pub work_of : Counting → Work
work_of c = record { states = c.states.now; stack = c.multiple_stack.now }

-- written through the same references
abbrev pub SamePlaces : Counting → Counting → Type 0
SamePlaces c after = (after.states.ghost_name ≡ c.states.ghost_name) × (after.multiple_stack.ghost_name ≡ c.multiple_stack.ghost_name)

-- the values on which uses count
abbrev pub counts : Func → List Value → List (Option ℕ)
counts f = map (λ u. counted_on f u.0)

abbrev pub stacked : Bool → ℕ → Held Value → Held Value
stacked b v h = cond b (pushed (value_at v) h) h

-- a use that counts on a value, if there is one
unfoldable pub marked : Work → Option ℕ → Work
marked w None = w
marked w (Some v) = record {
  states = slice_set w.states v (raised (slice_index_or w.states v Multiple));
  stack = stacked (turns (slice_index_or w.states v Multiple)) v w.stack;
}

-- one after another
abbrev pub marked_all : Work → List (Option ℕ) → Work
marked_all w [] = w
marked_all w (o ∷ os) = marked_all (marked w o) os

-- states that are not Multiple, and values on the stack: falls as the stack is worked off
abbrev pub is_open : ValueUseState → Bool
is_open Unused = true
is_open Once = true
is_open Multiple = false

unfoldable pub left : Work → ℕ
left w = count_by is_open w.states + length w.stack.items

-- whatever is counted, there is no more to do than before, and table and stack keep their sizes
pub record Kept (w after : Work) : Type 0 where
  pub falls : left after ≤ left w
  pub size : SameSize w.states w.stack after.states after.stack

-- a value waits in a list
abbrev pub Waits : ℕ → List Value → Type 0
Waits v [] = ⊥
Waits v (x ∷ xs) = (x.0 ≡ v) ⊎ Waits v xs

-- the values that uses count on are Multiple now
abbrev pub ManyNow : List ValueUseState → Option ℕ → Type 0
ManyNow xs None = Unit {0}
ManyNow xs (Some v) = slice_index_or xs v Multiple ≡ Multiple

abbrev pub AllMany : List ValueUseState → List (Option ℕ) → Type 0
AllMany xs [] = Unit {0}
AllMany xs (o ∷ os) = ManyNow xs o × AllMany xs os

-- what a state says for sure while counting goes on
abbrev pub Sure : Func → ℕ → ValueUseState → Type 0
Sure f v Unused = use_count f v ≡ 0
Sure f v Once = use_count f v ≡ 1
Sure f v Multiple = Many f v

-- the instruction that defines a value, if one does, and what that uses
abbrev pub inst_of_def : Option ValueDef → Option Inst
inst_of_def None = None
inst_of_def (Some (Param b k)) = None
inst_of_def (Some (Result i k)) = Some i

abbrev pub uses_behind : Func → ℕ → List Value
uses_behind f v = list_in (inst_of_def (def_of_value f v)) (λ i. list_in (inst_of f i.0) uses_of)

-- those uses are counted once more
abbrev pub Closed : Func → List ValueUseState → ℕ → Type 0
Closed f xs v = AllMany xs (counts f (uses_behind f v))

-- on the way: a stack with room for each that can still become Multiple, on it first results that are
-- Multiple; and each Multiple value waits or is closed
pub record Sound (f : Func) (w : Work) : Type 0 where
  pub room : count_by is_open (take (length (value_rows f)) w.states) ≤ length w.stack.room
  pub firsts : (v : ℕ) → Waits v w.stack.items → counted_on f v ≡ Some v
  pub full : (v : ℕ) → Waits v w.stack.items → slice_index_or w.states v Multiple ≡ Multiple

pub record Going (f : Func) (more : List Value) (w : Work) : Type 0 where
  pub sound : Sound f w
  pub each : (v : ℕ) → v < length (value_rows f) → Sure f v (slice_index_or w.states v Multiple)
  pub closed : (v : ℕ) → v < length (value_rows f) → slice_index_or w.states v Multiple ≡ Multiple → Waits v (more ++ w.stack.items) ⊎ Closed f w.states v

-- places beyond the values are as they were
abbrev pub Beyond : Func → List ValueUseState → List ValueUseState → Type 0
Beyond f before after = (length after ≡ length before) × ((v : ℕ) → length (value_rows f) ≤ v → slice_index_or after v Unused ≡ slice_index_or before v Unused)

-- the end: nothing waits
pub record Went (f : Func) (w : Work) : Type 0 where
  pub going : Going f [] w
  pub none : w.stack.items ≡ []

-- what working the stack off does
pub record Worked (f : Func) (w after : Work) : Type 0 where
  pub went : Going f [] w → Went f after
  pub beyond : Beyond f w.states after.states
