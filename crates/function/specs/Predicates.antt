-- The predicates of instructions.
use Rattle.std.specs.Prelude.{ℕ, Bool, false, cond, not, ◌&&◌, Some, None, Option}
use Rattle.clif.specs.Rows.{row_of, has_class}
use Rattle.function.specs.Answers.{inst_of, flag_in, option_in}
use Rattle.reader.specs.Data.{Func}

-- an instruction with a class is an effect
abbrev pub effect : Func → ℕ → Bool
effect f i = flag_in (inst_of f i) (λ x. has_class (row_of x.opcode).class)

-- a flag that stands and is 1
abbrev pub set_flag : Option Bool → Bool
set_flag None = false
set_flag (Some b) = b

abbrev pub cannot_trap : Func → ℕ → Bool
cannot_trap f i = flag_in (inst_of f i) (λ x. set_flag x.flag)

-- an effect that is no load with flag 1
abbrev pub needed_anyway : Func → ℕ → Bool
needed_anyway f i = flag_in (inst_of f i) (λ x. has_class (row_of x.opcode).class && not ((row_of x.opcode).class.load && set_flag x.flag))

abbrev pub branches : Func → ℕ → Bool
branches f i = flag_in (inst_of f i) (λ x. (row_of x.opcode).class.branch)

abbrev pub terminates : Func → ℕ → Bool
terminates f i = flag_in (inst_of f i) (λ x. (row_of x.opcode).class.terminator)

-- the immediate of an opcode that has one
abbrev pub constant : Func → ℕ → Option ℕ
constant f i = option_in (inst_of f i) (λ x. cond (row_of x.opcode).immediate x.immediate None)
