-- A function as a file has it.
use Rattle.std.specs.Prelude.{ℕ, Bool, List, Option}
use Rattle.clif.specs.declared.entities.Block.{Block}
use Rattle.clif.specs.declared.entities.Value.{Value}
use Rattle.clif.specs.declared.entities.Entry.{Entry}
use Rattle.clif.specs.declared.opcodes.Opcode.{Opcode}
use Rattle.clif.specs.declared.types.«Type».{«Type» as Ty}
use Rattle.reader.specs.declared.totals.Kind.{Kind}
use Rattle.reader.specs.declared.totals.Kind.TheVariants.{Blocks, Insts, Values, Operands, Entries}

-- where a branch may go, and the arguments for the block's parameters
pub record Destination : Type 0 where
  pub target : Block
  pub args : List Value

-- an instruction; an empty list and None are fields that the file leaves out
pub record Instruction : Type 0 where
  pub opcode : Opcode
  pub operands : List Value
  pub immediate : Option ℕ
  pub results : List Ty
  pub destinations : List Destination
  pub flag : Option Bool
  pub location : Option ℕ

-- a block: the types of its parameters, and its instructions
pub record Body : Type 0 where
  pub params : List Ty
  pub insts : List Instruction

-- a function: its blocks, and the order in which they and its edges are laid out
pub record Func : Type 0 where
  pub blocks : List Body
  pub order : List Entry

-- at most how many of each kind a file may have
abbrev pub limit : Kind → ℕ
limit Blocks = 64
limit Insts = 1024
limit Values = 2048
limit Operands = 4096
limit Entries = 128
