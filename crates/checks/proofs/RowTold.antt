-- What the answers about an instruction say of its row.
use Rattle.std.proofs.Common.{◌≡◌, ℕ, Bool, true, ◌&&◌, List, length, is_some, Some, None, Option, ap, ◌∙◌, ap₂, arith}
use Rattle.checks.specs.Checks.{constant_fits, shape_fits, row_fits}
use Rattle.checks.specs.declared.rows.Shape.{Shape}
use Rattle.clif.specs.Rows.{row_of}
use Rattle.clif.specs.declared.entities.Value.{Value}
use Rattle.clif.specs.declared.opcodes.Opcode.{Opcode}
use Rattle.clif.specs.declared.opcodes.Row.{Row}
use Rattle.function.specs.Answers.{list_in, option_in, number_in}
use Rattle.reader.specs.Data.{Instruction, Func}
use Rattle.std.specs.Option.{option_map}

pub same_shape : (s t : Shape) → s.operands ≡ t.operands → s.results ≡ t.results → s.destinations ≡ t.destinations → s.immediate ≡ t.immediate → s.flag ≡ t.flag → s.last ≡ t.last → s ≡ t
same_shape s t a b c d e f = λ i. record { operands = a i; results = b i; destinations = c i; immediate = d i; flag = e i; last = f i }

-- what was asked of an instruction that may not be there
abbrev pub shape_in : Option Instruction → Bool → List Value → Shape
shape_in o last rs = record {
  operands = length (list_in o (λ x. x.operands));
  results = length rs;
  destinations = number_in o (λ x. length x.destinations);
  immediate = is_some (option_in o (λ x. x.immediate));
  flag = is_some (option_in o (λ x. x.flag));
  last = last;
}

pub row_told : (f : Func) (o : Option Instruction) (last : Bool) (rs : List Value) (op : Opcode) (row : Row) (s : Shape) (a b : Bool)
    → Some op ≡ option_map (λ x. x.opcode) o → row ≡ row_of op → s ≡ shape_in o last rs → a ≡ shape_fits row s → b ≡ constant_fits f (option_in o (λ x. x.immediate)) rs
    → (a && b) ≡ elim o [ None ↦ true | Some x ↦ row_fits f x last rs ]
row_told f None last rs op row s a b h r e g k = absurd (let z : ◌≡◌ {A = ℕ} 0 1 = cc in omega arith)
row_told f (Some x) last rs op row s a b h r e g k = let q : op ≡ x.opcode = cc in ap₂ ◌&&◌ (g ∙ ap₂ shape_fits (r ∙ ap row_of q) e) k
