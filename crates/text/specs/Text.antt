-- The text for a file: what is said of it.
use Rattle.std.specs.Prelude.{◌≡◌, ℕ, List, ◌++◌, length, Some, codes, decimal}
use Rattle.checks.specs.Verdict.{Accepted, first_fault_of}
use Rattle.clif.specs.Names.{refused_at}
use Rattle.function.specs.Answers.{all_insts}
use Rattle.function.specs.Numbering.{value_rows}
use Rattle.reader.specs.Data.{Func}

-- the line of a refusal, by its number and place
abbrev pub refusal_line : ℕ → ℕ → List ℕ
refusal_line n p = refused_at n p ++ codes "\n"

-- the first line of a function's text, by its numbers of blocks, instructions and values
abbrev pub totals_line : ℕ → ℕ → ℕ → List ℕ
totals_line b i v = codes "function " ++ (decimal b ++ (codes " " ++ (decimal i ++ (codes " " ++ (decimal v ++ codes "\n")))))

abbrev pub head_line : Func → List ℕ
head_line f = totals_line (length f.blocks) (length (all_insts f)) (length (value_rows f))

abbrev pub Begins : List ℕ → List ℕ → Type 0
Begins front text = (more : List ℕ) × (text ≡ front ++ more)

-- the text for an accepted file begins with the first line of its function; the text for a refused one is the line of its
-- first fault
pub record Shown (file text : List ℕ) : Type 0 where
  pub accepted : (f : Func) → Accepted file f → Begins (head_line f) text
  pub refused : (n p : ℕ) → first_fault_of file ≡ Some (n, p) → text ≡ refusal_line n p
