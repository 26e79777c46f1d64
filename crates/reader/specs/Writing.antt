-- The bytes of a function: `encode`.
use Rattle.std.specs.Prelude.{ℕ, zero, suc, ◌+◌, ◌*◌, ◌/◌, ◌%◌, Bool, true, false, cond, List, [], ◌∷◌, ◌++◌, length, is_some, Some, None, Option}
use Rattle.std.specs.List.{flat_map}
use Rattle.clif.specs.Rows.{opcode_number}
use Rattle.clif.specs.Types.{type_number}
use Rattle.clif.specs.declared.entities.Value.{Value}
use Rattle.clif.specs.declared.entities.Entry.{Entry}
use Rattle.clif.specs.declared.entities.Entry.TheVariants.{Block as to_block, Edge as to_edge}
use Rattle.clif.specs.declared.types.«Type».{«Type» as Ty}
use Rattle.reader.specs.Data.{Destination, Instruction, Body, Func}

-- a number in k bytes, lowest first
abbrev pub little : ℕ → ℕ → List ℕ
little zero n = []
little (suc k) n = n % 256 ∷ little k (n / 256)

abbrev pub word : ℕ → List ℕ
word = little 2

-- whether a list field stands in the file
abbrev pub filled : {E : Type 0} → List E → Bool
filled [] = false
filled (x ∷ xs) = true

-- a list field: its count, of k bytes, and its elements; nothing where it is empty
abbrev pub listed : {E : Type 0} → ℕ → (E → List ℕ) → List E → List ℕ
listed k w [] = []
listed k w (x ∷ xs) = little k (length (x ∷ xs)) ++ flat_map w (x ∷ xs)

-- a field that may be left out
abbrev pub optional : {E : Type 0} → (E → List ℕ) → Option E → List ℕ
optional w None = []
optional w (Some x) = w x

abbrev pub value_bytes : Value → List ℕ
value_bytes v = word v.0

abbrev pub type_bytes : Ty → List ℕ
type_bytes t = type_number t ∷ []

abbrev pub flag_bytes : Bool → List ℕ
flag_bytes b = cond b 1 0 ∷ []

-- a destination: block, count of arguments, which may be 0, and arguments
abbrev pub destination_bytes : Destination → List ℕ
destination_bytes d = word d.target.0 ++ (little 1 (length d.args) ++ flat_map value_bytes d.args)

-- the map byte: bit k stands where field k does
abbrev pub instruction_map : Instruction → ℕ
instruction_map x =
    cond (filled x.operands) 1 0
    + (2 * cond (is_some x.immediate) 1 0
    + (4 * cond (filled x.results) 1 0
    + (8 * cond (filled x.destinations) 1 0
    + (16 * cond (is_some x.flag) 1 0
    + 32 * cond (is_some x.location) 1 0))))

abbrev pub instruction_bytes : Instruction → List ℕ
instruction_bytes x =
    instruction_map x ∷ opcode_number x.opcode ∷
    (listed 1 value_bytes x.operands
    ++ (optional (little 8) x.immediate
    ++ (listed 1 type_bytes x.results
    ++ (listed 1 destination_bytes x.destinations
    ++ (optional flag_bytes x.flag
    ++ optional (little 4) x.location)))))

-- a block: bit 0 of its map for parameters, bit 1 always
abbrev pub body_bytes : Body → List ℕ
body_bytes b =
    (2 + cond (filled b.params) 1 0) ∷
    (listed 1 type_bytes b.params
    ++ (little 2 (length b.insts) ++ flat_map instruction_bytes b.insts))

-- an entry of the order: a block, or an edge by its predecessor and destination index
abbrev pub entry_bytes : Entry → List ℕ
entry_bytes (to_block b) = 1 ∷ word b.0
entry_bytes (to_edge b k) = 2 ∷ (word b.0 ++ k ∷ [])

-- the whole file
abbrev pub encode : Func → List ℕ
encode f =
    word (length f.blocks) ++ (flat_map body_bytes f.blocks
    ++ (word (length f.order) ++ flat_map entry_bytes f.order))
