-- What is stored of a file, as lists, and the store that holds them.
use Rattle.std.proofs.Common.{◌≡◌, ℕ, ◌≤◌, Bool, List, [], ◌∷◌, ◌++◌, length, None, Option, sym, subst}
use Rattle.clif.specs.declared.entities.Entry.{Entry}
use Rattle.clif.specs.declared.entities.Value.{Value}
use Rattle.function.proofs.Filled.Entries.{firsts, names_place}
use Rattle.function.proofs.Filled.Tables.{rows_table, room_before}
use Rattle.function.specs.Cells.{table}
use Rattle.function.specs.Holding.{names_block}
use Rattle.function.specs.declared.tables.Tables.{Tables}
use Rattle.function.specs.Numbering.{Numbers, over_insts, over_blocks, uses_of, past_params, inst_number, defined, block_row, inst_row, dest_places, values_from}
use Rattle.function.specs.declared.rows.BlockData.{BlockData}
use Rattle.function.specs.declared.rows.DestData.{DestData}
use Rattle.function.specs.declared.rows.InstData.{InstData}
use Rattle.function.specs.declared.rows.ValueData.{ValueData}
use Rattle.function.specs.declared.rows.ValueDef.TheVariants.{Param, Result}
use Rattle.reader.specs.Data.{Instruction, Body}
use Rattle.reader.specs.Reading.{value_at, block_at}
use Rattle.std.proofs.lemmas.List.{append-nil, append_assoc}

pub record Contents : Type 0 where
  pub blocks : List BlockData
  pub insts : List InstData
  pub values : List ValueData
  pub uses : List Value
  pub destinations : List (Option DestData)

abbrev pub nothing : Contents
nothing = record { blocks = []; insts = []; values = []; uses = []; destinations = [] }

infixl 50 ◌⊕◌
-- one after another
abbrev pub ◌⊕◌ : Contents → Contents → Contents
◌⊕◌ a b = record {
  blocks = a.blocks ++ b.blocks;
  insts = a.insts ++ b.insts;
  values = a.values ++ b.values;
  uses = a.uses ++ b.uses;
  destinations = a.destinations ++ b.destinations;
}

pub then_nothing : (a : Contents) → a ⊕ nothing ≡ a
then_nothing a = simp append-nil

then_assoc : (a b c : Contents) → a ⊕ b ⊕ c ≡ a ⊕ (b ⊕ c)
then_assoc a b c = simp append_assoc

-- there is room in the tables
pub record Fits (a : Contents) : Type 0 where
  pub blocks : length a.blocks ≤ 64
  pub insts : length a.insts ≤ 1024
  pub values : length a.values ≤ 2048
  pub uses : length a.uses ≤ 4096
  pub destinations : length a.destinations ≤ 128

fits_before : (a b : Contents) → Fits (a ⊕ b) → Fits a
fits_before a b h = record {
  blocks = room_before _ b.blocks 64 h.blocks;
  insts = room_before _ b.insts 1024 h.insts;
  values = room_before _ b.values 2048 h.values;
  uses = room_before _ b.uses 4096 h.uses;
  destinations = room_before _ b.destinations 128 h.destinations;
}

-- two are stored in turn: the first where there is room for it, then both
pub in_turn : (P : Contents → Type 0) (a b c : Contents) → Fits (a ⊕ (b ⊕ c)) → (Fits (a ⊕ b) → Fits (a ⊕ b ⊕ c) → P (a ⊕ b ⊕ c)) → P (a ⊕ (b ⊕ c))
in_turn P a b c h f =
    let e = then_assoc a b c in
    let all = subst Fits (sym e) h in
    subst P e (f (fits_before (a ⊕ b) c all) all)

-- the store of some contents and of an order
unfoldable pub store_with : Contents → List Entry → Tables
store_with a order = record {
  blocks = rows_table 64 a.blocks;
  insts = rows_table 1024 a.insts;
  values = rows_table 2048 a.values;
  numbers = table 2048 (value_at 0) (values_from 0 (length a.values));
  uses = table 4096 (value_at 0) a.uses;
  destinations = table 128 None a.destinations;
  order = rows_table 128 order;
  block_entries = firsts names_block 64 order;
  edge_entries = firsts names_place 128 order;
}

-- an instruction, several, the head of a block, and several blocks
abbrev pub of_inst : ℕ → Bool → Numbers → Instruction → Contents
of_inst b last n x = record {
  blocks = [];
  insts = inst_row b last n x ∷ [];
  values = defined (Result (inst_number n.insts)) 0 x.results;
  uses = uses_of x;
  destinations = dest_places last n x;
}

abbrev pub of_insts : ℕ → Numbers → List Instruction → Contents
of_insts b n xs = record {
  blocks = [];
  insts = over_insts (λ last m x. (of_inst b last m x).insts) n xs;
  values = over_insts (λ last m x. (of_inst b last m x).values) n xs;
  uses = over_insts (λ last m x. (of_inst b last m x).uses) n xs;
  destinations = over_insts (λ last m x. (of_inst b last m x).destinations) n xs;
}

abbrev pub of_head : ℕ → Numbers → Body → Contents
of_head b n x = record {
  blocks = block_row n x.params (length x.insts) ∷ [];
  insts = [];
  values = defined (Param (block_at b)) 0 x.params;
  uses = [];
  destinations = [];
}

abbrev pub of_body : ℕ → Numbers → Body → Contents
of_body b n x = of_head b n x ⊕ of_insts b (past_params x n) x.insts

abbrev pub of_blocks : ℕ → Numbers → List Body → Contents
of_blocks b n xs = record {
  blocks = over_blocks (λ c m x. (of_body c m x).blocks) b n xs;
  insts = over_blocks (λ c m x. (of_body c m x).insts) b n xs;
  values = over_blocks (λ c m x. (of_body c m x).values) b n xs;
  uses = over_blocks (λ c m x. (of_body c m x).uses) b n xs;
  destinations = over_blocks (λ c m x. (of_body c m x).destinations) b n xs;
}
