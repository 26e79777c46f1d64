-- How the tables are filled, record by record. What they come to is said by `store_of`, in Holding; these definitions are
-- for the private functions that get there.
use Rattle.std.specs.Prelude.{◌≡◌, ℕ, ◌-◌, Bool, List, [], ◌∷◌, map, length, Some, None, Ok, Err, Option, Result as Answer, slice_index_or}
use Rattle.clif.specs.declared.entities.Entry.{Entry}
use Rattle.clif.specs.declared.entities.Entry.TheVariants.{Block as to_block, Edge as to_edge}
use Rattle.clif.specs.declared.entities.Value.{Value}
use Rattle.clif.specs.declared.types.«Type».{«Type» as Ty}
use Rattle.function.specs.Cells.{Cells, pushed, pushed_all, written, table}
use Rattle.function.specs.declared.tables.Tables.{Tables}
use Rattle.function.specs.Numbering.{Numbers, uses_of, is_last, inst_number, defined, block_row, two_places, values_from}
use Rattle.function.specs.declared.fill.Kept.{Kept}
use Rattle.function.specs.declared.rows.DestData.{DestData}
use Rattle.function.specs.declared.rows.InstData.{InstData}
use Rattle.function.specs.declared.rows.ValueDef.TheVariants.{Param, Result}
use Rattle.reader.specs.Data.{Destination, Instruction, Body, Func}
use Rattle.clif.specs.Refusals.{refusal_number, refusal_place}
use Rattle.clif.specs.declared.refusals.Refusal.{Refusal}
use Rattle.reader.specs.Reading.{block_at, Outcome, done, refused, read}
use Rattle.reader.specs.Records.{instruction_of, types_in}
use Rattle.reader.specs.declared.records.Record.{Record}
use Rattle.reader.specs.declared.records.Record.TheVariants.{Block as to_body, Inst as to_inst, Order as to_order}
use Rattle.std.specs.List.{fold}
use Rattle.std.specs.Option.{option_or, option_map_or}
use Rattle.function.specs.Holding.{edge_place}
use Rattle.reader.specs.Stream.{Tail, mapped_outcome}

-- how much is stored already
abbrev pub numbers_now : Tables → Numbers
numbers_now s = record { insts = s.insts.len; values = s.values.len; uses = s.uses.len }

-- the values up to n, each with its number
abbrev pub numbered : ℕ → Cells Value → Cells Value
numbered n c = pushed_all 2048 (values_from c.len (n - c.len)) c

-- the rows of destinations, as their arguments are stored
abbrev pub placed : List Destination → Cells Value → List DestData
placed [] c = []
placed (d ∷ ds) c = record { target = d.target; first_arg = c.len; args = length d.args } ∷ placed ds (pushed_all 4096 d.args c)

-- a block's head stored: its row, and its parameters among the values
abbrev pub store_block : List Ty → ℕ → Tables → Tables
store_block params count s = let values = pushed_all 2048 (map Some (defined (Param (block_at s.blocks.len)) 0 params)) s.values in record {
  blocks = pushed 64 (Some (block_row (numbers_now s) params count)) s.blocks;
  insts = s.insts;
  values = values;
  numbers = numbered values.len s.numbers;
  uses = s.uses;
  destinations = s.destinations;
  order = s.order;
  block_entries = s.block_entries;
  edge_entries = s.edge_entries;
}

-- an instruction's row, with the uses that were stored for it
abbrev pub row_now : Bool → Instruction → Tables → InstData
row_now last x s = record {
  block = block_at (s.blocks.len - 1);
  last = last;
  opcode = x.opcode;
  first_use = s.uses.len;
  operands = length x.operands;
  uses = (pushed_all 4096 (uses_of x) s.uses).len - s.uses.len;
  first_result = s.values.len;
  results = length x.results;
  destinations = length x.destinations;
  immediate = x.immediate;
  flag = x.flag;
  location = x.location;
}

-- an instruction stored: its row, its results, what it uses and where it may lead
abbrev pub store_inst : Bool → Instruction → Tables → Tables
store_inst last x s = let values = pushed_all 2048 (map Some (defined (Result (inst_number s.insts.len)) 0 x.results)) s.values in record {
  blocks = s.blocks;
  insts = pushed 1024 (Some (row_now last x s)) s.insts;
  values = values;
  numbers = numbered values.len s.numbers;
  uses = pushed_all 4096 (uses_of x) s.uses;
  destinations = pushed_all 128 (two_places last (placed x.destinations (pushed_all 4096 x.operands s.uses))) s.destinations;
  order = s.order;
  block_entries = s.block_entries;
  edge_entries = s.edge_entries;
}

-- the entry is noted at a place where none is yet
abbrev pub noted : ℕ → ℕ → Cells (Option ℕ) → Cells (Option ℕ)
noted i e c = written i (option_or (slice_index_or c.rows i None) (Some e)) c

-- at the place of the block or of the edge that the entry names
abbrev pub noted_block : Entry → ℕ → Cells (Option ℕ) → Cells (Option ℕ)
noted_block (to_block b) e c = noted b.0 e c
noted_block (to_edge b k) e c = c

abbrev pub noted_edge : Entry → ℕ → Cells (Option ℕ) → Cells (Option ℕ)
noted_edge (to_block b) e c = c
noted_edge (to_edge b k) e c = option_map_or (λ i. noted i e c) (edge_place b.0 k) c

-- an entry of the order stored
abbrev pub store_entry : Entry → Tables → Tables
store_entry x s = record {
  blocks = s.blocks;
  insts = s.insts;
  values = s.values;
  numbers = s.numbers;
  uses = s.uses;
  destinations = s.destinations;
  order = pushed 128 (Some x) s.order;
  block_entries = noted_block x s.order.len s.block_entries;
  edge_entries = noted_edge x s.order.len s.edge_entries;
}

-- what is left of a block, and blocks and entries, one after another
abbrev pub store_insts : List Instruction → Tables → Tables
store_insts [] s = s
store_insts (x ∷ xs) s = store_insts xs (store_inst (is_last xs) x s)

abbrev pub store_blocks : List Body → Tables → Tables
store_blocks bs s = fold (λ t b. store_insts b.insts (store_block b.params (length b.insts) t)) s bs

abbrev pub store_order : List Entry → Tables → Tables
store_order xs s = fold (λ t x. store_entry x t) s xs

-- all that is left of a file
abbrev pub stored : Tail → Tables → Tables
stored t s = store_order t.order (store_blocks t.blocks (store_insts t.insts s))

-- what is kept of a list of destination rows: how many they are, and the first two
pub record KeptOf (k : Kept) (ds : List DestData) : Type 0 where
  pub count : k.count ≡ length ds
  pub places : k.places ≡ pushed_all 2 (map Some ds) (table 2 None [])

-- a whole function is left
abbrev pub tail_of : Func → Tail
tail_of f = record { insts = []; blocks = f.blocks; order = f.order }

-- what storing a file comes to, and what an answer says of that
abbrev pub stored_file : List ℕ → Tables → Outcome Tables
stored_file file s = mapped_outcome (λ f. stored (tail_of f) s) (read file)

abbrev pub answered : Answer (Unit {0}) Refusal → Tables → Outcome Tables
answered (Ok _) s = done s
answered (Err e) s = refused (refusal_number e) (refusal_place e)

-- one record stored
abbrev pub store_record : Record → Bool → Tables → Tables
store_record (to_body b) last s = store_block (types_in b.params) b.insts s
store_record (to_inst x) last s = store_inst last (instruction_of x) s
store_record (to_order o) last s = store_entry o.«entry» s
