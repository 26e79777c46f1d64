-- What the tables hold of a function.
use Rattle.std.specs.Prelude.{◌≡◌, ℕ, ◌+◌, ◌*◌, ◌/◌, ◌%◌, Bool, false, cond, ◌&&◌, List, [], map, length, Some, None, Ok, Err, Option, Result, ◌==◌, nat_lt}
use Rattle.clif.specs.declared.entities.Entry.{Entry}
use Rattle.clif.specs.declared.entities.Entry.TheVariants.{Block as to_block, Edge as to_edge}
use Rattle.function.specs.Cells.{table}
use Rattle.function.specs.Numbering.{block_rows, inst_rows, value_rows, all_uses, all_destinations, values_from}
use Rattle.function.specs.declared.tables.Tables.{Tables}
use Rattle.std.specs.List.{position_from, range_with_len}
use Rattle.reader.specs.Data.{Func}
use Rattle.clif.specs.Refusals.{refusal_number, refusal_place}
use Rattle.clif.specs.declared.refusals.Refusal.{Refusal}
use Rattle.reader.specs.Reading.{value_at, done, refused, read}
use Rattle.reader.specs.Within.{Within}

-- whether an entry of the order names a block, or an edge by its predecessor and destination index
abbrev pub names_block : ℕ → Entry → Bool
names_block b (to_block c) = c.0 == b
names_block b (to_edge c k) = false

abbrev pub names_edge : ℕ → ℕ → Entry → Bool
names_edge b k (to_block c) = false
names_edge b k (to_edge c j) = c.0 == b && j == k

-- the first entry that names it, counted from 0
abbrev pub block_entry : List Entry → ℕ → Option ℕ
block_entry order b = position_from (names_block b) 0 order

abbrev pub edge_entry : List Entry → ℕ → ℕ → Option ℕ
edge_entry order b k = position_from (names_edge b k) 0 order

-- the place of an edge, where each block has two
abbrev pub edge_place : ℕ → ℕ → Option ℕ
edge_place b k = cond (nat_lt k 2) (Some (2 * b + k)) None

-- what the tables hold of a function: its rows, and zero behind them
abbrev pub store_of : Func → Tables
store_of f = record {
  blocks = table 64 None (map Some (block_rows f));
  insts = table 1024 None (map Some (inst_rows f));
  values = table 2048 None (map Some (value_rows f));
  numbers = table 2048 (value_at 0) (values_from 0 (length (value_rows f)));
  uses = table 4096 (value_at 0) (all_uses f);
  destinations = table 128 None (all_destinations f);
  order = table 128 None (map Some f.order);
  block_entries = record { rows = map (block_entry f.order) (range_with_len 0 64); len = 0 };
  edge_entries = record { rows = map (λ i. edge_entry f.order (i / 2) (i % 2)) (range_with_len 0 128); len = 0 };
}

-- every table zero: numbers 0, options None
abbrev pub zero_store : Tables
zero_store = record {
  blocks = table 64 None [];
  insts = table 1024 None [];
  values = table 2048 None [];
  numbers = table 2048 (value_at 0) [];
  uses = table 4096 (value_at 0) [];
  destinations = table 128 None [];
  order = table 128 None [];
  block_entries = table 64 None [];
  edge_entries = table 128 None [];
}

-- the tables are those of a function
abbrev pub Holds : Tables → Func → Type 0
Holds t f = t ≡ store_of f

-- what reading a file into the tables gives: the function that the file is, or its first fault and zero tables
abbrev pub Filled : List ℕ → Result (Unit {0}) Refusal → Tables → Type 0
Filled file (Ok _) t = (f : Func) × (read file ≡ done f) × Within f × Holds t f
Filled file (Err e) t = (read file ≡ refused (refusal_number e) (refusal_place e)) × (t ≡ zero_store)
