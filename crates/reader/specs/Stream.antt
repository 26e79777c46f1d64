-- A file as a sequence of records: what is left of it, and what a record adds.
use Rattle.std.specs.Prelude.{◌≡◌, ℕ, ◌+◌, ◌-◌, ◌*◌, ◌<◌, List, [], ◌∷◌, length, Some, None, Ok, Err, Option, Result, IfOk, OnSome}
use Rattle.clif.specs.Refusals.{refusal_number, refusal_place}
use Rattle.clif.specs.declared.entities.Entry.{Entry}
use Rattle.clif.specs.declared.refusals.Refusal.{Refusal}
use Rattle.reader.specs.Data.{Instruction, Body, Func}
use Rattle.reader.specs.Reading.{Reads, Spot, place, Outcome, done, refused, ended, give, ◌>>=◌, repeated, instruction, body, count, order_entry}
use Rattle.reader.specs.Records.{types_in, instruction_of}
use Rattle.reader.specs.Told.{spot}
use Rattle.reader.specs.declared.reader.Reader.{Reader}
use Rattle.reader.specs.declared.totals.Kind.TheVariants.{Entries}
use Rattle.reader.specs.declared.records.Record.{Record}
use Rattle.reader.specs.declared.records.Record.TheVariants.{Block, Inst, Order}

-- what comes after some records: instructions of the block at hand, further blocks, entries of the order
pub record Tail : Type 0 where
  pub insts : List Instruction
  pub blocks : List Body
  pub order : List Entry

-- how many entries of the order are still due: the file says so before the first
abbrev pub due_count : Option ℕ → Reads ℕ
due_count None = count 2 1 Entries
due_count (Some n) = give n

-- the entries still due
abbrev pub order_left : Option ℕ → Reads (List Entry)
order_left o = due_count o >>= λ n. repeated n order_entry

abbrev pub remaining : ℕ → ℕ → Option ℕ → Reads Tail
remaining i b o =
    repeated i instruction >>= λ is. repeated b body >>= λ bs. order_left o >>= λ es.
    give (record { insts = is; blocks = bs; order = es })

-- what is left for a reader
abbrev pub left : Reader → Outcome Tail
left x = ended x.fields.size (remaining x.insts x.blocks x.entries x.fields.size (spot x.fields))

abbrev pub mapped_outcome : {X Y : Type 0} → (X → Y) → Outcome X → Outcome Y
mapped_outcome f (done x) = done (f x)
mapped_outcome f (refused n p) = refused n p

-- a record put in front: a block takes the instructions that follow it
abbrev pub added : Record → Tail → Tail
added (Block b) t = record { insts = []; blocks = record { params = types_in b.params; insts = t.insts } ∷ t.blocks; order = t.order }
added (Inst x) t = record { insts = instruction_of x ∷ t.insts; blocks = t.blocks; order = t.order }
added (Order o) t = record { insts = t.insts; blocks = t.blocks; order = o.«entry» ∷ t.order }

abbrev pub nothing_left : Tail
nothing_left = record { insts = []; blocks = []; order = [] }

-- an answer of the reader, and what is left after it
abbrev pub handed : Result (Option Record) Refusal → Outcome Tail → Outcome Tail
handed (Ok (Some r)) rest = mapped_outcome (added r) rest
handed (Ok None) rest = done nothing_left
handed (Err e) rest = refused (refusal_number e) (refusal_place e)

-- a whole function, where nothing came before
abbrev pub func_of : Tail → Func
func_of t = record { blocks = t.blocks; order = t.order }

-- an answer to the opening of a file: what the file comes to
abbrev pub begun : Result Reader Refusal → Outcome Func
begun (Ok x) = mapped_outcome func_of (left x)
begun (Err e) = refused (refusal_number e) (refusal_place e)

-- how many instructions of the block at hand are still to come
abbrev pub insts_left : Reader → ℕ
insts_left x = x.insts

-- a number that falls with each record
abbrev pub entries_due : Option ℕ → ℕ
entries_due None = 65536
entries_due (Some n) = n

abbrev pub due : Reader → ℕ
due x = x.insts + (65536 * x.blocks + entries_due x.entries)

-- after a block's record its instructions are due, and after an entry of the order nothing but entries
abbrev pub Counts : Option Record → Reader → Type 0
Counts None y = Unit {0}
Counts (Some (Block b)) y = y.insts ≡ b.insts
Counts (Some (Inst x)) y = Unit {0}
Counts (Some (Order o)) y = (y.insts ≡ 0) × (y.blocks ≡ 0)

-- the place of the next entry: behind the count where that is still to be read
abbrev pub entry_place : Option ℕ → ℕ → Spot → ℕ
entry_place None size s = size - (length s.rest - 2)
entry_place (Some n) size s = place size s

-- a record has the place of its first byte
abbrev pub Placed : Option Record → Reader → Type 0
Placed None x = Unit {0}
Placed (Some (Block b)) x = b.place ≡ place x.fields.size (spot x.fields)
Placed (Some (Inst i)) x = i.place ≡ place x.fields.size (spot x.fields)
Placed (Some (Order o)) x = o.place ≡ entry_place x.entries x.fields.size (spot x.fields)

-- a call at x that answered r and left y: what was left, shorter by the record; fewer records to come; what is due then; and the record's place
pub record Handed (x : Reader) (r : Result (Option Record) Refusal) (y : Reader) : Type 0 where
  pub hands : left x ≡ handed r (left y)
  pub falls : IfOk r (λ o. OnSome o (due y < due x))
  pub counts : IfOk r (λ o. Counts o y)
  pub placed : IfOk r (λ o. Placed o x)
