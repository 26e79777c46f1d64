-- What the records that the reader hands out stand for.
use Rattle.std.specs.Prelude.{ℕ, List}
use Rattle.clif.specs.declared.entities.Value.{Value}
use Rattle.clif.specs.declared.types.«Type».{«Type» as Ty}
use Rattle.reader.specs.Data.{Destination, Instruction}
use Rattle.reader.specs.Parts.{words_of, types_of, several}
use Rattle.reader.specs.Reading.{destination}
use Rattle.reader.specs.Told.{spot}
use Rattle.reader.specs.declared.lists.Words.{Words}
use Rattle.reader.specs.declared.lists.Types.{Types}
use Rattle.reader.specs.declared.records.DestRecord.{DestRecord}
use Rattle.reader.specs.declared.records.Destinations.{Destinations}
use Rattle.reader.specs.declared.records.InstRecord.{InstRecord}
use Rattle.reader.specs.declared.records.BlockRecord.{BlockRecord}

-- the values still to be handed out, and the types
abbrev pub values_in : Words → List Value
values_in w = words_of w.bytes.now

abbrev pub types_in : Types → List Ty
types_in t = types_of t.numbers.now

abbrev pub destination_of : DestRecord → Destination
destination_of d = record { target = d.target; args = values_in d.args }

-- the destinations still to be handed out
abbrev pub destinations_of : Destinations → List Destination
destinations_of d = several d.left destination d.fields.size (spot d.fields)

-- at most how many are still to be handed out
abbrev pub destinations_left : Destinations → ℕ
destinations_left d = d.left

abbrev pub instruction_of : InstRecord → Instruction
instruction_of x = record {
  opcode = x.opcode;
  operands = values_in x.operands;
  immediate = x.immediate;
  results = types_in x.results;
  destinations = destinations_of x.destinations;
  flag = x.flag;
  location = x.location;
}

abbrev pub heading_of : BlockRecord → List Ty × ℕ
heading_of b = (types_in b.params, b.insts)
