-- What the private functions of the checks answer.
use Rattle.std.specs.Prelude.{◌≡◌, ℕ, Bool, true, false, ◌&&◌, length, is_some, Some, None, Option, ◌==◌, nat_lt}
use Rattle.checks.specs.Checks.{destination_fits, is_entry, is_before, same_flag, inst_tests}
use Rattle.checks.specs.Tests.{first_fault}
use Rattle.clif.specs.declared.entities.Entry.{Entry}
use Rattle.clif.specs.declared.entities.Entry.TheVariants.{Block as to_block, Edge as to_edge}
use Rattle.clif.specs.declared.entities.Block.{Block}
use Rattle.function.specs.Answers.{destination_of_block, entry_of_block, entry_of_edge, all_insts}
use Rattle.reader.specs.Data.{Destination, Func}

-- a destination that may not be there
abbrev pub maybe_fits : Func → Option Destination → Bool
maybe_fits f None = true
maybe_fits f (Some d) = destination_fits f d

-- the destinations that the tables keep for a block, looked at from its last instruction
abbrev pub ends_fit : Func → Bool → Option Block → Bool
ends_fit f false o = true
ends_fit f true None = true
ends_fit f true (Some b) = maybe_fits f (destination_of_block f b.0 0) && maybe_fits f (destination_of_block f b.0 1)

-- the block of a destination that may not be there is ordered
abbrev pub maybe_ordered : Func → Option Destination → Bool
maybe_ordered f None = true
maybe_ordered f (Some d) = is_some (entry_of_block f d.target.0)

-- an entry, by the two destinations that the tables keep for a block
abbrev pub kept_entry_fits : Func → ℕ → Entry → Bool
kept_entry_fits f e (to_block b) =
    nat_lt b.0 (length f.blocks)
    && (is_entry (entry_of_block f b.0) e
    && (same_flag (e == 0) (b.0 == 0)
    && (maybe_ordered f (destination_of_block f b.0 0) && maybe_ordered f (destination_of_block f b.0 1))))
kept_entry_fits f e (to_edge b k) =
    nat_lt b.0 (length f.blocks)
    && (is_some (destination_of_block f b.0 k)
    && (is_entry (entry_of_edge f b.0 k) e
    && is_before (entry_of_block f b.0) e))

-- every row and every number fits
abbrev pub InstsPass : Func → Type 0
InstsPass f = first_fault (inst_tests f 0 (length (all_insts f))) ≡ None

-- an instruction that was found, as a fault
abbrev pub fault_at : Option ℕ → Option (ℕ × ℕ)
fault_at None = None
fault_at (Some i) = Some (6, i)
