use Rattle.std.proofs.Common.{length}
use Rattle.replay.proofs.print_all.Given as goal

abbrev pub decreases-loop-low : goal.decreases-loop-low
decreases-loop-low l = length l.rest
