-- The walk goes forward.
use Rattle.std.proofs.Common.{◌-◌}
use Rattle.figures.proofs.entries.Given as goal

abbrev pub decreases-loop-d : goal.decreases-loop-d
decreases-loop-d g l = 262144 - l.at
