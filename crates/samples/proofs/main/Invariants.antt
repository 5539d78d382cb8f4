-- At most one job a turn.
use Rattle.std.proofs.Common.{◌≤◌, pos, ◌≤ℤ◌}
use Rattle.samples.proofs.main.Given as goal

abbrev pub invariant-loop : goal.invariant-loop
invariant-loop l = record { jobs : pos l.jobs ≤ℤ l.counter; differ : l.differ ≤ l.jobs }
