-- `lower::exponent` meets its contract. The loop's invariant: the search from here on is the whole search.
use Rattle.std.proofs.Common.{◌≡◌, ◌-◌}
use Rattle.lower.specs.Exponent.{equal_from}
use Rattle.lower.proofs.exponent.Given as goal

abbrev pub invariant-loop-n : goal.invariant-loop-n
invariant-loop-n l = equal_from (201 - l.n) l.n l.x ≡ equal_from 201 0 l.x
