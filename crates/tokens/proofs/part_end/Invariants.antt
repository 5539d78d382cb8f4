-- `tokens::part_end` meets its contract. The loop's invariant: the end is as far from here as from its start.
use Rattle.std.proofs.Common.{◌≡◌, ◌+◌}
use lib.ListN.{drop}
use Rattle.tokens.specs.Words.{length_to}
use Rattle.tokens.proofs.part_end.Given as goal

abbrev pub invariant-loop-end : goal.invariant-loop-end
invariant-loop-end l = l.end + length_to l.mark (drop l.end l.text) ≡ l.at + length_to l.mark (drop l.at l.text)
