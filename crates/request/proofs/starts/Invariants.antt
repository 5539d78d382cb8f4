-- `request::starts` meets its contract. The loop's invariant: the rest of the key against the rest of the text decides.
use Rattle.std.proofs.Common.{◌≡◌, ◌+◌, ◌≤◌, length}
use lib.ListN.{drop}
use Rattle.request.specs.Ops.{begins}
use Rattle.request.proofs.starts.Given as goal

abbrev pub invariant-loop-i : goal.invariant-loop-i
invariant-loop-i l = (l.at + l.i ≤ length l.text) × (begins (drop l.i l.key) (drop (l.at + l.i) l.text) ≡ begins l.key (drop l.at l.text))
