-- The first bytes are laid.
use Rattle.std.proofs.Common.{take}
use Rattle.text.proofs.Pages.{Lays}
use Rattle.text.proofs.write_bytes.Given as goal

abbrev pub invariant-loop-b : goal.invariant-loop-b
invariant-loop-b l = Lays (take l.b-index l.s) l.at l.fn.out l.next l.out
