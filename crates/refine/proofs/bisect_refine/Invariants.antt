-- What is left of the halvings comes to the whole.
use Rattle.std.proofs.Common.{◌≡◌}
use Rattle.refine.specs.Refine.{refine_of, halvings}
use Rattle.refine.proofs.bisect_refine.Given as goal

abbrev pub invariant-loop-more : goal.invariant-loop-more
invariant-loop-more l = refine_of l.more l.row l.now l.tol ≡ refine_of halvings l.row l.initial.now l.tol

abbrev pub decreases-loop-more : goal.decreases-loop-more
decreases-loop-more l = l.more
