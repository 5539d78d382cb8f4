-- The cycle of calls {split} meets its contract. The measure is the length of the polynomial.
use lib.ListN.{length}
use Rattle.terms.specs.Poly.{terms_of}
use Rattle.splitting.proofs.+split.Given as goal

abbrev pub decreases-split : goal.decreases-split
decreases-split l = length (terms_of l.f)
