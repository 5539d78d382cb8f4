use Rattle.std.proofs.Common.{ℕ, Ok, rules}
use mathlib.Core.Path.{ap, ◌∙◌}
use Prim.Native.Nat.{◌-◌}
use native.Mathlib.Omega.{arith}
use lib.ListN.{get_or}
use Rattle.ratio.specs.Refusal.{zero_r}
use Rattle.terms.specs.Poly.{terms_of}
use Rattle.terms.proofs.Lists.{past, read-terms}
use Rattle.poly.proofs.Doors.{open_step}
use Rattle.poly.proofs.Gives.{lead-told}
use Rattle.poly.proofs.leading_coeff.Goals as goal

pub returns-then-n-eq0-clause-promise : goal.returns-then-n-eq0-clause-promise
returns-then-n-eq0-clause-promise c = lead-told _ _ (search rules)

pub returns-else-n-eq0-clause-promise : goal.returns-else-n-eq0-clause-promise
returns-else-n-eq0-clause-promise c =
    let p = c.args.p in
    lead-told p _
    (open_step c.door-d.result _ c.door-d.ensures.is c.in-Open.is _ _
    (ap Ok (read-terms p.len p.coeffs (c.length-n.result - 1) past zero_r (omega (arith, c.length-n.ensures.is)) ∙ ap (λ (n : ℕ). get_or (terms_of p) (n - 1) zero_r) c.length-n.ensures.is)))
