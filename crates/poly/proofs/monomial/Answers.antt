use Rattle.std.proofs.Common.{◌≡◌, rules}
use mathlib.Core.Path.{ap, ◌∙◌}
use native.Mathlib.Omega.{arith}
use Prim.Native.Nat.{◌+◌}
use lib.ListN.{set}
use Rattle.terms.specs.declared.Poly.{Poly}
use Rattle.terms.specs.Answer.{done_with}
use Rattle.terms.specs.Machine.{whole_r}
use lib.IntN.{pos}
use Rattle.poly.specs.Operations.{monomial_of}
use Rattle.poly.proofs.Gives.{monomial-gives}
use Rattle.poly.proofs.Unit.{monomial-done}
use Rattle.poly.proofs.monomial.Goals as goal

pub returns-then-degree-gt31-clause-promise : goal.returns-then-degree-gt31-clause-promise
returns-then-degree-gt31-clause-promise c =
    let e : c.refused.result ≡ monomial_of c.args.degree = search rules in
    rw e (monomial-gives _)

pub returns-clause-is : goal.returns-clause-is
returns-clause-is c =
    let n = c.args.degree in
    c.done.ensures.is ∙ ap (λ (p : Poly). done_with (record { coeffs = set p.coeffs n (whole_r (pos 1)); len = n + 1 }) 0) c.zero-p.ensures.is ∙ monomial-done n (omega arith)

pub returns-clause-promise : goal.returns-clause-promise
returns-clause-promise c =
    let e : c.done.result ≡ monomial_of c.args.degree = returns-clause-is c in
    rw e (monomial-gives _)
