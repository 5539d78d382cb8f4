-- `calls::told` meets its contract.
use mathlib.Core.Path.{ap}
use Rattle.terms.specs.declared.Poly.{Poly}
use Rattle.remainders.specs.declared.Division.{Division}
use borrow.Author.Rules.{rules}
use Rattle.calls.proofs.told.Statement.{statement}
use Rattle.calls.proofs.told.Tie as tie

zero-requires : tie.Need-zero-requires
zero-requires c κs = search rules

returns : tie.Need-returns
returns c = let a = c.args.a in ap {B = Division} (λ (p : Poly). record { outcome = a.outcome; quotient = a.poly; rest = p; steps = a.steps }) c.zero.ensures

pub told_spec : {M : Type 1} → statement M
told_spec = tie.close (tie.spec zero-requires returns)
