-- `calls::told_content` meets its contract.
use mathlib.Core.Path.{ap₂}
use Rattle.terms.specs.declared.Poly.{Poly}
use Rattle.remainders.specs.declared.Division.{Division}
use borrow.Author.Rules.{rules}
use Rattle.calls.proofs.told_content.Statement.{statement}
use Rattle.calls.proofs.told_content.Tie as tie

constant-requires : tie.Need-constant-requires
constant-requires c κs = search rules

zero-requires : tie.Need-zero-requires
zero-requires c κs = search rules

returns : tie.Need-returns
returns c =
    let f = c.args.f in
    ap₂ {C = Division} (λ (p q : Poly). record { outcome = f.outcome; quotient = p; rest = q; steps = f.len }) c.constant.ensures c.zero.ensures

pub told_content_spec : {M : Type 1} → statement M
told_content_spec = tie.close (tie.spec constant-requires zero-requires returns)
