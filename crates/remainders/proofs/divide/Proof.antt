-- `remainders::divide` meets its contract.
use Rattle.ratio.specs.Refusal.{no_refusal}
use mathlib.Core.Path.{ap₂, ◌∙◌}
use native.Mathlib.Omega.{arith}
use borrow.Author.Rules.{rules}
use Rattle.terms.specs.declared.Poly.{Poly}
use Rattle.terms.specs.Poly.{terms_of}
use Rattle.remainders.specs.declared.Division.{Division}
use Rattle.remainders.proofs.CodeDivision.{divided-zero, divided-lower}
use Rattle.remainders.proofs.divide.Statement.{statement}
use Rattle.remainders.proofs.divide.Tie as tie

length-requires : tie.Need-length-n-requires
length-requires c κs = search rules

length-requires-2 : tie.Need-length-m-requires
length-requires-2 c κs = search rules

no-division-requires : tie.Need-no_division-requires
no-division-requires c κs = search rules

returns : tie.Need-returns-then-m-eq0
returns c =
    let s = c.args in
    c.no_division.ensures ∙ divided-zero (terms_of s.a) (terms_of s.b) (omega (arith, c.length-m.ensures))

zero-requires : tie.Need-zero-requires
zero-requires c κs = search rules

normalise-requires : tie.Need-normalise-requires
normalise-requires c κs = search rules

returns-2 : tie.Need-returns-then-n-m
returns-2 c =
    let m = c in
    let s = m.args in
    ap₂ {C = Division} (λ (p q : Poly). record { outcome = no_refusal; quotient = p; rest = q; steps = 0 }) c.zero.ensures c.normalise.ensures
    ∙ divided-lower (terms_of s.a) (terms_of s.b) (omega (arith, m.length-m.ensures, m.length-n.ensures))

quotients-requires : tie.Need-quotients-requires
quotients-requires c κs = search rules

returns-3 : tie.Need-returns
returns-3 c = search rules

pub divide_spec : {M : Type 1} → statement M
divide_spec =
    tie.close
    (tie.spec
    length-requires
    length-requires-2
    no-division-requires
    returns
    zero-requires
    normalise-requires
    returns-2
    quotients-requires
    returns-3)
