-- `factor::constant` meets its contract.
use mathlib.Core.Path.{ap, ◌∙◌}
use Rattle.terms.specs.declared.Poly.{Poly}
use lib.ListN.{set}
use Rattle.terms.specs.Poly.{terms_of, poly_of, trim}
use borrow.Author.Rules.{rules}
use Rattle.factor.proofs.constant.Statement.{statement}
use Rattle.factor.proofs.constant.Tie as tie

zero-requires : tie.Need-zero-p-requires
zero-requires c κs = tt

element-set-from-c : tie.Need-bounds-p-0
element-set-from-c c = search rules

normalise-requires : tie.Need-normalise-requires
normalise-requires c κs = tt

returns : tie.Need-returns
returns c =
    let x = c.args.c in
    c.normalise.ensures ∙ ap (λ (p : Poly). poly_of (trim (terms_of (record { coeffs = set p.coeffs 0 x; len = 1 })))) c.zero-p.ensures

pub constant_spec : {M : Type 1} → statement M
constant_spec = tie.close (tie.spec zero-requires element-set-from-c normalise-requires returns)
