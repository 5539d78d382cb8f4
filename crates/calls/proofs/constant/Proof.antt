-- `calls::constant` meets its contract.
use mathlib.Core.Path.{ap, ◌∙◌}
use lib.ListN.{take, set}
use Rattle.terms.specs.declared.Poly.{Poly}
use Rattle.terms.specs.Poly.{poly_of, trim}
use borrow.Author.Rules.{rules}
use Rattle.calls.proofs.constant.Statement.{statement}
use Rattle.calls.proofs.constant.Tie as tie

zero-requires : tie.Need-zero-p-requires
zero-requires c κs = search rules

element-set-from-c : tie.Need-bounds-p-0
element-set-from-c c = search rules

normalise-requires : tie.Need-normalise-requires
normalise-requires c κs = search rules

returns : tie.Need-returns
returns c = c.normalise.ensures ∙ ap (λ (p : Poly). poly_of (trim (take 1 (set p.coeffs 0 c.args.c)))) c.zero-p.ensures

pub constant_spec : {M : Type 1} → statement M
constant_spec = tie.close (tie.spec zero-requires element-set-from-c normalise-requires returns)
