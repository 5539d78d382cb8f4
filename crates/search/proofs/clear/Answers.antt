-- `search::clear` meets its contract: a coefficient that is refused refuses the whole.
use mathlib.Core.Path.{ap, ◌∙◌}
use mathlib.Core.Bool.{false}
use native.Mathlib.Omega.{arith}
use Rattle.std.proofs.lemmas.Grind.{common_steps}
use Rattle.terms.specs.declared.Poly.{Poly}
use Rattle.terms.specs.Poly.{terms_of}
use Rattle.search.specs.Tally.{clear_of}
use Rattle.search.proofs.Auto.{read_steps}
use Rattle.search.proofs.CodeClear.{clearing-over}
use Rattle.search.proofs.clear.Goals as goal

pub returns-in_default : goal.returns-in_default
returns-in_default c =
    ap (λ (p : Poly). record { fine = false; poly = p }) c.zero.ensures.is
    ∙ ap clear_of (clearing-over c.args.m (terms_of c.args.p) c.loop-i.i c.loop-i.out.coeffs c.in_default.field-0 (omega arith) (grind (arith, common_steps, read_steps)) c.loop-i.invariant.1)
