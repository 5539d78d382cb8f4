-- `calls::told_step` meets its contract.
use Rattle.ratio.specs.Refusal.{no_refusal}
use Rattle.std.specs.Prelude.{Ok}
use mathlib.Core.Path.{sym, ap, ap₂, ◌∙◌}
use Rattle.terms.specs.declared.Poly.{Poly}
use Rattle.remainders.specs.declared.Division.{Division}
use Rattle.calls.specs.Call.{told_step}
use borrow.Author.Rules.{rules}
use Rattle.calls.proofs.told_step.Statement.{statement}
use Rattle.calls.proofs.told_step.Tie as tie

enum-known-s : tie.Need-enum_known-s
enum-known-s c = search rules

constant-requires : tie.Need-constant-requires
constant-requires c κs = search rules

zero-requires : tie.Need-zero-requires
zero-requires c κs = search rules

enum-known-s-2 : tie.Need-enum_known-s-in-Err-1
enum-known-s-2 c = search rules

no-division-requires : tie.Need-no_division-requires
no-division-requires c κs = search rules

returns : tie.Need-returns-in-Ok
returns c = ap₂ {C = Division} (λ (p q : Poly). record { outcome = no_refusal; quotient = p; rest = q; steps = 0 }) c.constant.ensures c.zero.ensures ∙ sym (ap told_step c.in-Ok.is)

returns-2 : tie.Need-returns-in-Err
returns-2 c = c.no_division.ensures ∙ sym (ap told_step c.in-Err.is)

pub told_step_spec : {M : Type 1} → statement M
told_step_spec =
    tie.close
    (tie.spec
    enum-known-s
    constant-requires
    zero-requires
    enum-known-s-2
    no-division-requires
    returns
    returns-2)
