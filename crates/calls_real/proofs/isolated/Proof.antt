-- `calls_real::isolated` meets its contract.
use mathlib.Core.Path.{◌≡◌, refl, ap, ap₂, ◌∙◌}
use Rattle.terms.specs.declared.Answer.{Answer}
use Rattle.poly.specs.Door.{both}
use Rattle.poly.proofs.Doors.{open-entered, shut-entered}
use Rattle.isolate.specs.Answer.{refused_for}
use Rattle.isolate.specs.Isolate.{limits_of}
use Rattle.calls.specs.Call.{gate_of}
use Rattle.calls_real.specs.Real.{isolated_with}
use borrow.Author.Rules.{rules}
use Rattle.calls_real.proofs.isolated.Statement.{statement}
use Rattle.calls_real.proofs.isolated.Tie as tie

from-parts-requires : tie.Need-from_parts-a-requires
from-parts-requires c κs = tt

gate-requires : tie.Need-gate-requires
gate-requires c κs = tt

limits-requires : tie.Need-limits-requires
limits-requires c κs = tt

both-requires : tie.Need-both-d-requires
both-requires c κs = tt

enum_told : tie.Need-enum_told-1
enum_told c = search rules

isolate-real-roots-requires : tie.Need-isolate_real_roots-requires
isolate-real-roots-requires c κs = tt

reason-requires : tie.Need-reason-requires
reason-requires c κs = tt

gate : (c : tie.After-both-d) → let s = c.args in c.both-d.result ≡ both (gate_of c.from_parts-a.result.outcome) (limits_of s.lo s.hi s.tol)
gate c = c.both-d.ensures ∙ ap₂ both c.gate.ensures c.limits.ensures

returns : tie.Need-returns-in-Open
returns c =
    let g = c in
    let p = g in
    let s = p.args in
    open-entered g.both-d.result _ (gate g.before.before.before) c.in-Open.is refused_for _ c.isolate_real_roots.result c.isolate_real_roots.ensures.0
    ∙ ap (λ (a : Answer). isolated_with a s.lo s.hi s.tol) p.from_parts-a.ensures.0

returns-2 : tie.Need-returns-in_default
returns-2 c =
    let g = c in
    let p = g in
    let s = p.args in
    shut-entered g.both-d.result _ (gate g.before.before) c.in_default.in_default-own.keys2 c.reason.result c.reason.ensures refused_for _ _ refl
    ∙ ap (λ (a : Answer). isolated_with a s.lo s.hi s.tol) p.from_parts-a.ensures.0

pub isolated_spec : {M : Type 1} → statement M
isolated_spec =
    tie.close
    (tie.spec
    from-parts-requires
    gate-requires
    limits-requires
    both-requires
    enum_told
    isolate-real-roots-requires
    reason-requires
    returns
    returns-2)
