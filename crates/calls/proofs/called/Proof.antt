-- `calls::called` meets its contract.
use mathlib.Core.Path.{ap₂, ◌∙◌}
use Rattle.terms.specs.declared.Answer.{Answer}
use Rattle.calls.specs.Call.{called_with}
use Rattle.calls.proofs.Telling.{called-open, called-shut}
use borrow.Author.Rules.{rules}
use Rattle.calls.proofs.called.Statement.{statement}
use Rattle.calls.proofs.called.Tie as tie

from-parts-requires : tie.Need-from_parts-a-requires
from-parts-requires c κs = search rules

from-parts-requires-2 : tie.Need-from_parts-b-requires
from-parts-requires-2 c κs = search rules

gate-requires : tie.Need-gate-requires
gate-requires c κs = search rules

gate-requires-2 : tie.Need-gate-requires-2
gate-requires-2 c κs = search rules

both-requires : tie.Need-both-requires
both-requires c κs = search rules

limits-requires : tie.Need-limits-requires
limits-requires c κs = search rules

both-requires-2 : tie.Need-both-d-requires
both-requires-2 c κs = search rules

enum_told : tie.Need-enum_told-1
enum_told c = search rules

two-requires : tie.Need-two-requires
two-requires c κs = search rules

reason-requires : tie.Need-reason-requires
reason-requires c κs = search rules

no-division-requires : tie.Need-no_division-requires
no-division-requires c κs = search rules

returns : tie.Need-returns-in-Open
returns c =
    let d = c in
    let l = d in
    let e = l in
    let g = e in
    let s = g in
    c.two.ensures
    ∙ called-open s.args.op s.args.n g.from_parts-a.result g.from_parts-b.result d.both-d.result e.both.result e.gate.result e.gate-2.result l.limits.result d.both-d.ensures e.both.ensures e.gate.ensures e.gate-2.ensures l.limits.ensures c.in-Open.is
    ∙ ap₂ (λ (x y : Answer). called_with s.args.op x y s.args.n) g.from_parts-a.ensures.0 g.from_parts-b.ensures.0

returns-2 : tie.Need-returns-in_default
returns-2 c =
    let d = c in
    let l = d in
    let e = l in
    let g = e in
    let s = g in
    called-shut s.args.op s.args.n g.from_parts-a.result g.from_parts-b.result d.both-d.result e.both.result e.gate.result e.gate-2.result l.limits.result d.both-d.ensures e.both.ensures e.gate.ensures e.gate-2.ensures l.limits.ensures c.in_default.in_default-own.keys2 c.reason.result c.reason.ensures _ c.no_division.ensures
    ∙ ap₂ (λ (x y : Answer). called_with s.args.op x y s.args.n) g.from_parts-a.ensures.0 g.from_parts-b.ensures.0

pub called_spec : {M : Type 1} → statement M
called_spec =
    tie.close
    (tie.spec
    from-parts-requires
    from-parts-requires-2
    gate-requires
    gate-requires-2
    both-requires
    limits-requires
    both-requires-2
    enum_told
    two-requires
    reason-requires
    no-division-requires
    returns
    returns-2)
