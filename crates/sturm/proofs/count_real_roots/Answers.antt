-- `sturm::count_real_roots` meets its contract.
use mathlib.Core.Path.{ap₂, ◌∙◌}
use Rattle.poly.specs.Door.{both}
use Rattle.poly.proofs.Doors.{open-entered, shut-entered}
use Rattle.sturm.specs.Count.{no_count}
use Rattle.sturm.proofs.Chains.{shut-from}
use Rattle.sturm.proofs.Promises.{count-both}
use Rattle.sturm.proofs.count_real_roots.Goals as goal

pub returns-in-Open-clause-promise : goal.returns-in-Open-clause-promise
returns-in-Open-clause-promise c =
    let s = c.args in
    let gate = c.both-d.ensures.is ∙ ap₂ both c.ends.ensures.is c.door.ensures.is in
    (count-both s.p s.lo s.hi c.count_plain.result (open-entered c.both-d.result _ gate c.in-Open.is no_count _ c.count_plain.result c.count_plain.ensures)).1

pub returns-in_default : goal.returns-in_default
returns-in_default c =
    let s = c.args in
    let gate = c.both-d.ensures.is ∙ ap₂ both c.ends.ensures.is c.door.ensures.is in
    let b = count-both s.p s.lo s.hi c.no_count.result (shut-entered c.both-d.result _ gate (shut-from c.both-d.result c.in_default.in_default-own.refused-1.1) c.reason.result c.reason.ensures.is no_count _ c.no_count.result c.no_count.ensures) in
    record { is = b.0; promise = b.1 }
