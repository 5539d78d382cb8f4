-- `isolate::isolate_plain` meets its contract. Left of the check: each way that it is refused.
use Rattle.std.proofs.Common.{◌∙◌}
use Rattle.terms.specs.Poly.{terms_of}
use Rattle.isolate.proofs.Ways.{free-refused, chain-refused, brackets-refused}
use Rattle.isolate.proofs.isolate_plain.Goals as goal

pub returns-in-Err : goal.returns-in-Err
returns-in-Err c =
    let s = c.args in
    let f = c.free_part-f in
    c.refused.ensures ∙ free-refused (terms_of s.p) s.lo s.hi s.tol f.result f.ensures.is _ c.in-Err.is

pub returns-in-Err-oc : goal.returns-in-Err-oc
returns-in-Err-oc c =
    let s = c.args in
    let f = c.free_part-f in
    let q = c.sequence-c in
    c.refused-in-Err-oc.ensures ∙ chain-refused (terms_of s.p) s.lo s.hi s.tol f.result f.ensures.is c.in_default.is q.result q.ensures.is _ c.in-Err-oc.is

pub returns-in-Err-ob : goal.returns-in-Err-ob
returns-in-Err-ob c =
    let s = c.args in
    let f = c.free_part-f in
    let q = c.sequence-c in
    let b = c.bisect_isolate-b in
    c.refused-in-Err-ob.ensures ∙ brackets-refused (terms_of s.p) s.lo s.hi s.tol f.result f.ensures.is c.in_default.is q.result q.ensures.is c.in_default-oc.is b.result b.ensures.is _ c.in-Err-ob.is
