-- `sturm::count_plain` meets its contract: each way the count can go.
use mathlib.Core.Path.{◌∙◌}
use Rattle.terms.specs.Poly.{terms_of}
use Rattle.sturm.proofs.Counts.{free-refused, chain-refused, count-done}
use Rattle.sturm.proofs.count_plain.Goals as goal

pub returns-in-Err : goal.returns-in-Err
returns-in-Err c =
    let s = c.args in
    c.no_count.ensures ∙ free-refused (terms_of s.p) s.lo s.hi c.free_part-f.result c.free_part-f.ensures.is _ c.in-Err.is

pub returns-in-Err-oc : goal.returns-in-Err-oc
returns-in-Err-oc c =
    let s = c.args in
    c.no_count-in-Err-oc.ensures ∙ chain-refused (terms_of s.p) s.lo s.hi c.free_part-f.result c.free_part-f.ensures.is c.in_default.is c.sequence-c.result c.sequence-c.ensures.is _ c.in-Err-oc.is

pub returns : goal.returns
returns c =
    let s = c.args in
    count-done (terms_of s.p) s.lo s.hi c.free_part-f.result c.free_part-f.ensures.is c.in_default.is c.sequence-c.result c.sequence-c.ensures.is c.in_default-oc.is c.lost.result c.lost.ensures
