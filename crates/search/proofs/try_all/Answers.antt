-- `search::try_all` meets its contract: a row that is refused ends the search, and any other goes on with it.
use native.Mathlib.Omega.{arith}
use Rattle.std.proofs.lemmas.Grind.{common_steps}
use Rattle.terms.specs.Poly.{terms_of}
use Rattle.divisors.specs.Walk.{rest}
use Rattle.search.proofs.Auto.{all_steps}
use Rattle.search.proofs.CodeTally.{searching-over, searching-more}
use Rattle.search.proofs.try_all.Goals as goal

pub returns-then-not-tally : goal.returns-then-not-tally
returns-then-not-tally c =
    let s = c.args in
    let l = c.loop-d in
    let d = c.in-Some in
    searching-over (terms_of s.p) s.size s.marks.now (rest s.lower s.below.now 0) s.t l.at l.so_far l.invariant _ _ (c.next_factor.ensures.promise.found d.d d.is) c.try_row-tally.result (grind (arith, common_steps, all_steps)) (grind (arith, common_steps))

pub loop-d-preserved : goal.loop-d-preserved
loop-d-preserved c =
    let s = c.args in
    let l = c.loop-d in
    let d = c.in-Some in
    let f = c.next_factor.ensures.promise.forward d.d d.is in
    let w = c.try_row-tally.ensures.few in
    searching-more (terms_of s.p) s.size s.marks.now (rest s.lower s.below.now 0) s.t l.at l.so_far l.invariant _ _ (c.next_factor.ensures.promise.found d.d d.is) c.try_row-tally.result (grind (arith, common_steps, all_steps)) f.0 f.1 w.0 w.1 (grind (arith, common_steps))
