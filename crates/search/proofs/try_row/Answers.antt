-- `search::try_row` meets its contract: a candidate that is refused ends the row, and any other goes on with it.
use native.Mathlib.Omega.{arith}
use Rattle.std.proofs.Common.{w64}
use Rattle.std.proofs.lemmas.Int.{to_z-of_z}
use Rattle.std.proofs.lemmas.Grind.{common_steps}
use Rattle.terms.specs.Poly.{terms_of}
use Rattle.search.proofs.Auto.{row_steps}
use Rattle.search.proofs.CodeTally.{rowing-over, rowing-few, rowing_more}
use Rattle.search.proofs.try_row.Goals as goal

pub returns-then-not-tally-clause-is : goal.returns-then-not-tally-clause-is
returns-then-not-tally-clause-is c =
    let s = c.args in
    let l = c.loop-d in
    let d = c.in-Some in
    rw (to_z-of_z w64 s.n c.ranges.n) at
    (rowing-over (terms_of s.p) _ s.size s.marks.now s.t l.at l.so_far l.invariant _ _ (c.next_factor.ensures.promise.found d.d d.is) c.try_one-tally.result (grind (arith, common_steps, row_steps)) (grind (arith, common_steps)))

pub returns-then-not-tally-clause-few : goal.returns-then-not-tally-clause-few
returns-then-not-tally-clause-few c =
    let s = c.args in
    let l = c.loop-d in
    let d = c.in-Some in
    let f = c.next_factor.ensures.promise.forward d.d d.is in
    rowing-few (terms_of s.p) _ s.size s.marks.now s.t l.at l.so_far l.invariant _ _ (c.next_factor.ensures.promise.found d.d d.is) c.try_one-tally.result (grind (arith, common_steps, row_steps)) (grind (arith, common_steps, row_steps)) f.0 f.1

pub loop-d-preserved : goal.loop-d-preserved
loop-d-preserved c =
    let s = c.args in
    let l = c.loop-d in
    let d = c.in-Some in
    let f = c.next_factor.ensures.promise.forward d.d d.is in
    rowing_more (terms_of s.p) _ s.size s.marks.now s.t l.at l.so_far l.invariant _ _ (c.next_factor.ensures.promise.found d.d d.is) c.try_one-tally.result (grind (arith, common_steps, row_steps)) (grind (arith, common_steps, row_steps)) f.0 f.1 (grind (arith, common_steps))
