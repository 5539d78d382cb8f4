-- `isolate::keep` meets its contract. Left of the check: whether the last root kept is too close.
use Rattle.std.proofs.Common.{ap, ◌∙◌, arith}
use Rattle.isolate.specs.Answer.{roots_in, holding}
use Rattle.isolate.proofs.Walks.{near-read, kept_near, kept-far}
use Rattle.isolate.proofs.keep.Goals as goal

pub returns-then-size-tol : goal.returns-then-size-tol
returns-then-size-tol c =
    let s = c.args in
    let k = c.requires.0 in
    k ∙ ap holding (kept_near s.tol s.x (roots_in s.found) (near-read s.found s.tol s.x _ c.size.result k (omega (arith, c.if-n-eq0.false)) c.size.ensures.is ∙ c.if-size-tol.true))

pub returns : goal.returns
returns c =
    let s = c.args in
    c.push-2.ensures ∙ ap holding (kept-far s.tol s.x (roots_in s.found) (near-read s.found s.tol s.x _ c.size.result c.requires.0 (omega (arith, c.if-n-eq0.false)) c.size.ensures.is ∙ c.if-size-tol.false))
