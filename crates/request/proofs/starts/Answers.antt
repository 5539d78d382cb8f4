-- `request::starts` meets its contract: one byte more, or the end of either.
use Rattle.std.proofs.Common.{◌≡◌, ◌∙◌, ◌+◌, arith}
use lib.ListN.{drop}
use Rattle.request.proofs.Begins.{begins-none, begins-not, begins-more, begins-all}
use Rattle.request.proofs.starts.Goals as goal

pub returns-then-at-i : goal.returns-then-at-i
returns-then-at-i c =
    let s = c.args in
    let l = c.loop-i in
    begins-none s.key.now s.text.now l.i (s.at + l.i) (omega arith) (omega (arith, c.if-at-i.true)) ∙ l.invariant.1

pub returns-then-text-at : goal.returns-then-text-at
returns-then-text-at c =
    let s = c.args in
    let l = c.loop-i in
    begins-not s.key.now s.text.now l.i (s.at + l.i) (omega arith) (omega (arith, c.if-at-i.false, l.invariant.0)) c.if-text-at.true ∙ l.invariant.1

pub loop-i-preserved : goal.loop-i-preserved
loop-i-preserved c =
    let s = c.args in
    let l = c.loop-i in
    let e : s.at + (l.i + 1) ≡ s.at + l.i + 1 = omega arith in (
      omega (arith, c.if-at-i.false, l.invariant.0),
      rw e (begins-more s.key.now s.text.now l.i (s.at + l.i) (omega arith) (omega (arith, c.if-at-i.false, l.invariant.0)) c.if-text-at.false ∙ l.invariant.1),
    )

pub returns : goal.returns
returns c =
    let s = c.args in
    let l = c.loop-i in
    begins-all s.key.now (drop (s.at + l.i) s.text.now) l.i (omega arith) ∙ l.invariant.1
