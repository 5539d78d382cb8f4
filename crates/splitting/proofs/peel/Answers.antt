-- `splitting::peel` meets its contract: one root, divided out or not.
use mathlib.Core.Path.{subst, ◌∙◌}
use Prim.Native.Nat.{◌<◌}
use native.Mathlib.Omega.{arith}
use lib.ListN.{length}
use Rattle.std.proofs.lemmas.Grind.{common_steps}
use Rattle.ratio.specs.Refusal.{zero_r}
use Rattle.ratio.specs.declared.Ratio.{Ratio}
use Rattle.terms.specs.Poly.{terms_of}
use Rattle.terms.proofs.Lists.{read-terms}
use Rattle.yun.specs.Answer.{pieces_of}
use Rattle.splitting.specs.Peel.{start, roots_in, PeelsOff}
use Rattle.splitting.proofs.Auto.{peel_steps}
use Rattle.splitting.proofs.Peels.{peeling-over, peeling-same, peeling-full, peeling-more}
use Rattle.splitting.proofs.peel.Goals as goal

pub returns-in-Err : goal.returns-in-Err
returns-in-Err c =
    let s = c.args in
    let l = c.loop-i in
    let h : l.i < length (roots_in s.roots) = grind (arith, common_steps, peel_steps) in
    let e = subst (λ (r : Ratio). PeelsOff r (terms_of l.rest) c.peel_one-p.result) (read-terms s.roots.len s.roots.values l.i _ zero_r h) c.peel_one-p.ensures in
    c.stopped.ensures ∙ peeling-over s.times (roots_in s.roots) (start (pieces_of s.found) (terms_of s.f)) l.i l.now l.rest zero_r h l.invariant c.peel_one-p.result e _ c.in-Err.is

pub loop-i-preserved-then-not-p : goal.loop-i-preserved-then-not-p
loop-i-preserved-then-not-p c =
    let s = c.args in
    let l = c.loop-i in
    peeling-same s.times (roots_in s.roots) (start (pieces_of s.found) (terms_of s.f)) l.i l.now l.rest zero_r (grind (arith, common_steps, peel_steps)) l.invariant c.peel_one-p.result (grind (arith, common_steps, peel_steps)) c.in_default.is (grind (arith, common_steps))

pub loop-i-preserved-then-k-ge32 : goal.loop-i-preserved-then-k-ge32
loop-i-preserved-then-k-ge32 c =
    let s = c.args in
    let l = c.loop-i in
    peeling-full s.times (roots_in s.roots) (start (pieces_of s.found) (terms_of s.f)) l.i l.now l.rest zero_r (grind (arith, common_steps, peel_steps)) l.invariant c.peel_one-p.result (grind (arith, common_steps, peel_steps)) c.in_default.is (grind (arith, common_steps)) c.if-k-ge32.true

pub loop-i-preserved : goal.loop-i-preserved
loop-i-preserved c =
    let s = c.args in
    let l = c.loop-i in
    peeling-more s.times (roots_in s.roots) (start (pieces_of s.found) (terms_of s.f)) l.i l.now l.rest zero_r (grind (arith, common_steps, peel_steps)) l.invariant c.peel_one-p.result (grind (arith, common_steps, peel_steps)) c.in_default.is (grind (arith, common_steps)) (omega arith)
