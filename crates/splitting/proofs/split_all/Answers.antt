-- `splitting::split_all` meets its contract: one factor, split or laid in place.
use mathlib.Core.Path.{ap, ◌∙◌}
use Prim.Native.Nat.{◌<◌}
use native.Mathlib.Omega.{arith}
use lib.ListN.{length}
use Rattle.std.proofs.lemmas.Grind.{common_steps}
use Rattle.terms.specs.Poly.{terms_of}
use Rattle.terms.proofs.Lists.{read-terms, terms-of-poly}
use Rattle.yun.specs.Answer.{pieces_of, no_piece}
use Rattle.splitting.proofs.Auto.{all_steps}
use Rattle.splitting.proofs.Onto.{splitting-over, splitting-more, splitting-full, splitting-line}
use Rattle.splitting.proofs.Places.{padded-made}
use Rattle.splitting.proofs.split_all.Goals as goal

pub returns-in-Err : goal.returns-in-Err
returns-in-Err c =
    let s = c.args in
    let l = c.loop-i in
    record { is = splitting-over (pieces_of s.d) s.budget l.i l.found no_piece (grind (arith, common_steps, all_steps)) l.invariant _ (grind (arith, common_steps, all_steps)) (terms_of c.normalise-q.result) (ap terms_of c.normalise-q.ensures.is ∙ terms-of-poly _) c.split-next.result c.split-next.ensures _ c.in-Err.is }

pub loop-i-preserved-then-length-ne2 : goal.loop-i-preserved-then-length-ne2
loop-i-preserved-then-length-ne2 c =
    let s = c.args in
    let l = c.loop-i in
    splitting-more (pieces_of s.d) s.budget l.i l.found no_piece (grind (arith, common_steps, all_steps)) l.invariant _ (grind (arith, common_steps, all_steps)) (terms_of c.normalise-q.result) (ap terms_of c.normalise-q.ensures.is ∙ terms-of-poly _) c.split-next.result c.split-next.ensures c.in_default.is

pub loop-i-preserved-then-k-ge32 : goal.loop-i-preserved-then-k-ge32
loop-i-preserved-then-k-ge32 c =
    let s = c.args in
    let l = c.loop-i in
    let h : l.i < length (pieces_of s.d) = grind (arith, common_steps, all_steps) in
    splitting-full (pieces_of s.d) s.budget l.i l.found no_piece h l.invariant _ (read-terms s.d.len s.d.pieces l.i _ no_piece h) c.normalise-q.result (ap terms_of c.normalise-q.ensures.is ∙ terms-of-poly _) (omega (arith, c.length.ensures.is)) c.if-k-ge32.true

pub loop-i-preserved : goal.loop-i-preserved
loop-i-preserved c =
    let s = c.args in
    let l = c.loop-i in
    splitting-line (pieces_of s.d) s.budget l.i l.found no_piece (grind (arith, common_steps, all_steps)) l.invariant _ (grind (arith, common_steps, all_steps)) c.normalise-q.result (ap terms_of c.normalise-q.ensures.is ∙ terms-of-poly _) (omega (arith, c.length.ensures.is)) (padded-made c.normalise-q.result _ c.normalise-q.ensures.is) (omega arith)
