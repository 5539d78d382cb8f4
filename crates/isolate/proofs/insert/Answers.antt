-- `isolate::insert` meets its contract: the start of the walk, one more root, and the end.
use Rattle.std.proofs.Common.{◌≡◌, ℕ, ◌+◌, sym, ap, ◌∙◌, arith}
use lib.ListN.{set, length-drop}
use Rattle.isolate.specs.declared.Isolation.{Isolation}
use Rattle.isolate.specs.Answer.{roots_in}
use Rattle.isolate.proofs.Hold.{kept-len, push-done, next_of}
use Rattle.isolate.proofs.Slides.{sliding-none, sliding-more, sliding-end}
use Rattle.isolate.proofs.insert.Goals as goal

pub loop-i-init : goal.loop-i-init
loop-i-init c =
    let s = c.args in
    let k = kept-len s.found c.requires.0 in
    (k, omega (arith, k, c.requires.1), omega arith, sliding-none (roots_in s.found) s.x c.nothing-out.result c.nothing-out.ensures)

pub loop-i-preserved : goal.loop-i-preserved
loop-i-preserved c =
    let s = c.args in
    let l = c.loop-i in
    let v = l.invariant in
    let o = l.out in
    let x = c.move_up-s.result.stays in
    let n : l.i ≡ o.len = sym (kept-len o v.3.is ∙ v.3.long) in
    let e = ap {B = Isolation} (λ (i : ℕ). record { outcome = o.outcome; roots = set o.roots i x; len = i + 1 }) n ∙ push-done o x v.3.is (omega (arith, v.3.long, v.1)) in
    (v.0, v.1, omega arith, sliding-more (roots_in s.found) s.x l.i o l.moving l.carried v.3 _ (next_of s.found.len s.found.roots l.i _ (omega (arith, v.0))) c.move_up-s.result c.move_up-s.ensures _ e)

pub returns : goal.returns
returns c =
    let s = c.args in
    let l = c.loop-i in
    let v = l.invariant in
    sliding-end (roots_in s.found) s.x l.i l.out l.moving l.carried v.3 (omega (arith, v.0, length-drop l.i (roots_in s.found))) c.push.result c.push.ensures
