-- `ratio::faced` meets its contract: the sign moves to the numerator.
use mathlib.Core.Path.{◌≡◌, sym, ap, ap₂, ◌∙◌}
use mathlib.Core.Bool.{Bool, true, false}
use lib.IntN.{ℤ, pos}
use lib.Signed.{lt_z}
use mir.Syntax.{w64}
use mir.Val.{to_z, of_z}
use Rattle.ratio.specs.Range.{Within}
use Rattle.ratio.proofs.Words.{back, neg-fits, neg-back}
use Rattle.ratio.proofs.Quotient.{over, turned, kept}
use Rattle.ratio.proofs.faced.Goals as goal

pub overflow_sub-result : goal.overflow_sub-result
overflow_sub-result c = neg-fits c.args.num c.requires.0

pub overflow_sub-result-then-den-lt0 : goal.overflow_sub-result-then-den-lt0
overflow_sub-result-then-den-lt0 c = neg-fits c.args.den c.requires.1

-- the test on the copied denominator
tested : (d : ℤ) (t : Bool) → Within d → lt_z (to_z w64 (of_z w64 d)) (pos 0) ≡ t → lt_z d (pos 0) ≡ t
tested d t w e = ap (λ z. lt_z z (pos 0)) (sym (back d w)) ∙ e

pub returns-then-den-lt0 : goal.returns-then-den-lt0
returns-then-den-lt0 c =
    let s = c in
    let t = turned s.args.num s.args.den (tested s.args.den true s.requires.1 c.if-den-lt0.true) in
    ap₂ over (neg-back s.args.num s.requires.0 ∙ t.0) (neg-back s.args.den s.requires.1 ∙ t.1)

pub returns-else-den-lt0 : goal.returns-else-den-lt0
returns-else-den-lt0 c =
    let s = c in
    let t = kept s.args.num s.args.den (tested s.args.den false s.requires.1 c.if-den-lt0.false) in
    ap₂ over (back s.args.num s.requires.0 ∙ t.0) (back s.args.den s.requires.1 ∙ t.1)
