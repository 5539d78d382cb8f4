-- `sturm::eval_f64` meets its contract: nothing is zero, and each coefficient below the leading one is one step.
use mathlib.Core.Path.{◌≡◌, refl, ap, ◌∙◌}
use Prim.Native.Nat.{ℕ, ◌+◌, ◌-◌}
use native.Mathlib.Omega.{arith}
use lib.ListN.{length, drop}
use Rattle.sturm.specs.Value.{horner}
use Rattle.sturm.proofs.Values.{horner-none, horner-start, horner-step, horner-all}
use Rattle.sturm.proofs.eval_f64.Goals as goal

pub returns-then-n-eq0 : goal.returns-then-n-eq0
returns-then-n-eq0 c = record { is = horner-none c.args.row.now c.args.x (omega arith) }

pub loop-i-init : goal.loop-i-init
loop-i-init c = horner-start c.args.row.now c.args.x _ (length c.args.row.now) refl (omega arith)

pub loop-i-preserved : goal.loop-i-preserved
loop-i-preserved c =
    let l = c.loop-i in
    let e : length c.args.row.now - l.i - 1 ≡ length c.args.row.now - (l.i + 1) = omega arith in
    horner-step c.args.row.now c.args.x _ (length c.args.row.now - l.i) l.acc (omega arith) (omega arith) l.invariant ∙ ap (λ (m : ℕ). horner (drop m c.args.row.now) c.args.x) e

pub returns : goal.returns
returns c =
    let l = c.loop-i in
    record { is = l.invariant ∙ horner-all c.args.row.now c.args.x (length c.args.row.now - l.i) (omega arith) }
