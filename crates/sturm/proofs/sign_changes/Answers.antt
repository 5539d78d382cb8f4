-- `sturm::sign_changes` meets its contract: one sign more.
use mathlib.Core.Path.{refl}
use native.Mathlib.Omega.{arith}
use Rattle.sturm.proofs.Signs.{walking-none, walking-more, walking-end, differ-few}
use Rattle.sturm.proofs.sign_changes.Goals as goal

pub loop-i-init : goal.loop-i-init
loop-i-init c = (omega arith, walking-none c.args.values.now c.args.sizes.now c.args.x)

pub overflow_add-count : goal.overflow_add-count
overflow_add-count c = omega (arith, c.loop-i.invariant.1.few, c.differ-count.ensures, differ-few c.loop-i.last c.sign_of-s.result)

pub loop-i-preserved : goal.loop-i-preserved
loop-i-preserved c =
    let l = c.loop-i in
    let s = c.args in
    let (_, most, ends) = c.until-to.ensures in
    let (row, rest) = ends s.values.now refl in (
      most,
      walking-more s.values.now s.sizes.now s.x l.i l.at l.last l.count l.invariant.1 _ c.until-to.result c.sign_of-s.result c.eval_f64.result (omega arith) row rest c.eval_f64.ensures.is c.sign_of-s.ensures.is c.differ-count.result c.newer-last.result c.differ-count.ensures c.newer-last.ensures,
    )

pub returns : goal.returns
returns c =
    let l = c.loop-i in
    record { is = walking-end c.args.values.now c.args.sizes.now c.args.x l.i l.at l.last l.count l.invariant.1 (omega arith) }
