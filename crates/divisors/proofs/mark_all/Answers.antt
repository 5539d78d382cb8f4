-- `divisors::mark_all` meets its contract: the words from the first above the root on are 0.
use native.Mathlib.Omega.{arith}
use Prim.Native.Nat.{◌+◌, ◌*◌}
use Rattle.divisors.proofs.Words.{filled_none, complete, square_le}
use Rattle.divisors.proofs.mark_all.Goals as goal

pub loop-w-init : goal.loop-w-init
loop-w-init c = filled_none c.args.n

pub returns-then-first-n : goal.returns-then-first-n
returns-then-first-n c =
    let l = c.loop-w in
    complete _ l.w l.marks l.invariant (λ v g h. omega (arith, square_le (l.w * 64 + 1) (v * 64 + 1) (omega arith)))

pub returns : goal.returns
returns c =
    let l = c.loop-w in
    complete _ l.w l.marks l.invariant (λ v g h. absurd (omega arith))
