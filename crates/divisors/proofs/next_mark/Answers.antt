-- `divisors::next_mark` meets its contract: above the root no bit counts, and behind the last one nothing is left to walk.
use mathlib.Core.Path.{◌≡◌, sym, ap, ◌∙◌}
use mathlib.Core.Bool.{true}
use Prim.Native.Nat.{◌+◌, ◌-◌}
use native.Mathlib.Omega.{arith}
use borrow.Author.Tests.{ltb-true, ltb-false}
use Rattle.divisors.specs.Walk.{mark_from}
use Rattle.divisors.proofs.Skip.{below, mark-here, mark-none, mark-past}
use Rattle.divisors.proofs.next_mark.Goals as goal

pub returns-then-past_root : goal.returns-then-past_root
returns-then-past_root c =
    let l = c.loop-j in
    let s = c.args in
    sym (mark-past s.size s.marks.now (65536 - l.j) l.j (ltb-true _ _ (sym c.past_root.ensures ∙ c.if-past_root.true)) ∙ (let e : l.j + (65536 - l.j) ≡ 65536 = omega arith in e)) ∙ l.invariant.1

pub returns-then-is_marked : goal.returns-then-is_marked
returns-then-is_marked c =
    let l = c.loop-j in
    let s = c.args in
    sym (mark-here s.size s.marks.now (65536 - l.j) l.j (below s.size s.marks.now l.j true (ltb-false _ _ (sym c.past_root.ensures ∙ c.if-past_root.false)) (sym c.is_marked.ensures ∙ c.if-is_marked.true)) (omega arith)) ∙ l.invariant.1

pub returns : goal.returns
returns c =
    let l = c.loop-j in
    let s = c.args in
    sym (ap (λ n. mark_from s.size s.marks.now n l.j) (let e : 65536 - l.j ≡ 0 = omega arith in e) ∙ mark-none s.size _ l.j) ∙ l.invariant.1
