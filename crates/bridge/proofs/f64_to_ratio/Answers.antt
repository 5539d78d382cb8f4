-- `bridge::f64_to_ratio` meets its contract: its answer is that of the search, and what is so keeps the promise.
use Rattle.std.proofs.Common.{◌≡◌, ◌≤◌, true, false, ℤ, sym, refl, ap, ◌∙◌, arith, to_z-of_z, w64, rules}
use lib.Ieee.{Float, binary64, sub, mul, of_int}
use Rattle.bridge.specs.Round.{round_of}
use Rattle.bridge.specs.Search.{small, near, over}
use Rattle.bridge.proofs.Search.{not_finite, searched, first-at, first_next, first-none}
use Rattle.bridge.proofs.Count.{starts, counted}
use Rattle.bridge.proofs.Finds.{finds-both}
use Rattle.bridge.proofs.f64_to_ratio.Goals as goal

pub returns-then-not-is_finite-clause-is : goal.returns-then-not-is_finite-clause-is
returns-then-not-is_finite-clause-is c = not_finite c.args.v (sym c.is_finite.ensures.is ∙ c.if-not-is_finite.true)

pub returns-then-not-is_finite-clause-promise : goal.returns-then-not-is_finite-clause-promise
returns-then-not-is_finite-clause-promise c = (finds-both c.args.v _ (returns-then-not-is_finite-clause-is c)).1

pub loop-denom-init : goal.loop-denom-init
loop-denom-init c = (omega arith, omega arith, starts, refl)

-- no denominator up to here
pub loop-denom-preserved : goal.loop-denom-preserved
unfolding near
loop-denom-preserved c =
    let l = c.loop-denom in
    let v = c.args.v in
    let e : near v l.denom ≡ false = sym (c.is_near.ensures ∙ ap (λ (x : Float). small (sub binary64 x (of_int binary64 (round_of x)))) (ap (mul binary64 v) l.invariant.2)) ∙ c.if-is_near.false in
    (omega arith, omega arith, counted l.denom l.denom_f (omega arith) l.invariant.2, first_next l.denom v (omega arith) e ∙ l.invariant.3)

pub returns-then-is_near-clause-is : goal.returns-then-is_near-clause-is
unfolding near
returns-then-is_near-clause-is c =
    let l = c.loop-denom in
    let v = c.args.v in
    let p = ap (mul binary64 v) l.invariant.2 in
    let e : near v l.denom ≡ true = sym (c.is_near.ensures ∙ ap (λ (x : Float). small (sub binary64 x (of_int binary64 (round_of x)))) p) ∙ c.if-is_near.true in
    let n = to_z-of_z {w = Rattle.std.proofs.Common.w64} (search rules) ∙ c.round.ensures ∙ ap round_of p in
    c.fraction.ensures
    ∙ ap (λ (z : ℤ). over z l.denom) n
    ∙ first-at l.denom v (omega arith) e
    ∙ l.invariant.3
    ∙ searched v (sym c.is_finite.ensures.is ∙ c.if-not-is_finite.false)

pub returns-then-is_near-clause-promise : goal.returns-then-is_near-clause-promise
returns-then-is_near-clause-promise c = (finds-both c.args.v _ (returns-then-is_near-clause-is c)).1

pub returns-clause-is : goal.returns-clause-is
returns-clause-is c =
    let l = c.loop-denom in
    first-none l.denom c.args.v (omega arith) ∙ l.invariant.3 ∙ searched c.args.v (sym c.is_finite.ensures.is ∙ c.if-not-is_finite.false)

pub returns-clause-promise : goal.returns-clause-promise
returns-clause-promise c = (finds-both c.args.v _ (returns-clause-is c)).1
