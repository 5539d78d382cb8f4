use Rattle.std.proofs.Common.{◌≡◌, ℕ, ◌%◌, arith, sym, ap, ap₂, ◌∙◌}
use Rattle.std.specs.Int.Count.{count_trailing_zeros}
use Rattle.ratio.specs.Gcd.{gcd_of}
use Rattle.ratio.proofs.Euclid.{gcd-step, gcd-zero, gcd-one}
use Rattle.ratio.proofs.Binary.{round-odd, round_same, round-less}
use Rattle.ratio.proofs.gcd_odd.Goals as goal

pub returns-then-b-eq1 : goal.returns-then-b-eq1
returns-then-b-eq1 c = sym (ap (gcd_of c.args.a) c.if-b-eq1.true ∙ gcd-one c.args.a)

some : (b : ℕ) → b % 2 ≡ 1 → b ≡ 0 → ⊥
some b o e = omega arith

pub loop-y-init : goal.loop-y-init
loop-y-init c = record { odd = c.requires; same = sym (gcd-step c.args.a c.args.b (some c.args.b c.requires)) }

pub loop-y-smaller : goal.loop-y-smaller
loop-y-smaller c =
    let z = c.odd_part-z.ensures in
    omega (arith, round-less c.loop-y.x c.loop-y.y c.odd_part-z.result (count_trailing_zeros 64 c.loop-y.y) c.loop-y.invariant.odd z.0 z.1)

pub loop-y-preserved : goal.loop-y-preserved
loop-y-preserved c =
    let z = c.odd_part-z.ensures in
    record {
      odd = ap (λ (n : ℕ). n % 2) c.min-x.ensures ∙ round-odd c.loop-y.x c.odd_part-z.result c.loop-y.invariant.odd z.0;
      same = ap₂ gcd_of c.min-x.ensures c.abs_diff-y.ensures ∙ round_same c.loop-y.x c.loop-y.y c.odd_part-z.result (count_trailing_zeros 64 c.loop-y.y) c.loop-y.invariant.odd z.1 ∙ c.loop-y.invariant.same;
    }

pub returns : goal.returns
returns c = sym (gcd-zero c.loop-y.x) ∙ ap (gcd_of c.loop-y.x) (sym c.loop-y-test.false) ∙ c.loop-y.invariant.same
