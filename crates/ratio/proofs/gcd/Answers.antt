use Rattle.std.proofs.Common.{◌≡◌, ℕ, ◌*◌, ◌^◌, ◌≤◌, arith, sym, ap, ap₂, ◌∙◌}
use native.Mathlib.Nat.{mod-eq_of_lt}
use Rattle.ratio.specs.Gcd.{gcd_of}
use Rattle.ratio.proofs.Euclid.{gcd-zero, gcd-most}
use Rattle.ratio.proofs.Binary.{gcd-comm, gcd-ends}
use Rattle.ratio.proofs.gcd.Goals as goal

pub returns-then-a-eq0 : goal.returns-then-a-eq0
returns-then-a-eq0 c = sym (ap (λ (n : ℕ). gcd_of n c.args.b) c.if-a-eq0.true ∙ gcd-comm 0 c.args.b ∙ gcd-zero c.args.b)

pub returns-then-b-eq0 : goal.returns-then-b-eq0
returns-then-b-eq0 c = sym (ap (gcd_of c.args.a) c.if-b-eq0.true ∙ gcd-zero c.args.a)

pub returns : goal.returns
returns c =
    let a = c.args.a in
    let b = c.args.b in
    let x = c.odd_part.ensures in
    let e : c.gcd_odd.result * 2 ^ c.min-twos.result ≡ gcd_of a b =
    ap₂ (λ (g k : ℕ). g * 2 ^ k) c.gcd_odd.ensures c.min-twos.ensures
    ∙ gcd-ends 64 a b c.odd_part.result (omega (arith, c.if-a-eq0.false)) c.ranges.a.fits x.0 x.1 in
    let most : gcd_of a b ≤ b = gcd-most a b (omega (arith, c.if-b-eq0.false)) in
    mod-eq_of_lt (omega (arith, c.ranges.b.fits)) ∙ e
