-- `sturm::lay` meets its contract: one float more.
use mathlib.Core.Path.{◌≡◌, refl, sym, ap, ◌∙◌}
use mathlib.Core.List.{List}
use Prim.Native.Nat.{ℕ, ◌+◌, ◌<◌}
use native.Mathlib.Omega.{arith}
use borrow.Author.Rules.{rules}
use lib.Ieee.{Float, nan}
use lib.ListN.{length, set, length-set}
use lib.Seq.{paste, paste-zero}
use Rattle.terms.specs.Poly.{terms_of}
use Rattle.terms.proofs.Lists.{long, past}
use Rattle.sturm.specs.Value.{floats_of}
use Rattle.sturm.proofs.Laid.{floats-count, floats-few, float_at, paste-next}
use Rattle.sturm.proofs.lay.Goals as goal

pub loop-i-init : goal.loop-i-init
loop-i-init c =
    let s = c.args in
    let k : length s.p.coeffs ≡ 32 = search (rules, long) in
    let n = c.top-n.ensures.is ∙ sym (floats-count s.p) in
    (n, omega (arith, n, floats-few s.p k), k, refl, paste-zero s.out.now s.at (floats_of (terms_of s.p)))

pub loop-i-preserved : goal.loop-i-preserved
loop-i-preserved c =
    let s = c.args in
    let l = c.loop-i in
    let v = l.invariant in
    let f = floats_of (terms_of s.p) in
    let i : l.i < length f = omega (arith, v.0) in (
      v.0,
      v.1,
      v.2,
      length-set l.out (s.at + l.i) c.plain_to_f64.result ∙ v.3,
      ap (λ (o : List Float). set o (s.at + l.i) c.plain_to_f64.result) v.4
          ∙ paste-next s.out.now f s.at l.i c.plain_to_f64.result nan (omega (arith, c.requires)) i (c.plain_to_f64.ensures.is ∙ float_at s.p l.i past nan i),
    )

pub returns-clause-out_after : goal.returns-clause-out_after
returns-clause-out_after c =
    let s = c.args in
    let l = c.loop-i in
    let v = l.invariant in
    let e : l.i ≡ length (floats_of (terms_of s.p)) = omega (arith, v.0) in
    v.4 ∙ ap (λ (i : ℕ). paste s.out.now s.at (floats_of (terms_of s.p)) i) e
