use Rattle.std.proofs.Common.{◌≡◌, arith, rules, length, take, ◌∙◌}
use lib.ListN.{length-set}
use Rattle.ratio.specs.Refusal.{zero_r}
use Rattle.terms.specs.Poly.{terms_of}
use Rattle.terms.proofs.Lists.{long, within-32, trim-short, fill_none, fill_more, normalised}
use Rattle.terms.proofs.Poly.normalise.Goals as goal

pub loop-i-init : goal.loop-i-init
loop-i-init c =
    let s = c.args.self in
    let e : length s.coeffs ≡ 32 = search (rules, long) in
    record { few = omega (arith, c.top-n.ensures.is, trim-short (terms_of s), within-32 s.len s.coeffs e); long = e; filled = fill_none c.top-n.result s.coeffs zero_r }

pub loop-i-preserved : goal.loop-i-preserved
loop-i-preserved c =
    let l = c.loop-i in
    let s = c.args.self in
    record {
      few = l.invariant.few;
      long = length-set l.self.coeffs l.i _ ∙ l.invariant.long;
      filled = rw c.nil.ensures (fill_more (take c.top-n.result s.coeffs) c.top-n.result l.i l.self.coeffs zero_r (omega arith) (omega arith) l.invariant.filled);
    }

pub returns : goal.returns
returns c =
    let l = c.loop-i in
    let s = c.args.self in
    let e : l.i ≡ 32 = omega arith in
    record { is = normalised s.len s.coeffs c.top-n.result l.self.coeffs l.invariant.long c.top-n.ensures.is (rw e at l.invariant.filled) }
