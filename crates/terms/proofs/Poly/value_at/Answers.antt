use Rattle.std.proofs.Common.{◌≡◌, ◌+◌, arith, rules, length, sym, ◌∙◌}
use mir.Syntax.{w64}
use mir.Val.{SFits}
use Rattle.ratio.specs.Refusal.{zero_r}
use Rattle.terms.specs.Poly.{terms_of}
use Rattle.terms.proofs.Lists.{long, past, within-32, read-terms}
use Rattle.terms.proofs.Value.{valued-none, valued-more, first-over, second-over, third-over, valued-kept, valued-all}
use Rattle.terms.proofs.Poly.value_at.Goals as goal

pub loop-i-init : goal.loop-i-init
loop-i-init c =
    let s = c.args.self in
    let e : length s.coeffs ≡ 32 = search (rules, long) in
    record { few = omega (arith, c.length-n.ensures.is, within-32 s.len s.coeffs e); all = c.length-n.ensures.is; valued = valued-none (terms_of s) c.args.x }

pub returns-in_default : goal.returns-in_default
returns-in_default c =
    let s = c.args.self in
    let l = c.loop-i in
    let r = sym (rw (read-terms s.len s.coeffs l.i past zero_r (omega arith)) at c.checked_mul.ensures.is) in
    record { is = first-over (terms_of s) c.args.x l.i _ _ (omega arith) l.invariant.valued _ (r ∙ c.in_default.is) }

pub returns-in_default-checked_add : goal.returns-in_default-checked_add
returns-in_default-checked_add c =
    let s = c.args.self in
    let l = c.loop-i in
    let r = sym (rw (read-terms s.len s.coeffs l.i past zero_r (omega arith)) at c.checked_mul.ensures.is) in
    record { is = second-over (terms_of s) c.args.x l.i _ _ (omega arith) l.invariant.valued _ _ (r ∙ c.in-Ok.is) (sym c.checked_add.ensures.is ∙ c.in_default-checked_add.is) }

pub returns-in_default-checked_mul : goal.returns-in_default-checked_mul
returns-in_default-checked_mul c =
    let s = c.args.self in
    let l = c.loop-i in
    let r = sym (rw (read-terms s.len s.coeffs l.i past zero_r (omega arith)) at c.checked_mul.ensures.is) in
    record { is = third-over (terms_of s) c.args.x l.i _ _ (omega arith) l.invariant.valued _ _ _ (r ∙ c.in-Ok.is) (sym c.checked_add.ensures.is ∙ c.in-Ok-checked_add.is) (sym c.checked_mul-in-loop-i.ensures.is ∙ c.in_default-checked_mul.is) }

pub loop-i-preserved : goal.loop-i-preserved
loop-i-preserved c =
    let s = c.args.self in
    let l = c.loop-i in
    let r = sym (rw (read-terms s.len s.coeffs l.i past zero_r (omega arith)) at c.checked_mul.ensures.is) in
    let p = c.in-Ok-checked_mul.p in
    let t = c.in-Ok-checked_add.s in
    let pn : SFits w64 p.num = search rules in
    let pd : SFits w64 p.den = search rules in
    let tn : SFits w64 t.num = search rules in
    let td : SFits w64 t.den = search rules in
    record {
      few = l.invariant.few;
      all = l.invariant.all;
      valued = valued-kept (terms_of s) c.args.x (l.i + 1) p t pn pd tn td
          (valued-more (terms_of s) c.args.x l.i _ _ (omega arith) l.invariant.valued _ _ _ (r ∙ c.in-Ok.is) (sym c.checked_add.ensures.is ∙ c.in-Ok-checked_add.is) (sym c.checked_mul-in-loop-i.ensures.is ∙ c.in-Ok-checked_mul.is));
    }

pub returns : goal.returns
returns c = record { is = valued-all (terms_of c.args.self) c.args.x c.loop-i.i _ _ (omega arith) c.loop-i.invariant.valued }
