use Rattle.std.proofs.Common.{◌+◌, arith, rules, refl, sym, ap, ◌∙◌}
use lib.ListN.{length-set}
use mir.Syntax.{w64}
use mir.Val.{SFits}
use Rattle.terms.specs.declared.Poly.{Poly}
use Rattle.terms.specs.Pairs.{pairs}
use Rattle.terms.specs.Answer.{done_with}
use Rattle.terms.proofs.Pairs.{pairs-32, pairs-write}
use Rattle.terms.proofs.Each.{Counted, counted_none, counted-more, counted-over, counted-all}
use Rattle.terms.proofs.make.Goals as goal

pub loop-i-init : goal.loop-i-init
loop-i-init g c = record { nums = refl; dens = refl; made = λ s h. counted_none s _ _ }

pub returns-in_default : goal.returns-in_default
returns-in_default g c =
    λ s h. c.refused.ensures.is
    ∙ counted-over s c.args.n c.loop-i.i (pairs c.loop-i.nums c.loop-i.dens) c.in_default.field-0 c.loop-i-test.true (sym (h c.loop-i.i _ c.loop-i-test.true c.in_default.ensures)) (c.loop-i.invariant.made s h)

pub loop-i-preserved : goal.loop-i-preserved
loop-i-preserved g c =
    let l = c.loop-i in
    let y = c.in-Ok.y in
    let num : SFits w64 y.num = search rules in
    let den : SFits w64 y.den = search rules in
    record {
      nums = length-set l.nums l.i _ ∙ l.invariant.nums;
      dens = length-set l.dens l.i _ ∙ l.invariant.dens;
      made = λ s h. pairs-write l.nums l.dens l.invariant.nums l.invariant.dens (Counted s c.args.n (l.i + 1)) l.i y num den
          (counted-more s c.args.n l.i (pairs l.nums l.dens) y c.loop-i-test.true (omega (arith, pairs-32 l.nums l.dens l.invariant.nums l.invariant.dens, c.requires.few)) (sym (h l.i _ c.loop-i-test.true c.in-Ok.ensures)) (l.invariant.made s h));
    }

pub returns : goal.returns
returns g c =
    let l = c.loop-i in
    λ s h. c.done.ensures.is ∙ ap (λ (p : Poly). done_with p c.args.n) c.joined.ensures ∙ counted-all s c.args.n l.i c.args.n (pairs l.nums l.dens) refl c.loop-i-test.false (omega arith) (l.invariant.made s h)
