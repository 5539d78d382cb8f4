-- `job::work` meets its contract.
use mathlib.Core.Path.{refl}
use Prim.Native.Nat.{ℕ}
use Rattle.ratio.specs.declared.Reason.TheVariants as R
use Rattle.factor.specs.Factors.{factor_for}
use Rattle.ops.specs.declared.Op.{Op}
use Rattle.ops.specs.declared.Op.TheVariants as Ops
use Rattle.job.specs.Job.{refusing, answering, dividing, numbering, valuing, rooting, factoring, counting, isolating}
use Rattle.job.proofs.Laying.{worked}
use borrow.Author.Rules.{rules}
use Rattle.job.proofs.work.Goals as goal

pub returns-in-Add : goal.returns-in-Add
returns-in-Add c =
    let s = c.args in
    worked answering s.r Ops.Add _ _ c.in-Add.is c.add.ensures.is refl _ _ _ c.answer.ensures

pub returns-in-Sub : goal.returns-in-Sub
returns-in-Sub c =
    let s = c.args in
    worked answering s.r Ops.Sub _ _ c.in-Sub.is c.sub.ensures.is refl _ _ _ c.answer-in-Sub.ensures

pub returns-in-Mul : goal.returns-in-Mul
returns-in-Mul c =
    let s = c.args in
    worked answering s.r Ops.Mul _ _ c.in-Mul.is c.mul.ensures.is refl _ _ _ c.answer-in-Mul.ensures

pub returns-in-Divide : goal.returns-in-Divide
returns-in-Divide c =
    let s = c.args in
    worked dividing s.r Ops.Divide _ _ c.in-Divide.is c.div_rem.ensures.is refl _ _ _ c.division.ensures

pub returns-in-Gcd : goal.returns-in-Gcd
returns-in-Gcd c =
    let s = c.args in
    worked answering s.r Ops.Gcd _ _ c.in-Gcd.is c.gcd.ensures.is refl _ _ _ c.answer-in-Gcd.ensures

pub returns-in-Resultant : goal.returns-in-Resultant
returns-in-Resultant c =
    let s = c.args in
    worked numbering s.r Ops.Resultant _ _ c.in-Resultant.is c.resultant.ensures.is refl _ _ _ c.number.ensures

pub returns-in-Neg : goal.returns-in-Neg
returns-in-Neg c =
    let s = c.args in
    worked answering s.r Ops.Neg _ _ c.in-Neg.is c.neg.ensures.is refl _ _ _ c.answer-in-Neg.ensures

pub returns-in-Diff : goal.returns-in-Diff
returns-in-Diff c =
    let s = c.args in
    worked answering s.r Ops.Diff _ _ c.in-Diff.is c.diff.ensures.is refl _ _ _ c.answer-in-Diff.ensures

pub returns-in-Discriminant : goal.returns-in-Discriminant
returns-in-Discriminant c =
    let s = c.args in
    worked numbering s.r Ops.Discriminant _ _ c.in-Discriminant.is c.discriminant.ensures.is refl _ _ _ c.number-in-Discriminant.ensures

pub returns-in-Roots : goal.returns-in-Roots
returns-in-Roots c =
    let s = c.args in
    worked rooting s.r Ops.Roots _ _ c.in-Roots.is c.rational_roots.ensures.is refl _ _ _ c.roots.ensures

pub returns-in-Factor : goal.returns-in-Factor
returns-in-Factor c =
    let s = c.args in
    worked (λ (o : Op) (b : ℕ). factoring o (factor_for s.r.a b)) s.r Ops.Factor s.r.budget s.r.budget c.in-Factor.is refl refl _ _ _ c.factors.ensures

pub returns-in-Rebuild : goal.returns-in-Rebuild
returns-in-Rebuild c =
    let s = c.args in
    worked answering s.r Ops.Rebuild _ _ c.in-Rebuild.is c.rebuild.ensures.is refl _ _ _ c.answer-in-Rebuild.ensures

pub returns-in-Eval : goal.returns-in-Eval
returns-in-Eval c =
    let s = c.args in
    worked valuing s.r Ops.Eval _ _ c.in-Eval.is c.eval.ensures.is refl _ _ _ c.value.ensures

pub returns-in-Count : goal.returns-in-Count
returns-in-Count c =
    let s = c.args in
    worked counting s.r Ops.Count _ _ c.in-Count.is c.count_real_roots.ensures.is refl _ _ _ c.count.ensures

pub returns-in-Isolate : goal.returns-in-Isolate
returns-in-Isolate c =
    let s = c.args in
    worked isolating s.r Ops.Isolate _ _ c.in-Isolate.is c.isolate_real_roots.ensures.is refl _ _ _ c.isolation.ensures

pub returns-in-Unknown : goal.returns-in-Unknown
returns-in-Unknown c =
    let s = c.args in
    worked refusing s.r Ops.Unknown R.BadInput R.BadInput c.in-Unknown.is refl refl _ _ _ c.refuse.ensures
