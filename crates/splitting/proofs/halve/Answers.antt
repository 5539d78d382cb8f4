-- `splitting::halve` meets its contract: one answer for each verdict.
use mathlib.Core.Path.{◌∙◌}
use native.Mathlib.Omega.{arith}
use Rattle.terms.specs.Poly.{terms_of}
use Rattle.splitting.proofs.Halves.{pair-none, pair-over, pair-tried}
use Rattle.splitting.proofs.halve.Goals as goal

pub returns-in-Found : goal.returns-in-Found
returns-in-Found c =
    let n = c.length-n.ensures.is in
    let s = c.try_split-s in
    (c.divide_by.ensures.0 ∙ pair-tried (terms_of c.args.f) c.args.budget (omega (arith, n)) (omega (arith, n)) s.result s.ensures.is _ c.in-Found.is, c.divide_by.ensures.1)

pub returns-in-Next : goal.returns-in-Next
returns-in-Next c =
    let n = c.length-n.ensures.is in
    let s = c.try_split-s in
    let p = c.no_pair-in-Next in
    (pair-none p.result p.ensures.1 p.ensures.2 ∙ pair-tried (terms_of c.args.f) c.args.budget (omega (arith, n)) (omega (arith, n)) s.result s.ensures.is _ c.in-Next.is, p.ensures.0)

pub returns-in-NoSplit : goal.returns-in-NoSplit
returns-in-NoSplit c =
    let n = c.length-n.ensures.is in
    let s = c.try_split-s in
    let p = c.no_pair-in-NoSplit in
    (pair-none p.result p.ensures.1 p.ensures.2 ∙ pair-tried (terms_of c.args.f) c.args.budget (omega (arith, n)) (omega (arith, n)) s.result s.ensures.is _ c.in-NoSplit.is, p.ensures.0)

pub returns-in-Refused : goal.returns-in-Refused
returns-in-Refused c =
    let n = c.length-n.ensures.is in
    let s = c.try_split-s in
    let p = c.no_pair-in-Refused in
    (pair-over p.result _ p.ensures.1 ∙ pair-tried (terms_of c.args.f) c.args.budget (omega (arith, n)) (omega (arith, n)) s.result s.ensures.is _ c.in-Refused.is, p.ensures.0)
