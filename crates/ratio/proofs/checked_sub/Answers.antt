use Rattle.std.proofs.Common.{◌≡◌, ℤ, neg_ℤ, ap, ap₂, ◌∙◌, rules}
use Rattle.std.proofs.lemmas.Int.{to_z-of_z}
use mir.Syntax.{w64}
use mir.Val.{SFits}
use Rattle.ratio.specs.Step.{add_of, sub_of}
use Rattle.ratio.proofs.Models.{sub-is-add}
use Rattle.ratio.proofs.Answers.{sub-answers}
use Rattle.ratio.proofs.checked_sub.Goals as goal

is : (c : goal.After-add) → c.add.result ≡ sub_of c.args.a c.args.b
is c =
    let b = c.args.b in
    let e = c.in-Some.ensures in
    let bn : SFits w64 b.num = search rules in
    let bd : SFits w64 b.den = search rules in
    let n : SFits w64 c.in-Some.num = search rules in
    c.add.ensures
    ∙ ap (add_of c.args.a) (ap₂ (λ (n d : ℤ). record { num = n; den = d }) (to_z-of_z w64 _ n ∙ e.1 ∙ ap neg_ℤ (to_z-of_z w64 _ bn)) (to_z-of_z w64 _ bd))
    ∙ sub-is-add c.args.a b

pub returns-clause-is : goal.returns-clause-is
returns-clause-is c = is c

pub returns-clause-promise : goal.returns-clause-promise
returns-clause-promise c = rw (is c) (sub-answers _ _)
