-- `remainders::monic` meets its contract.
use mathlib.Core.Path.{ap, ◌∙◌}
use borrow.Author.Rules.{rules}
use Rattle.ratio.specs.Refusal.{ratio_of}
use Rattle.ratio.specs.Step.{inv_of}
use Rattle.ratio.specs.declared.Ratio.{Ratio}
use Rattle.terms.specs.Machine.{plain}
use Rattle.terms.specs.Poly.{terms_of}
use Rattle.terms.specs.Work.{scaled}
use Rattle.terms.specs.Answer.{answer_of}
use Rattle.remainders.proofs.CodeGcd.{scaled-monic}
use Rattle.remainders.proofs.monic.Statement.{statement}
use Rattle.remainders.proofs.monic.Tie as tie

lead-requires : tie.Need-lead-requires
lead-requires c κs = search rules

inverse-requires : tie.Need-inverse-requires
inverse-requires c κs = search rules

scale-requires : tie.Need-scale-requires
scale-requires c κs = search rules

returns : tie.Need-returns
returns c =
    let p = c.args.p in
    c.scale.ensures
    ∙ ap (λ (x : Ratio). answer_of (scaled plain (terms_of p) x 0)) (c.inverse.ensures ∙ ap (λ (x : Ratio). ratio_of (inv_of x)) c.lead.ensures)
    ∙ ap answer_of (scaled-monic (terms_of p))

pub monic_spec : {M : Type 1} → statement M
monic_spec = tie.close (tie.spec lead-requires inverse-requires scale-requires returns)
