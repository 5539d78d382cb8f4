-- `yun::factor_of` meets its contract.
use mathlib.Core.Path.{ap, ◌∙◌}
use native.Mathlib.Omega.{arith}
use Rattle.terms.specs.declared.Poly.{Poly}
use Rattle.terms.specs.Poly.{terms_of}
use Rattle.terms.specs.Answer.{done_with, answer_of}
use Rattle.yun.proofs.CodeTurn.{factor-none, factor-some}
use Rattle.yun.proofs.factor_of.Statement.{statement}
use Rattle.yun.proofs.factor_of.Tie as tie

length-requires : tie.Need-length-requires
length-requires c κs = tt

zero-requires : tie.Need-zero-requires
zero-requires c κs = tt

done-requires : tie.Need-done-requires
done-requires c κs = tt

returns : tie.Need-returns-then-length-lt2
returns c =
    let l = c in
    c.done.ensures ∙ ap (λ (p : Poly). done_with p 0) c.zero.ensures ∙ factor-none (terms_of l.args.a) (omega (arith, l.length.ensures))

monic-requires : tie.Need-monic-requires
monic-requires c κs = tt

returns-2 : tie.Need-returns
returns-2 c =
    let l = c in
    c.monic.ensures ∙ ap answer_of (factor-some (terms_of l.args.a) (omega (arith, l.length.ensures)))

pub factor_of_spec : {M : Type 1} → statement M
factor_of_spec = tie.close (tie.spec length-requires zero-requires done-requires returns monic-requires returns-2)
