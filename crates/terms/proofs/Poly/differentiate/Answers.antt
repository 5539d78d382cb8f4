use Rattle.std.proofs.Common.{ℕ, get_or, ◌+◌, ◌-◌, pos, ap, ◌∙◌}
use Rattle.ratio.specs.Refusal.{zero_r}
use Rattle.ratio.specs.Step.{mul_of}
use Rattle.terms.specs.Poly.{terms_of}
use Rattle.terms.specs.Machine.{counted, whole_r}
use Rattle.terms.specs.Work.{each, derived}
use Rattle.terms.specs.Answer.{answer_of}
use Rattle.terms.proofs.Poly.differentiate.Goals as goal

pub returns : goal.returns
unfolding derived
returns c =
    let s = λ (i : ℕ). mul_of (get_or (terms_of c.args.self) (i + 1) zero_r) (whole_r (pos (i + 1))) in
    record { is = c.make.ensures s (λ i x k p. p) ∙ ap (λ (n : ℕ). answer_of (each (λ i k. counted k (s i)) n 0 0)) (c.less_one.ensures.is ∙ ap (λ (n : ℕ). n - 1) c.length.ensures.is) }
