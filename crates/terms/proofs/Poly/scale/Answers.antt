use Rattle.std.proofs.Common.{ℕ, get_or, ap, ◌∙◌}
use Rattle.ratio.specs.Refusal.{zero_r}
use Rattle.ratio.specs.Step.{mul_of}
use Rattle.terms.specs.Poly.{terms_of}
use Rattle.terms.specs.Machine.{counted}
use Rattle.terms.specs.Work.{each, scaled}
use Rattle.terms.specs.Answer.{answer_of}
use Rattle.terms.proofs.Poly.scale.Goals as goal

pub returns : goal.returns
unfolding scaled
returns c =
    let s = λ (i : ℕ). mul_of (get_or (terms_of c.args.self) i zero_r) c.args.c in
    record { is = c.make.ensures s (λ i x k p. p) ∙ ap (λ (n : ℕ). answer_of (each (λ i k. counted k (s i)) n 0 0)) c.length.ensures.is }
