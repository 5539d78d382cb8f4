use Rattle.std.proofs.Common.{ℕ, get_or, ap, ◌∙◌}
use Rattle.ratio.specs.Refusal.{zero_r}
use Rattle.ratio.specs.Step.{neg_of}
use Rattle.terms.specs.Poly.{terms_of}
use Rattle.terms.specs.Work.{each}
use Rattle.terms.specs.Answer.{answer_of, uncounted, negated_of}
use Rattle.terms.proofs.Each.{none_made, uncounted-is}
use Rattle.terms.proofs.Poly.negate.Goals as goal

pub returns : goal.returns
unfolding negated_of
returns c =
    let s = λ (i : ℕ). neg_of (get_or (terms_of c.args.self) i zero_r) in
    record { is = ap none_made (c.make-made.ensures s (λ i x k p. p)) ∙ uncounted-is s _ ∙ ap (λ (n : ℕ). answer_of (each (λ i k. uncounted k (s i)) n 0 0)) c.length.ensures.is }
