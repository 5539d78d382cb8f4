use Rattle.std.proofs.Common.{ℕ, get_or, max, ap, ap₂, ◌∙◌}
use Rattle.ratio.specs.Refusal.{zero_r}
use Rattle.terms.specs.Poly.{terms_of}
use Rattle.terms.specs.Machine.{counted, step_of}
use Rattle.terms.specs.Work.{each, zipped}
use Rattle.terms.specs.Answer.{answer_of, op_if}
use Rattle.terms.proofs.Poly.zip.Goals as goal

pub returns : goal.returns
unfolding zipped
returns c =
    let s = λ (i : ℕ). step_of (op_if c.args.subtract) (get_or (terms_of c.args.self) i zero_r) (get_or (terms_of c.args.other) i zero_r) in
    record { is = c.make.ensures s (λ i x k p. p) ∙ ap (λ (n : ℕ). answer_of (each (λ i k. counted k (s i)) n 0 0)) (c.max.ensures ∙ ap₂ max c.length.ensures.is c.length-2.ensures.is) }
