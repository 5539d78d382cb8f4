-- Document 01, "refusal numbers" and their order: a number is given exactly when its case holds and none before it does: 5, then 4 where the inputs alone show it, then 3, then whichever comes first in the order of work.
use Rattle.std.specs.Prelude.{◌≡◌, ℕ}

-- bad is 5, long is 4, a zero divisor is 3; behind these the status is the work's own
pub record GivenWhen (bad long by_zero : Type 0) (work : ℕ → Type 0) (status : ℕ) : Type 0 where
  pub five : bad → status ≡ 5
  pub four : (bad → ⊥) → long → status ≡ 4
  pub three : (bad → ⊥) → (long → ⊥) → by_zero → status ≡ 3
  pub behind : (bad → ⊥) → (long → ⊥) → (by_zero → ⊥) → work status

-- work that is always answered
abbrev pub Always : ℕ → Type 0
Always status = status ≡ 0

-- work that is answered where every number fits the range, and refused with 2 where one doesn't
pub record Fitting (fits : Type 0) (status : ℕ) : Type 0 where
  pub answered : fits → status ≡ 0
  pub over : (fits → ⊥) → status ≡ 2
