-- Document 01, module 5: for a nonzero input, answered factors raised to their multiplicities multiply to the input over its leading coefficient. Irreducibility isn't claimed.
use Rattle.std.specs.Prelude.{List, ◌≡◌, ℕ, ◌≤◌}
use Rattle.algebra.specs.Rational.{Rat}
use Rattle.algebra.specs.Polynomial.{coeff, Equal, scaled}
use Rattle.algebra.specs.Textbook.{HasDegree, IsZero}
use Rattle.ratio.specs.Promise.{rat}
use Rattle.ratio.specs.Refusal.{zero_r, ratio_of, status_of}
use Rattle.terms.specs.declared.Poly.{Poly}
use Rattle.poly.specs.declared.Gate.TheVariants.{Open}
use Rattle.poly.specs.Door.{door_of}
use Rattle.poly.specs.Promise.{reading}
use Rattle.roots.specs.Content.{content_for}
use Rattle.yun.specs.declared.Piece.{Piece}
use Rattle.yun.specs.declared.Decomposition.{Decomposition}
use Rattle.yun.specs.Answer.{pieces_of}
use Rattle.yun.specs.Promise.{factor, degree_of, powers, degrees, Every, Decomposes}
use Rattle.factor.specs.declared.Factorization.{Factorization}
use Rattle.factor.specs.Factors.{factor_for}
use Rattle.factor.specs.Rebuild.{factors_in}

-- a factor that is handed back is canonical and has degree at least 1
pub record IsPart (p : Piece) : Type 0 where
  pub canonical : door_of p.poly ≡ Open
  pub has-degree : HasDegree (factor p) (degree_of p)
  pub proper : 1 ≤ degree_of p

-- the factors of a polynomial f that is not zero
pub record Factors (f : List Rat) (l : List Piece) : Type 0 where
  pub parts : Every IsPart l
  pub occur : Every (λ p. 1 ≤ p.times) l
  pub multiply : (n : ℕ) → HasDegree f n → Equal f (scaled (coeff f n) (powers l))
  pub add-up : (n : ℕ) → HasDegree f n → degrees l ≡ n

pub record FactorPromise (p : Poly) (r : Factorization) : Type 0 where
  pub factors : status_of r.outcome ≡ 0 → (IsZero (reading p) → ⊥) → Factors (reading p) (factors_in r)
  pub of_zero : status_of r.outcome ≡ 0 → IsZero (reading p) → r.len ≡ 0
  pub content : status_of r.outcome ≡ 0 → r.content ≡ ratio_of (content_for p)
  pub refused : (status_of r.outcome ≡ 0 → ⊥) → (r.len ≡ 0) × (r.content ≡ zero_r)

-- the square-free decomposition
pub record DecompositionPromise (f : Poly) (r : Decomposition) : Type 0 where
  pub decomposes : status_of r.outcome ≡ 0 → (IsZero (reading f) → ⊥) → Decomposes (reading f) (pieces_of r)
  pub of_zero : status_of r.outcome ≡ 0 → IsZero (reading f) → r.len ≡ 0
  pub refused : (status_of r.outcome ≡ 0 → ⊥) → r.len ≡ 0

-- what rebuilding stands for: the content times the powers of the factors
abbrev pub rebuilt_as : Poly → ℕ → List Rat
rebuilt_as p budget = scaled (rat (factor_for p budget).content) (powers (factors_in (factor_for p budget)))
