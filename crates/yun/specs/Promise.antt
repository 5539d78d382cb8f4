-- Document 01, module 5: for a nonzero input, answered factors raised to their multiplicities multiply to the input over its leading coefficient. And it is the square-free decomposition: no square divides the product of the factors, each taken once.
use Rattle.std.specs.Prelude.{List, [], ◌∷◌, ◌≡◌, ℕ, suc, ◌+◌, ◌-◌, ◌*◌, ◌≤◌, length}
use Rattle.algebra.specs.Rational.{Rat, one_q}
use Rattle.algebra.specs.Polynomial.{coeff, Equal, scaled, product, power}
use Rattle.algebra.specs.Textbook.{HasDegree, Monic, Divides}
use Rattle.terms.specs.Meaning.{rats}
use Rattle.terms.specs.Poly.{terms_of}
use Rattle.yun.specs.declared.Piece.{Piece}

-- the factor, as the textbook reads it
abbrev pub factor : Piece → List Rat
factor p = rats (terms_of p.poly)

-- the degree that its coefficients show
abbrev pub degree_of : Piece → ℕ
degree_of p = length (terms_of p.poly) - 1

-- the product of the factors, each raised to its multiplicity
unfoldable pub powers : List Piece → List Rat
powers [] = one_q ∷ []
powers (p ∷ l) = product (power (factor p) p.times) (powers l)

-- the product of the factors, each taken once
unfoldable pub bases : List Piece → List Rat
bases [] = one_q ∷ []
bases (p ∷ l) = product (factor p) (bases l)

-- the sum of the degrees, each counted as often as its factor occurs
unfoldable pub degrees : List Piece → ℕ
degrees [] = 0
degrees (p ∷ l) = p.times * degree_of p + degrees l

-- every entry of a list is as P says
abbrev pub Every : (Piece → Type 0) → List Piece → Type 0
Every P [] = Unit {0}
Every P (p ∷ l) = P p × Every P l

-- the multiplicities rise, and start at k or above
abbrev pub Rising : ℕ → List Piece → Type 0
Rising k [] = Unit {0}
Rising k (p ∷ l) = (k ≤ p.times) × Rising (suc p.times) l

-- nothing of degree at least 1 divides p twice
abbrev pub SquareFree : List Rat → Type 0
SquareFree p = (d : List Rat) (n : ℕ) → HasDegree d (suc n) → Divides (product d d) p → ⊥

pub record IsFactor (p : Piece) : Type 0 where
  pub monic : Monic (factor p)
  pub has-degree : HasDegree (factor p) (degree_of p)

-- the square-free decomposition of a polynomial f that is not zero
pub record Decomposes (f : List Rat) (l : List Piece) : Type 0 where
  pub factors : Every IsFactor l
  pub rising : Rising 1 l
  pub multiply : (n : ℕ) → HasDegree f n → Equal f (scaled (coeff f n) (powers l))
  pub square-free : SquareFree (bases l)
  pub add-up : (n : ℕ) → HasDegree f n → degrees l ≡ n
  -- a constant has the factor 1; else every factor has degree at least 1, and there are no more of them than the degree says
  pub proper : (n : ℕ) → HasDegree f (suc n) → Every (λ p. 1 ≤ degree_of p) l
  pub few : (n : ℕ) → HasDegree f (suc n) → length l ≤ suc n
