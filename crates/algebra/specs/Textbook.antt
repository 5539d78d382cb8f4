-- The textbook's words for polynomials over the rationals (document 01, opening), as contracts cite them: degree, monic, divides, division, gcd, root.
use Rattle.std.specs.Prelude.{List, ℕ, suc, ◌≤◌}
use Rattle.algebra.specs.Rational.{Rat, Same, zero_q, one_q}
use Rattle.algebra.specs.Polynomial.{coeff, Equal, sum, product, value}

-- no coefficient from x^n on
abbrev pub EndsBelow : ℕ → List Rat → Type 0
EndsBelow n p = (i : ℕ) → n ≤ i → Same (coeff p i) zero_q

abbrev pub IsZero : List Rat → Type 0
IsZero p = EndsBelow 0 p

-- degree n: x^n has a coefficient that is not 0, and no higher power has
pub record HasDegree (p : List Rat) (n : ℕ) : Type 0 where
  pub leads : Same (coeff p n) zero_q → ⊥
  pub ends : EndsBelow (suc n) p

-- zero, or of lower degree than b
pub record Lower (r b : List Rat) : Type 0 where
  pub degree : ℕ
  pub of-divisor : HasDegree b degree
  pub ends : EndsBelow degree r

-- the highest coefficient is 1
pub record Monic (p : List Rat) : Type 0 where
  pub degree : ℕ
  pub leads : Same (coeff p degree) one_q
  pub ends : EndsBelow (suc degree) p

-- d divides p: p = q d for some q
pub record Divides (d p : List Rat) : Type 0 where
  pub quotient : List Rat
  pub is : Equal p (product quotient d)

-- a divided by b is q, and r remains
pub record IsDivision (a b q r : List Rat) : Type 0 where
  pub is : Equal a (sum (product q b) r)
  pub lower : Lower r b

-- g = s a + t b for some s and t
pub record Combines (a b g : List Rat) : Type 0 where
  pub left : List Rat
  pub right : List Rat
  pub is : Equal g (sum (product left a) (product right b))

-- g is the greatest common divisor of a and b
pub record IsGcd (a b g : List Rat) : Type 0 where
  pub monic : Monic g
  pub divides-a : Divides g a
  pub divides-b : Divides g b
  pub greatest : (d : List Rat) → Divides d a → Divides d b → Divides d g
  pub combines : Combines a b g

abbrev pub IsRoot : List Rat → Rat → Type 0
IsRoot p x = Same (value p x) zero_q
