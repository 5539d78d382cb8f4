-- Document 01, opening: a polynomial is a list of rationals of any length. Coefficients rise: the i-th belongs to x^i.
use Rattle.std.specs.Prelude.{List, [], ◌∷◌, ℕ, zero, suc, pos}
use Rattle.algebra.specs.Rational.{Rat, Same, whole, zero_q, one_q, add_q, mul_q, neg_q}

-- the coefficient of x^i; past the list's end it is 0
unfoldable pub coeff : List Rat → ℕ → Rat
coeff [] i = zero_q
coeff (a ∷ p) zero = a
coeff (a ∷ p) (suc i) = coeff p i

-- two lists are one polynomial when their coefficients are equal, each to each
abbrev pub Equal : List Rat → List Rat → Type 0
Equal p q = (i : ℕ) → Same (coeff p i) (coeff q i)

unfoldable pub sum : List Rat → List Rat → List Rat
sum [] q = q
sum (a ∷ p) [] = a ∷ p
sum (a ∷ p) (b ∷ q) = add_q a b ∷ sum p q

unfoldable pub scaled : Rat → List Rat → List Rat
scaled c [] = []
scaled c (a ∷ p) = mul_q c a ∷ scaled c p

unfoldable pub negated : List Rat → List Rat
negated [] = []
negated (a ∷ p) = neg_q a ∷ negated p

-- (a + x p) q = a q + x (p q)
unfoldable pub product : List Rat → List Rat → List Rat
product [] q = []
product (a ∷ p) q = sum (scaled a q) (zero_q ∷ product p q)

unfoldable pub power : List Rat → ℕ → List Rat
power p zero = one_q ∷ []
power p (suc n) = product (power p n) p

-- k a₀ + (k + 1) a₁ x + (k + 2) a₂ x² + ..
unfoldable pub weighted : ℕ → List Rat → List Rat
weighted k [] = []
weighted k (a ∷ p) = mul_q (whole (pos k)) a ∷ weighted (suc k) p

-- (a₀ + a₁ x + a₂ x² + ..)' = a₁ + 2 a₂ x + ..
unfoldable pub derivative : List Rat → List Rat
derivative [] = []
derivative (a ∷ p) = weighted 1 p

-- the value at x: (a + x p)(x) = a + x · p(x)
unfoldable pub value : List Rat → Rat → Rat
value [] x = zero_q
value (a ∷ p) x = add_q a (mul_q x (value p x))
