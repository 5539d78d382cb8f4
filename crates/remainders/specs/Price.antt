-- Demand 3: the price from the degrees. n and m are the degrees of nonzero inputs.
use Rattle.std.specs.Prelude.{Bool, true, false, ℕ, zero, suc, ◌+◌, ◌-◌, ◌*◌, ltb}

-- a division of degree n by degree m takes exactly this; a lower dividend nothing
abbrev pub division_if : Bool → ℕ → ℕ → ℕ
division_if true n m = 0
division_if false n m = (n - m + 1) * (2 * m + 3)

abbrev pub division_price : ℕ → ℕ → ℕ
division_price n m = division_if (ltb n m) n m

-- a gcd takes at most this
abbrev pub gcd_price : ℕ → ℕ → ℕ
gcd_price n m = 2 * n * m + 3 * n + 3 * m + 4

-- a square-free part of degree n takes at most this: the derivative, its gcd with the polynomial, a division and the scaling
abbrev pub square_free_price : ℕ → ℕ
square_free_price n = 3 * n * n + 9 * n + 4

-- for n at least m and m at least 1 a resultant takes at most this
abbrev pub ordered_price : ℕ → ℕ → ℕ
ordered_price n m = 2 * n * m + 4 * n + 6 * m - 3

abbrev pub resultant_if : Bool → ℕ → ℕ → ℕ
resultant_if true n m = ordered_price m n + 1
resultant_if false n m = ordered_price n m

-- a constant against degree k takes k multiplications; a lower first degree one more than the other order
abbrev pub resultant_price : ℕ → ℕ → ℕ
resultant_price zero m = m
resultant_price (suc n) zero = suc n
resultant_price (suc n) (suc m) = resultant_if (ltb n m) (suc n) (suc m)

-- n steps for the derivative, the resultant's, one for the sign, one for the inverse lead
abbrev pub discriminant_price : ℕ → ℕ
discriminant_price zero = 0
discriminant_price (suc n) = suc n + resultant_price (suc n) n + 2
