-- A smaller and a larger factor of a number; a marked number is the smaller one of such a pair.
use mathlib.Core.Path.{◌≡◌, refl, subst}
use mathlib.Core.Bool.{Bool, true, false, ◌&&◌}
use Prim.Native.Nat.{ℕ, suc, ◌*◌, ◌/◌, ◌%◌, ◌<◌, ◌≤◌}
use native.Mathlib.Nat.{mul-le-mul_left, dvd_of_mod-eq-zero, mul-div_cancel'}
use native.Mathlib.Decide.{dec_le}
use native.Mathlib.Omega.{arith}
use borrow.Author.Tests.{leb-true, eqb-true}
use lib.Dec.{leb, eqb}
use Rattle.divisors.specs.Listing.{is_small}

-- h and g are a smaller and a larger factor of N
pub record Factors (N h g : ℕ) : Type 0 where
  pub some : 0 < h
  pub ordered : h ≤ g
  pub product : h * g ≡ N

and-true : (a b : Bool) → (a && b) ≡ true → (a ≡ true) × (b ≡ true)
and-true true b e = (refl, e)
and-true false b e = absurd (let f : ◌≡◌ {A = ℕ} 0 1 = cc in omega arith)

-- a marked number is the smaller factor with its quotient, and the other way round
pub small-factors : (N i : ℕ) → 0 < i → is_small N i ≡ true → Factors N i (N / i)
small-factors N i p e = record { some = p; ordered = ordered-by (dec_le i (N / i)); product = product_is }
  where
    tests : (leb (i * i) N ≡ true) × (eqb (N % i) 0 ≡ true)
    tests = and-true (leb (i * i) N) (eqb (N % i) 0) e

    product_is : i * (N / i) ≡ N
    product_is = mul-div_cancel' i (dvd_of_mod-eq-zero i (eqb-true (N % i) 0 tests.1))

    ordered-by : Dec (i ≤ N / i) → i ≤ N / i
    ordered-by (yes h) = h
    ordered-by (no h) = absurd (omega (arith, product_is, leb-true (i * i) N tests.0, mul-le-mul_left i (let g : suc (N / i) ≤ i = omega arith in g)))

pub square-below : (N h g : ℕ) → Factors N h g → h * h ≤ N
square-below N h g H = subst (λ m. h * h ≤ m) H.product (mul-le-mul_left h H.ordered)
