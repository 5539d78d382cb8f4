-- The prices and the quotes by the cases in which the code goes, and how large a price gets for degrees to 31.
use Rattle.std.specs.Prelude.{Ok}
use mathlib.Core.Path.{◌≡◌, refl, sym, ap}
use mathlib.Core.Bool.{Bool, true, false}
use Prim.Native.Nat.{ℕ, zero, suc, ◌+◌, ◌-◌, ◌*◌, ◌≤◌, ◌<◌}
use native.Mathlib.Nat.{mul-le-mul}
use native.Mathlib.Numerals.{unary_clauses}
use native.Mathlib.Omega.{arith}
use borrow.Author.Tests.{lt-ltb, le-ltb}
use lib.Dec.{ltb}
use Rattle.remainders.specs.Price.{division_price, ordered_price, resultant_if, resultant_price, discriminant_price}
use Rattle.euclid.specs.Quote.{discriminant_quote}

pub few-products : (n m : ℕ) → n ≤ 31 → m ≤ 31 → n * m ≤ 961
few-products n m h g = mul-le-mul h g

-- ---- prices

module _ (n m : ℕ) where
  pub division-lower : n < m → 0 ≡ division_price n m
  division-lower h = rw (lt-ltb n m h)

  pub division-higher : m ≤ n → (n - m + 1) * (2 * m + 3) ≡ division_price n m
  division-higher h = rw (le-ltb n m h)

  pub division-few : n ≤ 31 → m ≤ 31 → (n - m + 1) * (2 * m + 3) ≤ 2080
  division-few h g = mul-le-mul {n₂ = 32} {m₂ = 65} (omega arith) (omega arith)

  pub ordered-few : n ≤ 31 → m ≤ 31 → ordered_price n m ≤ 2229
  ordered-few h g = omega (arith, few-products n m h g)

pub resultant-constant : (n m : ℕ) → (n ≡ 0 → ⊥) → m ≡ 0 → n ≡ resultant_price n m
resultant-constant zero m e f = absurd (e refl)
resultant-constant (suc n) zero e f = refl
resultant-constant (suc n) (suc m) e f = absurd (omega arith)

pub resultant-lower : (n m : ℕ) → (n ≡ 0 → ⊥) → (m ≡ 0 → ⊥) → n < m → ordered_price m n + 1 ≡ resultant_price n m
resultant-lower zero m e f h = absurd (e refl)
resultant-lower (suc n) zero e f h = absurd (f refl)
resultant-lower (suc n) (suc m) e f h = sym (ap (λ t. resultant_if t (suc n) (suc m)) (lt-ltb n m (omega arith)))

pub resultant-higher : (n m : ℕ) → (n ≡ 0 → ⊥) → (m ≡ 0 → ⊥) → m ≤ n → ordered_price n m ≡ resultant_price n m
resultant-higher zero m e f h = absurd (e refl)
resultant-higher (suc n) zero e f h = absurd (f refl)
resultant-higher (suc n) (suc m) e f h = sym (ap (λ t. resultant_if t (suc n) (suc m)) (le-ltb n m (omega arith)))

resultant-if-few : (t : Bool) (n m : ℕ) → n ≤ 31 → m ≤ 31 → resultant_if t n m ≤ 2230
resultant-if-few true n m h g = omega (arith, few-products m n g h)
resultant-if-few false n m h g = omega (arith, few-products n m h g)

pub resultant-few : (n m : ℕ) → n ≤ 31 → m ≤ 31 → resultant_price n m ≤ 2230
resultant-few zero m h g = omega arith
resultant-few (suc n) zero h g = omega arith
resultant-few (suc n) (suc m) h g = resultant-if-few (ltb n m) (suc n) (suc m) h g

pub discriminant-positive : (n : ℕ) → (n ≡ 0 → ⊥) → n + resultant_price n (n - 1) + 2 ≡ discriminant_price n
discriminant-positive zero e = absurd (e refl)
discriminant-positive (suc n) e = simp unary_clauses

-- ---- quotes

pub constant-quote : (n : ℕ) → n ≡ 0 → Ok 0 ≡ discriminant_quote n
constant-quote zero e = refl
constant-quote (suc n) e = absurd (omega arith)
