-- `gcd_i64`: the greatest common divisor by Euclid's rule.
use Rattle.std.specs.Prelude.{ℕ, zero, suc, ◌%◌}
use Rattle.std.specs.Int.{◌∣◌}

-- the first number bounds the divisions that are left
unfoldable pub gcd_by : ℕ → ℕ → ℕ → ℕ
gcd_by zero a b = a
gcd_by (suc k) a zero = a
gcd_by (suc k) a (suc b) = gcd_by k (suc b) (a % suc b)

unfoldable pub gcd_of : ℕ → ℕ → ℕ
gcd_of a b = gcd_by (suc b) a b

-- the textbook's words: it divides both, and what divides both divides it
pub record IsGcd (a b g : ℕ) : Type 0 where
  pub divides-a : g ∣ a
  pub divides-b : g ∣ b
  pub greatest : (k : ℕ) → k ∣ a → k ∣ b → k ∣ g
