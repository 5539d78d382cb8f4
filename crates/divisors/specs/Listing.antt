-- Document 01, module 1, `integer_factors`: with N = abs n, the entries i, -i, N/i, -(N/i) for each divisor i, rising up to the root, a square's root and its negative once, and [0] for 0.
use Rattle.std.specs.Prelude.{Bool, true, false, ◌&&◌, List, [], ◌∷◌, ◌++◌, ℕ, zero, suc, ◌*◌, ◌/◌, ◌%◌, leb, eqb, ℤ, pos, neg_ℤ}

abbrev pub others : Bool → ℕ → List ℤ
others true d = []
others false d = pos d ∷ neg_ℤ (pos d) ∷ []

-- what is listed for the divisor i of n
abbrev pub entries : ℕ → ℕ → List ℤ
entries n i = pos i ∷ neg_ℤ (pos i) ∷ others (eqb (i * i) n) (n / i)

-- i divides n and is at most its root
abbrev pub is_small : ℕ → ℕ → Bool
is_small n i = leb (i * i) n && eqb (n % i) 0

abbrev pub keep : Bool → List ℤ → List ℤ
keep true l = l
keep false l = []

-- the entries for k numbers from i on
unfoldable pub list_from : ℕ → ℕ → ℕ → List ℤ
list_from n zero i = []
list_from n (suc k) i = keep (is_small n i) (entries n i) ++ list_from n k (suc i)

-- no root above 65,536 gets past the budget, so that the divisors up to the root are among 1 to 65,536
unfoldable pub factors_of : ℕ → List ℤ
factors_of zero = pos 0 ∷ []
factors_of (suc n) = list_from (suc n) 65536 1
