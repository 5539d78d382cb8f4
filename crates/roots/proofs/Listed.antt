-- A listing ends at the root: that of a number below (b + 1)² is made of the numbers from 1 to b, so that small ones are found by computing.
use mathlib.Core.Path.{◌≡◌, refl, ap, ap₂, ◌∙◌}
use mathlib.Core.List.{[], ◌++◌}
use Prim.Native.Nat.{ℕ, zero, suc, ◌+◌, ◌-◌, ◌*◌, ◌<◌, ◌≤◌}
use native.Mathlib.Omega.{arith}
use Rattle.divisors.specs.Listing.{entries, is_small, keep, list_from, factors_of}
use Rattle.divisors.proofs.Words.{square_le, above_root}

none_from : (n k i : ℕ) → n < i * i → list_from n k i ≡ []
unfolding list_from
none_from n zero i h = refl
none_from n (suc k) i h =
    ap₂ (λ t l. keep t (entries n i) ++ l) (above_root n i h) (none_from n k (suc i) (omega (arith, square_le i (suc i) (omega arith))))

from-upto : (n a b i : ℕ) → n < (i + a) * (i + a) → list_from n (a + b) i ≡ list_from n a i
unfolding list_from
from-upto n zero b i h =
    let e : zero + b ≡ b = omega arith in
    let f : i + zero ≡ i = omega arith in
    ap (λ k. list_from n k i) e ∙ none_from n b i (rw f at h)
from-upto n (suc a) b i h =
    let e : suc a + b ≡ suc (a + b) = omega arith in
    let f : i + suc a ≡ suc i + a = omega arith in
    ap (λ k. list_from n k i) e ∙ ap (λ l. keep (is_small n i) (entries n i) ++ l) (from-upto n a b (suc i) (rw f at h))

pub factors-upto : (n b : ℕ) → b ≤ 65536 → suc n < (1 + b) * (1 + b) → factors_of (suc n) ≡ list_from (suc n) b 1
unfolding factors_of
factors-upto n b h k =
    let e : 65536 ≡ b + (65536 - b) = omega arith in
    ap (λ m. list_from (suc n) m 1) e ∙ from-upto (suc n) b (65536 - b) 1 k
