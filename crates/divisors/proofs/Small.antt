-- The smaller factor of a pair is marked.
use mathlib.Core.Path.{◌≡◌, ap₂, subst}
use mathlib.Core.Bool.{true, ◌&&◌}
use Prim.Native.Nat.{ℕ, ◌*◌, ◌%◌, ◌∣◌}
use native.Mathlib.Nat.{dvd-mul_right, mod-eq-zero_of_dvd}
use borrow.Author.Tests.{le-leb, eq-eqb}
use Rattle.divisors.specs.Listing.{is_small}
use Rattle.divisors.proofs.Factors.{Factors, square-below}

pub factors-small : (N h g : ℕ) → Factors N h g → is_small N h ≡ true
factors-small N h g H = ap₂ ◌&&◌ (le-leb (h * h) N (square-below N h g H)) (eq-eqb (N % h) 0 (mod-eq-zero_of_dvd h (subst (λ m. h ∣ m) H.product (dvd-mul_right h g))))
