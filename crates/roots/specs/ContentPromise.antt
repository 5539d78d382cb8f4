-- Demand 2 for module 5, content and primitive part: the content divides the coefficients, the primitive part is a multiple of the polynomial with its lead above zero.
use Rattle.ratio.specs.declared.Reason.{Reason}
use Rattle.ratio.specs.declared.Ratio.{Ratio}
use Rattle.std.specs.Prelude.{◌≡◌, List, ℕ, ◌<◌, ◌≤◌, ℤ, Result}
use Rattle.std.specs.Int.{◌∣◌}
use Rattle.algebra.specs.Rational.{Rat, Same, Less, zero_q, whole, mul_q}
use Rattle.algebra.specs.Polynomial.{coeff, Equal, scaled}
use Rattle.algebra.specs.Textbook.{HasDegree, IsZero}
use Rattle.ratio.specs.Promise.{rat, Lowest}
use Rattle.ratio.specs.Range.{limit}
use Rattle.ratio.specs.Refusal.{status_of, ratio_of}
use Rattle.terms.specs.declared.Answer.{Answer}
use Rattle.terms.specs.declared.Poly.{Poly}
use Rattle.poly.specs.declared.Gate.TheVariants.{Open}
use Rattle.poly.specs.Door.{door_of}
use Rattle.poly.specs.Promise.{reading}

-- a is a whole number of times c
pub record WholeTimes (c a : Rat) : Type 0 where
  pub times : ℤ
  pub is : Same a (mul_q (whole times) c)

-- an answered content isn't below zero, is zero exactly for the zero polynomial, and is in lowest terms
pub record ContentPromise (p : Poly) (s : Result Ratio Reason) : Type 0 where
  pub answered : door_of p ≡ Open → status_of s ≡ 0
  pub lowest : status_of s ≡ 0 → Lowest (ratio_of s)
  pub not-below : status_of s ≡ 0 → Less (rat (ratio_of s)) zero_q → ⊥
  pub of_zero : status_of s ≡ 0 → IsZero (reading p) → Same (rat (ratio_of s)) zero_q
  pub only_zero : status_of s ≡ 0 → Same (rat (ratio_of s)) zero_q → IsZero (reading p)
  -- where the denominators have a common multiple within the range, it divides every coefficient
  pub divides : status_of s ≡ 0 → (m : ℕ) → 0 < m → m ≤ limit → ((i : ℕ) → (coeff (reading p) i).den ∣ m) → (i : ℕ) → WholeTimes (rat (ratio_of s)) (coeff (reading p) i)

-- q is p times a rational that isn't zero
pub record MultipleOf (p q : List Rat) : Type 0 where
  pub factor : Rat
  pub some : Same factor zero_q → ⊥
  pub is : Equal q (scaled factor p)

-- an answered primitive part of a polynomial that isn't zero is a multiple of it whose lead is above zero; what is handed back is canonical
pub record PrimitivePromise (p : Poly) (r : Answer) : Type 0 where
  pub is : (IsZero (reading p) → ⊥) → status_of r.outcome ≡ 0 → MultipleOf (reading p) (reading r.poly)
  pub lead : (IsZero (reading p) → ⊥) → status_of r.outcome ≡ 0 → (n : ℕ) → HasDegree (reading r.poly) n → Less zero_q (coeff (reading r.poly) n)
  pub of_zero : IsZero (reading p) → status_of r.outcome ≡ 0 → IsZero (reading r.poly)
  pub canonical : door_of r.poly ≡ Open
