-- Demand 2 for a rational step: it is answered exactly when document 01 says, and the answer is the textbook's rational, in lowest terms.
use Rattle.std.specs.declared.cmp.Ordering.TheVariants.{Less, Equal, Greater}
use Rattle.std.specs.declared.cmp.Ordering.{Ordering}
use Rattle.ratio.specs.declared.Reason.{Reason}
use Rattle.std.specs.Prelude.{◌≡◌, Bool, true, ℕ, ℤ, pos, nat_abs, ◌+ℤ◌, ◌-ℤ◌, ◌*ℤ◌, ◌<ℤ◌, Result, Ok}
use Rattle.std.specs.Int.{◌∣◌}
use Rattle.algebra.specs.Rational.{Rat, Same, over}
use Rattle.algebra.specs.Rational as Q
use Rattle.ratio.specs.declared.Ratio.{Ratio}
use Rattle.ratio.specs.Refusal.{status_of, ratio_of}
use Rattle.ratio.specs.Range.{Within}

-- the rational that a fraction is
abbrev pub rat : Ratio → Rat
rat r = over r.num r.den

pub record Fraction (r : Ratio) : Type 0 where
  pub num-within : Within r.num
  pub den-within : Within r.den
  pub den-some : r.den ≡ pos 0 → ⊥

-- lowest terms within the range, the denominator above zero
pub record Lowest (r : Ratio) : Type 0 where
  pub fraction : Fraction r
  pub above : pos 0 <ℤ r.den
  pub coprime : (k : ℕ) → k ∣ nat_abs r.num → k ∣ nat_abs r.den → k ≡ 1

-- what has to fit in a sum or a difference n / (d₁ d₂)
pub record SumFits (a b : Ratio) (n : ℤ) : Type 0 where
  pub a-fraction : Fraction a
  pub b-fraction : Fraction b
  pub left : Within (a.num *ℤ b.den)
  pub right : Within (b.num *ℤ a.den)
  pub upper : Within n
  pub lower : Within (a.den *ℤ b.den)

abbrev pub AddFits : Ratio → Ratio → Type 0
AddFits a b = SumFits a b (a.num *ℤ b.den +ℤ b.num *ℤ a.den)

abbrev pub SubFits : Ratio → Ratio → Type 0
SubFits a b = SumFits a b (a.num *ℤ b.den -ℤ b.num *ℤ a.den)

pub record MulFits (a b : Ratio) : Type 0 where
  pub a-fraction : Fraction a
  pub b-fraction : Fraction b
  pub upper : Within (a.num *ℤ b.num)
  pub lower : Within (a.den *ℤ b.den)

pub record InvFits (a : Ratio) : Type 0 where
  pub a-fraction : Fraction a
  pub some : a.num ≡ pos 0 → ⊥

-- the test t tells whether P holds
pub record Tells (P : Type 0) (t : Bool) : Type 0 where
  pub holds : t ≡ true → P
  pub tells : P → t ≡ true

-- the step s is answered exactly when `ok` holds, and the answer is then the rational x, in lowest terms
pub record Answers (ok : Type 0) (x : Rat) (s : Result Ratio Reason) : Type 0 where
  pub answered : ok → status_of s ≡ 0
  pub only : status_of s ≡ 0 → ok
  pub is : status_of s ≡ 0 → Same (rat (ratio_of s)) x
  pub lowest : status_of s ≡ 0 → Lowest (ratio_of s)

-- the comparison o of a and b is answered exactly for two fractions, and tells their order
pub record Orders (a b : Ratio) (o : Result Ordering Reason) : Type 0 where
  pub answered : Fraction a → Fraction b → status_of o ≡ 0
  pub only : status_of o ≡ 0 → Fraction a × Fraction b
  pub less : o ≡ Ok Less → Q.Less (rat a) (rat b)
  pub equal : o ≡ Ok Equal → Same (rat a) (rat b)
  pub greater : o ≡ Ok Greater → Q.Less (rat b) (rat a)
