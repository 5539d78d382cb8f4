-- Document 01, opening: a rational is a pair of whole numbers of any size, denominator above zero, equal by cross products.
use Rattle.std.specs.Prelude.{◌≡◌, ℕ, zero, suc, ◌*◌, ◌<◌, ℤ, pos, negsuc, neg_ℤ, ◌+ℤ◌, ◌*ℤ◌, ◌<ℤ◌}
use Rattle.std.proofs.Common.{suc-le-suc, zero-le, mul-pos}

pub record Rat : Type 0 where
  pub num : ℤ
  pub den : ℕ
  pub above_zero : 0 < den

-- equal by cross products
abbrev pub Same : Rat → Rat → Type 0
Same x y = x.num *ℤ pos y.den ≡ y.num *ℤ pos x.den

-- less, by cross products
abbrev pub Less : Rat → Rat → Type 0
Less x y = (x.num *ℤ pos y.den) <ℤ (y.num *ℤ pos x.den)

-- a whole number
abbrev pub whole : ℤ → Rat
whole n = record { num = n; den = 1; above_zero = suc-le-suc zero-le }

abbrev pub zero_q : Rat
zero_q = whole (pos 0)

abbrev pub one_q : Rat
one_q = whole (pos 1)

abbrev pub add_q : Rat → Rat → Rat
add_q x y = record {
  num = x.num *ℤ pos y.den +ℤ y.num *ℤ pos x.den;
  den = x.den * y.den;
  above_zero = mul-pos x.above_zero y.above_zero;
}

abbrev pub mul_q : Rat → Rat → Rat
mul_q x y = record { num = x.num *ℤ y.num; den = x.den * y.den; above_zero = mul-pos x.above_zero y.above_zero }

abbrev pub neg_q : Rat → Rat
neg_q x = record { num = neg_ℤ x.num; den = x.den; above_zero = x.above_zero }

abbrev pub sub_q : Rat → Rat → Rat
sub_q x y = add_q x (neg_q y)

-- the fraction n / d of two whole numbers: the sign moves to the numerator. (n / 0 is no fraction, and stands here as 0.)
abbrev pub over : ℤ → ℤ → Rat
over n (pos zero) = zero_q
over n (pos (suc d)) = record { num = n; den = suc d; above_zero = suc-le-suc zero-le }
over n (negsuc d) = record { num = neg_ℤ n; den = suc d; above_zero = suc-le-suc zero-le }
