-- Document 01's figures marked P and that of an isolation that goes too deep, as one table about the definitions. proofs/Proved.antt proves it.
use Rattle.std.specs.Prelude.{◌≡◌, [], ◌∷◌, ℕ, ℤ, pos, negsuc, true, List, ◌++◌, replicate, Float, Ok}
use Rattle.ratio.specs.Refusal.{status_of, no_refusal}
use Rattle.ratio.specs.Step.{add_of}
use Rattle.ratio.specs.declared.Ratio.{Ratio}
use Rattle.terms.specs.declared.Poly.{Poly}
use Rattle.terms.specs.Poly.{poly_of}
use Rattle.terms.specs.Machine.{whole_r}
use Rattle.terms.specs.Answer.{done_with}
use Rattle.euclid.specs.Answer.{div_rem_of, gcd_for, resultant_for, discriminant_for, whole_if}
use Rattle.euclid.specs.Quote.{gcd_quote, resultant_quote}
use Rattle.euclid.specs.declared.Whole.{Whole}
use Rattle.terms.specs.Machine.{fine}
use Rattle.search.specs.declared.Roots.{Roots}
use Rattle.search.specs.Answer.{answered}
use Rattle.roots.specs.Answer.{rational_roots_of}
use Rattle.yun.specs.Answer.{no_piece}
use Rattle.yun.specs.Round.{piece}
use Rattle.factor.specs.declared.Factorization.{Factorization}
use Rattle.factor.specs.Factors.{factor_for}
use Rattle.std.specs.Float.{binary64}
use Rattle.std.specs.Float.Ieee.{of_bits, neg}
use Rattle.ratio.specs.declared.Reason.TheVariants.{TooDeep}
use Rattle.sturm.specs.Count.{farthest}
use Rattle.isolate.specs.Answer.{refused_for}
use Rattle.isolate.specs.Isolate.{isolate_for}

abbrev pub ratio : ℤ → ℤ → Ratio
ratio n d = record { num = n; den = d }

abbrev pub one : Ratio
one = whole_r (pos 1)

-- the polynomial of three whole coefficients, of two, of one, of none; they rise
abbrev pub square : ℤ → ℤ → ℤ → Poly
square a b c = poly_of (whole_r a ∷ whole_r b ∷ whole_r c ∷ [])

abbrev pub cubic : ℤ → ℤ → ℤ → ℤ → Poly
cubic a b c d = poly_of (whole_r a ∷ whole_r b ∷ whole_r c ∷ whole_r d ∷ [])

abbrev pub linear : ℤ → ℤ → Poly
linear a b = poly_of (whole_r a ∷ whole_r b ∷ [])

abbrev pub constant : ℤ → Poly
constant a = poly_of (whole_r a ∷ [])

abbrev pub zero : Poly
zero = poly_of []

-- a whole number at a number of steps
abbrev pub number : ℤ → ℕ → Whole
number n k = whole_if true n k

-- these roots, after so many candidates and steps
abbrev pub roots : List Ratio → ℕ → ℕ → Roots
roots l tried steps = answered (fine (record { tried = tried; steps = steps }) l)

-- this content and one factor, once
abbrev pub once_with : Ratio → List Ratio → Factorization
once_with c l = record { outcome = no_refusal; content = c; pieces = (piece l 1 ∷ []) ++ replicate 31 no_piece; len = 1 }

-- the float nearest to 1e-6
abbrev pub millionth : Float
millionth = of_bits binary64 0x3eb0_c6f7_a0b5_ed8d

pub record Figures : Type 0 where
  -- the gcd of x^2 - 1 and x^2 - 3x + 2 is x - 1 and takes 7 + 10 + 2 = 19 steps, quote 24
  pub gcd-steps : gcd_for (square (negsuc 0) (pos 0) (pos 1)) (square (pos 2) (negsuc 2) (pos 1)) ≡ done_with (linear (negsuc 0) (pos 1)) 19
  pub gcd-quote : gcd_quote 2 2 ≡ Ok 24
  -- gcd(x^2 + 1, x) = 1 at 17 steps, quote 17; their resultant is 1 at 15, quote 15
  pub gcd-one : gcd_for (square (pos 1) (pos 0) (pos 1)) (linear (pos 0) (pos 1)) ≡ done_with (constant (pos 1)) 17
  pub gcd-one-quote : gcd_quote 2 1 ≡ Ok 17
  pub resultant-one : resultant_for (square (pos 1) (pos 0) (pos 1)) (linear (pos 0) (pos 1)) ≡ number (pos 1) 15
  pub resultant-one-quote : resultant_quote 2 1 ≡ Ok 15
  -- the discriminant of x^2 - 3x + 2 is 1; of 7 it is 1
  pub discriminant-square : discriminant_for (square (pos 2) (negsuc 2) (pos 1)) ≡ number (pos 1) 19
  pub discriminant-constant : discriminant_for (constant (pos 7)) ≡ number (pos 1) 0
  -- 1/3037000500 + 1/3037000500 is refused with 2
  pub sum-too-large : status_of (add_of (ratio (pos 1) (pos 3037000500)) (ratio (pos 1) (pos 3037000500))) ≡ 2
  -- 0 divided by 0 gives 3; gcd(0, 0) is 0
  pub zero_by_zero : status_of (div_rem_of zero zero).outcome ≡ 3
  pub gcd-of-zeros : gcd_for zero zero ≡ done_with zero 0
  -- the roots of 2x^3 - 3x^2 - 3x + 2 are -1, 1/2, 2; of x^3 - x: -1, 0, 1
  pub roots-cubic : rational_roots_of (cubic (pos 2) (negsuc 2) (negsuc 2) (pos 2)) 65536 ≡ roots (whole_r (negsuc 0) ∷ ratio (pos 1) (pos 2) ∷ whole_r (pos 2) ∷ []) 16 192
  pub roots-with-zero : rational_roots_of (cubic (pos 0) (negsuc 0) (pos 0) (pos 1)) 65536 ≡ roots (whole_r (negsuc 0) ∷ whole_r (pos 0) ∷ whole_r (pos 1) ∷ []) 4 36
  -- the factors of 2x + 1: content 1, one factor x + 1/2
  pub factor-linear : factor_for (linear (pos 1) (pos 2)) 65536 ≡ once_with one (ratio (pos 1) (pos 2) ∷ one ∷ [])
  -- (x - 1)(x - 2) on ±1e15, tolerance 1e-6, gives 7
  pub isolate-deep : isolate_for (square (pos 2) (negsuc 2) (pos 1)) (neg farthest) farthest millionth ≡ refused_for TooDeep
