-- Document 01, "the job program": how one number is spelt: n or n/d in lowest terms, d at least 2, no leading zeros, `+` or `-0`; a float is 16 hex digits, a budget 1 to 65,536.
use Rattle.ratio.specs.declared.Reason.{Reason}
use Rattle.ratio.specs.declared.Ratio.{Ratio}
use Rattle.std.specs.Prelude.{Bool, true, false, ◌&&◌, cond, List, [], ◌∷◌, ℕ, ℤ, Float, ltb, eqb, pos, nat_abs, take, drop, Result, Ok, Err, Option, Some, None}
use Rattle.std.specs.Int.Signed.{lt_z}
use Rattle.std.specs.Float.{binary64}
use Rattle.std.specs.Float.Ieee.{of_bits}
use Rattle.ratio.specs.Gcd.{gcd_of}
use Rattle.ratio.specs.Range.{limit}
use Rattle.ratio.specs.Step.{signed}
use Rattle.ratio.specs.declared.Reason.TheVariants.{BadInput}
use Rattle.tokens.specs.Spelling.{natural_of, bits_of}
use Rattle.tokens.specs.Words.{length_to}

-- a size at most 2^63 − 1, with its sign; zero has none
abbrev pub whole_of : Bool → Option ℕ → Option ℤ
whole_of neg (Some m) = cond (ltb limit m) None (cond (neg && eqb m 0) None (Some (signed neg m)))
whole_of neg None = None

-- digits, a `-` (45) in front of what is below zero
unfoldable pub numerator_of : List ℕ → Option ℤ
numerator_of [] = None
numerator_of (b ∷ l) = cond (eqb b 45) (whole_of true (natural_of l)) (whole_of false (natural_of (b ∷ l)))

-- digits
abbrev pub denominator_of : List ℕ → Option ℤ
denominator_of l = whole_of false (natural_of l)

abbrev pub whole_step : Option ℤ → Result Ratio Reason
whole_step (Some n) = Ok (record { num = n; den = pos 1 })
whole_step None = Err BadInput

-- lowest terms, the denominator at least 2
abbrev pub fraction_step : Option ℤ → Option ℤ → Result Ratio Reason
fraction_step (Some n) (Some d) =
    cond (lt_z d (pos 2)) (Err BadInput)
    (cond (eqb (gcd_of (nat_abs n) (nat_abs d)) 1) (Ok (record { num = n; den = d })) (Err BadInput))
fraction_step (Some n) None = Err BadInput
fraction_step None d = Err BadInput

abbrev pub ratio_in : List ℕ → List ℕ → Result Ratio Reason
ratio_in n [] = whole_step (numerator_of n)
ratio_in n (slash ∷ d) = fraction_step (numerator_of n) (denominator_of d)

-- what stands before the first `/` (47) and, if there is one, what stands after it
unfoldable pub ratio_from : List ℕ → Result Ratio Reason
ratio_from w = ratio_in (take (length_to 47 w) w) (drop (length_to 47 w) w)

abbrev pub real_of : Option ℕ → Option Float
real_of (Some n) = Some (of_bits binary64 n)
real_of None = None

unfoldable pub float_from : List ℕ → Option Float
float_from w = real_of (bits_of w)

abbrev pub budget_of : Option ℕ → Option ℕ
budget_of (Some n) = cond (eqb n 0) None (cond (ltb 65536 n) None (Some n))
budget_of None = None

unfoldable pub budget_from : List ℕ → Option ℕ
budget_from w = budget_of (natural_of w)
