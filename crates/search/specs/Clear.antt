-- Document 01, module 5, roots: denominators are cleared. m grows from 1 by d / gcd(m, d) for each denominator d; then each numerator is taken m / d times. A product that leaves the range is refused with 2; these products aren't steps.
use Rattle.ratio.specs.Range.{need}
use Rattle.ratio.specs.declared.Reason.{Reason}
use Rattle.std.specs.Prelude.{List, [], ◌∷◌, ℕ, ◌/◌, ℤ, pos, nat_abs, length, get_or, Result, Ok, Err}
use Rattle.std.specs.Int.Signed.{lt_z}
use Rattle.ratio.specs.Gcd.{gcd_of}
use Rattle.ratio.specs.Refusal.{zero_r}
use Rattle.ratio.specs.Step.{mul_of}
use Rattle.ratio.specs.declared.Ratio.{Ratio}
use Rattle.ratio.specs.declared.Reason.TheVariants.{CoeffOverflow}
use Rattle.terms.specs.Machine.{Ran, whole_r}
use Rattle.terms.specs.Work.{each}
use Rattle.terms.specs.Answer.{uncounted}

-- no denominator that the door lets in is 0 or below; here such a one is refused with 2
abbrev pub above : ℤ → Result Ratio Reason → Result Ratio Reason
above d s = need (lt_z (pos 0) d) CoeffOverflow s

-- the common multiple of m and d
unfoldable pub widened : Ratio → ℤ → Result Ratio Reason
widened m d = above d (mul_of m (whole_r (pos (nat_abs d / gcd_of (nat_abs m.num) (nat_abs d)))))

abbrev pub go_on : Result Ratio Reason → (Ratio → Result Ratio Reason) → Result Ratio Reason
go_on (Ok m) k = k m
go_on (Err why) k = Err CoeffOverflow

-- the common multiple of m and all denominators, as a whole number m / 1
unfoldable pub multiple_from : List Ratio → Ratio → Result Ratio Reason
multiple_from [] m = Ok m
multiple_from (a ∷ l) m = go_on (widened m a.den) (λ m. multiple_from l m)

-- m times the fraction c, as a whole number
unfoldable pub cleared_one : Ratio → Ratio → Result Ratio Reason
cleared_one m c = above c.den (mul_of (whole_r c.num) (whole_r (pos (nat_abs m.num / nat_abs c.den))))

unfoldable pub cleared_by : Ratio → List Ratio → Ran ℕ (List Ratio)
cleared_by m l = each (λ i n. uncounted n (cleared_one m (get_or l i zero_r))) (length l) 0 0
