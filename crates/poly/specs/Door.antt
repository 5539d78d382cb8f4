-- Document 01, module 3 and "order": what is canonical, and what is refused before any work: 5, then 4 where the inputs alone show it.
use Rattle.std.specs.Prelude.{Bool, true, false, not, ◌&&◌, List, [], ◌∷◌, ltb, eqb, pos, nat_abs, length, drop, Result, Err}
use Rattle.std.specs.Int.Signed.{lt_z}
use Rattle.ratio.specs.Step.{is_lowest, is_nil}
use Rattle.ratio.specs.declared.Ratio.{Ratio}
use Rattle.ratio.specs.declared.Reason.{Reason}
use Rattle.ratio.specs.declared.Reason.TheVariants.{TooLong, BadInput}
use Rattle.terms.specs.declared.Poly.{Poly}
use Rattle.terms.specs.declared.Answer.{Answer}
use Rattle.terms.specs.Poly.{terms_of, trim}
use Rattle.terms.specs.Answer.{refused_with}
use Rattle.poly.specs.declared.Gate.{Gate}
use Rattle.poly.specs.declared.Gate.TheVariants.{Open, Long, Bad}

-- every fraction in lowest terms
unfoldable pub all_lowest : List Ratio → Bool
all_lowest [] = true
all_lowest (a ∷ l) = is_lowest a && all_lowest l

-- exactly 0/1
abbrev pub is_unused : Ratio → Bool
is_unused r = is_nil r.num && (not (lt_z r.den (pos 0)) && eqb (nat_abs r.den) 1)

unfoldable pub all_unused : List Ratio → Bool
all_unused [] = true
all_unused (a ∷ l) = is_unused a && all_unused l

-- no zero at the top
abbrev pub top_is_some : List Ratio → Bool
top_is_some l = eqb (length (trim l)) (length l)

-- rising coefficients in lowest terms, no zero at the top, unused places 0/1
abbrev pub is_canonical : Poly → Bool
is_canonical p = all_lowest (terms_of p) && (top_is_some (terms_of p) && all_unused (drop p.len p.coeffs))

abbrev pub open_if : Bool → Gate
open_if true = Open
open_if false = Bad

abbrev pub long_if : Bool → Gate → Gate
long_if true d = Long
long_if false d = d

-- a length over 32 is 4, anything else that isn't canonical is 5
abbrev pub door_of : Poly → Gate
door_of p = long_if (ltb 32 p.len) (open_if (is_canonical p))

-- a fraction handed in is in lowest terms
abbrev pub door_of_ratio : Ratio → Gate
door_of_ratio r = open_if (is_lowest r)

-- of two inputs: 5 before 4
abbrev pub both : Gate → Gate → Gate
both Open d = d
both Long Open = Long
both Long Long = Long
both Long Bad = Bad
both Bad d = Bad

abbrev pub reason_of : Gate → Reason
reason_of Open = BadInput
reason_of Long = TooLong
reason_of Bad = BadInput

-- behind an open door the work's answer, behind another one its refusal
abbrev pub entered : {X : Type 0} → (Reason → X) → Gate → X → X
entered refuse Open r = r
entered refuse Long r = refuse TooLong
entered refuse Bad r = refuse BadInput

abbrev pub enter : Gate → Answer → Answer
enter d r = entered (λ why. refused_with why 0) d r

abbrev pub enter_step : Gate → Result Ratio Reason → Result Ratio Reason
enter_step d s = entered Err d s
