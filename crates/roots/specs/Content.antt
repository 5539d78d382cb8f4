-- Document 01, module 5, `content` and `primitive_part`: the greatest common divisor of the numerators over the common multiple of the denominators; where that multiple leaves the range, the denominator stays as it was. Zero has content 0. The primitive part is the polynomial over its content, with its lead above zero.
use Rattle.ratio.specs.declared.Reason.{Reason}
use Rattle.std.specs.Prelude.{Bool, true, false, List, [], ◌∷◌, ℕ, ◌-◌, ℤ, pos, nat_abs, length, get_or, Result, Ok, Err}
use Rattle.std.specs.Int.Signed.{lt_z}
use Rattle.ratio.specs.Gcd.{gcd_of}
use Rattle.ratio.specs.Refusal.{zero_r, ratio_of}
use Rattle.ratio.specs.Step.{new_of, inv_of}
use Rattle.ratio.specs.declared.Ratio.{Ratio}
use Rattle.terms.specs.declared.Answer.{Answer}
use Rattle.terms.specs.declared.Poly.{Poly}
use Rattle.terms.specs.Answer.{done_with, answer_of, negated_of}
use Rattle.terms.specs.Machine.{plain, whole_r}
use Rattle.terms.specs.Poly.{terms_of}
use Rattle.terms.specs.Work.{scaled}
use Rattle.poly.specs.Door.{door_of, enter, enter_step}
use Rattle.search.specs.Clear.{widened}

abbrev pub or_stay : Result Ratio Reason → Ratio → Ratio
or_stay (Ok r) d = r
or_stay (Err why) d = d

-- the common multiple of d and e; d itself where that leaves the range
abbrev pub denominator_of : Ratio → ℤ → Ratio
denominator_of d e = or_stay (widened d e) d

unfoldable pub content_from : List Ratio → ℕ → Ratio → Ratio
content_from [] n d = ratio_of (new_of (pos n) d.num)
content_from (a ∷ l) n d = content_from l (gcd_of n (nat_abs a.num)) (denominator_of d a.den)

abbrev pub content_of : List Ratio → Ratio
content_of l = content_from l 0 (whole_r (pos 1))

abbrev pub content_for : Poly → Result Ratio Reason
content_for p = enter_step (door_of p) (Ok (content_of (terms_of p)))

-- the lead is below zero
abbrev pub is_below : List Ratio → Bool
is_below l = lt_z (get_or l (length l - 1) zero_r).num (pos 0)

-- a negation is no step: the number of steps stays
abbrev pub counting : ℕ → Answer → Answer
counting k r = record { outcome = r.outcome; poly = r.poly; steps = k }

abbrev pub turn_if : Bool → Answer → Answer
turn_if true r = counting r.steps (answer_of (negated_of (terms_of r.poly)))
turn_if false r = r

-- negated where the lead is below zero
abbrev pub upright : Answer → Answer
upright r = turn_if (is_below (terms_of r.poly)) r

-- times the content's inverse; a content of zero has none, and the polynomial stays
abbrev pub over_content : Poly → Result Ratio Reason → Answer
over_content p (Ok c) = upright (answer_of (scaled plain (terms_of p) c 0))
over_content p (Err why) = done_with p 0

abbrev pub primitive_of : Poly → Answer
primitive_of p = enter (door_of p) (over_content p (inv_of (content_of (terms_of p))))
