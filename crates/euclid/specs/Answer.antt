-- Document 01, module 4 and "order": what division, gcd, square-free part, resultant and discriminant answer: the door first (5, then 4), a zero divisor is 3, then the work. The steps are reported with every answer.
use Rattle.std.specs.Prelude.{Bool, true, false, ℕ, eqb, ℤ, pos, nat_abs, Ok, Err}
use Rattle.ratio.specs.Refusal.{Outcome, no_refusal}
use Rattle.ratio.specs.declared.Ratio.{Ratio}
use Rattle.ratio.specs.declared.Reason.{Reason}
use Rattle.ratio.specs.declared.Reason.TheVariants.{CoeffOverflow}
use Rattle.terms.specs.declared.Poly.{Poly}
use Rattle.terms.specs.declared.Answer.{Answer}
use Rattle.terms.specs.Poly.{terms_of}
use Rattle.terms.specs.Machine.{Ran, plain}
use Rattle.terms.specs.Answer.{answer_of}
use Rattle.poly.specs.declared.Gate.{Gate}
use Rattle.poly.specs.Door.{door_of, both, entered, enter}
use Rattle.remainders.specs.declared.Division.{Division}
use Rattle.remainders.specs.declared.Number.{Number}
use Rattle.remainders.specs.Gcd.{gcd_of, square_free}
use Rattle.remainders.specs.Resultant.{resultant_of, discriminant_of}
use Rattle.remainders.specs.Answer.{no_division, divided_of, number_of}
use Rattle.euclid.specs.declared.Whole.{Whole}

abbrev pub enter_division : Gate → Division → Division
enter_division d r = entered (λ why. no_division why 0) d r

abbrev pub div_rem_of : Poly → Poly → Division
div_rem_of a b = enter_division (both (door_of a) (door_of b)) (divided_of (terms_of a) (terms_of b))

abbrev pub gcd_for : Poly → Poly → Answer
gcd_for a b = enter (both (door_of a) (door_of b)) (answer_of (gcd_of plain (terms_of a) (terms_of b) 0))

abbrev pub square_free_for : Poly → Answer
square_free_for f = enter (door_of f) (answer_of (square_free plain (terms_of f) 0))

-- a whole number that was worked out, or why there is none
abbrev pub no_whole : Reason → ℕ → Whole
no_whole why k = record { outcome = Err why; value = pos 0; steps = k }

abbrev pub whole_if : Bool → ℤ → ℕ → Whole
whole_if true n k = record { outcome = no_refusal; value = n; steps = k }
whole_if false n k = no_whole CoeffOverflow k

-- a number that was worked out and is no whole number is 2, and the whole chain counts
abbrev pub whole_from_if : Outcome → Ratio → ℕ → Whole
whole_from_if (Ok _) r k = whole_if (eqb (nat_abs r.den) 1) r.num k
whole_from_if (Err why) r k = no_whole why k

abbrev pub whole_from : Number → Whole
whole_from n = whole_from_if n.outcome n.value n.steps

abbrev pub whole_of : Ran ℕ Ratio → Whole
whole_of r = whole_from (number_of r)

abbrev pub enter_whole : Gate → Whole → Whole
enter_whole d r = entered (λ why. no_whole why 0) d r

abbrev pub resultant_for : Poly → Poly → Whole
resultant_for a b = enter_whole (both (door_of a) (door_of b)) (whole_of (resultant_of plain (terms_of a) (terms_of b) 0))

abbrev pub discriminant_for : Poly → Whole
discriminant_for f = enter_whole (door_of f) (whole_of (discriminant_of plain (terms_of f) 0))
