-- Document 01, "what must change shape": the outcome beside the polynomial. What the work on polynomials answers; a refused one is zero with the steps so far.
use Rattle.std.specs.Prelude.{Bool, true, false, ◌&&◌, List, [], ◌∷◌, ℕ, ◌+◌, ◌-◌, ltb, leb, pos, length, get_or, replicate, Result, Ok, Err}
use Rattle.ratio.specs.Refusal.{zero_r, no_refusal}
use Rattle.ratio.specs.Step.{neg_of}
use Rattle.ratio.specs.declared.Ratio.{Ratio}
use Rattle.ratio.specs.declared.Reason.{Reason}
use Rattle.ratio.specs.declared.Reason.TheVariants.{CoeffOverflow, TooLong}
use Rattle.terms.specs.declared.Poly.{Poly}
use Rattle.terms.specs.declared.Answer.{Answer}
use Rattle.terms.specs.declared.Row.{Row}
use Rattle.terms.specs.Poly.{poly_of, trim}
use Rattle.terms.specs.Machine.{Op, plus, minus, Ran, fine, over, plain, whole_r}
use Rattle.terms.specs.Work.{each, rowed, multiplied, valued}

abbrev pub done_with : Poly → ℕ → Answer
done_with p k = record { outcome = no_refusal; poly = p; steps = k }

abbrev pub refused_with : Reason → ℕ → Answer
refused_with why k = record { outcome = Err why; poly = poly_of []; steps = k }

-- a step that leaves the range is the answer's own refusal
abbrev pub answer_of : Ran ℕ (List Ratio) → Answer
answer_of (fine k l) = done_with (poly_of (trim l)) k
answer_of (over k) = refused_with CoeffOverflow k

abbrev pub op_if : Bool → Op
op_if true = minus
op_if false = plus

-- a negation is no step
abbrev pub uncounted : ℕ → Result Ratio Reason → Ran ℕ Ratio
uncounted n (Ok r) = fine n r
uncounted n (Err why) = over n

unfoldable pub negated_of : List Ratio → Ran ℕ (List Ratio)
negated_of a = each (λ i n. uncounted n (neg_of (get_or a i zero_r))) (length a) 0 0

abbrev pub unless_long : Bool → Answer → Answer
unless_long true r = refused_with TooLong 0
unless_long false r = r

-- zero where a factor is zero; too long where the product has over 32 coefficients
unfoldable pub product_of : List Ratio → List Ratio → Answer
product_of [] b = answer_of (fine 0 [])
product_of (x ∷ a) [] = answer_of (fine 0 [])
product_of (x ∷ a) (y ∷ b) = unless_long (ltb 32 (length (x ∷ a) + length (y ∷ b) - 1)) (answer_of (multiplied plain (x ∷ a) (y ∷ b) 0))

abbrev pub step_from : Ran ℕ Ratio → Result Ratio Reason
step_from (fine k r) = Ok r
step_from (over k) = Err CoeffOverflow

-- the value at x
unfoldable pub value_of : List Ratio → Ratio → Result Ratio Reason
value_of a x = step_from (valued plain a x (whole_r (pos 1)) zero_r 0)

-- the coefficients of a product under way
abbrev pub row_over : ℕ → Row
row_over k = record { fine = false; acc = replicate 32 zero_r; steps = k }

abbrev pub row_of : Ran ℕ (List Ratio) → Row
row_of (fine k l) = record { fine = true; acc = l; steps = k }
row_of (over k) = row_over k

abbrev pub row_if : Bool → Row → Row
row_if true r = r
row_if false r = row_over 0

-- a row that doesn't fit 32 places, or comes after over 65,536 steps, is no row
abbrev pub row_given : ℕ → List Ratio → Ratio → List Ratio → Bool → ℕ → Row
row_given k acc x b subtract steps = row_if (leb (k + length b) 32 && leb steps 65536) (row_of (rowed plain (op_if subtract) acc k x b steps))
