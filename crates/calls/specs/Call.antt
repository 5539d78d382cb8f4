-- The engine for programs in other languages: which operation a number names, what it answers, and which lent entries are written.
use Rattle.ratio.specs.declared.Reason.{Reason}
use Rattle.std.specs.Prelude.{Bool, true, false, cond, List, [], ◌∷◌, map, ℕ, ◌+◌, ◌*◌, ◌%◌, eqb, ltb, ℤ, pos, nat_abs, get_or, Result, Ok, Err}
use Rattle.ratio.specs.Refusal.{number_of, zero_r, Outcome, status_of, no_refusal}
use Rattle.ratio.specs.Step as M
use Rattle.ratio.specs.declared.Ratio.{Ratio}
use Rattle.ratio.specs.declared.Reason.TheVariants.{BadInput}
use Rattle.terms.specs.declared.Answer.{Answer}
use Rattle.terms.specs.declared.Poly.{Poly}
use Rattle.terms.specs.Machine.{whole_r}
use Rattle.terms.specs.Poly.{terms_of, poly_of, trim}
use Rattle.poly.specs.declared.Gate.{Gate}
use Rattle.poly.specs.declared.Gate.TheVariants.{Open, Long, Bad}
use Rattle.poly.specs.Door.{both}
use Rattle.poly.specs.Parts.{parts_of}
use Rattle.poly.specs.Operations.{add_of, sub_of, mul_of, neg_of, diff_of, eval_of, pow_of}
use Rattle.remainders.specs.declared.Division.{Division}
use Rattle.remainders.specs.Answer.{no_division}
use Rattle.euclid.specs.declared.Whole.{Whole}
use Rattle.search.specs.declared.Roots.{Roots}
use Rattle.roots.specs.Answer.{budget_door, rational_roots_of}
use Rattle.roots.specs.Content.{content_for, primitive_of}
use Rattle.yun.specs.declared.Decomposition.{Decomposition}
use Rattle.yun.specs.declared.Piece.{Piece}
use Rattle.yun.specs.Answer.{no_piece}
use Rattle.factor.specs.declared.Factorization.{Factorization}
use Rattle.factor.specs.Factors.{decomposition_for, factor_for}
use Rattle.factor.specs.Rebuild.{rebuild_for}
use Rattle.euclid.specs.Answer.{enter_division, div_rem_of, gcd_for, square_free_for, resultant_for, discriminant_for}

-- every answer is told as a division's is: a first and a second polynomial; most have no second
abbrev pub tell : Outcome → Poly → ℕ → Division
tell o p k = record { outcome = o; quotient = p; rest = poly_of []; steps = k }

abbrev pub told_answer : Answer → Division
told_answer a = tell a.outcome a.poly a.steps

-- a number is told as the constant polynomial that it is
abbrev pub constant_of : Ratio → Poly
constant_of r = poly_of (trim (r ∷ []))

abbrev pub told_whole : Whole → Division
told_whole w = tell w.outcome (constant_of (whole_r w.value)) w.steps

abbrev pub told_step : Result Ratio Reason → Division
told_step (Ok r) = tell no_refusal (constant_of r) 0
told_step (Err why) = no_division why 0

-- a list of roots is told as its entries, and their number as the second
abbrev pub told_roots : Roots → Division
told_roots r = record {
  outcome = r.outcome;
  quotient = record { coeffs = r.values; len = r.len };
  rest = constant_of (whole_r (pos (r.len % 64)));
  steps = r.steps;
}

-- 9 the rational roots, n the budget; 17 the content, 18 the primitive part; another number is 5
abbrev pub rooted_of : ℕ → Poly → ℕ → Division
rooted_of op a n =
    cond (eqb op 9) (told_roots (rational_roots_of a n))
    (cond (eqb op 17) (told_step (content_for a))
    (cond (eqb op 18) (told_answer (primitive_of a))
    (no_division BadInput 0)))

-- on one polynomial: 6 the negative, 7 the derivative, 8 the discriminant, 15 the power n, 16 the square-free part
abbrev pub one_of : ℕ → Poly → ℕ → Division
one_of op a n =
    cond (eqb op 6) (told_answer (neg_of a))
    (cond (eqb op 7) (told_answer (diff_of a))
    (cond (eqb op 8) (told_whole (discriminant_for a))
    (cond (eqb op 15) (told_answer (pow_of a n))
    (cond (eqb op 16) (told_answer (square_free_for a))
    (rooted_of op a n)))))

-- behind the last factor stands the content; the steps are the number of factors
abbrev pub behind : Factorization → Division
behind f = tell f.outcome (constant_of f.content) f.len

-- a factor is told with its multiplicity
abbrev pub piece_told : Factorization → Piece → Division
piece_told f p = record { outcome = f.outcome; quotient = p.poly; rest = constant_of (whole_r (pos (p.times % 64))); steps = f.len }

-- the factor at a place
abbrev pub told_factor : Factorization → ℕ → Division
told_factor f at = cond (ltb at 32) (cond (ltb at f.len) (piece_told f (get_or f.pieces at no_piece)) (behind f)) (behind f)

abbrev pub whole_factors : Decomposition → Factorization
whole_factors d = record { outcome = d.outcome; content = zero_r; pieces = d.pieces; len = d.len }

-- a point is handed over as a constant polynomial; of a longer one the constant term counts
abbrev pub point_of : Poly → Ratio
point_of b = get_or (terms_of b) 0 zero_r

-- a place is handed over in the same way
abbrev pub place_of : Poly → ℕ
place_of b = nat_abs (point_of b).num

-- 10 the factors, n the budget, 11 the polynomial rebuilt, 19 the square-free decomposition; of a list of factors the one at a place
abbrev pub factored_of : ℕ → Poly → Poly → ℕ → Division
factored_of op a b n =
    cond (eqb op 10) (told_factor (factor_for a n) (place_of b))
    (cond (eqb op 11) (told_answer (rebuild_for a n))
    (cond (eqb op 19) (told_factor (whole_factors (decomposition_for a)) (place_of b))
    (one_of op a n)))

-- on two: 0 the sum, 1 the difference, 2 the product, 3 the division, 4 the gcd, 5 the resultant, 12 the value at a point
abbrev pub two_of : ℕ → Poly → Poly → ℕ → Division
two_of op a b n =
    cond (eqb op 0) (told_answer (add_of a b))
    (cond (eqb op 1) (told_answer (sub_of a b))
    (cond (eqb op 2) (told_answer (mul_of a b))
    (cond (eqb op 3) (div_rem_of a b)
    (cond (eqb op 4) (told_answer (gcd_for a b))
    (cond (eqb op 5) (told_whole (resultant_for a b))
    (cond (eqb op 12) (told_step (eval_of a (point_of b)))
    (factored_of op a b n)))))))

abbrev pub gate_if : Bool → Gate
gate_if true = Long
gate_if false = Bad

-- how a polynomial came in: 4 is too long
abbrev pub gate_of : Outcome → Gate
gate_of (Ok _) = Open
gate_of (Err why) = gate_if (eqb (number_of why) 4)

abbrev pub open_unless : Bool → Gate → Gate
open_unless true d = Open
open_unless false d = d

-- the operations 9, 10 and 11 take a budget
abbrev pub limits_of : ℕ → ℕ → Gate
limits_of op n = open_unless (ltb op 9) (open_unless (ltb 11 op) (budget_door n))

-- 5, then 4, comes before any work
abbrev pub called_with : ℕ → Answer → Answer → ℕ → Division
called_with op a b n = enter_division (both (both (gate_of a.outcome) (gate_of b.outcome)) (limits_of op n)) (two_of op a.poly b.poly n)

abbrev pub called_of : ℕ → List ℤ → List ℤ → List ℤ → List ℤ → ℕ → Division
called_of op an ad bn bd n = called_with op (parts_of an ad) (parts_of bn bd) n

abbrev pub nums_of : Poly → List ℤ
nums_of p = map (λ (r : Ratio). r.num) p.coeffs

abbrev pub dens_of : Poly → List ℤ
dens_of p = map (λ (r : Ratio). r.den) p.coeffs

-- what is handed back: 16 times the steps (below 2^56), plus the status
abbrev pub number_told : Outcome → ℕ → ℕ
number_told o k = k % 72057594037927936 * 16 + status_of o

-- an answer is written, a refusal leaves what was there
abbrev pub lent_after : {X : Type 0} → Outcome → List X → List X → List X
lent_after (Ok _) old new = new
lent_after (Err why) old new = old

abbrev pub pick : Bool → Result Ratio Reason → Result Ratio Reason → Result Ratio Reason
pick true s t = s
pick false s t = t

-- one rational step: 0 the sum, 1 the difference, 2 the product, 3 the negative, 4 the inverse, 5 lowest terms; another number is 5
abbrev pub step_for : ℕ → Ratio → Ratio → Result Ratio Reason
step_for op a b =
    pick (eqb op 0) (M.add_of a b)
    (pick (eqb op 1) (M.sub_of a b)
    (pick (eqb op 2) (M.mul_of a b)
    (pick (eqb op 3) (M.neg_of a)
    (pick (eqb op 4) (M.inv_of a)
    (pick (eqb op 5) (M.new_of a.num a.den)
    (Err BadInput))))))

-- numerator and denominator of an answer; a refusal leaves what was there
abbrev pub lent_step : List ℤ → Result Ratio Reason → List ℤ
lent_step old (Ok r) = r.num ∷ r.den ∷ []
lent_step old (Err why) = old
