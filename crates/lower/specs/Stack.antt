-- Document 01, module 7: what each token does to the values, the top one first. Each operation is module 3's.
use Rattle.ratio.specs.declared.Ratio.{Ratio}
use Rattle.std.specs.Prelude.{cond, List, [], ◌∷◌, ℕ, eqb, Float, Result, Ok, Err, Option, Some, None}
use Rattle.ratio.specs.Refusal.{Outcome}
use Rattle.ratio.specs.declared.Reason.{Reason}
use Rattle.ratio.specs.declared.Reason.TheVariants.{NotPolynomial, BadInput}
use Rattle.bridge.specs.Search.{to_ratio}
use Rattle.terms.specs.declared.Poly.{Poly}
use Rattle.terms.specs.declared.Answer.{Answer}
use Rattle.terms.specs.Answer.{refused_with}
use Rattle.poly.specs.Operations.{constant_of, monomial_of, add_of, sub_of, mul_of, neg_of, pow_of}
use Rattle.tokens.specs.declared.Token.{Token}
use Rattle.tokens.specs.declared.Token.TheVariants as T
use Rattle.lower.specs.declared.Binary.{Binary}
use Rattle.lower.specs.declared.Binary.TheVariants as B
use Rattle.lower.specs.declared.Unary.{Unary}
use Rattle.lower.specs.declared.Unary.TheVariants as U
use Rattle.lower.specs.Exponent.{exponent_of}

-- the values that are left, or a refusal
pub data Left : Type 0 where
  fine : List Poly → Left
  stopped : Reason → Left

abbrev pub constant_by : Result Ratio Reason → Answer
constant_by (Ok c) = constant_of c
constant_by (Err why) = refused_with why 0

abbrev pub constant_from : Float → Answer
constant_from x = constant_by (to_ratio x)

-- a variable other than the wanted one is 1
abbrev pub variable_if : ℕ → ℕ → Answer
variable_if i wrt = cond (eqb i wrt) (monomial_of 1) (refused_with NotPolynomial 0)

abbrev pub combined : Binary → Poly → Poly → Answer
combined B.Add a b = add_of a b
combined B.Sub a b = sub_of a b
combined B.Mul a b = mul_of a b

abbrev pub changed : Unary → Poly → Answer
changed U.Neg a = neg_of a
changed (U.Pow n) a = pow_of a n

abbrev pub pushed_by : Outcome → Poly → List Poly → Left
pushed_by (Ok _) p l = fine (p ∷ l)
pushed_by (Err why) p l = stopped why

abbrev pub pushed : Answer → List Poly → Left
pushed r l = pushed_by r.outcome r.poly l

abbrev pub one : Unary → List Poly → Left
one op [] = stopped BadInput
one op (a ∷ l) = pushed (changed op a) l

abbrev pub two : Binary → List Poly → Left
two op [] = stopped BadInput
two op (b ∷ []) = stopped BadInput
two op (b ∷ a ∷ l) = pushed (combined op a b) l

abbrev pub raised : Option ℕ → List Poly → Left
raised (Some n) l = one (U.Pow n) l
raised None l = stopped NotPolynomial

abbrev pub applied : ℕ → Token → List Poly → Left
applied wrt (T.Const x) l = pushed (constant_from x) l
applied wrt (T.Var i) l = pushed (variable_if i wrt) l
applied wrt T.Add l = two B.Add l
applied wrt T.Sub l = two B.Sub l
applied wrt T.Mul l = two B.Mul l
applied wrt T.Neg l = one U.Neg l
applied wrt (T.Pow x) l = raised (exponent_of x) l
applied wrt T.Other l = stopped NotPolynomial
applied wrt T.Malformed l = stopped BadInput
