-- Demand 2 for the chain of remainders (document 01, module 6), in the textbook's words: the polynomial, its derivative, and each entry behind them the negated remainder of the two before it; the last divides the one before it.
use Rattle.std.specs.Prelude.{List, [], ◌∷◌}
use Rattle.algebra.specs.Rational.{Rat}
use Rattle.algebra.specs.Polynomial.{Equal, negated, derivative}
use Rattle.algebra.specs.Textbook.{HasDegree, IsZero, IsDivision}

-- c is the remainder of a by b, negated
pub record NegatedRest (a b c : List Rat) : Type 0 where
  pub quotient : List Rat
  pub is : IsDivision a b quotient (negated c)

-- the entries behind a and b; behind the last one nothing remains
abbrev pub Follow : List (List Rat) → List Rat → List Rat → Type 0
Follow [] a b = NegatedRest a b []
Follow (c ∷ l) a b = NegatedRest a b c × Follow l b c

-- zero has no entry, a constant that is not zero only itself
abbrev pub IsChain : List Rat → List (List Rat) → Type 0
IsChain f [] = IsZero f
IsChain f (p ∷ []) = Equal p f × HasDegree f 0
IsChain f (p ∷ d ∷ l) = Equal p f × Equal d (derivative f) × Follow l p d
