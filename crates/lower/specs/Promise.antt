-- Demand 2 for expressions (document 01, module 7): the polynomial that the textbook reads in a postfix text, which words are accepted, and which refusal is given exactly when.
use Rattle.std.specs.Prelude.{◌≡◌, List, [], ◌∷◌, ◌++◌, ℕ, Float, Err, Option, Some, None}
use Rattle.algebra.specs.Rational.{Rat}
use Rattle.algebra.specs.Polynomial.{Equal, sum, negated, product, power}
use Rattle.ratio.specs.Promise.{rat}
use Rattle.ratio.specs.Refusal.{number_of, status_of, ratio_of}
use Rattle.ratio.specs.When.{GivenWhen}
use Rattle.ratio.specs.declared.Reason.{Reason}
use Rattle.ratio.specs.declared.Reason.TheVariants.{NotPolynomial}
use Rattle.bridge.specs.Search.{to_ratio}
use Rattle.terms.specs.declared.Answer.{Answer}
use Rattle.terms.specs.declared.Poly.{Poly}
use Rattle.poly.specs.declared.Gate.TheVariants.{Open}
use Rattle.poly.specs.Door.{door_of}
use Rattle.poly.specs.Operations.{add_of, sub_of, mul_of, neg_of, pow_of}
use Rattle.poly.specs.Promise.{reading, variable, Gives}
use Rattle.tokens.specs.Heights.{check_of}
use Rattle.tokens.specs.declared.Token.{Token}
use Rattle.tokens.specs.declared.Token.TheVariants as T
use Rattle.tokens.specs.Spelling.{token_of}
use Rattle.tokens.specs.Words.{words_of}
use Rattle.lower.specs.Exponent.{exponent_of}

abbrev pub on_one : (List Rat → List Rat) → List (List Rat) → List (List Rat)
on_one f [] = []
on_one f (a ∷ l) = f a ∷ l

abbrev pub on_two : (List Rat → List Rat → List Rat) → List (List Rat) → List (List Rat)
on_two f [] = []
on_two f (b ∷ []) = b ∷ []
on_two f (b ∷ a ∷ l) = f a b ∷ l

abbrev pub raised_to : Option ℕ → List (List Rat) → List (List Rat)
raised_to (Some n) l = on_one (λ a. power a n) l
raised_to None l = l

-- what a token means for the polynomials before it, the last one first; a constant is the rational that the float bridge finds
abbrev pub meant : Token → List (List Rat) → List (List Rat)
meant (T.Const x) l = (rat (ratio_of (to_ratio x)) ∷ []) ∷ l
meant (T.Var i) l = variable ∷ l
meant T.Add l = on_two sum l
meant T.Sub l = on_two (λ a b. sum a (negated b)) l
meant T.Mul l = on_two product l
meant T.Neg l = on_one negated l
meant (T.Pow x) l = raised_to (exponent_of x) l
meant T.Other l = l
meant T.Malformed l = l

unfoldable pub meant_all : List (List ℕ) → List (List Rat) → List (List Rat)
meant_all [] l = l
meant_all (w ∷ ws) l = meant_all ws (meant (token_of w) l)

abbrev pub last : List (List Rat) → List Rat
last [] = []
last (p ∷ l) = p

-- the polynomial that a text is, once it is answered
abbrev pub expressed : List ℕ → List Rat
expressed s = last (meant_all (words_of s) [])

-- ---- which words are accepted

-- the wanted variable and no other, a float that is near a fraction, a whole exponent up to 200; no `?`
abbrev pub Accepted : ℕ → Token → Type 0
Accepted wrt (T.Const x) = status_of (to_ratio x) ≡ 0
Accepted wrt (T.Var i) = i ≡ wrt
Accepted wrt T.Add = Unit {0}
Accepted wrt T.Sub = Unit {0}
Accepted wrt T.Mul = Unit {0}
Accepted wrt T.Neg = Unit {0}
Accepted wrt (T.Pow x) = exponent_of x ≡ None → ⊥
Accepted wrt T.Other = ⊥
Accepted wrt T.Malformed = ⊥

unfoldable pub AllAccepted : ℕ → List (List ℕ) → Type 0
AllAccepted wrt [] = Unit {0}
AllAccepted wrt (w ∷ ws) = Accepted wrt (token_of w) × AllAccepted wrt ws

-- ---- the first refusal in postfix order

-- the values are these polynomials, each to each, and canonical
pub data Match : List Poly → List (List Rat) → Type 0 where
  none : Match [] []
  some : (p : Poly) (q : List Rat) {l : List Poly} {m : List (List Rat)} → Equal (reading p) q → door_of p ≡ Open → Match l m → Match (p ∷ l) (q ∷ m)

-- why a token is refused after these values, the last one first
pub data Halts (wrt : ℕ) : Token → List Poly → Reason → Type 0 where
  no_fraction : {x : Float} {l : List Poly} {why : Reason} → to_ratio x ≡ Err why → Halts wrt (T.Const x) l why
  other-variable : {i : ℕ} {l : List Poly} → (i ≡ wrt → ⊥) → Halts wrt (T.Var i) l NotPolynomial
  in_sum : {a b : Poly} {l : List Poly} {why : Reason} → (add_of a b).outcome ≡ Err why → Halts wrt T.Add (b ∷ a ∷ l) why
  in-difference : {a b : Poly} {l : List Poly} {why : Reason} → (sub_of a b).outcome ≡ Err why → Halts wrt T.Sub (b ∷ a ∷ l) why
  in-product : {a b : Poly} {l : List Poly} {why : Reason} → (mul_of a b).outcome ≡ Err why → Halts wrt T.Mul (b ∷ a ∷ l) why
  in-negative : {a : Poly} {l : List Poly} {why : Reason} → (neg_of a).outcome ≡ Err why → Halts wrt T.Neg (a ∷ l) why
  no-exponent : {x : Float} {l : List Poly} → exponent_of x ≡ None → Halts wrt (T.Pow x) l NotPolynomial
  in-power : {x : Float} {n : ℕ} {a : Poly} {l : List Poly} {why : Reason} → exponent_of x ≡ Some n → (pow_of a n).outcome ≡ Err why → Halts wrt (T.Pow x) (a ∷ l) why
  other-operator : {l : List Poly} → Halts wrt T.Other l NotPolynomial

-- the words before one come to these values, and that one is refused
pub record Stops (wrt : ℕ) (ws : List (List ℕ)) (why : Reason) : Type 0 where
  pub before : List (List ℕ)
  pub word : List ℕ
  pub behind : List (List ℕ)
  pub values : List Poly
  pub words : ws ≡ before ++ (word ∷ behind)
  pub accepted : AllAccepted wrt before
  pub held : Match values (meant_all before [])
  pub halts : Halts wrt (token_of word) values why

-- every word is accepted and none is refused; or the first that is refused gives the number
pub data Comes (wrt : ℕ) (ws : List (List ℕ)) (status : ℕ) : Type 0 where
  through : AllAccepted wrt ws → status ≡ 0 → Comes wrt ws status
  stopped : (why : Reason) → Stops wrt ws why → status ≡ number_of why → Comes wrt ws status

-- ---- the promise

pub record Lowers (wrt : ℕ) (s : List ℕ) (r : Answer) : Type 0 where
  pub gives : Gives (expressed s) r
  -- 5 for what is no expression, then 4 for over 16 values, then the first refusal in postfix order
  pub refusals : GivenWhen (status_of (check_of s) ≡ 5) (status_of (check_of s) ≡ 4) ⊥ (Comes wrt (words_of s)) (status_of r.outcome)
