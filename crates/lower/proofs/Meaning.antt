-- The promise, said of the model: value by value the stack is what the textbook reads.
use Rattle.ratio.specs.declared.Ratio.{Ratio}
use Rattle.std.specs.Prelude.{Result, Ok, Err, Option, Some, None}
use mathlib.Core.Path.{◌≡◌, refl, sym, ap, ap₂, ◌∙◌}
use mathlib.Core.Bool.{Bool, true, false, cond}
use mathlib.Core.List.{List, [], ◌∷◌}
use Prim.Native.Nat.{ℕ}
use lib.Dec.{eqb}
use Rattle.algebra.specs.Rational.{Rat}
use Rattle.algebra.specs.Polynomial.{Equal, sum, negated, product, power}
use Rattle.algebra.proofs.Ring.{pow, pow-one}
use Rattle.algebra.proofs.Rational.{ℚ-ring}
use Rattle.algebra.proofs.Poly.{neg_p, Poly-ring}
use Rattle.algebra.proofs.Lists.{ℚP, ◌+P◌, ◌*P◌, poly, equal-poly, poly-equal, equal-trans, poly-sum, poly-negated, poly-product, poly-power}
use Rattle.ratio.specs.Promise.{rat}
use Rattle.ratio.specs.Refusal.{ratio_of, Outcome, status_of}
use Rattle.ratio.specs.declared.Reason.{Reason}
use Rattle.ratio.specs.declared.Reason.TheVariants.{NotPolynomial, BadInput}
use Rattle.bridge.specs.Search.{to_ratio}
use Rattle.terms.specs.declared.Poly.{Poly}
use Rattle.terms.specs.declared.Answer.{Answer}
use Rattle.terms.specs.Answer.{refused_with}
use Rattle.poly.specs.declared.Gate.TheVariants.{Open}
use Rattle.poly.specs.Door.{door_of}
use Rattle.poly.specs.Promise.{reading, variable, Gives}
use Rattle.poly.specs.Operations.{monomial_of}
use Rattle.poly.proofs.Gives.{refused-gives, constant-gives, monomial-gives, add-gives, sub-gives, mul-gives, neg_gives, pow-gives}
use Rattle.tokens.specs.declared.Token.{Token}
use Rattle.tokens.specs.declared.Token.TheVariants as T
use Rattle.tokens.specs.Spelling.{token_of}
use Rattle.tokens.specs.Words.{words_of}
use Rattle.tokens.specs.Heights.{check_of}
use Rattle.lower.specs.declared.Binary.TheVariants as B
use Rattle.lower.specs.declared.Unary.TheVariants as U
use Rattle.lower.specs.Exponent.{exponent_of}
use Rattle.lower.specs.Stack.{Left, fine, stopped, constant_by, constant_from, variable_if, combined, changed, pushed_by, pushed, one, two, raised, applied}
use Rattle.lower.specs.Run.{and_then, run_from, answered, unless_refused, lower_of}
use Rattle.lower.specs.Promise.{on_one, on_two, raised_to, meant, meant_all, last, expressed, Match, none, some}

-- equal polynomials in, equal ones out
sum-equal : (a b p q : List Rat) → Equal a p → Equal b q → Equal (sum a b) (sum p q)
sum-equal a b p q h k = poly-equal _ _ (poly-sum a b ∙ ap₂ ◌+P◌ (equal-poly a p h) (equal-poly b q k) ∙ sym (poly-sum p q))

negated-equal : (a p : List Rat) → Equal a p → Equal (negated a) (negated p)
negated-equal a p h = poly-equal _ _ (poly-negated a ∙ ap (neg_p ℚ-ring) (equal-poly a p h) ∙ sym (poly-negated p))

product-equal : (a b p q : List Rat) → Equal a p → Equal b q → Equal (product a b) (product p q)
product-equal a b p q h k = poly-equal _ _ (poly-product a b ∙ ap₂ ◌*P◌ (equal-poly a p h) (equal-poly b q k) ∙ sym (poly-product p q))

power-equal : (a p : List Rat) (n : ℕ) → Equal a p → Equal (power a n) (power p n)
power-equal a p n h = poly-equal _ _ (poly-power a n ∙ ap (λ (x : ℚP). pow (Poly-ring ℚ-ring) x n) (equal-poly a p h) ∙ sym (poly-power p n))

gives_as : {a b : List Rat} (r : Answer) → Equal a b → Gives a r → Gives b r
gives_as {a} {b} r e g = record { is = λ z. equal-trans (reading r.poly) a b (g.is z) e; canonical = g.canonical }

-- x to the power 1 is x
power-one : Equal (power variable 1) variable
power-one = poly-equal _ _ (poly-power variable 1 ∙ pow-one (Poly-ring ℚ-ring) (poly variable))

pub data Fits : Left → List (List Rat) → Type 0 where
  held : {l : List Poly} {m : List (List Rat)} → Match l m → Fits (fine l) m
  over : {why : Reason} {m : List (List Rat)} → Fits (stopped why) m

pushed-by : (o : Outcome) (p : Poly) (q : List Rat) (l : List Poly) {m : List (List Rat)} → (status_of o ≡ 0 → Equal (reading p) q) → door_of p ≡ Open → Match l m → Fits (pushed_by o p l) (q ∷ m)
pushed-by (Ok _) p q l e d h = held (some p q (e refl) d h)
pushed-by (Err why) p q l e d h = over

pushed-fits : (r : Answer) {q : List Rat} {l : List Poly} {m : List (List Rat)} → Gives q r → Match l m → Fits (pushed r l) (q ∷ m)
pushed-fits r {q} {l} g h = pushed-by r.outcome r.poly q l g.is g.canonical h

constant-fits : (s : Result Ratio Reason) → Gives (rat (ratio_of s) ∷ []) (constant_by s)
constant-fits (Ok c) = constant-gives c
constant-fits (Err why) = refused-gives _ why 0

variable-fits : (t : Bool) → Gives variable (cond t (monomial_of 1) (refused_with NotPolynomial 0))
variable-fits true = gives_as (monomial_of 1) power-one (monomial-gives 1)
variable-fits false = refused-gives _ NotPolynomial 0

add-fits : {l : List Poly} {m : List (List Rat)} → Match l m → Fits (two B.Add l) (on_two sum m)
add-fits none = over
add-fits (some b q e d none) = over
add-fits (some b q e d (some a p f g h)) = pushed-fits (combined B.Add a b) (gives_as (combined B.Add a b) (sum-equal (reading a) (reading b) p q f e) (add-gives a b)) h

sub-fits : {l : List Poly} {m : List (List Rat)} → Match l m → Fits (two B.Sub l) (on_two (λ a b. sum a (negated b)) m)
sub-fits none = over
sub-fits (some b q e d none) = over
sub-fits (some b q e d (some a p f g h)) =
    pushed-fits (combined B.Sub a b) (gives_as (combined B.Sub a b) (sum-equal (reading a) (negated (reading b)) p (negated q) f (negated-equal (reading b) q e)) (sub-gives a b)) h

mul-fits : {l : List Poly} {m : List (List Rat)} → Match l m → Fits (two B.Mul l) (on_two product m)
mul-fits none = over
mul-fits (some b q e d none) = over
mul-fits (some b q e d (some a p f g h)) = pushed-fits (combined B.Mul a b) (gives_as (combined B.Mul a b) (product-equal (reading a) (reading b) p q f e) (mul-gives a b)) h

neg-fits : {l : List Poly} {m : List (List Rat)} → Match l m → Fits (one U.Neg l) (on_one negated m)
neg-fits none = over
neg-fits (some a p e d h) = pushed-fits (changed U.Neg a) (gives_as (changed U.Neg a) (negated-equal (reading a) p e) (neg_gives a)) h

raised-fits : (w : Option ℕ) {l : List Poly} {m : List (List Rat)} → Match l m → Fits (raised w l) (raised_to w m)
raised-fits (Some n) none = over
raised-fits (Some n) (some a p e d h) = pushed-fits (changed (U.Pow n) a) (gives_as (changed (U.Pow n) a) (power-equal (reading a) p n e) (pow-gives a n)) h
raised-fits None h = over

pub applied-fits : (wrt : ℕ) (t : Token) {l : List Poly} {m : List (List Rat)} → Match l m → Fits (applied wrt t l) (meant t m)
applied-fits wrt (T.Const x) h = pushed-fits (constant_from x) (constant-fits (to_ratio x)) h
applied-fits wrt (T.Var i) h = pushed-fits (variable_if i wrt) (variable-fits (eqb i wrt)) h
applied-fits wrt T.Add h = add-fits h
applied-fits wrt T.Sub h = sub-fits h
applied-fits wrt T.Mul h = mul-fits h
applied-fits wrt T.Neg h = neg-fits h
applied-fits wrt (T.Pow x) h = raised-fits (exponent_of x) h
applied-fits wrt T.Other h = over
applied-fits wrt T.Malformed h = over

then-fits : (a : Left) {m : List (List Rat)} (n : List (List Rat)) (k : List Poly → Left) → Fits a m → ((l : List Poly) → Match l m → Fits (k l) n) → Fits (and_then a k) n
then-fits (fine l) n k (held h) f = f l h
then-fits (stopped why) n k over f = over

run_fits : (wrt : ℕ) (ws : List (List ℕ)) (l : List Poly) (m : List (List Rat)) → Match l m → Fits (run_from wrt ws l) (meant_all ws m)
unfolding run_from meant_all
run_fits wrt [] l m h = held h
run_fits wrt (w ∷ ws) l m h =
    then-fits (applied wrt (token_of w) l) (meant_all ws (meant (token_of w) m)) (run_from wrt ws) (applied-fits wrt (token_of w) h) (λ k g. run_fits wrt ws k (meant (token_of w) m) g)

answered-gives : (a : Left) (m : List (List Rat)) → Fits a m → Gives (last m) (answered a)
answered-gives (fine []) m h = refused-gives _ BadInput 0
answered-gives (fine (p ∷ l)) m (held (some _ q e d h)) = record { is = λ z. e; canonical = d }
answered-gives (stopped why) m h = refused-gives _ why 0

unless-gives : (o : Outcome) (q : List Rat) (r : Answer) → Gives q r → Gives q (unless_refused o r)
unless-gives (Ok _) q r g = g
unless-gives (Err why) q r g = refused-gives q why 0

-- an answered text gives the polynomial that it is
pub lowers : (wrt : ℕ) (s : List ℕ) → Gives (expressed s) (lower_of wrt s)
unfolding lower_of
lowers wrt s = unless-gives (check_of s) (expressed s) (answered (run_from wrt (words_of s) [])) (answered-gives (run_from wrt (words_of s) []) (meant_all (words_of s) []) (run_fits wrt (words_of s) [] [] none))
