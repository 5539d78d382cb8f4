-- What an answer says of the work behind it: answered or refused, the steps that were made, and the steps that were made before.
use Rattle.std.specs.Prelude.{Err}
use mathlib.Core.Path.{◌≡◌, refl, ap, ap₂, ◌∙◌}
use mathlib.Core.Bool.{Bool, true, false}
use mathlib.Core.List.{List, [], ◌∷◌}
use Prim.Native.Nat.{ℕ, ◌+◌, ◌-◌, ◌*◌, ◌≤◌}
use native.Mathlib.Nat.{mul-le-mul_left, mul-le-mul_right}
use native.Mathlib.Omega.{arith}
use lib.Dec.{ltb}
use lib.ListN.{length}
use Rattle.ratio.specs.Refusal.{Outcome, no_refusal}
use Rattle.ratio.specs.declared.Ratio.{Ratio}
use Rattle.ratio.specs.declared.Reason.{Reason}
use Rattle.terms.specs.declared.Answer.{Answer}
use Rattle.terms.specs.Poly.{terms_of, poly_of, trim}
use Rattle.terms.specs.Machine.{Ran, fine, over, plain}
use Rattle.terms.specs.Answer.{answer_of}
use Rattle.terms.proofs.Lists.{terms-of-poly}
use Rattle.terms.proofs.StepsCount.{steps_of}
use Rattle.terms.proofs.StepsShift.{shift}
use Rattle.remainders.specs.declared.Division.{Division}
use Rattle.remainders.specs.declared.Number.{Number}
use Rattle.remainders.specs.Divide.{Split, split, divided}
use Rattle.remainders.specs.Price.{division_if}
use Rattle.remainders.specs.Answer.{division_of, divided_of, number_of}
use Rattle.remainders.proofs.PriceDivide.{division-lower, division-price}

-- an outcome is one of the two
pub done_refused : {X : Type 0} (o : Outcome) (why : Reason) → o ≡ no_refusal → o ≡ Err why → X
done_refused o why e f = absurd (let z : ◌≡◌ {A = ℕ} 0 1 = cc in omega arith)

pub shift-steps : {X : Type 0} (k : ℕ) (r : Ran ℕ X) → steps_of (shift k r) ≡ k + steps_of r
shift-steps k (fine n x) = refl
shift-steps k (over n) = refl

-- ---- a division

split-same : (s : Split Ratio) → split (terms_of (poly_of s.quotient)) (terms_of (poly_of s.rest)) ≡ s
split-same s = ap₂ split (terms-of-poly s.quotient) (terms-of-poly s.rest)

module _ (d : Division) where
  work-fine : (r : Ran ℕ (Split Ratio)) → d ≡ division_of r → d.outcome ≡ no_refusal → r ≡ fine d.steps (split (terms_of d.quotient) (terms_of d.rest))
  work-fine (fine k s) e o = rw (e, split-same s)
  work-fine (over k) e o = done_refused d.outcome _ o (ap (λ (x : Division). x.outcome) e)

  work-refused : (r : Ran ℕ (Split Ratio)) (why : Reason) → d ≡ division_of r → d.outcome ≡ Err why → r ≡ over d.steps
  work-refused (fine k s) why e o = done_refused d.outcome why (ap (λ (x : Division). x.outcome) e) o
  work-refused (over k) why e o = rw e

  work-steps : (r : Ran ℕ (Split Ratio)) → d ≡ division_of r → d.steps ≡ steps_of r
  work-steps (fine k s) e = rw e
  work-steps (over k) e = rw e

pub some-divided : (a b : List Ratio) → 1 ≤ length b → divided_of a b ≡ division_of (divided plain a b 0)
unfolding divided_of
some-divided a [] h = absurd (omega arith)
some-divided a (y ∷ b) h = refl

-- at most 32 coefficients take at most 32 terms of 65 steps
price-if : (t : Bool) (n m : ℕ) → n ≤ 31 → m ≤ 31 → division_if t n m ≤ 2080
price-if true n m h j = omega arith
price-if false n m h j =
    let p : n - m + 1 ≤ 32 = omega arith in
    let q : 2 * m + 3 ≤ 65 = omega arith in
    omega (arith, mul-le-mul_right (2 * m + 3) p, mul-le-mul_left 32 q)

pub divided-few : (a b : List Ratio) → 1 ≤ length b → length a ≤ 32 → length b ≤ 32 → steps_of (divided plain a b 0) ≤ 2080
divided-few [] b h j l = rw (division-lower [] b h (omega arith) 0) (omega arith)
divided-few (x ∷ a) b h j l = omega (arith, division-price (x ∷ a) b h (omega arith) 0, price-if (ltb (length (x ∷ a) - 1) (length b - 1)) (length (x ∷ a) - 1) (length b - 1) (omega arith) (omega arith))

module _ (a b : List Ratio) (d : Division) (some : 1 ≤ length b) (e : d ≡ divided_of a b) where
  pub division-fine : d.outcome ≡ no_refusal → divided plain a b 0 ≡ fine d.steps (split (terms_of d.quotient) (terms_of d.rest))
  division-fine o = work-fine d (divided plain a b 0) (e ∙ some-divided a b some) o

  pub division-refused : (why : Reason) → d.outcome ≡ Err why → divided plain a b 0 ≡ over d.steps
  division-refused why o = work-refused d (divided plain a b 0) why (e ∙ some-divided a b some) o

  pub division_steps : d.steps ≡ steps_of (divided plain a b 0)
  division_steps = work-steps d (divided plain a b 0) (e ∙ some-divided a b some)

  pub division-few : length a ≤ 32 → length b ≤ 32 → d.steps ≤ 2080
  division-few h j = omega (arith, division_steps, divided-few a b some h j)

-- ---- a polynomial

module _ (w : Answer) where
  -- what was worked out, without zeros at the top
  pub record Worked (r : Ran ℕ (List Ratio)) : Type 0 where
    pub list : List Ratio
    pub is : r ≡ fine w.steps list
    pub terms : terms_of w.poly ≡ trim list

  pub answer-fine : (r : Ran ℕ (List Ratio)) → w ≡ answer_of r → w.outcome ≡ no_refusal → Worked r
  answer-fine (fine k l) e o = record { list = l; is = rw e; terms = rw e (terms-of-poly (trim l)) }
  answer-fine (over k) e o = done_refused w.outcome _ o (ap (λ (x : Answer). x.outcome) e)

  pub answer-refused : (r : Ran ℕ (List Ratio)) (why : Reason) → w ≡ answer_of r → w.outcome ≡ Err why → r ≡ over w.steps
  answer-refused (fine k l) why e o = done_refused w.outcome why (ap (λ (x : Answer). x.outcome) e) o
  answer-refused (over k) why e o = rw e

  pub answer-counts : (r : Ran ℕ (List Ratio)) → w ≡ answer_of r → w.steps ≡ steps_of r
  answer-counts (fine k l) e = rw e
  answer-counts (over k) e = rw e

  -- with k steps before it
  pub answer-later : (r : Ran ℕ (List Ratio)) (k : ℕ) → w ≡ answer_of r → ◌≡◌ {A = Answer} (record { outcome = w.outcome; poly = w.poly; steps = k + w.steps }) (answer_of (shift k r))
  answer-later (fine n l) k e = rw e
  answer-later (over n) k e = rw e

-- ---- a fraction

module _ (w : Number) where
  pub number-fine : (r : Ran ℕ Ratio) → w ≡ number_of r → w.outcome ≡ no_refusal → r ≡ fine w.steps w.value
  number-fine (fine k x) e o = rw e
  number-fine (over k) e o = done_refused w.outcome _ o (ap (λ (x : Number). x.outcome) e)

  pub number-refused : (r : Ran ℕ Ratio) (why : Reason) → w ≡ number_of r → w.outcome ≡ Err why → r ≡ over w.steps
  number-refused (fine k x) why e o = done_refused w.outcome why (ap (λ (x : Number). x.outcome) e) o
  number-refused (over k) why e o = rw e

  pub number_counts : (r : Ran ℕ Ratio) → w ≡ number_of r → w.steps ≡ steps_of r
  number_counts (fine k x) e = rw e
  number_counts (over k) e = rw e
