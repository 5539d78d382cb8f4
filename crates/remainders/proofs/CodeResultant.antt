-- Laws of resultant and discriminant: the run by the lengths, from what the parts tell, each counted from 0; and bounds of their steps.
use Rattle.std.specs.Prelude.{Ok, Err}
use mathlib.Core.Path.{◌≡◌, refl, sym, ap, ◌∙◌}
use mathlib.Core.Bool.{Bool, true, false}
use mathlib.Core.List.{List, [], ◌∷◌}
use Prim.Native.Nat.{ℕ, zero, suc, ◌+◌, ◌-◌, ◌*◌, ◌/◌, ◌≤◌, ◌<◌}
use native.Mathlib.Nat.{mul-le-mul}
use native.Mathlib.Numerals.{add-one}
use native.Mathlib.Omega.{arith}
use borrow.Author.Tests.{lt-ltb, le-ltb}
use lib.Dec.{ltb}
use lib.IntN.{pos}
use lib.ListN.{length, get_or}
use Rattle.ratio.specs.Refusal.{zero_r, ratio_of, no_refusal}
use Rattle.ratio.specs.Step.{mul_of, inv_of}
use Rattle.ratio.specs.declared.Ratio.{Ratio}
use Rattle.ratio.specs.declared.Reason.{Reason}
use Rattle.terms.specs.declared.Answer.{Answer}
use Rattle.terms.specs.Poly.{terms_of, trim}
use Rattle.terms.specs.Machine.{Ran, fine, over, and_then, counted, plain, whole_r}
use Rattle.terms.specs.Work.{derived}
use Rattle.terms.specs.Answer.{answer_of}
use Rattle.terms.proofs.Lists.{terms-of-poly}
use Rattle.terms.proofs.Few.{derived-few, answer-steps}
use Rattle.terms.proofs.StepsCount.{steps_of}
use Rattle.terms.proofs.StepsShift.{shift}
use Rattle.remainders.specs.declared.Number.{Number}
use Rattle.remainders.specs.Divide.{lead, dropped}
use Rattle.remainders.specs.Resultant.{sign_of, degree_of, unit, powered, signed, joined, ordered, swapped_if, resultant_of, discriminant_of}
use Rattle.remainders.specs.Price.{ordered_price, resultant_if, resultant_price}
use Rattle.remainders.specs.Answer.{no_number, number_of}
use Rattle.remainders.proofs.PriceResultant.{resultant-price, resultant-price-left-zero, resultant-price-right-zero}
use Rattle.remainders.proofs.PriceShift.{resultant_of-shift}
use Rattle.remainders.proofs.CodeOrdered.{number-over, number-fine, number-steps}

-- ---- the resultant by the lengths

pub left-zero : (a b : List Ratio) → length a ≡ 0 → fine 0 zero_r ≡ resultant_of plain a b 0
unfolding resultant_of
left-zero [] b h = refl
left-zero (x ∷ a) b h = absurd (omega arith)

pub right_zero : (a b : List Ratio) → length b ≡ 0 → fine 0 zero_r ≡ resultant_of plain a b 0
unfolding resultant_of
right_zero [] b h = refl
right_zero (x ∷ a) [] h = refl
right_zero (x ∷ a) (y ∷ b) h = absurd (omega arith)

left-constant : (a b : List Ratio) → length a ≡ 1 → 1 ≤ length b → powered plain (get_or a 0 zero_r) (length b - 1) (unit plain) 0 ≡ resultant_of plain a b 0
unfolding resultant_of
left-constant [] b h l = absurd (omega arith)
left-constant (x ∷ a) [] h l = absurd (omega arith)
left-constant (x ∷ []) (y ∷ b) h l =
    let n : suc (length b) - 1 ≡ length b = omega arith in
    rw n
left-constant (x ∷ x' ∷ a) (y ∷ b) h l = absurd (omega arith)

right-constant : (a b : List Ratio) → 2 ≤ length a → length b ≡ 1 → powered plain (get_or b 0 zero_r) (length a - 1) (unit plain) 0 ≡ resultant_of plain a b 0
unfolding resultant_of
right-constant [] b h l = absurd (omega arith)
right-constant (x ∷ []) b h l = absurd (omega arith)
right-constant (x ∷ x' ∷ a) [] h l = absurd (omega arith)
right-constant (x ∷ x' ∷ a) (y ∷ []) h l =
    let n : suc (suc (length a)) - 1 ≡ suc (length a) = omega arith in
    rw n
right-constant (x ∷ x' ∷ a) (y ∷ y' ∷ b) h l = absurd (omega arith)

both-higher : (a b : List Ratio) → 2 ≤ length a → 2 ≤ length b → resultant_of plain a b 0 ≡ swapped_if plain (ltb (length a) (length b)) a b 0
unfolding resultant_of
both-higher [] b h l = absurd (omega arith)
both-higher (x ∷ []) b h l = absurd (omega arith)
both-higher (x ∷ x' ∷ a) [] h l = absurd (omega arith)
both-higher (x ∷ x' ∷ a) (y ∷ []) h l = absurd (omega arith)
both-higher (x ∷ x' ∷ a) (y ∷ y' ∷ b) h l = refl

pub ordered-is : (a b : List Ratio) → 2 ≤ length b → length b ≤ length a → ordered plain (length b) a b 0 ≡ resultant_of plain a b 0
ordered-is a b h l = sym (rw (le-ltb (length a) (length b) l) at (both-higher a b (omega arith) h))

swapped-is : (a b : List Ratio) → 2 ≤ length a → length a < length b → resultant_of plain a b 0 ≡ and_then (ordered plain (length a) b a 0) (λ log r. counted log (mul_of r (whole_r (sign_of (degree_of a * degree_of b)))))
swapped-is a b h l = rw (lt-ltb (length a) (length b) l) at (both-higher a b h (omega arith))

pub left-constant-told : (a b : List Ratio) (x : Ratio) (m : ℕ) (p : Number) → length a ≡ 1 → 1 ≤ length b → x ≡ get_or a 0 zero_r → m ≡ length b → p ≡ number_of (powered plain x (m - 1) (unit plain) 0) → p ≡ number_of (resultant_of plain a b 0)
left-constant-told a b x m p h l hx hm q = (rw (hx, hm) at q) ∙ ap number_of (left-constant a b h l)

pub right-constant-told : (a b : List Ratio) (x : Ratio) (n : ℕ) (p : Number) → 2 ≤ length a → length b ≡ 1 → x ≡ get_or b 0 zero_r → n ≡ length a → p ≡ number_of (powered plain x (n - 1) (unit plain) 0) → p ≡ number_of (resultant_of plain a b 0)
right-constant-told a b x n p h l hx hn q = (rw (hx, hn) at q) ∙ ap number_of (right-constant a b h l)

-- the other order, and one multiplication by the sign
module _ (a b : List Ratio) (h : 2 ≤ length a) (l : length a < length b) (r : Number) (e : r ≡ number_of (ordered plain (length a) b a 0)) where
  pub swapped-refused : (why : Reason) → r.outcome ≡ Err why → no_number r.steps ≡ number_of (resultant_of plain a b 0)
  swapped-refused why o =
      let q = number-over (ordered plain (length a) b a 0) r why e o in
      rw (swapped-is a b h l, q)

  module _ (o : r.outcome ≡ no_refusal) (n m : ℕ) (x : Ratio) (hn : n ≡ length a) (hm : m ≡ length b) (hx : x ≡ whole_r (sign_of ((n - 1) * (m - 1)))) where
    multiplied : resultant_of plain a b 0 ≡ counted r.steps (mul_of r.value x)
    multiplied =
        let q = number-fine (ordered plain (length a) b a 0) r e o in
        rw (hx, hn, hm) (rw q at (swapped-is a b h l))

    pub sign-refused : (why : Reason) → mul_of r.value x ≡ Err why → no_number (r.steps + 1) ≡ number_of (resultant_of plain a b 0)
    sign-refused why q = rw (multiplied, q, add-one r.steps)

    pub sign-made : (y : Ratio) → mul_of r.value x ≡ Ok y → number_of (fine (r.steps + 1) y) ≡ number_of (resultant_of plain a b 0)
    sign-made y q = rw (multiplied, q, add-one r.steps)

-- ---- the discriminant

pub discriminant-zero : (f : List Ratio) → length f ≡ 0 → fine 0 zero_r ≡ discriminant_of plain f 0
unfolding discriminant_of
discriminant-zero [] h = refl
discriminant-zero (x ∷ f) h = absurd (omega arith)

pub discriminant-one : (f : List Ratio) → length f ≡ 1 → fine 0 (whole_r (pos 1)) ≡ discriminant_of plain f 0
unfolding discriminant_of
discriminant-one [] h = absurd (omega arith)
discriminant-one (x ∷ []) h = refl
discriminant-one (x ∷ y ∷ f) h = absurd (omega arith)

derivative-first : (f : List Ratio) → 2 ≤ length f → discriminant_of plain f 0 ≡ and_then (derived plain f 0) (λ log d. and_then (resultant_of plain f (dropped plain d) log) (λ log r. joined plain (signed plain ((length f - 1) * (length f - 2) / 2)) r (ratio_of (inv_of (lead plain f))) log))
unfolding discriminant_of
derivative-first [] h = absurd (omega arith)
derivative-first (x ∷ []) h = absurd (omega arith)
derivative-first (x ∷ y ∷ f) h =
    let n : suc (suc (length f)) - 1 ≡ suc (length f) = omega arith in
    let m : suc (suc (length f)) - 2 ≡ length f = omega arith in
    rw (n, m)

answer-over : (r : Ran ℕ (List Ratio)) (x : Answer) (why : Reason) → x ≡ answer_of r → x.outcome ≡ Err why → r ≡ over x.steps
answer-over (fine k l) x why e o = absurd (let n : ◌≡◌ {A = ℕ} 0 1 = cc in omega arith)
answer-over (over k) x why e o = ap over (sym (ap (λ (n : Answer). n.steps) e))

record Worked (r : Ran ℕ (List Ratio)) (x : Answer) : Type 0 where
  got : List Ratio
  is : r ≡ fine x.steps got
  terms : trim got ≡ terms_of x.poly

answer-fine : (r : Ran ℕ (List Ratio)) (x : Answer) → x ≡ answer_of r → x.outcome ≡ no_refusal → Worked r x
answer-fine (fine k l) x e o = record { got = l; is = rw e; terms = rw e (sym (terms-of-poly (trim l))) }
answer-fine (over k) x e o = absurd (let n : ◌≡◌ {A = ℕ} 0 1 = cc in omega arith)

module _ (f : List Ratio) (h : 2 ≤ length f) (d : Answer) (e : d ≡ answer_of (derived plain f 0)) where
  pub derivative-refused : (why : Reason) → d.outcome ≡ Err why → no_number d.steps ≡ number_of (discriminant_of plain f 0)
  derivative-refused why o =
      let q = answer-over (derived plain f 0) d why e o in
      rw (derivative-first f h, q)

  pub derivative-few : length f ≤ 32 → d.steps ≤ 31
  derivative-few l =
      let q : d.steps ≡ steps_of (derived plain f 0) = ap (λ (x : Answer). x.steps) e ∙ answer-steps (derived plain f 0) in
      omega (arith, derived-few f 0)

  module _ (o : d.outcome ≡ no_refusal) (r : Number) (v : r ≡ number_of (resultant_of plain f (terms_of d.poly) 0)) where
    after-derivative : discriminant_of plain f 0 ≡ and_then (shift d.steps (resultant_of plain f (terms_of d.poly) 0)) (λ log r. joined plain (signed plain ((length f - 1) * (length f - 2) / 2)) r (ratio_of (inv_of (lead plain f))) log)
    after-derivative =
        let w = answer-fine (derived plain f 0) d e o in
        (rw (w.is, w.terms) at (derivative-first f h)) ∙ ap (λ (x : Ran ℕ Ratio). and_then x (λ log r. joined plain (signed plain ((length f - 1) * (length f - 2) / 2)) r (ratio_of (inv_of (lead plain f))) log)) (resultant_of-shift d.steps f (terms_of d.poly))

    pub resultant-refused : (why : Reason) → r.outcome ≡ Err why → no_number (d.steps + r.steps) ≡ number_of (discriminant_of plain f 0)
    resultant-refused why u =
        let q = number-over (resultant_of plain f (terms_of d.poly) 0) r why v u in
        rw (after-derivative, q)

    pub discriminant-made : r.outcome ≡ no_refusal → (n : ℕ) (x i p : Ratio) (z : Number) → n ≡ length f → x ≡ whole_r (sign_of ((n - 1) * (n - 2) / 2)) → p ≡ lead plain f → i ≡ ratio_of (inv_of p) → z ≡ number_of (joined plain x r.value i (d.steps + r.steps)) → z ≡ number_of (discriminant_of plain f 0)
    discriminant-made u n x i p z hn hx hp hi hz =
        let q = number-fine (resultant_of plain f (terms_of d.poly) 0) r v u in
        let k = rw q at after-derivative in
        (rw (hx, hn, hi, hp) at hz) ∙ sym (ap number_of k)

-- ---- the steps fit a word

product-few : (n m : ℕ) → n ≤ 31 → m ≤ 31 → ordered_price n m ≤ 2232
product-few n m h l = omega (arith, mul-le-mul h l)

price-if : (t : Bool) (n m : ℕ) → n ≤ 31 → m ≤ 31 → resultant_if t n m ≤ 2233
price-if true n m h l = omega (arith, product-few m n l h)
price-if false n m h l = omega (arith, product-few n m h l)

price-few : (n m : ℕ) → n ≤ 31 → m ≤ 31 → resultant_price n m ≤ 2233
price-few zero m h l = omega arith
price-few (suc n) zero h l = omega arith
price-few (suc n) (suc m) h l = price-if (ltb n m) (suc n) (suc m) h l

run-few : (a b : List Ratio) → length a ≤ 32 → length b ≤ 32 → steps_of (resultant_of plain a b 0) ≤ 2233
run-few [] b h l = omega (arith, resultant-price-left-zero b 0)
run-few (x ∷ a) [] h l = omega (arith, resultant-price-right-zero (x ∷ a) 0)
run-few (x ∷ a) (y ∷ b) h l =
    let n : length (x ∷ a) - 1 ≤ 31 = omega arith in
    let m : length (y ∷ b) - 1 ≤ 31 = omega arith in
    omega (arith, resultant-price (x ∷ a) (y ∷ b) 0 (omega arith) (omega arith), price-few (length (x ∷ a) - 1) (length (y ∷ b) - 1) n m)

pub resultant-few : (a b : List Ratio) (r : Number) → r ≡ number_of (resultant_of plain a b 0) → length a ≤ 32 → length b ≤ 32 → r.steps ≤ 2233
resultant-few a b r e h l = omega (arith, number-steps (resultant_of plain a b 0) r e, run-few a b h l)
