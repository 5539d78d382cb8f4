-- The polynomial handed back: its coefficients in use are the list with the zeros at the top dropped, so what is said of the work is said of it.
use Rattle.std.specs.Prelude.{Ok, Err}
use mathlib.Core.Path.{◌≡◌, refl, sym, ◌∙◌, ap, subst}
use mathlib.Core.Bool.{Bool, true, false}
use mathlib.Core.List.{List, [], ◌∷◌}
use Prim.Native.Nat.{ℕ, ◌+◌, ◌-◌}
use native.Mathlib.Omega.{arith}
use lib.Dec.{ltb}
use lib.IntN.{pos}
use lib.ListN.{length}
use Rattle.algebra.specs.Rational.{Rat, Same}
use Rattle.algebra.specs.Polynomial.{Equal, sum, negated, derivative, product}
use Rattle.algebra.specs.Polynomial as P
use Rattle.algebra.proofs.Ring.{mul-nil}
use Rattle.algebra.proofs.Rational.{ℚ-ring}
use Rattle.algebra.proofs.Poly.{Poly-ring}
use Rattle.algebra.proofs.Lists.{poly, ◌*P◌, poly-empty, poly-equal, poly-product, equal-refl, equal-trans}
use Rattle.ratio.specs.Promise.{rat, Lowest}
use Rattle.ratio.specs.Refusal.{zero_r, no_refusal}
use Rattle.ratio.specs.declared.Ratio.{Ratio}
use Rattle.ratio.specs.declared.Reason.{Reason}
use Rattle.ratio.proofs.Steps.{zero-lowest}
use Rattle.terms.specs.declared.Answer.{Answer}
use Rattle.terms.specs.Machine.{plus, minus, Ran, fine, over, whole_r, plain}
use Rattle.terms.specs.Answer.{answer_of, negated_of, unless_long, product_of, step_from, value_of}
use Rattle.terms.specs.Meaning.{rats}
use Rattle.terms.specs.Poly.{terms_of, trim}
use Rattle.terms.specs.Work.{zipped, scaled, derived, multiplied, valued}
use Rattle.terms.proofs.Meaning.{trim-means}
use Rattle.terms.proofs.MeaningLowest.{AllLowest, none-lowest, zipped-lowest, scaled-lowest, derived-lowest, negated-lowest, multiplied-lowest, valued-lowest}
use Rattle.terms.proofs.MeaningSum.{sum-means, difference-means, scaled-means, derived-means, negated-means}
use Rattle.terms.proofs.MeaningCanonical.{Canonical, trim-canonical}
use Rattle.terms.proofs.MeaningProduct.{multiplied-means}
use Rattle.terms.proofs.MeaningValue.{valued-means}
use Rattle.terms.proofs.Lists.{terms-of-poly}

-- ---- the coefficients in use

pub answer-terms : (k : ℕ) (l : List Ratio) → terms_of (answer_of (fine k l)).poly ≡ trim l
answer-terms k l = terms-of-poly (trim l)

-- ---- the answer hands back the polynomial q, in canonical form

pub record Hands (t : Answer) (q : List Rat) : Type 0 where
  pub is : Equal (rats (terms_of t.poly)) q
  pub canonical : Canonical (terms_of t.poly)

pub fine-hands : (k : ℕ) (l : List Ratio) (q : List Rat) → Equal (rats l) q → AllLowest l → Hands (answer_of (fine k l)) q
fine-hands k l q e h = record {
  is = subst (λ m. Equal (rats m) q) (sym (answer-terms k l)) (equal-trans (rats (trim l)) (rats l) q (trim-means l) e);
  canonical = subst Canonical (sym (answer-terms k l)) (trim-canonical l h);
}

done-or-refused : (why : Reason) → Err why ≡ no_refusal → ⊥
done-or-refused why e = let z : ◌≡◌ {A = ℕ} 0 1 = cc in omega arith

pub answered-hands : (r : Ran ℕ (List Ratio)) (q : List Rat) → ((k : ℕ) (l : List Ratio) → r ≡ fine k l → Equal (rats l) q) → ((k : ℕ) (l : List Ratio) → r ≡ fine k l → AllLowest l)
    → (answer_of r).outcome ≡ no_refusal → Hands (answer_of r) q
answered-hands (fine k l) q e h done = fine-hands k l q (e k l refl) (h k l refl)
answered-hands (over k) q e h done = absurd (done-or-refused _ done)

module _ (a b : List Ratio) (n : ℕ) where
  pub sum-hands : (answer_of (zipped plain plus a b n)).outcome ≡ no_refusal → Hands (answer_of (zipped plain plus a b n)) (sum (rats a) (rats b))
  sum-hands = answered-hands _ _ (λ k l. sum-means a b n k l) (λ k l. zipped-lowest plus a b n k l)

  pub difference-hands : (answer_of (zipped plain minus a b n)).outcome ≡ no_refusal → Hands (answer_of (zipped plain minus a b n)) (sum (rats a) (negated (rats b)))
  difference-hands = answered-hands _ _ (λ k l. difference-means a b n k l) (λ k l. zipped-lowest minus a b n k l)

  pub multiplied-hands : (answer_of (multiplied plain a b n)).outcome ≡ no_refusal → Hands (answer_of (multiplied plain a b n)) (product (rats a) (rats b))
  multiplied-hands = answered-hands _ _ (λ k l. multiplied-means a b n k l) (λ k l. multiplied-lowest a b n k l)

module _ (a : List Ratio) where
  pub scaled-hands : (c : Ratio) (n : ℕ) → (answer_of (scaled plain a c n)).outcome ≡ no_refusal → Hands (answer_of (scaled plain a c n)) (P.scaled (rat c) (rats a))
  scaled-hands c n = answered-hands _ _ (λ k l. scaled-means a c n k l) (λ k l. scaled-lowest a c n k l)

  pub derived-hands : (n : ℕ) → (answer_of (derived plain a n)).outcome ≡ no_refusal → Hands (answer_of (derived plain a n)) (derivative (rats a))
  derived-hands n = answered-hands _ _ (λ k l. derived-means a n k l) (λ k l. derived-lowest a n k l)

  pub negated-hands : (answer_of (negated_of a)).outcome ≡ no_refusal → Hands (answer_of (negated_of a)) (negated (rats a))
  negated-hands = answered-hands _ _ (λ k l. negated-means a k l) (λ k l. negated-lowest a k l)

-- ---- the product, with its refusals

nothing_left : (b : List Rat) → Equal [] (product [] b)
unfolding product
nothing_left b = equal-refl []

nothing_right : (a : List Rat) → Equal [] (product a [])
nothing_right a = poly-equal [] (product a []) (poly-empty ∙ sym (poly-product a [] ∙ ap (λ z. poly a *P z) poly-empty ∙ mul-nil (Poly-ring ℚ-ring) (poly a)))

unless-long : (t : Bool) (r : Answer) (q : List Rat) → (r.outcome ≡ no_refusal → Hands r q) → (unless_long t r).outcome ≡ no_refusal → Hands (unless_long t r) q
unless-long true r q h e = absurd (done-or-refused _ e)
unless-long false r q h e = h e

pub product-hands : (a b : List Ratio) → (product_of a b).outcome ≡ no_refusal → Hands (product_of a b) (product (rats a) (rats b))
unfolding product_of
product-hands [] b e = fine-hands 0 [] _ (nothing_left (rats b)) none-lowest
product-hands (x ∷ a) [] e = fine-hands 0 [] _ (nothing_right (rats (x ∷ a))) none-lowest
product-hands (x ∷ a) (y ∷ b) e = unless-long (ltb 32 (length (x ∷ a) + length (y ∷ b) - 1)) (answer_of (multiplied plain (x ∷ a) (y ∷ b) 0)) _ (multiplied-hands (x ∷ a) (y ∷ b) 0) e

-- ---- the value at x

from-answered : (w : Ran ℕ Ratio) (r : Ratio) → step_from w ≡ Ok r → (k : ℕ) × (w ≡ fine k r)
from-answered (fine k x) r e = (k, cc)
from-answered (over k) r e = let z : ◌≡◌ {A = ℕ} 0 1 = cc in absurd (omega arith)

pub value-done : (a : List Ratio) (x r : Ratio) → value_of a x ≡ Ok r → Same (rat r) (P.value (rats a) (rat x)) × Lowest r
unfolding value_of
value-done a x r e =
    let (k, f) = from-answered (valued plain a x (whole_r (pos 1)) zero_r 0) r e in
    (valued-means a x 0 k r f, valued-lowest a x (whole_r (pos 1)) zero_r 0 k r zero-lowest f)
