-- Answered sums, differences, multiples, derivatives and negatives of lists are the textbook's.
use mathlib.Core.Path.{◌≡◌, refl, sym, ◌∙◌, ap, ap₂}
use mathlib.Core.Bool.{Bool, true, false}
use mathlib.Core.List.{List}
use Prim.Native.Nat.{ℕ, suc, ◌+◌, ◌-◌, max}
use native.Mathlib.Omega.{arith}
use native.Mathlib.Numerals.{add-one}
use lib.IntN.{pos}
use lib.ListN.{length, get_or}
use Rattle.algebra.specs.Polynomial.{Equal, sum, negated, derivative}
use Rattle.algebra.specs.Polynomial as P
use Rattle.algebra.proofs.Ring.{nat, mul-nil}
use Rattle.algebra.proofs.Rational.{ℚ-ring, ◌+ℚ◌, ◌*ℚ◌, -ℚ◌, nat-ℚ}
use Rattle.algebra.proofs.Series.{Below}
use Rattle.algebra.proofs.Poly.{Poly-ring, neg_p, con_p, add_at, neg-at}
use Rattle.algebra.proofs.Constants.{con-mul-at}
use Rattle.algebra.proofs.Degree.{sum_below, neg-below}
use Rattle.algebra.proofs.Derivative.{der_p, der-at}
use Rattle.algebra.proofs.Lists.{ℚP, ◌+P◌, ◌*P◌, poly-equal, poly-sum, poly-negated, poly-scaled, poly-derivative}
use Rattle.ratio.specs.Promise.{rat}
use Rattle.ratio.specs.Refusal.{zero_r}
use Rattle.ratio.specs.declared.Ratio.{Ratio}
use Rattle.ratio.proofs.Steps.{value}
use Rattle.terms.specs.Machine.{plus, minus, fine, whole_r, plain}
use Rattle.terms.specs.Answer.{op_if, negated_of}
use Rattle.terms.specs.Work.{zipped, scaled, derived}
use Rattle.terms.specs.Meaning.{rats}
use Rattle.terms.proofs.Meaning.{poly_r, poly_r-at, poly_r-below}
use Rattle.terms.proofs.MeaningStep.{turned, joined-value, times-value, turned-value}
use Rattle.terms.proofs.MeaningEach.{AnsweredAt, each-means}

-- ---- sum and difference

pub turned-at : (t : Bool) (p : ℚP) (i : ℕ) → (turned (Poly-ring ℚ-ring) t p).0 i ≡ turned ℚ-ring t (p.0 i)
turned-at true p i = neg-at ℚ-ring p i
turned-at false p i = refl

turned-below : (t : Bool) (p : ℚP) (n : ℕ) → Below ℚ-ring n p.0 → Below ℚ-ring n (turned (Poly-ring ℚ-ring) t p).0
turned-below true p n h = neg-below ℚ-ring p n h
turned-below false p n h = h

-- the coefficients of p ± q
pub joined_at : (t : Bool) (l : List Ratio) (q : ℚP) (i : ℕ) → (poly_r l +P turned (Poly-ring ℚ-ring) t q).0 i ≡ value (get_or l i zero_r) +ℚ turned ℚ-ring t (q.0 i)
joined_at t l q i = add_at ℚ-ring (poly_r l) (turned (Poly-ring ℚ-ring) t q) i ∙ ap₂ ◌+ℚ◌ (poly_r-at l i) (turned-at t q i)

pub zipped-means : (t : Bool) (a b : List Ratio) (k k' : ℕ) (l : List Ratio) → zipped plain (op_if t) a b k ≡ fine k' l → poly_r l ≡ poly_r a +P turned (Poly-ring ℚ-ring) t (poly_r b)
unfolding zipped
zipped-means t a b k k' l e =
    each-means _ (max (length a) (length b)) k k' l (poly_r a +P turned (Poly-ring ℚ-ring) t (poly_r b)) e at
    (sum_below ℚ-ring (poly_r a) (turned (Poly-ring ℚ-ring) t (poly_r b)) _ (λ i h. poly_r-below a i (omega arith)) (turned-below t (poly_r b) _ (λ i h. poly_r-below b i (omega arith))))
  where
    at : (i : ℕ) (r : Ratio) → AnsweredAt (λ i. plain.make (op_if t) (get_or a i zero_r) (get_or b i zero_r)) i r → value r ≡ (poly_r a +P turned (Poly-ring ℚ-ring) t (poly_r b)).0 i
    at i r x =
        joined-value (get_or a i zero_r) (get_or b i zero_r) x.before x.after r t x.is
        ∙ sym (joined_at t a (poly_r b) i ∙ ap (λ z. value (get_or a i zero_r) +ℚ turned ℚ-ring t z) (poly_r-at b i))

module _ (a b : List Ratio) (k k' : ℕ) (l : List Ratio) where
  pub sum-means : zipped plain plus a b k ≡ fine k' l → Equal (rats l) (sum (rats a) (rats b))
  sum-means e = poly-equal (rats l) (sum (rats a) (rats b)) (zipped-means false a b k k' l e ∙ sym (poly-sum (rats a) (rats b)))

  pub difference-means : zipped plain minus a b k ≡ fine k' l → Equal (rats l) (sum (rats a) (negated (rats b)))
  difference-means e = poly-equal (rats l) (sum (rats a) (negated (rats b)))
      (zipped-means true a b k k' l e ∙ sym (poly-sum (rats a) (negated (rats b)) ∙ ap (λ z. poly_r a +P z) (poly-negated (rats b))))

-- ---- a multiple

module _ (a : List Ratio) (c : Ratio) (k k' : ℕ) (l : List Ratio) (e : scaled plain a c k ≡ fine k' l) where
  pub scaled-poly : poly_r l ≡ con_p ℚ-ring (value c) *P poly_r a
  unfolding scaled
  scaled-poly = each-means _ (length a) k k' l (con_p ℚ-ring (value c) *P poly_r a) e
      (λ i r x. times-value (get_or a i zero_r) c x.before x.after r x.is ∙ ap (λ z. z *ℚ value c) (sym (poly_r-at a i)) ∙ ℚ-ring.mul_comm _ _ ∙ sym (con-mul-at ℚ-ring (value c) (poly_r a) i))
      (λ i h. con-mul-at ℚ-ring (value c) (poly_r a) i ∙ ap (λ z. value c *ℚ z) (poly_r-below a i h) ∙ mul-nil ℚ-ring (value c))

  pub scaled-means : Equal (rats l) (P.scaled (rat c) (rats a))
  scaled-means = poly-equal (rats l) (P.scaled (rat c) (rats a)) (scaled-poly ∙ sym (poly-scaled (rat c) (rats a)))

-- ---- the derivative

module _ (a : List Ratio) (k k' : ℕ) (l : List Ratio) (e : derived plain a k ≡ fine k' l) where
  pub derived-poly : poly_r l ≡ der_p ℚ-ring (poly_r a)
  unfolding derived
  derived-poly = each-means _ (length a - 1) k k' l (der_p ℚ-ring (poly_r a)) e
      (λ i r x. times-value (get_or a (i + 1) zero_r) (whole_r (pos (i + 1))) x.before x.after r x.is
      ∙ ap₂ ◌*ℚ◌ (sym (poly_r-at a (i + 1))) (sym (nat-ℚ (i + 1))) ∙ ap (λ n. (poly_r a).0 n *ℚ nat ℚ-ring n) (add-one i)
      ∙ ℚ-ring.mul_comm ((poly_r a).0 (suc i)) (nat ℚ-ring (suc i)) ∙ sym (der-at ℚ-ring (poly_r a) i))
      (λ i h. der-at ℚ-ring (poly_r a) i ∙ ap (λ z. nat ℚ-ring (suc i) *ℚ z) (poly_r-below a (suc i) (omega arith)) ∙ mul-nil ℚ-ring (nat ℚ-ring (suc i)))

  pub derived-means : Equal (rats l) (derivative (rats a))
  derived-means = poly-equal (rats l) (derivative (rats a)) (derived-poly ∙ sym (poly-derivative (rats a)))

-- ---- the negative

module _ (a : List Ratio) (k' : ℕ) (l : List Ratio) (e : negated_of a ≡ fine k' l) where
  pub negated-poly : poly_r l ≡ neg_p ℚ-ring (poly_r a)
  unfolding negated_of
  negated-poly = each-means _ (length a) 0 k' l (neg_p ℚ-ring (poly_r a)) e
      (λ i r x. turned-value (get_or a i zero_r) x.before x.after r x.is ∙ sym (neg-at ℚ-ring (poly_r a) i ∙ ap -ℚ◌ (poly_r-at a i)))
      (neg-below ℚ-ring (poly_r a) (length a) (poly_r-below a))

  pub negated-means : Equal (rats l) (negated (rats a))
  negated-means = poly-equal (rats l) (negated (rats a)) (negated-poly ∙ sym (poly-negated (rats a)))
