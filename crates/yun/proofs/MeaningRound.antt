-- Yun's rounds on polynomials over the rationals: what is left of f beside the factors found and the i-th power of b, from the first round to the last.
use mathlib.Core.Path.{◌≡◌, sym, ap, ap₂, subst, ◌∙◌}
use mathlib.Core.List.{[], ◌∷◌}
use Prim.Native.Nat.{ℕ, suc, ◌+◌, ◌*◌, ◌≤◌}
use native.Mathlib.Omega.{arith}
use Rattle.algebra.proofs.Ring.{pow, pow-one, one-pow, one-mul, nil-mul, by3}
use Rattle.algebra.proofs.Reflect.{ring!, reify}
use Rattle.algebra.proofs.Rational.{ℚ-ring, ℚ-domain, 1ℚ}
use Rattle.algebra.proofs.Characteristic.{rational-char}
use Rattle.algebra.proofs.Poly.{nil_p, neg_p, con_p, Poly-ring}
use Rattle.algebra.proofs.Divides.{Dvd, Coprime}
use Rattle.algebra.proofs.Degree.{HasDeg, deg-con, deg-unique}
use Rattle.algebra.proofs.PolyDomain.{P-cancel, deg-mul, deg-pow, dvd-degree}
use Rattle.algebra.proofs.Monic.{MonicP, monic-deg, monic-not-nil, monic-quotient}
use Rattle.algebra.proofs.Derivative.{der_p}
use Rattle.algebra.proofs.Yun.{yun-start, yun-product, YunStep, yun-step, yun-nil, yun-one, yun-square-free}
use Rattle.algebra.proofs.Lists.{ℚP, ◌+P◌, ◌*P◌}

-- f = P bⁱ g and (c − b') g = b g' for a monic g
pub record Round (f P b c : ℚP) (i : ℕ) : Type 0 where
  pub left : ℚP
  pub monic : MonicP ℚ-ring left
  pub is : f ≡ P *P pow (Poly-ring ℚ-ring) b i *P left
  pub fits : (c +P neg_p ℚ-ring (der_p ℚ-ring b)) *P left ≡ b *P der_p ℚ-ring left

-- over their gcd a, b and d are coprime
quotients-coprime : (a b d b' c' s t : ℚP) → MonicP ℚ-ring a → b ≡ b' *P a → d ≡ c' *P a → a ≡ s *P b +P t *P d → Coprime (Poly-ring ℚ-ring) b' c'
quotients-coprime a b d b' c' s t m eb ec comb = (
  s,
  t,
  sym (P-cancel ℚ-domain (con_p ℚ-ring 1ℚ) (b' *P s +P c' *P t) a (monic-not-nil ℚ-domain a m)
      (by3 (Poly-ring ℚ-ring) (con_p ℚ-ring 1ℚ) comb s eb t ec (ring! (Poly-ring ℚ-ring) (a ∷ b ∷ d ∷ b' ∷ c' ∷ s ∷ t ∷ []) (search reify depth 30 fits 20000) tt))),
)

-- nothing of degree at least 1 divides b twice
abbrev pub SquareFreeP : ℚP → Type 0
SquareFreeP b = (p : ℚP) (n : ℕ) → HasDeg ℚ-ring p (suc n) → Dvd (Poly-ring ℚ-ring) (p *P p) b → ⊥

pub one-square-free : SquareFreeP (con_p ℚ-ring 1ℚ)
one-square-free p n d z =
    let (k, w) = dvd-degree ℚ-domain (p *P p) (con_p ℚ-ring 1ℚ) 0 z (deg-con ℚ-ring 1ℚ ℚ-domain.proper) in
    let same : k ≡ suc n + suc n = deg-unique ℚ-ring (p *P p) k (suc n + suc n) w.0 (deg-mul ℚ-domain p p (suc n) (suc n) d d) in
    omega (arith, w.1)

-- the first round: g is the gcd of f and f'
pub round-one : (f b c g : ℚP) → MonicP ℚ-ring g → f ≡ b *P g → der_p ℚ-ring f ≡ c *P g → Round f (con_p ℚ-ring 1ℚ) b c 1
round-one f b c g m e h = record {
  left = g;
  monic = m;
  is = e ∙ ap (λ z. z *P g) (sym (one-mul (Poly-ring ℚ-ring) (pow (Poly-ring ℚ-ring) b 1) ∙ pow-one (Poly-ring ℚ-ring) b));
  fits = yun-start ℚ-ring f b c g e h;
}

-- b is square-free then
pub first-square-free : (f b c g s t : ℚP) → MonicP ℚ-ring g → f ≡ b *P g → der_p ℚ-ring f ≡ c *P g → g ≡ s *P f +P t *P der_p ℚ-ring f → SquareFreeP b
first-square-free f b c g s t m e h comb = yun-square-free ℚ-domain b c g m.degree (monic-deg ℚ-domain g m) (quotients-coprime g f (der_p ℚ-ring f) b c s t m e h comb) (yun-start ℚ-ring f b c g e h)

module _ (f P b c : ℚP) (i : ℕ) (r : Round f P b c i) where
  -- no difference is left: what is left of f is 1
  pub round-last : (MonicP ℚ-ring b) → c +P neg_p ℚ-ring (der_p ℚ-ring b) ≡ nil_p ℚ-ring → f ≡ P *P pow (Poly-ring ℚ-ring) b i
  round-last m e =
      let g : r.left ≡ con_p ℚ-ring 1ℚ = yun-nil ℚ-domain rational-char b r.left (monic-not-nil ℚ-domain b m) r.monic
      (sym (ap (λ z. z *P r.left) e ∙ nil-mul (Poly-ring ℚ-ring) r.left) ∙ r.fits) in
      r.is ∙ ap (λ z. P *P pow (Poly-ring ℚ-ring) b i *P z) g ∙ (Poly-ring ℚ-ring).mul-one (P *P pow (Poly-ring ℚ-ring) b i)

  -- b is constant: the factors found are all
  pub round-over : b ≡ con_p ℚ-ring 1ℚ → f ≡ P
  round-over e =
      let g : r.left ≡ con_p ℚ-ring 1ℚ = yun-one ℚ-domain rational-char (c +P neg_p ℚ-ring (der_p ℚ-ring b)) r.left r.monic
      (r.fits ∙ ap (λ z. z *P der_p ℚ-ring r.left) e ∙ one-mul (Poly-ring ℚ-ring) (der_p ℚ-ring r.left)) in
      r.is ∙ ap₂ (λ x y. P *P x *P y) (ap (λ z. pow (Poly-ring ℚ-ring) z i) e ∙ one-pow (Poly-ring ℚ-ring) i) g
      ∙ ring! (Poly-ring ℚ-ring) (P ∷ []) (search reify depth 30 fits 20000) tt

  -- the gcd a of b and d is taken out
  module _ (a d b' c' s t : ℚP) (mb : MonicP ℚ-ring b) (ma : MonicP ℚ-ring a) (ed : d ≡ c +P neg_p ℚ-ring (der_p ℚ-ring b)) (eb : b ≡ b' *P a) (ec : d ≡ c' *P a) (comb : a ≡ s *P b +P t *P d) where
    pub quotient-monic : MonicP ℚ-ring b'
    quotient-monic = monic-quotient ℚ-domain b' a ma (subst (MonicP ℚ-ring) eb mb)

    step : YunStep ℚ-domain b' c' r.left
    step = yun-step ℚ-domain a b' c' r.left (monic-not-nil ℚ-domain a ma) (monic-not-nil ℚ-domain b' quotient-monic) (quotients-coprime a b d b' c' s t ma eb ec comb)
        (ap (λ z. z *P r.left) ((Poly-ring ℚ-ring).mul_comm a c' ∙ sym ec ∙ ed) ∙ r.fits ∙ ap (λ z. z *P der_p ℚ-ring r.left) (eb ∙ (Poly-ring ℚ-ring).mul_comm b' a))

    pub round-next : Round f (P *P pow (Poly-ring ℚ-ring) a i) b' c' (suc i)
    round-next = record {
      left = step.next;
      monic = monic-quotient ℚ-domain step.next b' quotient-monic (subst (MonicP ℚ-ring) step.is r.monic);
      is = yun-product ℚ-ring i f P a b b' r.left step.next r.is (eb ∙ (Poly-ring ℚ-ring).mul_comm b' a) step.is;
      fits = step.fits;
    }

-- ---- degrees

-- the i-th power of b divides f
pub round-degree : (f P b c : ℚP) (i n m : ℕ) → Round f P b c i → HasDeg ℚ-ring f n → HasDeg ℚ-ring b m → i * m ≤ n
round-degree f P b c i n m r df db =
    let power : ℚP = pow (Poly-ring ℚ-ring) b i in
    let (k, e) = dvd-degree ℚ-domain power f n (P *P r.left, r.is ∙ ring! (Poly-ring ℚ-ring) (P ∷ power ∷ r.left ∷ []) (search reify depth 30 fits 20000) tt) df in
    let same : k ≡ i * m = deg-unique ℚ-ring power k (i * m) e.0 (deg-pow ℚ-domain b m i db) in
    omega (arith, e.1)
