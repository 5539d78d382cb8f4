-- Monic polynomials: products and quotients of them; two that divide each other are equal.
use mathlib.Core.Path.{◌≡◌, refl, sym, ◌∙◌, ap, ap₂, subst}
use mathlib.Core.Logic.{◌≢◌}
use Prim.Native.Nat.{ℕ, zero, suc, ◌<◌, ◌+◌ as ◌+ⁿ◌}
use native.Mathlib.Omega.{arith}
use Rattle.algebra.proofs.Ring.{CRing, Domain, pow, one-mul, nil-mul}
use Rattle.algebra.proofs.Series.{Below}
use Rattle.algebra.proofs.Poly.{Poly, mul_p, nil_p, con_p, Poly-ring}
use Rattle.algebra.proofs.Constants.{con-at-zero, con-mul-at, con-of}
use Rattle.algebra.proofs.Degree.{HasDeg, Size, null, sized, size, mul-lead, mul-below, con-below, deg-bound, deg-unique, deg-not-nil}
use Rattle.algebra.proofs.PolyDomain.{deg-adds, deg-scaled, associates}
use Rattle.algebra.proofs.Divides.{Dvd}
use Rattle.algebra.proofs.Bezout.{Bezout, bez-dvd-l, bez-dvd-r, bez-greatest}

module _ {A : Type 0} (R : CRing A) where
  open R use {mul as ◌*◌, one as 𝟙}

  infixl 70 ◌*◌
  -- the highest coefficient is 1
  pub record MonicP (p : Poly R) : Type 0 where
    pub degree : ℕ
    pub leads : p.0 degree ≡ 𝟙
    pub ends : Below R (suc degree) p.0

  pub monic-one : MonicP (con_p R 𝟙)
  monic-one = record { degree = 0; leads = con-at-zero R 𝟙; ends = con-below R 𝟙 }

  pub monic-mul : (p q : Poly R) → MonicP p → MonicP q → MonicP (mul_p R p q)
  monic-mul p q x y = record {
    degree = x.degree +ⁿ y.degree;
    leads = mul-lead R p q x.degree y.degree x.ends y.ends ∙ ap₂ ◌*◌ x.leads y.leads ∙ R.mul-one 𝟙;
    ends = mul-below R p q x.degree y.degree x.ends y.ends;
  }

  pub monic-pow : (p : Poly R) (n : ℕ) → MonicP p → MonicP (pow (Poly-ring R) p n)
  unfolding pow
  monic-pow p zero x = monic-one
  monic-pow p (suc n) x = monic-mul (pow (Poly-ring R) p n) p (monic-pow p n x) x

module _ {A : Type 0} (D : Domain A) where
  abbrev R : CRing A
  R = D.ring

  open R use {mul as ◌*◌, one as 𝟙}

  infixl 70 ◌*◌
  pub monic-deg : (p : Poly R) (x : MonicP R p) → HasDeg R p x.degree
  monic-deg p x = record { leads = λ e. D.proper (sym x.leads ∙ e); ends = x.ends }

  pub monic-not-nil : (p : Poly R) → MonicP R p → p ≢ nil_p R
  monic-not-nil p x = deg-not-nil R p x.degree (monic-deg p x)

  -- a monic constant is 1
  pub monic-constant : (p : Poly R) → MonicP R p → Below R 1 p.0 → p ≡ con_p R 𝟙
  monic-constant p x h =
      let l : x.degree < 1 = deg-bound R p x.degree 1 (monic-deg p x) h in
      let z : 0 ≡ x.degree = omega arith in
      con-of R p h ∙ ap (con_p R) (ap p.0 z ∙ x.leads)

  -- a monic multiple of a monic polynomial has a monic quotient
  pub monic-quotient : (q p : Poly R) → MonicP R p → MonicP R (mul_p R q p) → MonicP R q
  monic-quotient q p x y = go (size D q)
    where
      go : Size D q → MonicP R q
      go (null e) = absurd (monic-not-nil (mul_p R q p) y (ap (λ t. mul_p R t p) e ∙ nil-mul (Poly-ring R) p))
      go (sized n d) =
          let same : y.degree ≡ n +ⁿ x.degree = deg-adds D (mul_p R q p) q p y.degree n x.degree refl (monic-deg (mul_p R q p) y) d (monic-deg p x) in
          let lead : q.0 n * p.0 x.degree ≡ 𝟙 = sym (mul-lead R q p n x.degree d.ends x.ends) ∙ ap (mul_p R q p).0 (sym same) ∙ y.leads in
          record { degree = n; leads = sym (R.mul-one (q.0 n)) ∙ ap (λ z. q.0 n * z) (sym x.leads) ∙ lead; ends = d.ends }

  pub monic-same : (p q : Poly R) → MonicP R p → MonicP R q → Dvd (Poly-ring R) p q → Dvd (Poly-ring R) q p → p ≡ q
  monic-same p q x y h k =
      let (c, z) = associates D p q (monic-not-nil q y) k h in
      let n : ℕ = y.degree in
      let same : x.degree ≡ n = deg-unique R p x.degree n (monic-deg p x) (subst (λ t. HasDeg R t n) (sym z.1) (deg-scaled D c q n z.0 (monic-deg q y))) in
      let one : c ≡ 𝟙 =
      sym (R.mul-one c) ∙ ap (λ t. c * t) (sym y.leads) ∙ sym (ap (λ t. t.0 n) z.1 ∙ con-mul-at R c q n) ∙ ap p.0 (sym same) ∙ x.leads in
      z.1 ∙ ap (λ t. mul_p R (con_p R t) q) one ∙ one-mul (Poly-ring R) q

  -- so there is at most one monic greatest common divisor
  pub record IsGcdP (a b g : Poly R) : Type 0 where
    pub monic : MonicP R g
    pub divides-a : Dvd (Poly-ring R) g a
    pub divides-b : Dvd (Poly-ring R) g b
    pub greatest : (d : Poly R) → Dvd (Poly-ring R) d a → Dvd (Poly-ring R) d b → Dvd (Poly-ring R) d g

  pub gcd_p-unique : (a b g h : Poly R) → IsGcdP a b g → IsGcdP a b h → g ≡ h
  gcd_p-unique a b g h x y = monic-same g h x.monic y.monic (y.greatest g x.divides-a x.divides-b) (x.greatest h y.divides-a y.divides-b)

  -- a combination that is monic and divides both is the greatest common divisor
  pub bez-is-gcd : (a b : Poly R) (z : Bezout (Poly-ring R) a b) → MonicP R z.g → IsGcdP a b z.g
  bez-is-gcd a b z m = record {
    monic = m;
    divides-a = bez-dvd-l (Poly-ring R) a b z;
    divides-b = bez-dvd-r (Poly-ring R) a b z;
    greatest = bez-greatest (Poly-ring R) a b z;
  }
