-- The identities behind the square-free factorisation: f = b g and f' = c g at the start, and d g = b g' through every round; and why b is square-free.
use mathlib.Core.Path.{◌≡◌, sym, ◌∙◌, ap, ap₂, subst}
use mathlib.Core.Logic.{◌≢◌}
use mathlib.Core.List.{[], ◌∷◌}
use Prim.Native.Nat.{ℕ, zero, suc, ◌*◌, ◌≤◌}
use native.Mathlib.Nat.{mul-le-mul_left}
use native.Mathlib.Omega.{arith}
use Rattle.algebra.proofs.Ring.{CRing, Domain, nat, pow, pow-zero, pow-suc, pow-mul, pow-ne, by1, by2, nil-mul, nil-right}
use Rattle.algebra.proofs.Reflect.{ring!, reify}
use Rattle.algebra.proofs.Divides.{Dvd, Coprime, coprime-dvd}
use Rattle.algebra.proofs.Series.{Below}
use Rattle.algebra.proofs.Poly.{Poly, add_p, mul_p, neg_p, nil_p, con_p, Poly-ring}
use Rattle.algebra.proofs.Degree.{HasDeg, con-below, deg-not-nil, deg-unique}
use Rattle.algebra.proofs.PolyDomain.{Poly-domain, short-multiple, P-cancel, deg-pow, dvd-degree}
use Rattle.algebra.proofs.Monic.{MonicP, monic-deg, monic-constant}
use Rattle.algebra.proofs.Derivative.{der_p, der-mul, der-con, der-pow, der-below, der-nil-constant}

module _ {A : Type 0} (R : CRing A) where
  pub yun-start : (f b c g : Poly R) → f ≡ mul_p R b g → der_p R f ≡ mul_p R c g → mul_p R (add_p R c (neg_p R (der_p R b))) g ≡ mul_p R b (der_p R g)
  yun-start f b c g e h = by1 (Poly-ring R) (con_p R R.one) (sym h ∙ ap (der_p R) e ∙ der-mul R b g)
      (ring! (Poly-ring R) (b ∷ c ∷ g ∷ der_p R b ∷ der_p R g ∷ []) (search reify depth 30 fits 20000) tt)

  -- the product through a round: f = P bⁱ g, b = a b' and g = next b' give f = (P aⁱ) b'ⁱ⁺¹ next
  pub yun-product : (i : ℕ) (f P a b b' g next : Poly R) → f ≡ mul_p R (mul_p R P (pow (Poly-ring R) b i)) g → b ≡ mul_p R a b' → g ≡ mul_p R next b'
      → f ≡ mul_p R (mul_p R (mul_p R P (pow (Poly-ring R) a i)) (pow (Poly-ring R) b' (suc i))) next
  unfolding pow
  yun-product i f P a b b' g next e h k =
      let pa : Poly R = pow (Poly-ring R) a i in
      let pb : Poly R = pow (Poly-ring R) b' i in
      e ∙ ap₂ (λ x y. mul_p R (mul_p R P (pow (Poly-ring R) x i)) y) h k ∙ ap (λ x. mul_p R (mul_p R P x) (mul_p R next b')) (pow-mul (Poly-ring R) a b' i)
      ∙ ring! (Poly-ring R) (P ∷ pa ∷ pb ∷ next ∷ b' ∷ []) (search reify depth 30 fits 20000) tt

module _ {A : Type 0} (D : Domain A) where
  abbrev S : CRing A
  S = D.ring

  -- b = a b' and d = a c', b' and c' coprime: b' divides g, and what is left fits the next round
  pub record YunStep (b' c' g : Poly S) : Type 0 where
    pub next : Poly S
    pub is : g ≡ mul_p S next b'
    pub fits : mul_p S (add_p S c' (neg_p S (der_p S b'))) next ≡ mul_p S b' (der_p S next)

  pub yun-step : (a b' c' g : Poly S) → a ≢ nil_p S → b' ≢ nil_p S → Coprime (Poly-ring S) b' c' → mul_p S (mul_p S a c') g ≡ mul_p S (mul_p S a b') (der_p S g) → YunStep b' c' g
  yun-step a b' c' g ha hb co e =
      let e₁ : mul_p S c' g ≡ mul_p S b' (der_p S g) =
      P-cancel D (mul_p S c' g) (mul_p S b' (der_p S g)) a ha
      (by1 (Poly-ring S) (con_p S S.one) e (ring! (Poly-ring S) (a ∷ b' ∷ c' ∷ g ∷ der_p S g ∷ []) (search reify depth 30 fits 20000) tt)) in
      let (n, f) = coprime-dvd (Poly-ring S) b' c' g co (der_p S g, e₁ ∙ (Poly-ring S).mul_comm b' (der_p S g)) in
      let e₂ = sym (ap (mul_p S c') f) ∙ e₁ ∙ ap (mul_p S b') (ap (der_p S) f ∙ der-mul S n b') in
      record {
        next = n;
        is = f;
        fits = P-cancel D (mul_p S (add_p S c' (neg_p S (der_p S b'))) n) (mul_p S b' (der_p S n)) b' hb
            (by1 (Poly-ring S) (con_p S S.one) e₂ (ring! (Poly-ring S) (b' ∷ c' ∷ n ∷ der_p S b' ∷ der_p S n ∷ []) (search reify depth 30 fits 20000) tt));
      }

module _ {A : Type 0} (D : Domain A) (char : (n : ℕ) → nat D.ring (suc n) ≢ D.ring.nil) where
  abbrev R : CRing A
  R = D.ring

  -- a monic polynomial whose derivative is 0 is 1
  pub monic-der-nil : (g : Poly R) → MonicP R g → der_p R g ≡ nil_p R → g ≡ con_p R R.one
  monic-der-nil g m e = monic-constant D g m (subst (λ z. Below R 1 z.0) (sym (der-nil-constant D char g e)) (con-below R (g.0 0)))

  -- the two ends: d = 0, and b = 1
  pub yun-nil : (b g : Poly R) → b ≢ nil_p R → MonicP R g → nil_p R ≡ mul_p R b (der_p R g) → g ≡ con_p R R.one
  yun-nil b g h m e = monic-der-nil g m (nil-right (Poly-domain D) b (der_p R g) h (sym e))

  pub yun-one : (d g : Poly R) → MonicP R g → mul_p R d g ≡ der_p R g → g ≡ con_p R R.one
  yun-one d g m e = monic-der-nil g m (sym e ∙ ap (λ z. mul_p R z g) none ∙ nil-mul (Poly-ring R) g)
    where
      none : d ≡ nil_p R
      none = short-multiple D d g m.degree (monic-deg D g m) (subst (λ z. Below R m.degree z.0) (sym e) (der-below R g m.degree m.ends))

-- ---- b is square-free

module _ {A : Type 0} (R : CRing A) where
  -- p (pᵏ)' = k pᵏ p'
  der-power : (p : Poly R) (k : ℕ) → mul_p R p (der_p R (pow (Poly-ring R) p k)) ≡ mul_p R (mul_p R (nat (Poly-ring R) k) (pow (Poly-ring R) p k)) (der_p R p)
  unfolding pow nat
  der-power p zero = by1 (Poly-ring R) p (der-con R R.one) (ring! (Poly-ring R) (p ∷ der_p R p ∷ der_p R (con_p R R.one) ∷ []) (search reify depth 30 fits 20000) tt)
  der-power p (suc k) = by1 (Poly-ring R) p (der-pow R p k)
      (ring! (Poly-ring R) (p ∷ der_p R p ∷ pow (Poly-ring R) p k ∷ nat (Poly-ring R) k ∷ der_p R (pow (Poly-ring R) p (suc k)) ∷ []) (search reify depth 30 fits 20000) tt)

module _ {A : Type 0} (D : Domain A) where
  abbrev T : CRing A
  T = D.ring

  -- what divides b twice divides g, and what is left of g, again and again
  module _ (b c g p h : Poly T) (some : p ≢ nil_p T) (co : Coprime (Poly-ring T) b c) (fits : mul_p T (add_p T c (neg_p T (der_p T b))) g ≡ mul_p T b (der_p T g)) (square : b ≡ mul_p T (mul_p T p p) h) where
    once-coprime : Coprime (Poly-ring T) p c
    once-coprime =
        let (s, t, e) = co in
        (mul_p T (mul_p T p h) s, t, by2 (Poly-ring T) (con_p T T.one) e (neg_p T s) square (ring! (Poly-ring T) (b ∷ c ∷ p ∷ h ∷ s ∷ t ∷ []) (search reify depth 30 fits 20000) tt))

    square-der : der_p T b ≡ add_p T (mul_p T (add_p T (mul_p T (der_p T p) p) (mul_p T p (der_p T p))) h) (mul_p T (mul_p T p p) (der_p T h))
    square-der = ap (der_p T) square ∙ der-mul T (mul_p T p p) h ∙ ap (λ z. add_p T (mul_p T z h) (mul_p T (mul_p T p p) (der_p T h))) (der-mul T p p)

    power-more : (k : ℕ) (u : Poly T) → g ≡ mul_p T u (pow (Poly-ring T) p k) → Dvd (Poly-ring T) p u
    power-more k u e =
        let pk : Poly T = pow (Poly-ring T) p k in
        let dk : Poly T = der_p T pk in
        let n : Poly T = nat (Poly-ring T) k in
        let dp : Poly T = der_p T p in
        let dh : Poly T = der_p T h in
        let du : Poly T = der_p T u in
        let db : Poly T = add_p T (mul_p T (add_p T (mul_p T dp p) (mul_p T p dp)) h) (mul_p T (mul_p T p p) dh) in
        let w : Poly T = add_p T (mul_p T (add_p T (mul_p T (add_p T dp dp) h) (mul_p T p dh)) u) (mul_p T h (add_p T (mul_p T p du) (mul_p T (mul_p T n u) dp))) in
        let f : mul_p T (add_p T c (neg_p T db)) (mul_p T u pk) ≡ mul_p T (mul_p T (mul_p T p p) h) (add_p T (mul_p T du pk) (mul_p T u dk)) =
        sym (ap₂ (λ x y. mul_p T (add_p T c (neg_p T x)) y) square-der e) ∙ fits ∙ ap₂ (mul_p T) square (ap (der_p T) e ∙ der-mul T u pk) in
        coprime-dvd (Poly-ring T) p c u once-coprime (
          w,
          P-cancel D (mul_p T c u) (mul_p T w p) pk (pow-ne (Poly-domain D) p some k)
              (by2 (Poly-ring T) (con_p T T.one) f (mul_p T (mul_p T p h) u) (der-power T p k)
              (ring! (Poly-ring T) (c ∷ p ∷ h ∷ u ∷ pk ∷ dk ∷ n ∷ dp ∷ dh ∷ du ∷ []) (search reify depth 30 fits 20000) tt)),
        )

    power_divides : (k : ℕ) → Dvd (Poly-ring T) (pow (Poly-ring T) p k) g
    power_divides zero = (g, sym (ap (mul_p T g) (pow-zero (Poly-ring T) p) ∙ (Poly-ring T).mul-one g))
    power_divides (suc k) =
        let (u, e) = power_divides k in
        let (v, f) = power-more k u e in
        (v, e ∙ ap (λ z. mul_p T z (pow (Poly-ring T) p k)) f ∙ by1 (Poly-ring T) (neg_p T v) (pow-suc (Poly-ring T) p k) (ring! (Poly-ring T) (v ∷ p ∷ pow (Poly-ring T) p k ∷ pow (Poly-ring T) p (suc k) ∷ []) (search reify depth 30 fits 20000) tt))

  -- so nothing of degree at least 1 divides b twice
  pub yun-square-free : (b c g : Poly T) (m : ℕ) → HasDeg T g m → Coprime (Poly-ring T) b c → mul_p T (add_p T c (neg_p T (der_p T b))) g ≡ mul_p T b (der_p T g)
      → (p : Poly T) (n : ℕ) → HasDeg T p (suc n) → Dvd (Poly-ring T) (mul_p T p p) b → ⊥
  yun-square-free b c g m dg co fits p n dp (h, e) =
      let power : Poly T = pow (Poly-ring T) p (suc m) in
      let (k, z) = dvd-degree D power g m
      (power_divides b c g p h (deg-not-nil T p (suc n) dp) co fits (e ∙ (Poly-ring T).mul_comm h (mul_p T p p)) (suc m)) dg in
      let same : k ≡ suc m * suc n = deg-unique T power k (suc m * suc n) z.0 (deg-pow D p (suc n) (suc m) dp) in
      let one : 1 ≤ suc n = omega arith in
      omega (arith, z.1, mul-le-mul_left (suc m) one)
