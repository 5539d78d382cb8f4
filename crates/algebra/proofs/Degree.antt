-- The degree of a polynomial; over a domain the least bound is a function, so a polynomial is zero or has a degree.
use mathlib.Core.Path.{◌≡◌, refl, sym, ◌∙◌, ap, subst, fun_ext}
use mathlib.Core.Logic.{◌≢◌}
use mathlib.Core.HLevel.{Π_prop, ×_prop, Σ_prop_path}
use mathlib.Core.List.{[], ◌∷◌}
use Prim.Native.Nat.{ℕ, zero, suc, ◌≤◌, ◌<◌, ◌+◌ as ◌+ⁿ◌}
use native.Mathlib.Omega.{arith}
use native.Mathlib.Bridge.{le_prop}
use native.Mathlib.Decide.{dec_le}
use Rattle.algebra.proofs.Ring.{CRing, Domain, by1, by2}
use Rattle.algebra.proofs.Reflect.{ring!, reify}
use Rattle.algebra.proofs.Series.{Ser, tl, mul_s, nil_s, nil-mul_s, Below, below-add, below-mul, below-neg, below-con, below-down}
use Rattle.algebra.proofs.Poly.{Poly, add_p, mul_p, neg_p, nil_p, con_p, by-bound, nil-at, mul_at, nil-below}
use Rattle.algebra.proofs.Constants.{con-at-zero}

module _ {A : Type 0} (R : CRing A) where
  open R use {add as ◌+◌, mul as ◌*◌, neg as -◌, nil as 𝟘, one as 𝟙}

  infixl 60 ◌+◌
  infixl 70 ◌*◌
  infix 75 -◌
  -- the leading coefficient of a product
  lead-mul : (m n i : ℕ) (s t : Ser R) → Below R (suc m) s → Below R (suc n) t → i ≡ m +ⁿ n → mul_s R s t i ≡ s m * t n
  unfolding mul_s
  lead-mul zero n zero s t hs ht e = ap (λ k. s zero * t k) (omega arith)
  lead-mul zero n (suc i) s t hs ht e =
      let f : suc i ≡ n = omega arith in
      subst (λ k. s zero * t (suc i) + mul_s R (tl R s) t i ≡ s zero * t k) f
      (by1 R 𝟙 (ap (λ z. mul_s R z t i) (fun_ext {f = tl R s} {g = nil_s R} (λ k. hs (suc k) (omega arith))) ∙ nil-mul_s R t i)
      (ring! R (s zero ∷ t (suc i) ∷ mul_s R (tl R s) t i ∷ []) (search reify depth 30 fits 20000) tt))
  lead-mul (suc m) n zero s t hs ht e = absurd (omega arith)
  lead-mul (suc m) n (suc i) s t hs ht e =
      by2 R (s zero) (ht (suc i) (omega arith)) 𝟙 (lead-mul m n i (tl R s) t (λ k h. hs (suc k) (omega arith)) ht (omega arith))
      (ring! R (s zero ∷ t (suc i) ∷ s (suc m) ∷ t n ∷ mul_s R (tl R s) t i ∷ []) (search reify depth 30 fits 20000) tt)

  pub mul-lead : (p q : Poly R) (m n : ℕ) → Below R (suc m) p.0 → Below R (suc n) q.0 → (mul_p R p q).0 (m +ⁿ n) ≡ p.0 m * q.0 n
  mul-lead p q m n hp hq = mul_at R p q (m +ⁿ n) ∙ lead-mul m n (m +ⁿ n) p.0 q.0 hp hq refl

  pub mul-below : (p q : Poly R) (m n : ℕ) → Below R (suc m) p.0 → Below R (suc n) q.0 → Below R (suc (m +ⁿ n)) (mul_p R p q).0
  mul-below p q m n hp hq k h = mul_at R p q k ∙ below-mul R (suc m) (suc n) p.0 q.0 hp hq k (omega arith)

  pub sum_below : (p q : Poly R) (n : ℕ) → Below R n p.0 → Below R n q.0 → Below R n (add_p R p q).0
  unfolding add_p
  sum_below p q n hp hq = below-add R n p.0 q.0 hp hq

  pub neg-below : (p : Poly R) (n : ℕ) → Below R n p.0 → Below R n (neg_p R p).0
  unfolding neg_p
  neg-below p n h = below-neg R n p.0 h

  pub con-below : (a : A) → Below R 1 (con_p R a).0
  unfolding con_p
  con-below a = below-con R a

  -- degree n: xⁿ has a coefficient that is not 0, and no higher power has
  pub record HasDeg (p : Poly R) (n : ℕ) : Type 0 where
    pub leads : p.0 n ≢ 𝟘
    pub ends : Below R (suc n) p.0

  -- a degree is below every bound
  pub deg-bound : (p : Poly R) (n m : ℕ) → HasDeg p n → Below R m p.0 → n < m
  deg-bound p n m d h = go (dec_le m n)
    where
      go : Dec (m ≤ n) → n < m
      go (yes l) = absurd (d.leads (h n l))
      go (no f) = omega arith

  pub deg-unique : (p : Poly R) (m n : ℕ) → HasDeg p m → HasDeg p n → m ≡ n
  deg-unique p m n d e =
      let a : m < suc n = deg-bound p m (suc n) d e.ends in
      let b : n < suc m = deg-bound p n (suc m) e d.ends in
      omega arith

  pub deg-not-nil : (p : Poly R) (n : ℕ) → HasDeg p n → p ≢ nil_p R
  deg-not-nil p n d e = d.leads (ap (λ z. z.0 n) e ∙ nil-at R n)

  pub deg-con : (a : A) → a ≢ 𝟘 → HasDeg (con_p R a) 0
  deg-con a h = record { leads = λ e. h (sym (con-at-zero R a) ∙ e); ends = con-below a }

  -- the longer part of a sum leads
  pub deg-add : (p q : Poly R) (n : ℕ) → HasDeg p n → Below R n q.0 → HasDeg (add_p R p q) n
  unfolding add_p
  deg-add p q n d h = record {
    leads = λ e. d.leads (by2 R 𝟙 e (- 𝟙) (h n (omega arith)) (ring! R (p.0 n ∷ q.0 n ∷ []) (search reify depth 30 fits 20000) tt));
    ends = sum_below p q (suc n) d.ends (λ k l. h k (omega arith));
  }

module _ {A : Type 0} (D : Domain A) where
  abbrev R : CRing A
  R = D.ring

  -- the least bound
  Least : Ser R → Type 0
  Least s = (n : ℕ) × (Below R n s × ((m : ℕ) → Below R m s → n ≤ m))

  least-prop : (s : Ser R) → IsProp (Least s)
  unfolding Least
  least-prop s x y = Σ_prop_path (λ n. ×_prop (Π_prop (λ k. Π_prop (λ h. R.is_set (s k) R.nil))) (Π_prop (λ m. Π_prop (λ h. le_prop))))
      (let a : x.0 ≤ y.0 = x.1.1 y.0 y.1.0 in let b : y.0 ≤ x.0 = y.1.1 x.0 x.1.0 in omega arith)

  least : (n : ℕ) (s : Ser R) → Below R n s → Least s
  unfolding Least
  least zero s h = (0, (h, λ m g. omega arith))
  least (suc n) s h = go (λ b. least n s b) (D.discrete (s n) R.nil)
    where
      over : s n ≢ R.nil → (m : ℕ) → Below R m s → suc n ≤ m
      over f m b = pick (dec_le m n)
        where
          pick : Dec (m ≤ n) → suc n ≤ m
          pick (yes l) = absurd (f (b n l))
          pick (no g) = omega arith

      go : (Below R n s → Least s) → Dec (s n ≡ R.nil) → Least s
      go rec (yes e) = rec (below-down R n s h e)
      go rec (no f) = (suc n, (h, over f))

  least-of : (p : Poly R) → Least p.0
  least-of p = by-bound R p (Least p.0) (least-prop p.0) (λ n b. least n p.0 b)

  -- the number of coefficients up to the last that is not 0
  pub length_p : Poly R → ℕ
  unfolding Least
  length_p p = (least-of p).0

  pub length-below : (p : Poly R) → Below R (length_p p) p.0
  unfolding Least length_p
  length-below p = (least-of p).1.0

  pub length-least : (p : Poly R) (m : ℕ) → Below R m p.0 → length_p p ≤ m
  unfolding Least length_p
  length-least p = (least-of p).1.1

  -- the last of them is not 0
  pub length-lead : (p : Poly R) (m : ℕ) → length_p p ≡ suc m → p.0 m ≢ R.nil
  length-lead p m e z =
      let l : length_p p ≤ m = length-least p m (below-down R m p.0 (subst (λ n. Below R n p.0) e (length-below p)) z) in
      absurd (omega arith)

  -- the polynomial is zero, or it has a degree
  pub data Size (p : Poly R) : Type 0 where
    null : p ≡ nil_p R → Size p
    sized : (n : ℕ) → HasDeg R p n → Size p

  pub size : (p : Poly R) → Size p
  size p = go (length_p p) refl
    where
      go : (n : ℕ) → length_p p ≡ n → Size p
      go zero e = null (nil-below R p (subst (λ n. Below R n p.0) e (length-below p)))
      go (suc m) e = sized m (record { leads = length-lead p m e; ends = subst (λ n. Below R n p.0) e (length-below p) })

  pub degree-of : (p : Poly R) → p ≢ nil_p R → (n : ℕ) × HasDeg R p n
  degree-of p h = go (size p)
    where
      go : Size p → (n : ℕ) × HasDeg R p n
      go (null e) = absurd (h e)
      go (sized n d) = (n, d)

  pub length-deg : (p : Poly R) (n : ℕ) → HasDeg R p n → length_p p ≡ suc n
  length-deg p n d =
      let a : length_p p ≤ suc n = length-least p (suc n) d.ends in
      let b : n < length_p p = deg-bound R p n (length_p p) d (length-below p) in
      omega arith
