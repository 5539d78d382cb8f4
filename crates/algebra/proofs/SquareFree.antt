-- Dividing a polynomial by what it shares with its derivative keeps every root.
use mathlib.Core.Path.{◌≡◌, sym, ◌∙◌, ap, ap₂, subst}
use mathlib.Core.Logic.{◌≢◌}
use mathlib.Core.List.{[], ◌∷◌}
use Prim.Native.Nat.{ℕ, zero, suc}
use Rattle.algebra.proofs.Ring.{CRing, Field, Field-domain, nat, pow, by1, by2, one-mul, mul-ne, pow-ne}
use Rattle.algebra.proofs.Reflect.{ring!, reify}
use Rattle.algebra.proofs.Divides.{Dvd, Coprime, dvd_trans, coprime-sym, coprime-pow, coprime-dvd}
use Rattle.algebra.proofs.Poly.{Poly, add_p, mul_p, neg_p, nil_p, con_p, Poly-ring}
use Rattle.algebra.proofs.RingMap.{map-nat}
use Rattle.algebra.proofs.Monomials.{X}
use Rattle.algebra.proofs.Degree.{deg-not-nil}
use Rattle.algebra.proofs.PolyDomain.{P-cancel, Poly-domain}
use Rattle.algebra.proofs.Gcd.{con-unit}
use Rattle.algebra.proofs.Evaluation.{ev, ev-mul, ev-map}
use Rattle.algebra.proofs.Roots.{linear, deg-linear, divides-root, split-value}
use Rattle.algebra.proofs.Multiplicity.{Multiplicity, multiplicity}
use Rattle.algebra.proofs.Derivative.{der_p, der-add, der-neg, der-con, der-X, der-mul, der-pow}

module _ {A : Type 0} (R : CRing A) where
  der-linear : (r : A) → der_p R (linear R r) ≡ con_p R R.one
  unfolding linear
  der-linear r = der-add R (X R) (neg_p R (con_p R r)) ∙ ap₂ (add_p R) (der-X R) (der-neg R (con_p R r)) ∙ by1 (Poly-ring R) (neg_p R (con_p R R.one)) (der-con R r)
      (ring! (Poly-ring R) (der_p R (con_p R r) ∷ []) (search reify depth 30 fits 20000) tt)

  -- ((x − r)ᵏ⁺¹ h)' = (x − r)ᵏ ((k + 1) h + (x − r) h')
  der-multiple : (r : A) (k : ℕ) (h : Poly R) → der_p R (mul_p R (pow (Poly-ring R) (linear R r) (suc k)) h)
      ≡ mul_p R (add_p R (mul_p R (nat (Poly-ring R) (suc k)) h) (mul_p R (linear R r) (der_p R h))) (pow (Poly-ring R) (linear R r) k)
  unfolding pow
  der-multiple r k h =
      der-mul R (pow (Poly-ring R) (linear R r) (suc k)) h
      ∙ by2 (Poly-ring R) h (der-pow R (linear R r) k) (mul_p R (mul_p R (nat (Poly-ring R) (suc k)) (pow (Poly-ring R) (linear R r) k)) h) (der-linear r)
      (ring! (Poly-ring R) (h ∷ der_p R h ∷ linear R r ∷ der_p R (linear R r) ∷ pow (Poly-ring R) (linear R r) k ∷ der_p R (pow (Poly-ring R) (linear R r) (suc k)) ∷ nat (Poly-ring R) (suc k) ∷ []) (search reify depth 30 fits 20000) tt)

module _ {A : Type 0} (K : Field A) where
  abbrev R : CRing A
  R = K.ring

  -- what is not zero at r is coprime to x − r
  pub root-coprime : (q : Poly R) (r : A) → ev R q r ≢ R.nil → Coprime (Poly-ring R) q (linear R r)
  root-coprime q r h =
      let (s, e) = split-value (Field-domain K) q r in
      let i : Poly R = con_p R (K.inv (ev R q r)) in (
        i,
        neg_p R (mul_p R s i),
        by2 (Poly-ring R) i e (con_p R R.one) (con-unit K (ev R q r) h)
            (ring! (Poly-ring R) (q ∷ s ∷ i ∷ linear R r ∷ con_p R (ev R q r) ∷ []) (search reify depth 30 fits 20000) tt),
      )

  -- (x − r)ᵏ⁺¹ divides ((x − r)ᵏ⁺¹ h)' only if x − r divides (k + 1) h
  power_divides : (r : A) (k : ℕ) (h : Poly R) → Dvd (Poly-ring R) (pow (Poly-ring R) (linear R r) (suc k)) (der_p R (mul_p R (pow (Poly-ring R) (linear R r) (suc k)) h))
      → Dvd (Poly-ring R) (linear R r) (mul_p R (nat (Poly-ring R) (suc k)) h)
  unfolding pow
  power_divides r k h (t, e) =
      let p : Poly R = pow (Poly-ring R) (linear R r) k in
      let n : Poly R = nat (Poly-ring R) (suc k) in
      let m : Poly R = add_p R (mul_p R n h) (mul_p R (linear R r) (der_p R h)) in
      let same : m ≡ mul_p R t (linear R r) =
      P-cancel (Field-domain K) m (mul_p R t (linear R r)) p (pow-ne (Poly-domain (Field-domain K)) (linear R r) (deg-not-nil R (linear R r) 1 (deg-linear (Field-domain K) r)) k)
      (sym (der-multiple R r k h) ∙ e ∙ ring! (Poly-ring R) (t ∷ p ∷ linear R r ∷ []) (search reify depth 30 fits 20000) tt) in (
        add_p R t (neg_p R (der_p R h)),
        by1 (Poly-ring R) (con_p R R.one) same (ring! (Poly-ring R) (t ∷ n ∷ h ∷ der_p R h ∷ linear R r ∷ []) (search reify depth 30 fits 20000) tt),
      )

  module _ (char : (n : ℕ) → nat R (suc n) ≢ R.nil) where
    ev-nat-mul : (n : ℕ) (h : Poly R) (r : A) → ev R (mul_p R (nat (Poly-ring R) n) h) r ≡ R.mul (nat R n) (ev R h r)
    ev-nat-mul n h r = ev-mul R (nat (Poly-ring R) n) h r ∙ ap (λ z. R.mul z (ev R h r)) (map-nat (Poly-ring R) R (ev-map R r) n)

    -- f = q g, and g divides f and f': the roots of f are those of q
    pub square-free-root : (f q g : Poly R) (r : A) → f ≢ nil_p R → f ≡ mul_p R q g → Dvd (Poly-ring R) g (der_p R f) → ev R f r ≡ R.nil → ev R q r ≡ R.nil
    unfolding pow
    square-free-root f q g r ne e d root = decide (K.discrete (ev R q r) R.nil)
      where
        none : ev R q r ≢ R.nil → (k : ℕ) (h : Poly R) → f ≡ mul_p R (pow (Poly-ring R) (linear R r) k) h → ev R h r ≢ R.nil → ⊥
        none z zero h i w = w (ap (λ y. ev R y r) (sym (i ∙ one-mul (Poly-ring R) h)) ∙ root)
        none z (suc k) h i w =
            let p : Poly R = pow (Poly-ring R) (linear R r) (suc k) in
            let pg : Dvd (Poly-ring R) p g =
            coprime-dvd (Poly-ring R) p q g (coprime-sym (Poly-ring R) q p (coprime-pow (Poly-ring R) q (linear R r) (suc k) (root-coprime q r z)))
            (h, sym e ∙ i ∙ (Poly-ring R).mul_comm p h) in
            let pd : Dvd (Poly-ring R) p (der_p R f) = dvd_trans (Poly-ring R) p g (der_p R f) pg d in
            let hn = power_divides r k h (subst (λ y. Dvd (Poly-ring R) p (der_p R y)) i pd) in
            mul-ne (Field-domain K) (nat R (suc k)) (ev R h r) (char k) w
            (sym (ev-nat-mul (suc k) h r) ∙ divides-root R (mul_p R (nat (Poly-ring R) (suc k)) h) r hn)

        decide : Dec (ev R q r ≡ R.nil) → ev R q r ≡ R.nil
        decide (yes z) = z
        decide (no z) = let m : Multiplicity (Field-domain K) f r = multiplicity (Field-domain K) f ne r in absurd (none z m.times m.rest m.is m.no-root)
