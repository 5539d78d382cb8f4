-- The derivative of a polynomial: linear, the rules of the product and of the power, and where it vanishes.
use mathlib.Core.Path.{◌≡◌, refl, sym, ◌∙◌, ap, ap₂, fun_ext}
use mathlib.Core.Logic.{◌≢◌, ∥∥₁_map}
use mathlib.Core.List.{[], ◌∷◌}
use Prim.Native.Nat.{ℕ, zero, suc}
use native.Mathlib.Omega.{arith}
use Rattle.algebra.proofs.Ring.{CRing, Domain, nat, pow, by1, by2, mul-nil, mul-neg, nil-right, mul-ne}
use Rattle.algebra.proofs.Reflect.{ring!, reify}
use Rattle.algebra.proofs.Series.{Ser, tl, add_s, mul_s, con_s, add-mul, mul_s-comm, Below}
use Rattle.algebra.proofs.Poly.{Poly, IsPoly, add_p, mul_p, neg_p, nil_p, con_p, Poly-ring, mk-poly, poly-ext, nil-path, nil-at}
use Rattle.algebra.proofs.Constants.{con-at-suc, con-of}
use Rattle.algebra.proofs.Monomials.{mon_s, mon_p, X}
use Rattle.algebra.proofs.Degree.{HasDeg}

module _ {A : Type 0} (R : CRing A) where
  open R use {add as ◌+◌, mul as ◌*◌, neg as -◌, one as 𝟙}

  infixl 60 ◌+◌
  infixl 70 ◌*◌
  infix 75 -◌
  -- x d/dx
  abbrev θ : Ser R → Ser R
  θ s n = nat R n * s n

  abbrev der_s : Ser R → Ser R
  der_s s n = nat R (suc n) * s (suc n)

  θ-tl : (s : Ser R) → (λ k. θ s (suc k)) ≡ add_s R (θ (tl R s)) (tl R s)
  unfolding nat
  θ-tl s = fun_ext (λ k. ring! R (nat R k ∷ s (suc k) ∷ []) (search reify depth 30 fits 20000) tt)

  θ-mul : (s t : Ser R) (n : ℕ) → θ (mul_s R s t) n ≡ mul_s R (θ s) t n + mul_s R s (θ t) n
  unfolding nat mul_s
  θ-mul s t zero = ring! R (s zero ∷ t zero ∷ []) (search reify depth 30 fits 20000) tt
  θ-mul s t (suc n) =
      by2 R 𝟙 (θ-mul (tl R s) t n) (- 𝟙) (ap (λ z. mul_s R z t n) (θ-tl s) ∙ add-mul R (θ (tl R s)) (tl R s) t n)
      (ring! R (nat R n ∷ s zero ∷ t (suc n) ∷ t zero ∷ mul_s R (tl R s) t n ∷ mul_s R (λ k. θ s (suc k)) t n ∷ mul_s R (θ (tl R s)) t n ∷ mul_s R (tl R s) (θ t) n ∷ []) (search reify depth 30 fits 20000) tt)

  θ-der : (s t : Ser R) (n : ℕ) → mul_s R (θ s) t (suc n) ≡ mul_s R (der_s s) t n
  unfolding nat mul_s
  θ-der s t n = ring! R (s zero ∷ t (suc n) ∷ mul_s R (der_s s) t n ∷ []) (search reify depth 30 fits 20000) tt

  der_s-mul : (s t : Ser R) (n : ℕ) → der_s (mul_s R s t) n ≡ mul_s R (der_s s) t n + mul_s R s (der_s t) n
  der_s-mul s t n =
      θ-mul s t (suc n) ∙ ap₂ ◌+◌ (θ-der s t n) (mul_s-comm R s (θ t) (suc n) ∙ θ-der t s n ∙ mul_s-comm R (der_s t) s n)

  der_s-below : (n : ℕ) (s : Ser R) → Below R (suc n) s → Below R n (der_s s)
  der_s-below n s h k l = ap (λ z. nat R (suc k) * z) (h (suc k) (omega arith)) ∙ mul-nil R (nat R (suc k))

  der_s-poly : (p : Poly R) → IsPoly R (der_s p.0)
  unfolding IsPoly
  der_s-poly p = ∥∥₁_map p.1 (λ (n, h). (n, der_s-below n p.0 (λ k l. h k (omega arith))))

  pub der_p : Poly R → Poly R
  der_p p = (der_s p.0, der_s-poly p)

  pub der-at : (p : Poly R) (n : ℕ) → (der_p p).0 n ≡ nat R (suc n) * p.0 (suc n)
  unfolding der_p
  der-at p n = refl

  -- it takes one off the length
  pub der-below : (p : Poly R) (n : ℕ) → Below R (suc n) p.0 → Below R n (der_p p).0
  unfolding der_p
  der-below p n h = der_s-below n p.0 h

  pub der-add : (p q : Poly R) → der_p (add_p R p q) ≡ add_p R (der_p p) (der_p q)
  unfolding der_p add_p
  der-add p q = poly-ext R _ _ (λ n. R.distl (nat R (suc n)) (p.0 (suc n)) (q.0 (suc n)))

  pub der-neg : (p : Poly R) → der_p (neg_p R p) ≡ neg_p R (der_p p)
  unfolding der_p neg_p
  der-neg p = poly-ext R _ _ (λ n. mul-neg R (nat R (suc n)) (p.0 (suc n)))

  pub der-mul : (p q : Poly R) → der_p (mul_p R p q) ≡ add_p R (mul_p R (der_p p) q) (mul_p R p (der_p q))
  unfolding der_p add_p mul_p
  der-mul p q = poly-ext R _ _ (λ n. der_s-mul p.0 q.0 n)

  pub der-con : (a : A) → der_p (con_p R a) ≡ nil_p R
  der-con a = nil-path R (der_p (con_p R a)) (λ n. der-at (con_p R a) n ∙ ap (λ z. nat R (suc n) * z) (con-at-suc R a n) ∙ mul-nil R (nat R (suc n)))

  pub der-scaled : (c : A) (p : Poly R) → der_p (mul_p R (con_p R c) p) ≡ mul_p R (con_p R c) (der_p p)
  der-scaled c p = der-mul (con_p R c) p ∙ by1 (Poly-ring R) p (der-con c)
      (ring! (Poly-ring R) (p ∷ der_p p ∷ con_p R c ∷ der_p (con_p R c) ∷ []) (search reify depth 30 fits 20000) tt)

  pub der-X : der_p (X R) ≡ con_p R 𝟙
  unfolding der_p X mon_p mon_s mk-poly nat con_p con_s
  der-X = poly-ext R _ _ go
    where
      go : (n : ℕ) → der_s (X R).0 n ≡ (con_p R 𝟙).0 n
      go zero = ring! R [] (search reify depth 30 fits 20000) tt
      go (suc n) = mul-nil R (nat R (suc (suc n)))

  -- (a + x p)' = p + x p'
  pub der-horner : (a : A) (p : Poly R) → der_p (add_p R (con_p R a) (mul_p R (X R) p)) ≡ add_p R p (mul_p R (X R) (der_p p))
  der-horner a p =
      der-add (con_p R a) (mul_p R (X R) p) ∙ ap (add_p R (der_p (con_p R a))) (der-mul (X R) p)
      ∙ by2 (Poly-ring R) (con_p R 𝟙) (der-con a) p der-X
      (ring! (Poly-ring R) (p ∷ der_p p ∷ X R ∷ der_p (X R) ∷ der_p (con_p R a) ∷ []) (search reify depth 30 fits 20000) tt)

  -- (pⁿ⁺¹)' = (n + 1) pⁿ p'
  pub der-pow : (p : Poly R) (n : ℕ) → der_p (pow (Poly-ring R) p (suc n)) ≡ mul_p R (mul_p R (nat (Poly-ring R) (suc n)) (pow (Poly-ring R) p n)) (der_p p)
  unfolding pow nat
  der-pow p zero = der-mul (con_p R 𝟙) p ∙ by1 (Poly-ring R) p (der-con 𝟙)
      (ring! (Poly-ring R) (p ∷ der_p p ∷ der_p (con_p R 𝟙) ∷ []) (search reify depth 30 fits 20000) tt)
  der-pow p (suc n) = der-mul (pow (Poly-ring R) p (suc n)) p ∙ by1 (Poly-ring R) p (der-pow p n)
      (ring! (Poly-ring R) (p ∷ der_p p ∷ pow (Poly-ring R) p n ∷ nat (Poly-ring R) n ∷ der_p (pow (Poly-ring R) p (suc n)) ∷ []) (search reify depth 30 fits 20000) tt)

-- in characteristic 0
module _ {A : Type 0} (D : Domain A) (char : (n : ℕ) → nat D.ring (suc n) ≢ D.ring.nil) where
  abbrev R : CRing A
  R = D.ring

  -- what has no derivative is a constant
  pub der-nil-constant : (p : Poly R) → der_p R p ≡ nil_p R → p ≡ con_p R (p.0 0)
  der-nil-constant p e = con-of R p short
    where
      short : Below R 1 p.0
      short zero h = absurd (omega arith)
      short (suc k) h = nil-right D (nat R (suc k)) (p.0 (suc k)) (char k) (sym (der-at R p k) ∙ ap (λ z. z.0 k) e ∙ nil-at R k)

  pub deg-der : (p : Poly R) (n : ℕ) → HasDeg R p (suc n) → HasDeg R (der_p R p) n
  deg-der p n d = record {
    leads = λ e. mul-ne D (nat R (suc n)) (p.0 (suc n)) (char n) d.leads (sym (der-at R p n) ∙ e);
    ends = der-below R p (suc n) d.ends;
  }
