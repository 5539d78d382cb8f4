-- Roots: Horner's rule is the remainder by x − r, a root splits off a linear factor, and there are no more roots than the degree.
use mathlib.Core.Path.{◌≡◌, sym, ◌∙◌, ap, ap₂, subst}
use mathlib.Core.Logic.{◌≢◌, ◌⊎◌, inl, inr}
use mathlib.Core.List.Pairwise
use mathlib.Core.List.{List, [], ◌∷◌, Mem, Nodup, mem-cons_self, mem-cons_of_mem}
use Prim.Native.Nat.{ℕ, suc, ◌≤◌}
use native.Mathlib.Omega.{arith}
use lib.ListN.{length}
use Rattle.algebra.proofs.Ring.{CRing, Domain, Field, by1, by2, nil-mul, mul-nil, sub-nil, nil-left, nil-factor}
use Rattle.algebra.proofs.Reflect.{ring!, reify}
use Rattle.algebra.proofs.Poly.{Poly, Poly-ring, mk-poly, add_p, mul_p, neg_p, nil_p, con_p, add_at, neg-at}
use Rattle.algebra.proofs.Constants.{con-nil, con-add, con-mul, con-at-suc}
use Rattle.algebra.proofs.Monomials.{mon_s, mon-below, mon_p, X}
use Rattle.algebra.proofs.Degree.{HasDeg, deg-unique, sum_below, neg-below, con-below}
use Rattle.algebra.proofs.PolyDomain.{FactorDegrees, deg-factors}
use Rattle.algebra.proofs.Divides.{Dvd}
use Rattle.algebra.proofs.Monic.{MonicP, monic-deg}
use Rattle.algebra.proofs.Listed.{poly_of, to_list, poly_of-to_list}
use Rattle.algebra.proofs.Evaluation.{ev_s, ev, ev-is, ev-con, ev-X, ev-add, ev-mul, ev-neg, horner, ev-poly_of}

module _ {A : Type 0} (R : CRing A) where
  open R use {add as ◌+◌, mul as ◌*◌, neg as -◌, nil as 𝟘, one as 𝟙}

  infixl 60 ◌+◌
  infixl 70 ◌*◌
  infix 75 -◌
  -- x − r
  unfoldable pub linear : A → Poly R
  linear r = add_p R (X R) (neg_p R (con_p R r))

  pub ev-linear : (r x : A) → ev R (linear r) x ≡ x + - r
  unfolding linear
  ev-linear r x = ev-add R (X R) (neg_p R (con_p R r)) x ∙ ap₂ ◌+◌ (ev-X R x) (ev-neg R (con_p R r) x ∙ ap -◌ (ev-con R r x))

  pub monic-linear : (r : A) → MonicP R (linear r)
  unfolding linear X mon_p mon_s mk-poly
  monic-linear r = record {
    degree = 1;
    leads = add_at R (X R) (neg_p R (con_p R r)) 1 ∙ ap (λ z. 𝟙 + z) (neg-at R (con_p R r) 1) ∙ by1 R (- 𝟙) (con-at-suc R r 0) (ring! R ((con_p R r).0 1 ∷ []) (search reify depth 30 fits 20000) tt);
    ends = sum_below R (X R) (neg_p R (con_p R r)) 2 (mon-below R 𝟙 1) (λ k h. neg-below R (con_p R r) 1 (con-below R r) k (omega arith));
  }

  -- the quotient by x − r, as Horner's rule goes
  unfoldable pub synth : List A → A → Poly R
  synth [] r = nil_p R
  synth (a ∷ l) r = add_p R (mul_p R (X R) (synth l r)) (con_p R (horner R l r))

  pub remainder : (l : List A) (r : A) → poly_of R l ≡ add_p R (mul_p R (synth l r) (linear r)) (con_p R (horner R l r))
  unfolding poly_of horner synth linear
  remainder [] r = by1 (Poly-ring R) (neg_p R (con_p R 𝟙)) (con-nil R) (ring! (Poly-ring R) (X R ∷ con_p R r ∷ con_p R 𝟘 ∷ []) (search reify depth 30 fits 20000) tt)
  remainder (a ∷ l) r =
      by2 (Poly-ring R) (X R) (remainder l r) (neg_p R (con_p R 𝟙)) (con-add R a (r * horner R l r) ∙ ap (add_p R (con_p R a)) (con-mul R r (horner R l r)))
      (ring! (Poly-ring R) (X R ∷ con_p R a ∷ con_p R r ∷ poly_of R l ∷ synth l r ∷ con_p R (horner R l r) ∷ con_p R (a + r * horner R l r) ∷ []) (search reify depth 30 fits 20000) tt)

  -- a root of a divisor is a root
  pub root-multiple : (d p : Poly R) (r : A) → Dvd (Poly-ring R) d p → ev R d r ≡ 𝟘 → ev R p r ≡ 𝟘
  root-multiple d p r (q, e) h = ap (λ z. ev R z r) e ∙ ev-mul R q d r ∙ ap (λ z. ev R q r * z) h ∙ mul-nil R (ev R q r)

  pub divides-root : (p : Poly R) (r : A) → Dvd (Poly-ring R) (linear r) p → ev R p r ≡ 𝟘
  divides-root p r d = root-multiple (linear r) p r d (ev-linear r r ∙ R.add-neg r)

module _ {A : Type 0} (D : Domain A) where
  abbrev R : CRing A
  R = D.ring

  open R use {add as ◌+◌, mul as ◌*◌, neg as -◌, nil as 𝟘}

  infixl 60 ◌+◌
  infixl 70 ◌*◌
  infix 75 -◌
  pub split-value : (p : Poly R) (r : A) → (q : Poly R) × (p ≡ add_p R (mul_p R q (linear R r)) (con_p R (ev R p r)))
  split-value p r = (
    synth R (to_list D p) r,
    sym (poly_of-to_list D p) ∙ remainder R (to_list D p) r ∙ ap (λ z. add_p R (mul_p R (synth R (to_list D p) r) (linear R r)) (con_p R z)) (sym (ev-poly_of R (to_list D p) r) ∙ ap (λ z. ev R z r) (poly_of-to_list D p)),
  )

  -- the factor theorem
  pub root-divides : (p : Poly R) (r : A) → ev R p r ≡ 𝟘 → Dvd (Poly-ring R) (linear R r) p
  root-divides p r h =
      let (q, e) = split-value p r in
      (q, e ∙ ap (λ z. add_p R (mul_p R q (linear R r)) z) (ap (con_p R) h ∙ con-nil R) ∙ (Poly-ring R).add-nil (mul_p R q (linear R r)))

  -- a product is zero at r exactly if a factor is
  pub root-factor : (p q : Poly R) (r : A) → ev R (mul_p R p q) r ≡ 𝟘 → (ev R p r ≡ 𝟘) ⊎ (ev R q r ≡ 𝟘)
  root-factor p q r e = nil-factor D (ev R p r) (ev R q r) (sym (ev-mul R p q r) ∙ e)

  pub root-product : (p q : Poly R) (r : A) → (ev R p r ≡ 𝟘) ⊎ (ev R q r ≡ 𝟘) → ev R (mul_p R p q) r ≡ 𝟘
  root-product p q r (inl e) = ev-mul R p q r ∙ ap (λ z. z * ev R q r) e ∙ nil-mul R (ev R q r)
  root-product p q r (inr e) = ev-mul R p q r ∙ ap (λ z. ev R p r * z) e ∙ mul-nil R (ev R p r)

  pub deg-linear : (r : A) → HasDeg R (linear R r) 1
  unfolding monic-linear
  deg-linear r = monic-deg D (linear R r) (monic-linear R r)

  -- a root takes one off the degree
  pub linear-quotient : (p q : Poly R) (r : A) (n : ℕ) → HasDeg R p n → p ≡ mul_p R q (linear R r) → (m : ℕ) × (HasDeg R q m × (n ≡ suc m))
  linear-quotient p q r n d e =
      let f : FactorDegrees D q (linear R r) n = deg-factors D q (linear R r) n (subst (λ z. HasDeg R z n) e d) in
      let one : f.right ≡ 1 = deg-unique R (linear R r) f.right 1 f.deg-right (deg-linear r) in
      (f.left, (f.deg-left, let s = f.adds in omega arith))

  -- there are no more roots than the degree
  pub roots_few : (p : Poly R) (n : ℕ) → HasDeg R p n → (l : List A) → Nodup l → ((x : A) → Mem x l → ev R p x ≡ 𝟘) → length l ≤ n
  roots_few p n d [] t h = omega arith
  roots_few p n d (r ∷ l) (Pairwise.cons f t) h =
      let (q, e) = root-divides p r (h r mem-cons_self) in
      let (m, g) = linear-quotient p q r n d e in
      let few : length l ≤ m = roots_few q m g.0 l t (λ x i. other x (f x i) q e (h x (mem-cons_of_mem r i))) in
      let z = g.1 in
      omega arith
    where
      other : (x : A) → r ≢ x → (q : Poly R) → p ≡ mul_p R q (linear R r) → ev R p x ≡ 𝟘 → ev R q x ≡ 𝟘
      other x ne q e z = nil-left D (ev R q x) (x + - r) (λ w. ne (sym (sub-nil R x r w)))
          (ap (λ y. ev R q x * y) (sym (ev-linear R r x)) ∙ sym (ap (λ y. ev R y x) e ∙ ev-mul R q (linear R r) x) ∙ z)

module _ {A : Type 0} (K : Field A) where
  abbrev F : CRing A
  F = K.ring

  -- degree 1 has a root
  pub linear-root : (p : Poly F) → HasDeg F p 1 → (r : A) × (ev F p r ≡ F.nil)
  unfolding ev_s
  linear-root p d =
      let r : A = F.neg (F.mul (p.0 0) (K.inv (p.0 1))) in (
        r,
        ev-is F p r 2 d.ends ∙ by1 F (F.neg (p.0 0)) (K.mul-inv (p.0 1) d.leads)
            (ring! F (p.0 0 ∷ p.0 1 ∷ K.inv (p.0 1) ∷ []) (search reify depth 30 fits 20000) tt),
      )
