-- Polynomials: the series that end. A commutative ring with path equality; p.0 n is the coefficient of xⁿ.
use mathlib.Core.Path.{◌≡◌, refl, sym, ◌∙◌, fun_ext}
use mathlib.Core.HLevel.{Σ_set, Σ_prop_path, prop→set}
use mathlib.Core.Logic.{∥∥₁_prop, ∥∥₁_map, ∥∥₁_map₂, ∥∥₁_elim}
use Prim.Native.Nat.{ℕ, ◌+◌ as ◌+ⁿ◌}
use native.Mathlib.Omega.{arith}
use Rattle.algebra.proofs.Ring.{CRing}
use Rattle.algebra.proofs.Series.{Ser, add_s, mul_s, neg_s, nil_s, con_s, Ser-ring, Below, below-mul, below-add, below-neg, below-con}

module _ {A : Type 0} (R : CRing A) where
  unfoldable pub IsPoly : Ser R → Type 0
  IsPoly s = ∥ ((n : ℕ) × Below R n s) ∥₁

  is_poly-prop : (s : Ser R) → IsProp (IsPoly s)
  unfolding IsPoly
  is_poly-prop s = ∥∥₁_prop

  abbrev pub Poly : Type 0
  Poly = (s : Ser R) × IsPoly s

  pub poly-add : (p q : Poly) → IsPoly (add_s R p.0 q.0)
  unfolding IsPoly
  poly-add p q = ∥∥₁_map₂ p.1 q.1 (λ (m, hm) (n, hn). (m +ⁿ n, below-add R (m +ⁿ n) p.0 q.0 (λ k h. hm k (omega arith)) (λ k h. hn k (omega arith))))

  pub poly-mul : (p q : Poly) → IsPoly (mul_s R p.0 q.0)
  unfolding IsPoly
  poly-mul p q = ∥∥₁_map₂ p.1 q.1 (λ (m, hm) (n, hn). (m +ⁿ n, λ k h. below-mul R m n p.0 q.0 hm hn k (omega arith)))

  pub poly-neg : (p : Poly) → IsPoly (neg_s R p.0)
  unfolding IsPoly
  poly-neg p = ∥∥₁_map p.1 (λ (m, hm). (m, below-neg R m p.0 hm))

  pub poly-con : (a : A) → IsPoly (con_s R a)
  unfolding IsPoly
  poly-con a = ∣ (1, below-con R a) ∣₁

  pub poly-nil : IsPoly (nil_s R)
  unfolding IsPoly
  poly-nil = ∣ (0, λ k h. refl) ∣₁

  unfoldable pub add_p : Poly → Poly → Poly
  add_p p q = (add_s R p.0 q.0, poly-add p q)

  unfoldable pub mul_p : Poly → Poly → Poly
  mul_p p q = (mul_s R p.0 q.0, poly-mul p q)

  unfoldable pub neg_p : Poly → Poly
  neg_p p = (neg_s R p.0, poly-neg p)

  unfoldable pub nil_p : Poly
  nil_p = (nil_s R, poly-nil)

  unfoldable pub con_p : A → Poly
  con_p a = (con_s R a, poly-con a)

  pub poly-path : (p q : Poly) → p.0 ≡ q.0 → p ≡ q
  poly-path p q e = Σ_prop_path is_poly-prop e

  -- polynomials with equal coefficients are equal
  pub poly-ext : (p q : Poly) → ((n : ℕ) → p.0 n ≡ q.0 n) → p ≡ q
  poly-ext p q e = poly-path p q (fun_ext e)

  pub Poly-set : IsSet Poly
  unfolding Ser-ring
  Poly-set = Σ_set (Ser-ring R).is_set (λ s. prop→set (is_poly-prop s))

  pub P-add-assoc : (p q r : Poly) → add_p (add_p p q) r ≡ add_p p (add_p q r)
  unfolding Ser-ring add_p mul_p neg_p nil_p con_p
  P-add-assoc p q r = poly-path _ _ ((Ser-ring R).add_assoc p.0 q.0 r.0)

  pub P-add-comm : (p q : Poly) → add_p p q ≡ add_p q p
  unfolding Ser-ring add_p mul_p neg_p nil_p con_p
  P-add-comm p q = poly-path _ _ ((Ser-ring R).add_comm p.0 q.0)

  pub P-add-nil : (p : Poly) → add_p p nil_p ≡ p
  unfolding Ser-ring add_p mul_p neg_p nil_p con_p
  P-add-nil p = poly-path _ _ ((Ser-ring R).add-nil p.0)

  pub P-add-neg : (p : Poly) → add_p p (neg_p p) ≡ nil_p
  unfolding Ser-ring add_p mul_p neg_p nil_p con_p
  P-add-neg p = poly-path _ _ ((Ser-ring R).add-neg p.0)

  pub P-mul-assoc : (p q r : Poly) → mul_p (mul_p p q) r ≡ mul_p p (mul_p q r)
  unfolding Ser-ring add_p mul_p neg_p nil_p con_p
  P-mul-assoc p q r = poly-path _ _ ((Ser-ring R).mul_assoc p.0 q.0 r.0)

  pub P-mul-comm : (p q : Poly) → mul_p p q ≡ mul_p q p
  unfolding Ser-ring add_p mul_p neg_p nil_p con_p
  P-mul-comm p q = poly-path _ _ ((Ser-ring R).mul_comm p.0 q.0)

  pub P-mul-one : (p : Poly) → mul_p p (con_p R.one) ≡ p
  unfolding Ser-ring add_p mul_p neg_p nil_p con_p
  P-mul-one p = poly-path _ _ ((Ser-ring R).mul-one p.0)

  pub P-distl : (p q r : Poly) → mul_p p (add_p q r) ≡ add_p (mul_p p q) (mul_p p r)
  unfolding Ser-ring add_p mul_p neg_p nil_p con_p
  P-distl p q r = poly-path _ _ ((Ser-ring R).distl p.0 q.0 r.0)

  abbrev pub Poly-ring : CRing Poly
  Poly-ring = record {
    is_set = Poly-set;
    add = add_p;
    mul = mul_p;
    neg = neg_p;
    nil = nil_p;
    one = con_p R.one;
    add_assoc = P-add-assoc;
    add_comm = P-add-comm;
    add-nil = P-add-nil;
    add-neg = P-add-neg;
    mul_assoc = P-mul-assoc;
    mul_comm = P-mul-comm;
    mul-one = P-mul-one;
    distl = P-distl;
  }

  unfoldable pub mk-poly : (n : ℕ) (s : Ser R) → Below R n s → Poly
  unfolding IsPoly
  mk-poly n s h = (s, ∣ (n, h) ∣₁)

  -- to prove a proposition of p, take a bound of it
  pub by-bound : (p : Poly) (P : Type 0) → IsProp P → ((n : ℕ) → Below R n p.0 → P) → P
  unfolding IsPoly
  by-bound p P h f = ∥∥₁_elim p.1 h (λ (n, b). f n b)

  -- the coefficients of the operations
  pub nil-at : (n : ℕ) → nil_p.0 n ≡ R.nil
  unfolding nil_p
  nil-at n = refl

  pub add_at : (p q : Poly) (n : ℕ) → (add_p p q).0 n ≡ R.add (p.0 n) (q.0 n)
  unfolding add_p
  add_at p q n = refl

  pub neg-at : (p : Poly) (n : ℕ) → (neg_p p).0 n ≡ R.neg (p.0 n)
  unfolding neg_p
  neg-at p n = refl

  pub mul_at : (p q : Poly) (n : ℕ) → (mul_p p q).0 n ≡ mul_s R p.0 q.0 n
  unfolding mul_p
  mul_at p q n = refl

  pub nil-path : (p : Poly) → ((n : ℕ) → p.0 n ≡ R.nil) → p ≡ nil_p
  nil-path p e = poly-ext p nil_p (λ n. e n ∙ sym (nil-at n))

  pub nil-below : (p : Poly) → Below R 0 p.0 → p ≡ nil_p
  nil-below p h = nil-path p (λ n. h n (omega arith))
