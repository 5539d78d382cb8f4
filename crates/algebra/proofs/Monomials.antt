-- The monomials c xʲ and the variable X, and what multiplying by them does to the coefficients.
use mathlib.Core.Path.{◌≡◌, refl, sym, ◌∙◌, ap, subst}
use mathlib.Core.Logic.{◌≢◌}
use mathlib.Core.List.{[], ◌∷◌}
use Prim.Native.Nat.{ℕ, zero, suc, ◌<◌, ◌+◌ as ◌+ⁿ◌}
use native.Mathlib.Omega.{arith}
use Rattle.algebra.proofs.Ring.{CRing, pow, by1, one-mul, nil-mul}
use Rattle.algebra.proofs.Reflect.{ring!, reify}
use Rattle.algebra.proofs.Series.{Ser, mul_s, nil_s, con_s, Below, nil-mul_s}
use Rattle.algebra.proofs.Poly.{Poly, mul_p, con_p, Poly-ring, mk-poly, poly-ext}

module _ {A : Type 0} (R : CRing A) where
  open R use {add as ◌+◌, mul as ◌*◌, nil as 𝟘, one as 𝟙}

  infixl 60 ◌+◌
  infixl 70 ◌*◌
  -- c xʲ
  unfoldable pub mon_s : A → ℕ → Ser R
  mon_s c zero zero = c
  mon_s c zero (suc k) = 𝟘
  mon_s c (suc j) zero = 𝟘
  mon_s c (suc j) (suc k) = mon_s c j k

  pub mon-below : (c : A) (j : ℕ) → Below R (suc j) (mon_s c j)
  unfolding mon_s
  mon-below c zero zero h = absurd (omega arith)
  mon-below c zero (suc k) h = refl
  mon-below c (suc j) zero h = absurd (omega arith)
  mon-below c (suc j) (suc k) h = mon-below c j k (omega arith)

  pub mon-mul : (c : A) (j : ℕ) (t : Ser R) (i k : ℕ) → i ≡ j +ⁿ k → mul_s R (mon_s c j) t i ≡ c * t k
  unfolding mon_s mul_s
  mon-mul c zero t zero k e = ap (λ n. c * t n) (omega arith)
  mon-mul c zero t (suc i) k e =
      let f : suc i ≡ k = omega arith in
      subst (λ n. c * t (suc i) + mul_s R (nil_s R) t i ≡ c * t n) f
      (by1 R 𝟙 (nil-mul_s R t i) (ring! R (c ∷ t (suc i) ∷ mul_s R (nil_s R) t i ∷ []) (search reify depth 30 fits 20000) tt))
  mon-mul c (suc j) t zero k e = absurd (omega arith)
  mon-mul c (suc j) t (suc i) k e = by1 R 𝟙 (mon-mul c j t i k (omega arith)) (ring! R (c ∷ t k ∷ t (suc i) ∷ mul_s R (mon_s c j) t i ∷ []) (search reify depth 30 fits 20000) tt)

  mon-low : (c : A) (j : ℕ) (t : Ser R) (i : ℕ) → i < j → mul_s R (mon_s c j) t i ≡ 𝟘
  unfolding mon_s mul_s
  mon-low c zero t i h = absurd (omega arith)
  mon-low c (suc j) t zero h = nil-mul R (t zero)
  mon-low c (suc j) t (suc i) h = by1 R 𝟙 (mon-low c j t i (omega arith)) (ring! R (t (suc i) ∷ mul_s R (mon_s c j) t i ∷ []) (search reify depth 30 fits 20000) tt)

  unfoldable pub mon_p : A → ℕ → Poly R
  mon_p c j = mk-poly R (suc j) (mon_s c j) (mon-below c j)

  unfoldable pub X : Poly R
  X = mon_p 𝟙 1

  mon_s-at : (c : A) (j : ℕ) → mon_s c j j ≡ c
  unfolding mon_s
  mon_s-at c zero = refl
  mon_s-at c (suc j) = mon_s-at c j

  mon_s-other : (c : A) (j k : ℕ) → k ≢ j → mon_s c j k ≡ 𝟘
  unfolding mon_s
  mon_s-other c zero zero h = absurd (h refl)
  mon_s-other c zero (suc k) h = refl
  mon_s-other c (suc j) zero h = refl
  mon_s-other c (suc j) (suc k) h = mon_s-other c j k (λ e. h (ap suc e))

  pub mon-at : (c : A) (j : ℕ) → (mon_p c j).0 j ≡ c
  unfolding mon_p mk-poly
  mon-at c j = mon_s-at c j

  pub mon-at-other : (c : A) (j k : ℕ) → k ≢ j → (mon_p c j).0 k ≡ 𝟘
  unfolding mon_p mk-poly
  mon-at-other c j k h = mon_s-other c j k h

  pub mon-mul-at : (c : A) (j : ℕ) (p : Poly R) (k : ℕ) → (mul_p R (mon_p c j) p).0 (j +ⁿ k) ≡ c * p.0 k
  unfolding mul_p mon_p mk-poly
  mon-mul-at c j p k = mon-mul c j p.0 (j +ⁿ k) k refl

  pub mon-mul-low : (c : A) (j : ℕ) (p : Poly R) (i : ℕ) → i < j → (mul_p R (mon_p c j) p).0 i ≡ 𝟘
  unfolding mul_p mon_p mk-poly
  mon-mul-low c j p i h = mon-low c j p.0 i h

  pub X-mul-zero : (p : Poly R) → (mul_p R X p).0 0 ≡ 𝟘
  unfolding X
  X-mul-zero p = mon-mul-low 𝟙 1 p 0 (omega arith)

  pub X-mul-suc : (p : Poly R) (n : ℕ) → (mul_p R X p).0 (suc n) ≡ p.0 n
  unfolding mul_p mon_p mk-poly X
  X-mul-suc p n = mon-mul 𝟙 1 p.0 (suc n) n (omega arith) ∙ one-mul R (p.0 n)

  pub mon-zero : (c : A) → mon_p c 0 ≡ con_p R c
  unfolding mon_p mon_s mk-poly con_p con_s
  mon-zero c = poly-ext R _ _ go
    where
      go : (n : ℕ) → mon_s c 0 n ≡ con_s R c n
      go zero = refl
      go (suc n) = refl

  pub mon-suc : (c : A) (j : ℕ) → mon_p c (suc j) ≡ mul_p R X (mon_p c j)
  unfolding mon_p mon_s mk-poly
  mon-suc c j = poly-ext R _ _ (λ n. go n)
    where
      go : (n : ℕ) → (mon_p c (suc j)).0 n ≡ (mul_p R X (mon_p c j)).0 n
      go zero = sym (X-mul-zero (mon_p c j))
      go (suc n) = sym (X-mul-suc (mon_p c j) n)

  pub mon-is : (c : A) (j : ℕ) → mon_p c j ≡ mul_p R (con_p R c) (pow (Poly-ring R) X j)
  unfolding pow
  mon-is c zero = mon-zero c ∙ sym ((Poly-ring R).mul-one (con_p R c))
  mon-is c (suc j) = mon-suc c j ∙ by1 (Poly-ring R) X (mon-is c j)
      (ring! (Poly-ring R) (X ∷ mon_p c j ∷ con_p R c ∷ pow (Poly-ring R) X j ∷ []) (search reify depth 30 fits 20000) tt)
