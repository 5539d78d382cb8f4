-- Power series over a commutative ring, as functions of the exponent: a commutative ring with path equality. A polynomial is a series that ends.
use mathlib.Core.Path.{◌≡◌, refl, ◌∙◌, ap, ap₂, fun_ext}
use mathlib.Core.HLevel.{Π_set}
use mathlib.Core.List.{[], ◌∷◌}
use Prim.Native.Nat.{ℕ, zero, suc, ◌≤◌, ◌+◌ as ◌+ⁿ◌}
use native.Mathlib.Omega.{arith}
use native.Mathlib.Decide.{ℕ_discrete}
use Rattle.algebra.proofs.Ring.{CRing, by1, by2, nil-mul, mul-nil, distr}
use Rattle.algebra.proofs.Reflect.{ring!, reify}

module _ {A : Type 0} (R : CRing A) where
  open R use {add as ◌+◌, mul as ◌*◌, neg as -◌, nil as 𝟘, one as 𝟙, is_set, mul_comm, mul_assoc, add_assoc, add_comm, add-nil, add-neg}

  infixl 60 ◌+◌
  infixl 70 ◌*◌
  infix 75 -◌
  abbrev pub Ser : Type 0
  Ser = ℕ → A

  abbrev pub tl : Ser → Ser
  tl s n = s (suc n)

  abbrev pub add_s : Ser → Ser → Ser
  add_s s t n = s n + t n

  abbrev pub neg_s : Ser → Ser
  neg_s s n = - s n

  abbrev pub nil_s : Ser
  nil_s n = 𝟘

  unfoldable pub con_s : A → Ser
  con_s a zero = a
  con_s a (suc n) = 𝟘

  unfoldable pub mul_s : Ser → Ser → Ser
  mul_s s t zero = s zero * t zero
  mul_s s t (suc n) = s zero * t (suc n) + mul_s (tl s) t n

  pub add-mul : (s s' t : Ser) (n : ℕ) → mul_s (add_s s s') t n ≡ mul_s s t n + mul_s s' t n
  unfolding mul_s
  add-mul s s' t zero = distr R (s zero) (s' zero) (t zero)
  add-mul s s' t (suc n) = by1 R 𝟙 (add-mul (tl s) (tl s') t n)
      (ring! R (s zero ∷ s' zero ∷ t (suc n) ∷ mul_s (add_s (tl s) (tl s')) t n ∷ mul_s (tl s) t n ∷ mul_s (tl s') t n ∷ []) (search reify depth 30 fits 20000) tt)

  pub scal-mul : (c : A) (s t : Ser) (n : ℕ) → mul_s (λ k. c * s k) t n ≡ c * mul_s s t n
  unfolding mul_s
  scal-mul c s t zero = mul_assoc c (s zero) (t zero)
  scal-mul c s t (suc n) = by1 R 𝟙 (scal-mul c (tl s) t n)
      (ring! R (c ∷ s zero ∷ t (suc n) ∷ mul_s (λ k. c * tl s k) t n ∷ mul_s (tl s) t n ∷ []) (search reify depth 30 fits 20000) tt)

  pub nil-mul_s : (t : Ser) (n : ℕ) → mul_s nil_s t n ≡ 𝟘
  unfolding mul_s
  nil-mul_s t zero = nil-mul R (t zero)
  nil-mul_s t (suc n) = by1 R 𝟙 (nil-mul_s t n) (ring! R (t (suc n) ∷ mul_s nil_s t n ∷ []) (search reify depth 30 fits 20000) tt)

  -- the other end of the sum
  mul-last : (s t : Ser) (n : ℕ) → mul_s s t (suc n) ≡ mul_s s (tl t) n + s (suc n) * t zero
  unfolding mul_s
  mul-last s t zero = refl
  mul-last s t (suc n) = by1 R 𝟙 (mul-last (tl s) t n)
      (ring! R (s zero ∷ t (suc (suc n)) ∷ mul_s (tl s) t (suc n) ∷ mul_s (tl s) (tl t) n ∷ s (suc (suc n)) ∷ t zero ∷ []) (search reify depth 30 fits 20000) tt)

  pub mul_s-comm : (s t : Ser) (n : ℕ) → mul_s s t n ≡ mul_s t s n
  unfolding mul_s
  mul_s-comm s t zero = mul_comm (s zero) (t zero)
  mul_s-comm s t (suc n) = by2 R 𝟙 (mul_s-comm (tl s) t n) (- 𝟙) (mul-last t s n)
      (ring! R (s zero ∷ t (suc n) ∷ mul_s (tl s) t n ∷ mul_s t (tl s) n ∷ mul_s t s (suc n) ∷ []) (search reify depth 30 fits 20000) tt)

  pub mul_s-assoc : (s t u : Ser) (n : ℕ) → mul_s (mul_s s t) u n ≡ mul_s s (mul_s t u) n
  unfolding mul_s
  mul_s-assoc s t u zero = mul_assoc (s zero) (t zero) (u zero)
  mul_s-assoc s t u (suc n) =
      ap (λ z. s zero * t zero * u (suc n) + z) (add-mul (λ k. s zero * tl t k) (mul_s (tl s) t) u n ∙ ap₂ ◌+◌ (scal-mul (s zero) (tl t) u n) (mul_s-assoc (tl s) t u n))
      ∙ ring! R (s zero ∷ t zero ∷ u (suc n) ∷ mul_s (tl t) u n ∷ mul_s (tl s) (mul_s t u) n ∷ []) (search reify depth 30 fits 20000) tt

  pub one_s-mul : (s : Ser) (n : ℕ) → mul_s (con_s 𝟙) s n ≡ s n
  unfolding mul_s con_s
  one_s-mul s zero = ring! R (s zero ∷ []) (search reify depth 30 fits 20000) tt
  one_s-mul s (suc n) = by1 R 𝟙 (nil-mul_s s n) (ring! R (s (suc n) ∷ mul_s nil_s s n ∷ []) (search reify depth 30 fits 20000) tt)

  pub mul_s-distl : (s t u : Ser) (n : ℕ) → mul_s s (add_s t u) n ≡ mul_s s t n + mul_s s u n
  mul_s-distl s t u n = mul_s-comm s (add_s t u) n ∙ add-mul t u s n ∙ ap₂ ◌+◌ (mul_s-comm t s n) (mul_s-comm u s n)

  unfoldable pub Ser-ring : CRing Ser
  Ser-ring = record {
    is_set = Π_set (λ _. is_set);
    add = add_s;
    mul = mul_s;
    neg = neg_s;
    nil = nil_s;
    one = con_s 𝟙;
    add_assoc = λ s t u. fun_ext (λ n. add_assoc (s n) (t n) (u n));
    add_comm = λ s t. fun_ext (λ n. add_comm (s n) (t n));
    add-nil = λ s. fun_ext (λ n. add-nil (s n));
    add-neg = λ s. fun_ext (λ n. add-neg (s n));
    mul_assoc = λ s t u. fun_ext (mul_s-assoc s t u);
    mul_comm = λ s t. fun_ext (mul_s-comm s t);
    mul-one = λ s. fun_ext (λ n. mul_s-comm s (con_s 𝟙) n ∙ one_s-mul s n);
    distl = λ s t u. fun_ext (mul_s-distl s t u);
  }

  -- s has no coefficient from n on
  abbrev pub Below : ℕ → Ser → Type 0
  Below n s = (k : ℕ) → n ≤ k → s k ≡ 𝟘

  -- a sum is no longer than the longer part, and a product of lengths m and n has length m + n − 1
  pub below-add : (n : ℕ) (s t : Ser) → Below n s → Below n t → Below n (add_s s t)
  below-add n s t hs ht k h = by2 R 𝟙 (hs k h) 𝟙 (ht k h) (ring! R (s k ∷ t k ∷ []) (search reify depth 30 fits 20000) tt)

  pub below-mul : (m n : ℕ) (s t : Ser) → Below m s → Below n t → (k : ℕ) → m +ⁿ n ≤ suc k → mul_s s t k ≡ 𝟘
  unfolding mul_s
  below-mul zero n s t hs ht k h = ap (λ z. mul_s z t k) (fun_ext {f = s} {g = nil_s} (λ j. hs j (omega arith))) ∙ nil-mul_s t k
  below-mul (suc m) n s t hs ht zero h = ap (λ z. s zero * z) (ht zero (omega arith)) ∙ mul-nil R (s zero)
  below-mul (suc m) n s t hs ht (suc k) h = by2 R (s zero) (ht (suc k) (omega arith)) 𝟙 (below-mul m n (tl s) t (λ j g. hs (suc j) (omega arith)) ht k (omega arith))
      (ring! R (s zero ∷ t (suc k) ∷ mul_s (tl s) t k ∷ []) (search reify depth 30 fits 20000) tt)

  pub below-neg : (m : ℕ) (s : Ser) → Below m s → Below m (neg_s s)
  below-neg m s hs k h = by1 R (- 𝟙) (hs k h) (ring! R (s k ∷ []) (search reify depth 30 fits 20000) tt)

  pub below-con : (a : A) → Below 1 (con_s a)
  unfolding con_s
  below-con a zero h = absurd (omega arith)
  below-con a (suc k) h = refl

  -- a bound goes down where the last coefficient is 0
  pub below-down : (n : ℕ) (s : Ser) → Below (suc n) s → s n ≡ 𝟘 → Below n s
  below-down n s h e k g = pick (ℕ_discrete k n)
    where
      pick : Dec (k ≡ n) → s k ≡ 𝟘
      pick (yes p) = ap s p ∙ e
      pick (no f) = h k (omega arith)
