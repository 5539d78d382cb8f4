-- The value of a polynomial at a point: a ring homomorphism, and Horner's rule on lists.
use mathlib.Core.Path.{◌≡◌, refl, sym, ◌∙◌, ap, ap₂, fun_ext}
use mathlib.Core.HLevel.{Π_prop, Σ_prop_path}
use mathlib.Core.List.{List, [], ◌∷◌}
use Prim.Native.Nat.{ℕ, zero, suc, ◌≤◌, ◌+◌ as ◌+ⁿ◌}
use native.Mathlib.Omega.{arith}
use Rattle.algebra.proofs.Ring.{CRing, pow, by1, by2, nil-mul, mul-nil}
use Rattle.algebra.proofs.Reflect.{ring!, reify}
use Rattle.algebra.proofs.RingMap.{RingMap, map-neg, map-pow}
use Rattle.algebra.proofs.Series.{Ser, tl, add_s, mul_s, nil_s, Below, nil-mul_s, below-mul}
use Rattle.algebra.proofs.Poly.{Poly, add_p, mul_p, neg_p, nil_p, con_p, Poly-ring, mk-poly, by-bound, nil-at}
use Rattle.algebra.proofs.Constants.{con-at-zero}
use Rattle.algebra.proofs.Monomials.{mon_s, mon-below, mon_p, X}
use Rattle.algebra.proofs.Degree.{con-below, sum_below}
use Rattle.algebra.proofs.Listed.{poly_of}

module _ {A : Type 0} (R : CRing A) where
  open R use {add as ◌+◌, mul as ◌*◌, neg as -◌, nil as 𝟘, one as 𝟙}

  infixl 60 ◌+◌
  infixl 70 ◌*◌
  infix 75 -◌
  -- the value of the first n coefficients
  unfoldable pub ev_s : ℕ → Ser R → A → A
  ev_s zero s r = 𝟘
  ev_s (suc n) s r = s 0 + r * ev_s n (tl R s) r

  ev_s-nil : (n : ℕ) (s : Ser R) (r : A) → Below R 0 s → ev_s n s r ≡ 𝟘
  unfolding ev_s
  ev_s-nil zero s r h = refl
  ev_s-nil (suc n) s r h = by2 R 𝟙 (h 0 (omega arith)) r (ev_s-nil n (tl R s) r (λ k g. h (suc k) (omega arith)))
      (ring! R (s 0 ∷ r ∷ ev_s n (tl R s) r ∷ []) (search reify depth 30 fits 20000) tt)

  ev_s-add : (n : ℕ) (s t : Ser R) (r : A) → ev_s n (add_s R s t) r ≡ ev_s n s r + ev_s n t r
  unfolding ev_s
  ev_s-add zero s t r = sym (R.add-nil 𝟘)
  ev_s-add (suc n) s t r = by1 R r (ev_s-add n (tl R s) (tl R t) r)
      (ring! R (s 0 ∷ t 0 ∷ r ∷ ev_s n (add_s R (tl R s) (tl R t)) r ∷ ev_s n (tl R s) r ∷ ev_s n (tl R t) r ∷ []) (search reify depth 30 fits 20000) tt)

  ev_s-scal : (n : ℕ) (c : A) (s : Ser R) (r : A) → ev_s n (λ k. c * s k) r ≡ c * ev_s n s r
  unfolding ev_s
  ev_s-scal zero c s r = sym (mul-nil R c)
  ev_s-scal (suc n) c s r = by1 R r (ev_s-scal n c (tl R s) r)
      (ring! R (c ∷ s 0 ∷ r ∷ ev_s n (λ k. c * tl R s k) r ∷ ev_s n (tl R s) r ∷ []) (search reify depth 30 fits 20000) tt)

  -- every bound gives the same value
  ev_s-more : (m n : ℕ) (s : Ser R) (r : A) → m ≤ n → Below R m s → ev_s n s r ≡ ev_s m s r
  unfolding ev_s
  ev_s-more zero n s r l h = ev_s-nil n s r h
  ev_s-more (suc m) zero s r l h = absurd (omega arith)
  ev_s-more (suc m) (suc n) s r l h = ap (λ z. s 0 + r * z) (ev_s-more m n (tl R s) r (omega arith) (λ k g. h (suc k) (omega arith)))

  ev_s-same : (m n : ℕ) (s : Ser R) (r : A) → Below R m s → Below R n s → ev_s m s r ≡ ev_s n s r
  ev_s-same m n s r hm hn = sym (ev_s-more m (m +ⁿ n) s r (omega arith) hm) ∙ ev_s-more n (m +ⁿ n) s r (omega arith) hn

  ev_s-mul : (m n k : ℕ) (s t : Ser R) (r : A) → m +ⁿ n ≤ k → Below R m s → Below R n t → ev_s k (mul_s R s t) r ≡ ev_s m s r * ev_s n t r
  unfolding ev_s mul_s
  ev_s-mul zero n k s t r l hs ht =
      ap (λ z. ev_s k (mul_s R z t) r) (fun_ext {f = s} {g = nil_s R} (λ i. hs i (omega arith))) ∙ ev_s-nil k (mul_s R (nil_s R) t) r (λ i g. nil-mul_s R t i) ∙ sym (nil-mul R (ev_s n t r))
  ev_s-mul (suc m) n zero s t r l hs ht = absurd (omega arith)
  ev_s-mul (suc m) n (suc k) s t r l hs ht =
      ap (λ z. s 0 * t 0 + r * z) (ev_s-add k (λ i. s 0 * tl R t i) (mul_s R (tl R s) t) r ∙ ap₂ ◌+◌ (ev_s-scal k (s 0) (tl R t) r) (ev_s-mul m n k (tl R s) t r (omega arith) (λ i g. hs (suc i) (omega arith)) ht))
      ∙ by1 R (s 0) (ev_s-more n (suc k) t r (omega arith) ht)
      (ring! R (s 0 ∷ t 0 ∷ r ∷ ev_s k (tl R t) r ∷ ev_s m (tl R s) r ∷ ev_s n t r ∷ []) (search reify depth 30 fits 20000) tt)

  -- the one value that every bound gives
  Value : Poly R → A → Type 0
  Value p r = (v : A) × ((n : ℕ) → Below R n p.0 → v ≡ ev_s n p.0 r)

  value-prop : (p : Poly R) (r : A) → IsProp (Value p r)
  unfolding Value
  value-prop p r x y = Σ_prop_path (λ v. Π_prop (λ n. Π_prop (λ h. R.is_set v (ev_s n p.0 r))))
      (by-bound R p (x.0 ≡ y.0) (R.is_set x.0 y.0) (λ n h. x.1 n h ∙ sym (y.1 n h)))

  value : (p : Poly R) (r : A) → Value p r
  unfolding Value
  value p r = by-bound R p (Value p r) (value-prop p r) (λ m h. (ev_s m p.0 r, λ n g. ev_s-same m n p.0 r h g))

  -- the value of p at r
  pub ev : Poly R → A → A
  unfolding Value
  ev p r = (value p r).0

  pub ev-is : (p : Poly R) (r : A) (n : ℕ) → Below R n p.0 → ev p r ≡ ev_s n p.0 r
  unfolding Value ev
  ev-is p r = (value p r).1

  pub ev-nil : (r : A) → ev (nil_p R) r ≡ 𝟘
  unfolding ev_s
  ev-nil r = ev-is (nil_p R) r 0 (λ k h. nil-at R k)

  pub ev-con : (a r : A) → ev (con_p R a) r ≡ a
  unfolding ev_s
  ev-con a r = ev-is (con_p R a) r 1 (con-below R a) ∙ by1 R 𝟙 (con-at-zero R a) (ring! R ((con_p R a).0 0 ∷ a ∷ r ∷ []) (search reify depth 30 fits 20000) tt)

  by-bounds : (p q : Poly R) (a b : A) → ((m n : ℕ) → Below R m p.0 → Below R n q.0 → a ≡ b) → a ≡ b
  by-bounds p q a b f = by-bound R p (a ≡ b) (R.is_set a b) (λ m hm. by-bound R q (a ≡ b) (R.is_set a b) (λ n hn. f m n hm hn))

  pub ev-add : (p q : Poly R) (r : A) → ev (add_p R p q) r ≡ ev p r + ev q r
  unfolding add_p
  ev-add p q r = by-bounds p q _ _ (λ m n hm hn.
      ev-is (add_p R p q) r (m +ⁿ n) (sum_below R p q (m +ⁿ n) (λ k h. hm k (omega arith)) (λ k h. hn k (omega arith)))
      ∙ ev_s-add (m +ⁿ n) p.0 q.0 r
      ∙ sym (ap₂ ◌+◌ (ev-is p r (m +ⁿ n) (λ k h. hm k (omega arith))) (ev-is q r (m +ⁿ n) (λ k h. hn k (omega arith)))))

  pub ev-mul : (p q : Poly R) (r : A) → ev (mul_p R p q) r ≡ ev p r * ev q r
  unfolding mul_p
  ev-mul p q r = by-bounds p q _ _ (λ m n hm hn.
      ev-is (mul_p R p q) r (m +ⁿ n) (λ k h. below-mul R m n p.0 q.0 hm hn k (omega arith))
      ∙ ev_s-mul m n (m +ⁿ n) p.0 q.0 r (omega arith) hm hn
      ∙ sym (ap₂ ◌*◌ (ev-is p r m hm) (ev-is q r n hn)))

  abbrev pub ev-map : A → RingMap (Poly-ring R) R
  ev-map r = record { to = λ p. ev p r; to-nil = ev-nil r; to_one = ev-con 𝟙 r; to-add = λ p q. ev-add p q r; to-mul = λ p q. ev-mul p q r }

  pub ev-neg : (p : Poly R) (r : A) → ev (neg_p R p) r ≡ - ev p r
  ev-neg p r = map-neg (Poly-ring R) R (ev-map r) p

  pub ev-pow : (p : Poly R) (n : ℕ) (r : A) → ev (pow (Poly-ring R) p n) r ≡ pow R (ev p r) n
  ev-pow p n r = map-pow (Poly-ring R) R (ev-map r) p n

  pub ev-X : (r : A) → ev (X R) r ≡ r
  unfolding X mon_p mon_s mk-poly ev_s
  ev-X r = ev-is (X R) r 2 (mon-below R 𝟙 1) ∙ ring! R (r ∷ []) (search reify depth 30 fits 20000) tt

  -- Horner's rule
  unfoldable pub horner : List A → A → A
  horner [] r = 𝟘
  horner (a ∷ l) r = a + r * horner l r

  pub ev-poly_of : (l : List A) (r : A) → ev (poly_of R l) r ≡ horner l r
  unfolding poly_of horner
  ev-poly_of [] r = ev-nil r
  ev-poly_of (a ∷ l) r =
      ev-add (con_p R a) (mul_p R (X R) (poly_of R l)) r ∙ ap₂ ◌+◌ (ev-con a r) (ev-mul (X R) (poly_of R l) r ∙ ap₂ ◌*◌ (ev-X r) (ev-poly_of l r))
