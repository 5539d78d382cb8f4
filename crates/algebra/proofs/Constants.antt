-- The constants are a ring inside the polynomials; a constant times a polynomial, by coefficients.
use mathlib.Core.Path.{◌≡◌, refl, sym, ◌∙◌, ap}
use Prim.Native.Nat.{ℕ, zero, suc}
use native.Mathlib.Omega.{arith}
use Rattle.algebra.proofs.Ring.{CRing, nat, pow, mul-nil}
use Rattle.algebra.proofs.RingMap.{RingMap, map-neg, map-nat, map-pow}
use Rattle.algebra.proofs.Series.{mul_s, con_s, nil-mul_s, Below}
use Rattle.algebra.proofs.Poly.{Poly, add_p, mul_p, neg_p, nil_p, con_p, Poly-ring, poly-ext, nil-path}

module _ {A : Type 0} (R : CRing A) where
  open R use {add as ◌+◌, mul as ◌*◌, neg as -◌, nil as 𝟘}

  infixl 60 ◌+◌
  infixl 70 ◌*◌
  infix 75 -◌
  pub con-at-zero : (a : A) → (con_p R a).0 0 ≡ a
  unfolding con_p con_s
  con-at-zero a = refl

  pub con-at-suc : (a : A) (n : ℕ) → (con_p R a).0 (suc n) ≡ 𝟘
  unfolding con_p con_s
  con-at-suc a n = refl

  pub con-inj : (a b : A) → con_p R a ≡ con_p R b → a ≡ b
  con-inj a b e = sym (con-at-zero a) ∙ ap (λ p. p.0 0) e ∙ con-at-zero b

  -- the coefficients of a multiple
  pub con-mul-at : (c : A) (p : Poly R) (n : ℕ) → (mul_p R (con_p R c) p).0 n ≡ c * p.0 n
  unfolding mul_p mul_s con_p con_s
  con-mul-at c p zero = refl
  con-mul-at c p (suc n) = ap (λ z. c * p.0 (suc n) + z) (nil-mul_s R p.0 n) ∙ R.add-nil (c * p.0 (suc n))

  -- what has no coefficient from x on is a constant
  pub con-of : (p : Poly R) → Below R 1 p.0 → p ≡ con_p R (p.0 0)
  con-of p h = poly-ext R p (con_p R (p.0 0)) go
    where
      go : (n : ℕ) → p.0 n ≡ (con_p R (p.0 0)).0 n
      go zero = sym (con-at-zero (p.0 0))
      go (suc n) = h (suc n) (omega arith) ∙ sym (con-at-suc (p.0 0) n)

  pub con-nil : con_p R 𝟘 ≡ nil_p R
  con-nil = nil-path R (con_p R 𝟘) go
    where
      go : (n : ℕ) → (con_p R 𝟘).0 n ≡ 𝟘
      go zero = con-at-zero 𝟘
      go (suc n) = con-at-suc 𝟘 n

  pub con-add : (a b : A) → con_p R (a + b) ≡ add_p R (con_p R a) (con_p R b)
  unfolding con_p con_s add_p
  con-add a b = poly-ext R _ _ go
    where
      go : (n : ℕ) → con_s R (a + b) n ≡ con_s R a n + con_s R b n
      go zero = refl
      go (suc n) = sym (R.add-nil 𝟘)

  pub con-mul : (a b : A) → con_p R (a * b) ≡ mul_p R (con_p R a) (con_p R b)
  con-mul a b = poly-ext R _ _ go
    where
      go : (n : ℕ) → (con_p R (a * b)).0 n ≡ (mul_p R (con_p R a) (con_p R b)).0 n
      go zero = con-at-zero (a * b) ∙ ap (λ z. a * z) (sym (con-at-zero b)) ∙ sym (con-mul-at a (con_p R b) zero)
      go (suc n) = con-at-suc (a * b) n ∙ sym (con-mul-at a (con_p R b) (suc n) ∙ ap (λ z. a * z) (con-at-suc b n) ∙ mul-nil R a)

  abbrev pub con-map : RingMap R (Poly-ring R)
  con-map = record { to = con_p R; to-nil = con-nil; to_one = refl; to-add = con-add; to-mul = con-mul }

  pub con-neg : (a : A) → con_p R (- a) ≡ neg_p R (con_p R a)
  con-neg = map-neg R (Poly-ring R) con-map

  pub con-nat : (n : ℕ) → con_p R (nat R n) ≡ nat (Poly-ring R) n
  con-nat = map-nat R (Poly-ring R) con-map

  pub con-pow : (a : A) (n : ℕ) → con_p R (pow R a n) ≡ pow (Poly-ring R) (con_p R a) n
  con-pow = map-pow R (Poly-ring R) con-map
