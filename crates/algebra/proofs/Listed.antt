-- A list of coefficients read as a polynomial, and the list of a polynomial's coefficients.
use mathlib.Core.Path.{◌≡◌, refl, sym, ◌∙◌, ap, ap₂}
use mathlib.Core.List.{List, [], ◌∷◌}
use Prim.Native.Nat.{ℕ, zero, suc}
use native.Mathlib.Omega.{arith}
use lib.ListN.{length, get_or}
use Rattle.algebra.proofs.Ring.{CRing, Domain, nil-add}
use Rattle.algebra.proofs.Series.{Ser, tl, Below}
use Rattle.algebra.proofs.Poly.{Poly, add_p, mul_p, nil_p, con_p, poly-ext, nil-at, add_at}
use Rattle.algebra.proofs.Constants.{con-at-zero, con-at-suc}
use Rattle.algebra.proofs.Monomials.{X, X-mul-zero, X-mul-suc}
use Rattle.algebra.proofs.Degree.{length_p, length-below}

module _ {A : Type 0} (R : CRing A) where
  open R use {add as ◌+◌, nil as 𝟘}

  infixl 60 ◌+◌
  -- the list's i-th element is the coefficient of xⁱ
  unfoldable pub poly_of : List A → Poly R
  poly_of [] = nil_p R
  poly_of (a ∷ l) = add_p R (con_p R a) (mul_p R (X R) (poly_of l))

  -- Horner's law
  pub poly_of-cons : (a : A) (l : List A) → poly_of (a ∷ l) ≡ add_p R (con_p R a) (mul_p R (X R) (poly_of l))
  unfolding poly_of
  poly_of-cons a l = refl

  pub poly_of-at : (l : List A) (i : ℕ) → (poly_of l).0 i ≡ get_or l i 𝟘
  unfolding poly_of
  poly_of-at [] i = nil-at R i
  poly_of-at (a ∷ l) zero = add_at R (con_p R a) (mul_p R (X R) (poly_of l)) 0 ∙ ap₂ ◌+◌ (con-at-zero R a) (X-mul-zero R (poly_of l)) ∙ R.add-nil a
  poly_of-at (a ∷ l) (suc i) =
      add_at R (con_p R a) (mul_p R (X R) (poly_of l)) (suc i) ∙ ap₂ ◌+◌ (con-at-suc R a i) (X-mul-suc R (poly_of l) i) ∙ nil-add R ((poly_of l).0 i) ∙ poly_of-at l i

  pub poly_of-below : (l : List A) → Below R (length l) (poly_of l).0
  poly_of-below [] k h = poly_of-at [] k
  poly_of-below (a ∷ l) zero h = absurd (omega arith)
  poly_of-below (a ∷ l) (suc k) h = poly_of-at (a ∷ l) (suc k) ∙ sym (poly_of-at l k) ∙ poly_of-below l k (omega arith)

  -- p is the polynomial of a list that has its coefficients
  pub poly_of-is : (l : List A) (p : Poly R) → ((i : ℕ) → get_or l i 𝟘 ≡ p.0 i) → poly_of l ≡ p
  poly_of-is l p e = poly-ext R (poly_of l) p (λ i. poly_of-at l i ∙ e i)

  -- the first n coefficients
  unfoldable pub firsts : ℕ → Ser R → List A
  firsts zero s = []
  firsts (suc n) s = s 0 ∷ firsts n (tl R s)

  pub firsts-length : (n : ℕ) (s : Ser R) → length (firsts n s) ≡ n
  unfolding firsts
  firsts-length zero s = refl
  firsts-length (suc n) s = ap suc (firsts-length n (tl R s))

  pub firsts_at : (n : ℕ) (s : Ser R) → Below R n s → (i : ℕ) → get_or (firsts n s) i 𝟘 ≡ s i
  unfolding firsts
  firsts_at zero s h i = sym (h i (omega arith))
  firsts_at (suc n) s h zero = refl
  firsts_at (suc n) s h (suc i) = firsts_at n (tl R s) (λ k g. h (suc k) (omega arith)) i

module _ {A : Type 0} (D : Domain A) where
  abbrev R : CRing A
  R = D.ring

  unfoldable pub to_list : Poly R → List A
  to_list p = firsts R (length_p D p) p.0

  pub to_list-at : (p : Poly R) (i : ℕ) → get_or (to_list p) i R.nil ≡ p.0 i
  unfolding to_list
  to_list-at p = firsts_at R (length_p D p) p.0 (length-below D p)

  pub to_list-length : (p : Poly R) → length (to_list p) ≡ length_p D p
  unfolding to_list
  to_list-length p = firsts-length R (length_p D p) p.0

  pub poly_of-to_list : (p : Poly R) → poly_of R (to_list p) ≡ p
  poly_of-to_list p = poly_of-is R (to_list p) p (to_list-at p)
