-- A list of fractions as a polynomial over the rationals: its coefficients are the entries' values, and zeros at the top change nothing.
use mathlib.Core.Path.{◌≡◌, refl, sym, ◌∙◌, ap}
use mathlib.Core.Bool.{Bool, true, false}
use mathlib.Core.List.{List, [], ◌∷◌}
use Prim.Native.Nat.{ℕ, zero, suc}
use borrow.Author.Tests.{eqb-true}
use lib.IntN.{ℤ, pos, negsuc, nat_abs}
use lib.ListN.{length, get_or, replicate, get_or-eq_default}
use Rattle.algebra.specs.Rational.{Same, zero_q, over}
use Rattle.algebra.specs.Polynomial.{coeff, Equal}
use Rattle.algebra.proofs.Ring.{nil-mul}
use Rattle.algebra.proofs.Whole.{ℤ-ring}
use Rattle.algebra.proofs.Rational.{ℚ-ring, 0ℚ, val, val_same, val-zero}
use Rattle.algebra.proofs.Series.{Below}
use Rattle.algebra.proofs.Poly.{poly-ext, nil_p, nil-path}
use Rattle.algebra.proofs.Lists.{ℚP, poly, poly-at, poly-equal}
use Rattle.ratio.specs.Promise.{rat}
use Rattle.ratio.specs.Refusal.{zero_r}
use Rattle.ratio.specs.Step.{is_nil}
use Rattle.ratio.specs.declared.Ratio.{Ratio}
use Rattle.ratio.proofs.Fractions.{no_size}
use Rattle.ratio.proofs.Steps.{value, zero-value}
use Rattle.terms.specs.Meaning.{rats}
use Rattle.terms.specs.Poly.{on_top, drop_top, trim}

abbrev pub poly_r : List Ratio → ℚP
poly_r l = poly (rats l)

-- ---- coefficients

coeff-rats : (l : List Ratio) (i : ℕ) → coeff (rats l) i ≡ rat (get_or l i zero_r)
unfolding coeff
coeff-rats [] i = refl
coeff-rats (a ∷ l) zero = refl
coeff-rats (a ∷ l) (suc i) = coeff-rats l i

pub poly_r-at : (l : List Ratio) (i : ℕ) → (poly_r l).0 i ≡ value (get_or l i zero_r)
poly_r-at l i = poly-at (rats l) i ∙ ap val (coeff-rats l i)

pub poly_r-is : (l : List Ratio) (p : ℚP) → ((i : ℕ) → value (get_or l i zero_r) ≡ p.0 i) → poly_r l ≡ p
poly_r-is l p h = poly-ext ℚ-ring (poly_r l) p (λ i. poly_r-at l i ∙ h i)

pub poly_r-same : (l m : List Ratio) → ((i : ℕ) → value (get_or l i zero_r) ≡ value (get_or m i zero_r)) → poly_r l ≡ poly_r m
poly_r-same l m h = poly_r-is l (poly_r m) (λ i. h i ∙ sym (poly_r-at m i))

-- past the end all coefficients are zero
pub poly_r-below : (l : List Ratio) → Below ℚ-ring (length l) (poly_r l).0
poly_r-below l i h = poly_r-at l i ∙ ap value (get_or-eq_default l zero_r h) ∙ zero-value

get_or-zeros : (n i : ℕ) → get_or (replicate n zero_r) i zero_r ≡ zero_r
get_or-zeros zero i = refl
get_or-zeros (suc n) zero = refl
get_or-zeros (suc n) (suc i) = get_or-zeros n i

pub poly_r-zeros : (n : ℕ) → poly_r (replicate n zero_r) ≡ nil_p ℚ-ring
poly_r-zeros n = nil-path ℚ-ring (poly_r (replicate n zero_r)) (λ i. poly_r-at (replicate n zero_r) i ∙ ap value (get_or-zeros n i) ∙ zero-value)

-- ---- zeros at the top

-- a fraction whose numerator is zero is zero, whatever its denominator
over_zero : (d : ℤ) → Same (over (pos 0) d) zero_q
over_zero (pos zero) = refl
over_zero (pos (suc d)) = nil-mul ℤ-ring (pos 1) ∙ sym (nil-mul ℤ-ring (pos (suc d)))
over_zero (negsuc d) = nil-mul ℤ-ring (pos 1) ∙ sym (nil-mul ℤ-ring (pos (suc d)))

pub nil-num : (r : Ratio) → is_nil r.num ≡ true → value r ≡ 0ℚ
nil-num r e =
    ap (λ n. val (over n r.den)) (no_size r.num (eqb-true (nat_abs r.num) 0 e)) ∙ val_same (over (pos 0) r.den) zero_q (over_zero r.den) ∙ val-zero

module _ (a : Ratio) where
  on-top-at : (t : Bool) (l : List Ratio) (i : ℕ) → (t ≡ true → value a ≡ 0ℚ) → value (get_or (on_top t a l) i zero_r) ≡ value (get_or (a ∷ l) i zero_r)
  on-top-at true [] zero h = zero-value ∙ sym (h refl)
  on-top-at true [] (suc i) h = refl
  on-top-at false [] i h = refl
  on-top-at t (b ∷ l) i h = refl

pub trim-at : (l : List Ratio) (i : ℕ) → value (get_or (trim l) i zero_r) ≡ value (get_or l i zero_r)
unfolding drop_top
trim-at [] i = refl
trim-at (a ∷ l) zero = on-top-at a (is_nil a.num) (trim l) zero (nil-num a)
trim-at (a ∷ l) (suc i) = on-top-at a (is_nil a.num) (trim l) (suc i) (nil-num a) ∙ trim-at l i

pub poly_r-trim : (l : List Ratio) → poly_r (trim l) ≡ poly_r l
poly_r-trim l = poly_r-same (trim l) l (trim-at l)

pub trim-means : (l : List Ratio) → Equal (rats (trim l)) (rats l)
trim-means l = poly-equal (rats (trim l)) (rats l) (poly_r-trim l)
