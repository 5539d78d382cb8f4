-- One halving: each way it can go.
use mathlib.Core.Path.{◌≡◌, refl, sym, ap, ap₂, ◌∙◌}
use mathlib.Core.Bool.{Bool, true, false, cond}
use mathlib.Core.List.{List}
use Prim.Native.Nat.{ℕ, zero, suc, ◌-◌, ◌<◌, ◌≤◌}
use native.Mathlib.Omega.{arith}
use lib.Ieee.{Float, binary64, of_bits, sub, lt, eq}
use Rattle.sturm.specs.Value.{horner}
use Rattle.refine.specs.declared.Side.{Side}
use Rattle.refine.specs.Refine.{size_of, middle_of, narrow, halved_of, refine_of}

pub else-first : {X : Type 0} (t : Bool) (x y : X) → t ≡ true → cond t x y ≡ x
else-first true x y h = refl
else-first false x y h = cc

pub else-second : {X : Type 0} (t : Bool) (x y : X) → t ≡ false → cond t x y ≡ y
else-second true x y h = cc
else-second false x y h = refl

pub refine-none : (k : ℕ) (p : List Float) (s : Side) (tol : Float) → k ≤ 0 → middle_of s ≡ refine_of k p s tol
unfolding refine_of
refine-none zero p s tol h = refl
refine-none (suc k) p s tol h = absurd (omega arith)

-- the parts of a halving, as the code has them
module _ (k : ℕ) (p : List Float) (s : Side) (tol : Float) (h : 0 < k) (m : Float) (em : m ≡ middle_of s) (z : Float) (ez : z ≡ size_of (sub binary64 s.right s.left)) where
  abbrev rest : Float
  rest = cond (eq (horner p (middle_of s)) (of_bits binary64 0)) (middle_of s) (refine_of (k - 1) p (halved_of s (middle_of s) (horner p (middle_of s))) tol)

  one : (k : ℕ) → 0 < k → refine_of k p s tol ≡ cond (narrow s.left s.right tol) (middle_of s) (cond (eq (horner p (middle_of s)) (of_bits binary64 0)) (middle_of s) (refine_of (k - 1) p (halved_of s (middle_of s) (horner p (middle_of s))) tol))
  unfolding refine_of
  one zero h = absurd (omega arith)
  one (suc k) h =
      let n : k ≡ suc k - 1 = omega arith in
      ap (λ (j : ℕ). cond (narrow s.left s.right tol) (middle_of s) (cond (eq (horner p (middle_of s)) (of_bits binary64 0)) (middle_of s) (refine_of j p (halved_of s (middle_of s) (horner p (middle_of s))) tol))) n

  test : narrow s.left s.right tol ≡ lt z tol
  test = ap (λ (x : Float). lt x tol) (sym ez)

  pub refine-narrow : lt z tol ≡ true → m ≡ refine_of k p s tol
  refine-narrow t = em ∙ sym (one k h ∙ else-first _ (middle_of s) rest (test ∙ t))

  module _ (w : lt z tol ≡ false) (v : Float) (ev : v ≡ horner p m) where
    value : v ≡ horner p (middle_of s)
    value = ev ∙ ap (λ (x : Float). horner p x) em

    zero_test : eq (horner p (middle_of s)) (of_bits binary64 0) ≡ eq v (of_bits binary64 0)
    zero_test = ap (λ (x : Float). eq x (of_bits binary64 0)) (sym value)

    wide : refine_of k p s tol ≡ rest
    wide = one k h ∙ else-second _ (middle_of s) rest (test ∙ w)

    pub refine-hit : eq v (of_bits binary64 0) ≡ true → m ≡ refine_of k p s tol
    refine-hit t = em ∙ sym (wide ∙ else-first _ (middle_of s) _ (zero_test ∙ t))

    pub refine-more : eq v (of_bits binary64 0) ≡ false → (n : Side) → n ≡ halved_of s m v → refine_of (k - 1) p n tol ≡ refine_of k p s tol
    refine-more t n e =
        ap (λ (x : Side). refine_of (k - 1) p x tol) (e ∙ ap₂ (λ (x y : Float). halved_of s x y) em value)
        ∙ sym (wide ∙ else-second _ (middle_of s) _ (zero_test ∙ t))
