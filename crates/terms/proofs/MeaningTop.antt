-- Zeros dropped at the top: what is left is no longer, has a top that is not zero, and has nothing more to drop; a top that is not zero says the degree.
use mathlib.Core.Path.{◌≡◌, refl, sym, ◌∙◌, ap}
use mathlib.Core.Bool.{Bool, true, false}
use mathlib.Core.List.{List, [], ◌∷◌}
use Prim.Native.Nat.{ℕ, zero, suc, ◌-◌, ◌≤◌, ◌<◌}
use native.Mathlib.Omega.{arith}
use lib.ListN.{length, get_or}
use Rattle.algebra.proofs.Rational.{ℚ-ring}
use Rattle.algebra.proofs.Degree.{HasDeg}
use Rattle.ratio.specs.Promise.{Fraction}
use Rattle.ratio.specs.Refusal.{zero_r}
use Rattle.ratio.specs.Step.{is_nil}
use Rattle.ratio.specs.declared.Ratio.{Ratio}
use Rattle.ratio.proofs.Steps.{some-value}
use Rattle.terms.specs.Poly.{on_top, drop_top, trim}
use Rattle.terms.proofs.Meaning.{poly_r, poly_r-at, poly_r-below}

-- ---- what a test finds at the top is dropped

module _ {W : Type 0} (f : W → Bool) (d : W) where
  on-top-length : (t : Bool) (a : W) (m : List W) → length (on_top t a m) ≤ suc (length m)
  on-top-length true a [] = omega arith
  on-top-length false a [] = omega arith
  on-top-length t a (b ∷ m) = omega arith

  pub drop-length : (l : List W) → length (drop_top f l) ≤ length l
  unfolding drop_top
  drop-length [] = omega arith
  drop-length (a ∷ l) = omega (arith, on-top-length (f a) a (drop_top f l), drop-length l)

  -- the test fails at the top of what is left
  on-top-fails : (t : Bool) (a : W) (m : List W) → f a ≡ t → ((n : ℕ) → length m ≡ suc n → f (get_or m n d) ≡ false) → (n : ℕ) → length (on_top t a m) ≡ suc n → f (get_or (on_top t a m) n d) ≡ false
  on-top-fails true a [] e h n p = absurd (omega arith)
  on-top-fails false a [] e h zero p = e
  on-top-fails false a [] e h (suc n) p = absurd (omega arith)
  on-top-fails t a (b ∷ m) e h zero p = absurd (omega arith)
  on-top-fails t a (b ∷ m) e h (suc n) p = h n (omega arith)

  pub drop-top : (l : List W) (n : ℕ) → length (drop_top f l) ≡ suc n → f (get_or (drop_top f l) n d) ≡ false
  unfolding drop_top
  drop-top [] n p = absurd (omega arith)
  drop-top (a ∷ l) n p = on-top-fails (f a) a (drop_top f l) refl (drop-top l) n p

  -- and where it fails at the top, nothing is dropped
  pub drop-nothing : (l : List W) (n : ℕ) → length l ≡ suc n → f (get_or l n d) ≡ false → drop_top f l ≡ l
  unfolding drop_top
  drop-nothing [] n p e = refl
  drop-nothing (a ∷ []) zero p e = rw e
  drop-nothing (a ∷ []) (suc n) p e = absurd (omega arith)
  drop-nothing (a ∷ b ∷ l) zero p e = absurd (omega arith)
  drop-nothing (a ∷ b ∷ l) (suc n) p e = ap (on_top (f a) a) (drop-nothing (b ∷ l) n (omega arith) e)

  pub drop-again : (l : List W) → drop_top f (drop_top f l) ≡ drop_top f l
  unfolding drop_top
  drop-again l = go (drop_top f l) (drop-top l)
    where
      go : (m : List W) → ((n : ℕ) → length m ≡ suc n → f (get_or m n d) ≡ false) → drop_top f m ≡ m
      go [] h = refl
      go (a ∷ m) h = drop-nothing (a ∷ m) (length m) refl (h (length m) refl)

-- ---- zeros at the top

abbrev nil_at : Ratio → Bool
nil_at r = is_nil r.num

pub trim-top : (l : List Ratio) (n : ℕ) → length (trim l) ≡ suc n → is_nil (get_or (trim l) n zero_r).num ≡ false
trim-top l n p = drop-top nil_at zero_r l n p

pub trim-lead : (l : List Ratio) → 0 < length (trim l) → is_nil (get_or (trim l) (length (trim l) - 1) zero_r).num ≡ false
trim-lead l h = trim-top l (length (trim l) - 1) (omega arith)

pub trim-nothing : (l : List Ratio) (n : ℕ) → length l ≡ suc n → is_nil (get_or l n zero_r).num ≡ false → trim l ≡ l
trim-nothing l n p e = drop-nothing nil_at zero_r l n p e

-- ---- the degree

pub top-degree : (l : List Ratio) (n : ℕ) → length l ≡ suc n → Fraction (get_or l n zero_r) → is_nil (get_or l n zero_r).num ≡ false → HasDeg ℚ-ring (poly_r l) n
top-degree l n p f e = record { leads = λ z. some-value (get_or l n zero_r) f e (sym (poly_r-at l n) ∙ z); ends = λ i h. poly_r-below l i (omega arith) }
