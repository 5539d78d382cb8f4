-- Horner from the top: what is behind place i is done.
use mathlib.Core.Path.{◌≡◌, refl, ap, ◌∙◌}
use mathlib.Core.List.{List, [], ◌∷◌}
use Prim.Native.Nat.{ℕ, zero, suc, ◌+◌, ◌-◌, ◌<◌, ◌≤◌}
use native.Mathlib.Omega.{arith}
use lib.Ieee.{Float, binary64, of_bits, add, mul}
use lib.ListN.{length, drop, get_or}
use Rattle.sturm.specs.Value.{horner}

pub horner-none : (l : List Float) (x : Float) → length l ≡ 0 → of_bits binary64 0 ≡ horner l x
unfolding horner
horner-none [] x h = refl
horner-none (a ∷ l) x h = absurd (omega arith)

-- the leading coefficient
horner-top : (l : List Float) (x : Float) (n : ℕ) (d : Float) → length l ≡ n + 1 → get_or l n d ≡ horner (drop n l) x
unfolding horner
horner-top [] x n d h = absurd (omega arith)
horner-top (a ∷ []) x zero d h = refl
horner-top (a ∷ b ∷ l) x zero d h = absurd (omega arith)
horner-top (a ∷ l) x (suc n) d h = horner-top l x n d (omega arith)

-- one coefficient more
horner-more : (l : List Float) (x : Float) (n : ℕ) (d : Float) → suc n < length l → add binary64 (mul binary64 (horner (drop (suc n) l) x) x) (get_or l n d) ≡ horner (drop n l) x
unfolding horner
horner-more [] x n d h = absurd (omega arith)
horner-more (a ∷ []) x n d h = absurd (omega arith)
horner-more (a ∷ b ∷ l) x zero d h = refl
horner-more (a ∷ b ∷ l) x (suc n) d h = horner-more (b ∷ l) x n d (omega arith)

module _ (l : List Float) (x d : Float) where
  pub horner-start : (n : ℕ) → n ≡ length l → 1 ≤ n → get_or l (n - 1) d ≡ horner (drop (n - 1) l) x
  horner-start n e h = horner-top l x (n - 1) d (omega arith)

  pub horner-step : (i : ℕ) (acc : Float) → 0 < i → i < length l → acc ≡ horner (drop i l) x → add binary64 (mul binary64 acc x) (get_or l (i - 1) d) ≡ horner (drop (i - 1) l) x
  horner-step i acc h j e =
      let u : i ≡ suc (i - 1) = omega arith in
      ap (λ (a : Float). add binary64 (mul binary64 a x) (get_or l (i - 1) d)) (e ∙ ap (λ (m : ℕ). horner (drop m l) x) u)
      ∙ horner-more l x (i - 1) d (omega arith)

pub horner-all : (l : List Float) (x : Float) (i : ℕ) → i ≤ 0 → horner (drop i l) x ≡ horner l x
horner-all l x zero h = refl
horner-all l x (suc i) h = absurd (omega arith)
