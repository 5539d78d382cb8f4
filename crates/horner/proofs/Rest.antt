-- Horner's form of the coefficients from a place on: the last one, or one and the rest.
use mathlib.Core.Path.{◌≡◌, refl}
use mathlib.Core.List.{List, [], ◌∷◌, ◌++◌, append_assoc}
use Prim.Native.Nat.{ℕ, suc, ◌+◌, ◌<◌}
use native.Mathlib.Omega.{arith}
use native.Mathlib.Numerals.{add-one}
use lib.ListN.{length, drop, get_or, drop_of_length-le}
use lib.Seq.{drop-cons}
use Rattle.ratio.specs.Refusal.{zero_r}
use Rattle.ratio.specs.declared.Ratio.{Ratio}
use Rattle.text.specs.Ascii.{bytes}
use Rattle.horner.specs.Text.{constant, variable, horner, lowered_text}

parts : (a b r j : List ℕ) → ((a ++ (32 ∷ b ++ (32 ∷ []))) ++ r) ++ j ≡ a ++ (32 ∷ b ++ (32 ∷ r ++ j))
parts a b r j = simp append_assoc

module _ (wrt : ℕ) (l : List Ratio) (i : ℕ) (d : Ratio) where
  pub rest-last : i + 1 ≡ length l → constant (get_or l i d) ≡ lowered_text wrt (drop i l)
  unfolding lowered_text horner
  rest-last h = rw (drop-cons l i d (omega arith), drop_of_length-le l {i = suc i} (omega arith))

  pub rest_more : i + 1 < length l → ((constant (get_or l i d) ++ (bytes " " ++ variable wrt ++ bytes " ")) ++ lowered_text wrt (drop (i + 1) l)) ++ bytes " * +" ≡ lowered_text wrt (drop i l)
  unfolding lowered_text horner
  rest_more h = rw (drop-cons l i d (omega arith), add-one, drop-cons l (suc i) d (omega arith)) (parts (constant (get_or l i d)) (variable wrt) (horner wrt (get_or l (suc i) d) (drop (suc (suc i)) l)) (bytes " * +"))

-- nothing is the constant 0
pub rest-none : (wrt : ℕ) (l : List Ratio) → length l ≡ 0 → constant zero_r ≡ lowered_text wrt l
unfolding lowered_text horner
rest-none wrt [] h = refl
rest-none wrt (c ∷ l) h = absurd (omega arith)
