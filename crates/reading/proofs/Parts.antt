-- A word taken apart: its sign, and what stands before and after a `/`.
use Rattle.ratio.specs.declared.Reason.{Reason}
use Rattle.ratio.specs.declared.Ratio.{Ratio}
use Rattle.std.specs.Prelude.{Result, Ok, Err, Some, None}
use mathlib.Core.Path.{◌≡◌, refl, sym}
use mathlib.Core.Bool.{true, false}
use mathlib.Core.List.{List, [], ◌∷◌}
use Prim.Native.Nat.{ℕ, ◌+◌, ◌-◌, ◌<◌, ◌≤◌}
use native.Mathlib.Omega.{arith}
use native.Mathlib.Numerals.{add-one}
use borrow.Author.Tests.{eq-eqb, ne_eqb}
use lib.ListN.{length, take, drop, get_or, length-drop, drop_of_length-le}
use lib.Seq.{take_all, drop-cons}
use lib.IntN.{ℤ, pos, nat_abs}
use lib.Signed.{lt_z}
use mir.Facts.{to_z-of_z}
use mir.Syntax.{w64}
use mir.Val.{SFits, to_z, of_z}
use Rattle.ratio.specs.Gcd.{gcd_of}
use Rattle.ratio.specs.declared.Reason.TheVariants.{BadInput}
use Rattle.tokens.specs.Spelling.{natural_of}
use Rattle.tokens.specs.Words.{length_to}
use Rattle.reading.specs.Numbers.{whole_of, numerator_of, denominator_of, whole_step, fraction_step, ratio_from}

-- all from a place on
pub rest-whole : (w : List ℕ) (i : ℕ) → take (length w - i) (drop i w) ≡ drop i w
rest-whole w i = take_all (length w - i) (drop i w) (omega (arith, length-drop i w))

pub numerator-none : (w : List ℕ) → length w ≡ 0 → None ≡ numerator_of w
unfolding numerator_of
numerator-none [] h = refl
numerator-none (b ∷ l) h = absurd (omega arith)

pub numerator-below : (w : List ℕ) → 0 < length w → get_or w 0 0 ≡ 45 → whole_of true (natural_of (drop 1 w)) ≡ numerator_of w
unfolding numerator_of
numerator-below [] h e = absurd (omega arith)
numerator-below (b ∷ l) h e = rw (eq-eqb b 45 e)

pub numerator-above : (w : List ℕ) → 0 < length w → (get_or w 0 0 ≡ 45 → ⊥) → whole_of false (natural_of w) ≡ numerator_of w
unfolding numerator_of
numerator-above [] h e = absurd (omega arith)
numerator-above (b ∷ l) h e = rw (ne_eqb b 45 e)

-- a fraction's entries, as they lie in words
pub fraction-low : (n d : ℤ) → SFits w64 d → lt_z (to_z w64 (of_z w64 d)) (pos 2) ≡ true → Err BadInput ≡ fraction_step (Some n) (Some d)
fraction-low n d f t = rw (rw (to_z-of_z f) at t)

module _ (n d : ℤ) (fn : SFits w64 n) (fd : SFits w64 d) (t : lt_z (to_z w64 (of_z w64 d)) (pos 2) ≡ false) {g : ℕ} (e : g ≡ gcd_of (nat_abs (to_z w64 (of_z w64 n))) (nat_abs (to_z w64 (of_z w64 d)))) where
  low : lt_z d (pos 2) ≡ false
  low = rw (to_z-of_z fd) at t

  common : gcd_of (nat_abs n) (nat_abs d) ≡ g
  common = sym (rw (to_z-of_z fn, to_z-of_z fd) at e)

  pub fraction-done : g ≡ 1 → ◌≡◌ {A = Result Ratio Reason} (Ok (record { num = to_z w64 (of_z w64 n); den = to_z w64 (of_z w64 d) })) (fraction_step (Some n) (Some d))
  fraction-done h = rw (to_z-of_z fn, to_z-of_z fd, low, common, eq-eqb g 1 h)

  pub fraction-not : (g ≡ 1 → ⊥) → Err BadInput ≡ fraction_step (Some n) (Some d)
  fraction-not h = rw (low, common, ne_eqb g 1 h)

-- the first part ends at a place
module _ (w : List ℕ) (end : ℕ) (e : end ≡ 0 + length_to 47 w) where
  here : length_to 47 w ≡ end
  here = omega arith

  pub ratio-fraction : end < length w → fraction_step (numerator_of (take end w)) (denominator_of (drop (end + 1) w)) ≡ ratio_from w
  unfolding ratio_from
  ratio-fraction h = rw (here, add-one, drop-cons w end 0 h)

  pub ratio-whole : length w ≤ end → whole_step (numerator_of w) ≡ ratio_from w
  unfolding ratio_from
  ratio-whole h = rw (here, drop_of_length-le w h, take_all end w h)
