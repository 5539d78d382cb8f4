-- Whole numbers, fractions and lists of them, as the program takes them apart.
use mathlib.Core.Path.{◌≡◌, refl, sym, ap, ◌∙◌}
use mathlib.Core.Bool.{Bool, true, false, not}
use mathlib.Core.List.{List, [], ◌∷◌, ◌++◌, map, append-nil, append_assoc}
use Prim.Native.Nat.{ℕ, zero, suc, ◌+◌, ◌*◌, ◌-◌, ◌^◌, ◌≤◌, ◌<◌}
use native.Mathlib.Omega.{arith}
use native.Mathlib.Numerals.{add-one}
use borrow.Author.Tests.{ltb-true, eq-eqb, ne_eqb}
use lib.Dec.{T, eqb}
use lib.Ieee.{Float, nan, inf, fin, to_bits, is_nan, level, up, down, eq, ne}
use lib.IntN.{ℤ, pos, negsuc, nat_abs}
use lib.ListN.{length, take, get_or, length-map}
use lib.Seq.{take-suc, length-take-le}
use lib.Signed.{lt_z}
use mir.Facts.{to_z-of_z}
use mir.Syntax.{w64}
use mir.Val.{SFits, to_z, of_z}
use Rattle.ratio.specs.declared.Ratio.{Ratio}
use Rattle.text.specs.Spell.{decimal_of, whole_text, is_one, ratio_text, next_word, spaced, parted, ratios_text, poly_text, hex_text, float_text, floats_text}

below : (z : ℤ) → lt_z z (pos 0) ≡ true → whole_text z ≡ 45 ∷ decimal_of (nat_abs z)
unfolding whole_text
below (pos n) e = absurd (omega (arith, ltb-true n 0 e))
below (negsuc n) e = refl

above : (z : ℤ) → lt_z z (pos 0) ≡ false → whole_text z ≡ decimal_of (nat_abs z)
unfolding whole_text
above (pos n) e = refl
above (negsuc n) e = let z : ◌≡◌ {A = ℕ} 0 1 = cc in absurd (omega arith)

pub whole_below : (z : ℤ) → SFits w64 z → lt_z (to_z w64 (of_z w64 z)) (pos 0) ≡ true → whole_text z ≡ 45 ∷ decimal_of (nat_abs z)
whole_below z f e = below z (rw (to_z-of_z f) at e)

pub whole_above : (z : ℤ) → SFits w64 z → lt_z (to_z w64 (of_z w64 z)) (pos 0) ≡ false → whole_text z ≡ decimal_of (nat_abs z)
whole_above z f e = above z (rw (to_z-of_z f) at e)

one-bits : (z : ℤ) → SFits w64 z → eqb (of_z w64 z) 1 ≡ is_one z
one-bits (pos n) f = refl
one-bits (negsuc n) f = let h : n < 2 ^ 63 = f.sfits in ne_eqb (2 ^ 64 - suc n) 1 (λ e. omega arith)

module _ (r : Ratio) (f : SFits w64 r.den) where
  pub ratio-whole : of_z w64 r.den ≡ 1 → whole_text r.num ≡ ratio_text r
  unfolding ratio_text
  ratio-whole e = rw (sym (one-bits r.den f) ∙ eq-eqb (of_z w64 r.den) 1 e)

  pub ratio-over : (of_z w64 r.den ≡ 1 → ⊥) → (whole_text r.num ++ (47 ∷ [])) ++ whole_text r.den ≡ ratio_text r
  unfolding ratio_text
  ratio-over e = rw (sym (one-bits r.den f) ∙ ne_eqb (of_z w64 r.den) 1 e, append_assoc)

-- ---- lists

spaced-more : (ws : List (List ℕ)) (w : List ℕ) → spaced (ws ++ (w ∷ [])) ≡ spaced ws ++ next_word false w
unfolding spaced
spaced-more [] w = rw append-nil
spaced-more (v ∷ ws) w = rw (spaced-more ws w, append_assoc)

parted-more : (ws : List (List ℕ)) (w : List ℕ) → parted (ws ++ (w ∷ [])) ≡ parted ws ++ next_word (eqb (length ws) 0) w
unfolding parted spaced
parted-more [] w = rw append-nil
parted-more (v ∷ ws) w = rw (ne_eqb (suc (length ws)) 0 (λ e. omega arith), spaced-more ws w, append_assoc)

map_more : {X : Type 0} (f : X → List ℕ) (l : List X) (x : X) → map f (l ++ (x ∷ [])) ≡ map f l ++ (f x ∷ [])
map_more f [] x = refl
map_more f (y ∷ l) x = ap (λ r. f y ∷ r) (map_more f l x)

-- one value more of a list
pub words_more : {X : Type 0} (f : X → List ℕ) (l : List X) (i : ℕ) (d : X) → i < length l
    → parted (map f (take (i + 1) l)) ≡ parted (map f (take i l)) ++ next_word (eqb i 0) (f (get_or l i d))
words_more f l i d h =
    let k : i ≤ length l = omega arith in
    rw (add-one, take-suc l i d h, map_more f (take i l) (get_or l i d), parted-more (map f (take i l)) (f (get_or l i d)), length-map, length-take-le)

pub poly-none : 48 ∷ [] ≡ poly_text []
unfolding poly_text
poly-none = refl

pub poly-some : (n : ℕ) (l : List Ratio) → length l ≡ 32 → (n ≡ 0 → ⊥) → ratios_text (take n l) ≡ poly_text (take n l)
unfolding poly_text
poly-some n [] e h = absurd (omega arith)
poly-some zero (a ∷ l) e h = absurd (h refl)
poly-some (suc n) (a ∷ l) e h = refl

-- ---- floats

same-level : (s : Bool) (n : ℕ) → level s n s n ≡ true
same-level true n = rw (eq-eqb n n refl)
same-level false n = rw (eq-eqb n n refl)

pub nan-told : (x : Float) → ne x x ≡ true → hex_text 0x7ff8_0000_0000_0000 ≡ float_text x
unfolding float_text ne eq to_bits
nan-told nan e = refl
nan-told (inf true) e = let z : ◌≡◌ {A = ℕ} 0 1 = cc in absurd (omega arith)
nan-told (inf false) e = let z : ◌≡◌ {A = ℕ} 0 1 = cc in absurd (omega arith)
nan-told (fin s m k) e = let z : ◌≡◌ {A = ℕ} 0 1 = cc (same-level s (m * up k * down k)) in absurd (omega arith)

pub number-told : (x : Float) → ne x x ≡ false → T (not (is_nan x))
unfolding ne eq is_nan
number-told nan e = let z : ◌≡◌ {A = ℕ} 0 1 = cc in absurd (omega arith)
number-told (inf s) e = tt
number-told (fin s m k) e = tt
