-- The test that a float is finite, the test of a difference by two comparisons, and the search one denominator at a time.
use Rattle.std.specs.Prelude.{Err}
use Rattle.std.proofs.Common.{◌≡◌, ℕ, suc, ◌+◌, ◌-◌, ◌*◌, ◌<◌, ◌≤◌, Bool, true, false, ◌&&◌, ltb, ℤ, pos, negsuc, sym, refl, ap, ◌∙◌, mul-pos, add-one, arith, lit<, lt→ltb}
use lib.Ieee.{Float, nan, inf, fin, up, down, lt, neg, of_bits}
use lib.Ieee.Bits.{is_true}
use lib.Ieee.Fits.{down_pos, up_pos}
use lib.Ieee.Scale.{finite}
use Rattle.ratio.specs.Range.{within}
use Rattle.ratio.specs.Step.{new_of}
use Rattle.ratio.specs.declared.Reason.TheVariants.{NotPolynomial, CoeffOverflow}
use Rattle.std.specs.Float.{float_is_finite, float_with_sign}
use Rattle.bridge.specs.Round.{round_of}
use Rattle.bridge.specs.Search.{tolerance, small, scaled, near, over, or_else, first_from, to_ratio}

-- ---- the test that a float is finite

pub finite-is : (x : Float) → float_is_finite x ≡ finite x
unfolding float_is_finite
finite-is nan = refl
finite-is (inf s) = refl
finite-is (fin s m e) = refl

-- ---- the test of a difference: one comparison of the size is two of the float

positive : (n : ℕ) → 0 < n → ltb 0 n ≡ true
positive n h = is_true (ltb 0 n) (lt→ltb 0 n h)

with-true : (b c : Bool) → c ≡ true → (b && c) ≡ b
with-true true c h = h
with-true false c h = refl

small-fin : (M : ℕ) (E : ℤ) → 0 < M → (x : Float) → (lt x (fin false M E) && lt (fin true M E) x) ≡ lt (float_with_sign false x) (fin false M E)
unfolding lt float_with_sign
small-fin M E h nan = refl
small-fin M E h (inf true) = refl
small-fin M E h (inf false) = refl
small-fin M E h (fin false m e) =
    let a = m * up e * down E in
    let b = M * up E * down e in
    let p : 0 < b = mul-pos (mul-pos h (up_pos E)) (down_pos e) in
    with-true (ltb a b) (ltb 0 (b + a)) (positive (b + a) (omega arith))
small-fin M E h (fin true m e) =
    let a = m * up e * down E in
    let b = M * up E * down e in
    let p : 0 < b = mul-pos (mul-pos h (up_pos E)) (down_pos e) in
    ap (λ (t : Bool). t && ltb a b) (positive (a + b) (omega arith))

pub small-test : (x : Float) → (lt x tolerance && lt (neg tolerance) x) ≡ small x
unfolding neg of_bits small
small-test x = small-fin 4835703278458517 (negsuc 81) (lit< tt) x

-- ---- a numerator over a denominator

pub over-least : (n : ℤ) (d : ℕ) → within n ≡ false → Err CoeffOverflow ≡ over n d
unfolding over
over-least n d h = rw h

pub over-new : (n : ℤ) (d : ℕ) → within n ≡ true → new_of n (pos d) ≡ over n d
unfolding over
over-new n d h = rw h

-- ---- the search, at denominator d of 1000

pub not_finite : (v : Float) → finite v ≡ false → Err NotPolynomial ≡ to_ratio v
unfolding to_ratio
not_finite v h = rw h

pub searched : (v : Float) → finite v ≡ true → first_from 1000 1 v ≡ to_ratio v
unfolding to_ratio
searched v h = rw h

pub step : (k d : ℕ) (v : Float) (t : Bool) → near v d ≡ t → first_from (suc k) d v ≡ or_else t (over (round_of (scaled v d)) d) (first_from k (suc d) v)
unfolding first_from
step k d v t h = rw h

at : (d : ℕ) (v : Float) (t : Bool) → d ≤ 1000 → near v d ≡ t → first_from (1001 - d) d v ≡ or_else t (over (round_of (scaled v d)) d) (first_from (1000 - d) (suc d) v)
at d v t h e = let i : 1001 - d ≡ suc (1000 - d) = omega arith in ap (λ (k : ℕ). first_from k d v) i ∙ step (1000 - d) d v t e

pub first-at : (d : ℕ) (v : Float) → d ≤ 1000 → near v d ≡ true → over (round_of (scaled v d)) d ≡ first_from (1001 - d) d v
first-at d v h e = sym (at d v true h e)

pub first_next : (d : ℕ) (v : Float) → d ≤ 1000 → near v d ≡ false → first_from (1001 - (d + 1)) (d + 1) v ≡ first_from (1001 - d) d v
first_next d v h e =
    let i : 1001 - (d + 1) ≡ 1000 - d = omega arith in
    ap (λ (k : ℕ). first_from k (d + 1) v) i ∙ ap (λ (j : ℕ). first_from (1000 - d) j v) (add-one d) ∙ sym (at d v false h e)

pub first-none : (d : ℕ) (v : Float) → 1000 < d → Err NotPolynomial ≡ first_from (1001 - d) d v
unfolding first_from
first-none d v h = let i : 0 ≡ 1001 - d = omega arith in ap (λ (k : ℕ). first_from k d v) i
