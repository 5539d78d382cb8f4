-- What each way through `round` shows: at 2 ^ 63 and above, at -2 ^ 63 and below, between them on each side of 0, and at 0 and NaN.
use Rattle.std.proofs.Common.{◌≡◌, ℕ, ◌+◌, ◌*◌, ◌<◌, ◌≤◌, min, Bool, true, false, not, ◌&&◌, ◌||◌, T, eqb, ltb, ◌⊎◌, pos, negsuc, ◌-ℤ◌, neg_ℤ, sym, refl, ap, ◌∙◌, subst, inl, inr, true≢false, le_of_eq, le_of_lt, le-div_iff_mul-le, arith, eqb→eq, ltb→lt, lt→ltb, nltb→le, w64, to_z, of_z}
use mathlib.Core.Bool.{false≢true}
use native.Mathlib.Nat.{div-eq_of_lt}
use lib.Ieee.{Float, nan, inf, fin, binary64, up, down, lt, le, eq, neg, of_bits}
use lib.Ieee.Fits.{down_pos, and_l, and_r, eq→eqb}
use Rattle.ratio.specs.Range.{limit}
use Rattle.ratio.proofs.Words.{size_back, size-neg-back}
use Rattle.bridge.specs.Round.{half_upward, size_of, saturated, round_of}

-- 2 ^ 63 and 0 as MIR has them
abbrev pub end : Float
end = of_bits binary64 0x43e0_0000_0000_0000

abbrev pub nought : Float
nought = of_bits binary64 0

yes : {b : Bool} → b ≡ true → T b
yes h = subst T (sym h) tt

no : {b : Bool} → b ≡ false → T (not b)
no h = subst (λ (a : Bool). T (not a)) (sym h) tt

either : (p q : Bool) → T (p || (q && true)) → T p ⊎ T q
either true q h = inl tt
either false true h = inr tt
either false false h = absurd h

neither : (p q : Bool) → T (not (p || (q && true))) → T (not p)
neither true q h = h
neither false q h = tt

-- ---- at an end
past : (n d : ℕ) → 9223372036854775808 * d ≤ n * 1 → 0 < d → 9223372036854775808 ≤ half_upward n d
unfolding half_upward
past n d h D = (le-div_iff_mul-le (twice-pos d D)).1 (wide n d h)
  where
    twice-pos : (d : ℕ) → 0 < d → 0 < d * 2
    twice-pos d D = omega arith

    wide : (n d : ℕ) → 9223372036854775808 * d ≤ n * 1 → 9223372036854775808 * (d * 2) ≤ n * 2 + d
    wide n d h = omega arith

capped : (w : ℕ) → 9223372036854775808 ≤ w → 9223372036854775807 ≡ min w 9223372036854775807
capped w h = omega arith

capped-low : (w : ℕ) → 9223372036854775808 ≤ w → 9223372036854775808 ≡ min w 9223372036854775808
capped-low w h = omega arith

no_end : (d : ℕ) → 9223372036854775808 * d ≡ 0 → 0 < d → ⊥
no_end d h D = omega arith

no-end-2 : (n d : ℕ) → n * 1 ≡ 9223372036854775808 * d → n * 1 ≡ 0 → 0 < d → ⊥
no-end-2 n d h k D = omega arith

reached : (a b : ℕ) (q : Bool) → (T q → a ≡ b) → T (ltb a b || (q && true)) → a ≤ b
reached a b q s h = elim (either (ltb a b) q h) [ inl u ↦ le_of_lt (ltb→lt a b u) | inr u ↦ le_of_eq (s u) ]

pub too-high : (v : Float) → le end v ≡ true → pos 9223372036854775807 ≡ round_of v
unfolding le lt eq of_bits round_of size_of
too-high nan h = absurd (false≢true h)
too-high (inf true) h = absurd (false≢true h)
too-high (inf false) h = refl
too-high (fin true m e) h =
    let x = 9223372036854775808 * down e in
    absurd (no_end (down e) (eqb→eq x 0 (and_r (eqb x (m * up e * 1)) (eqb x 0) (yes h))) (down_pos e))
too-high (fin false m e) h =
    let x = 9223372036854775808 * down e in
    let y = m * up e * 1 in
    ap pos (capped (half_upward (m * up e) (down e)) (past (m * up e) (down e) (reached x y (eqb x y) (eqb→eq x y) (yes h)) (down_pos e)))

pub too-low : (v : Float) → le v (neg end) ≡ true → negsuc 9223372036854775807 ≡ round_of v
unfolding le lt eq neg of_bits round_of size_of
too-low nan h = absurd (false≢true h)
too-low (inf false) h = absurd (false≢true h)
too-low (inf true) h = refl
too-low (fin false m e) h =
    let x = 9223372036854775808 * down e in
    let y = m * up e * 1 in
    absurd (no-end-2 (m * up e) (down e) (eqb→eq y x (and_l (eqb y x) (eqb y 0) (yes h))) (eqb→eq y 0 (and_r (eqb y x) (eqb y 0) (yes h))) (down_pos e))
too-low (fin true m e) h =
    let x = 9223372036854775808 * down e in
    let y = m * up e * 1 in
    ap (λ (w : ℕ). neg_ℤ (pos w)) (capped-low (half_upward (m * up e) (down e)) (past (m * up e) (down e) (reached x y (eqb y x) (λ (t : T (eqb y x)). sym (eqb→eq y x t)) (yes h)) (down_pos e)))

-- ---- between 0 and an end
short : (n d : ℕ) (q : Bool) → (9223372036854775808 * d ≡ n * 1 → T q) → T (not (ltb (9223372036854775808 * d) (n * 1) || (q && true))) → n * 1 < 9223372036854775808 * d
short n d q s h =
    let x = 9223372036854775808 * d in
    go x (n * 1) (nltb→le x (n * 1) (neither (ltb x (n * 1)) q h)) (λ (e : x ≡ n * 1). other (ltb x (n * 1)) q h (s e))
  where
    go : (x y : ℕ) → y ≤ x → (x ≡ y → ⊥) → y < x
    go x y a b = omega arith

    other : (p q : Bool) → T (not (p || (q && true))) → T q → ⊥
    other true q h t = h
    other false true h t = h
    other false false h t = t

-- what `round_size` requires of v, and what its answer is to `round_of`
abbrev pub Upper : Float → Type 0
Upper v = T (lt nought v) × T (lt v (fin false 1 (pos 63))) × (round_of v ≡ saturated false (size_of v))

pub upper : (v : Float) → lt nought v ≡ true → le end v ≡ false → Upper v
unfolding le lt eq of_bits round_of size_of
upper nan h k = absurd (false≢true h)
upper (inf true) h k = absurd (false≢true h)
upper (inf false) h k = absurd (true≢false k)
upper (fin true m e) h k = absurd (false≢true h)
upper (fin false m e) h k =
    let x = 9223372036854775808 * down e in
    let y = m * up e * 1 in
    (yes h, lt→ltb y x (short (m * up e) (down e) (eqb x y) eq→eqb (no k)), refl)

abbrev pub Lower : Float → Type 0
Lower v = T (lt nought (neg v)) × T (lt (neg v) (fin false 1 (pos 63))) × (round_of v ≡ saturated true (size_of (neg v)))

above : (n d : ℕ) → T (ltb 0 (n * 1 + 0 * d)) → 0 * d < n * 1
above n d h = go n d (ltb→lt 0 (n * 1 + 0 * d) h)
  where
    go : (n d : ℕ) → 0 < n * 1 + 0 * d → 0 * d < n * 1
    go n d h = omega arith

pub lower : (v : Float) → lt v nought ≡ true → le v (neg end) ≡ false → Lower v
unfolding le lt eq neg of_bits round_of size_of
lower nan h k = absurd (false≢true h)
lower (inf false) h k = absurd (false≢true h)
lower (inf true) h k = absurd (true≢false k)
lower (fin false m e) h k = absurd (below_none (m * up e) (down e) (ltb→lt (m * up e * 1) (0 * down e) (yes h)))
  where
    below_none : (n d : ℕ) → n * 1 < 0 * d → ⊥
    below_none n d h = omega arith
lower (fin true m e) h k =
    let x = 9223372036854775808 * down e in
    let y = m * up e * 1 in
    (lt→ltb (0 * down e) y (above (m * up e) (down e) (yes h)), lt→ltb y x (short (m * up e) (down e) (eqb y x) (λ (i : x ≡ y). eq→eqb (sym i)) (no k)), refl)

-- ---- 0 and NaN
rounds-to-none : (n d : ℕ) → n ≡ 0 → 0 < d → half_upward n d ≡ 0
unfolding half_upward
rounds-to-none n d h D = div-eq_of_lt (less n d h D)
  where
    less : (n d : ℕ) → n ≡ 0 → 0 < d → n * 2 + d < d * 2
    less n d h D = omega arith

pub none : (v : Float) → lt nought v ≡ false → lt v nought ≡ false → pos 0 ≡ round_of v
unfolding lt of_bits round_of size_of
none nan h k = refl
none (inf true) h k = absurd (true≢false k)
none (inf false) h k = absurd (true≢false h)
none (fin false m e) h k =
    ap (λ (w : ℕ). pos (min w 9223372036854775807)) (sym (rounds-to-none (m * up e) (down e) (zero_of (m * up e) (down e) (nltb→le (0 * down e) (m * up e * 1) (no h))) (down_pos e)))
  where
    zero_of : (n d : ℕ) → n * 1 ≤ 0 * d → n ≡ 0
    zero_of n d h = omega arith
none (fin true m e) h k =
    ap (λ (w : ℕ). neg_ℤ (pos (min w 9223372036854775808))) (sym (rounds-to-none (m * up e) (down e) (zero_of (m * up e) (down e) (nltb→le 0 (m * up e * 1 + 0 * down e) (no k))) (down_pos e)))
  where
    zero_of : (n d : ℕ) → n * 1 + 0 * d ≤ 0 → n ≡ 0
    zero_of n d h = omega arith

-- ---- the answer as an i64
pub kept : (u : ℕ) → u ≤ limit → to_z w64 u ≡ saturated false u
kept u h = size_back u h ∙ ap pos (let i : u ≡ min u 9223372036854775807 = omega arith in i)

pub kept_low : (u : ℕ) → u ≤ limit → to_z w64 (of_z w64 (pos 0 -ℤ to_z w64 u)) ≡ saturated true u
kept_low u h = size-neg-back u h ∙ ap (λ (k : ℕ). neg_ℤ (pos k)) (let i : u ≡ min u 9223372036854775808 = omega arith in i)
