-- Below 2 ^ 52 the sum of a float and 2 ^ 52 is a whole number at most a half away, and less 2 ^ 52 that is exact.
-- So it tells whether the float is close to the whole number that it rounds to: at a half neither is.
use Rattle.std.proofs.Common.{◌≡◌, ℕ, zero, suc, ◌+◌, ◌-◌, ◌*◌, ◌/◌, ◌%◌, ◌^◌, ◌<◌, ◌≤◌, Bool, true, false, not, T, ltb, ℤ, pos, negsuc, sym, refl, ap, ◌∙◌, subst, ap₂, inl, inr, true≢false, le_trans, le_of_eq, lt_of_lt_of_le, lt_of_le_of_lt, mul-le-mul_right, zero-lt-suc, mul_assoc, mul_comm, div-lt_iff_lt-mul, mul-lt-mul_of_pos_right, mul-pos, lt_of_not-le, le-div_iff_mul-le, mul-one, mul_right_comm, not-le_of_lt, le_of_mul-le-mul_right, arith, lit≤, ltb→lt, nltb→le, pow_pos, pow_mono, pow-add, le-ltb}
use mathlib.Core.Bool.{false≢true}
use Prim.Native.Nat.{compare}
use native.Mathlib.Nat.{eq_of_mul-eq-mul_right}
use lib.Pow.{pow-lt}
use lib.Ieee.{Float, nan, inf, fin, binary64, emax, low, up, down, size, units, neg, round, sum, add, sub, of_int, of_bits, lt}
use lib.Ieee.Digits.{size-lt, size-le}
use lib.Ieee.Fits.{down_pos, round_is, nearest-le}
use lib.Ieee.Exact.{HasValue, units_val}
use lib.Ieee.Nearest.{closest, closest_same, nearest-ge}
use lib.Ieee.Scale.{round_same}
use lib.Ieee.Back.{round_whole}
use Rattle.ratio.specs.Step.{signed}
use Rattle.ratio.proofs.Words.{pos-neg}
use Rattle.bridge.specs.Round.{half_upward, size_of, saturated, round_of}
use Rattle.bridge.specs.Search.{small}
use Rattle.bridge.specs.Promise.{exact}
use Rattle.bridge.proofs.Gap.{gap, Alike, same_gap, half-up-gap, closest-gap, sub-gap}
use Rattle.bridge.proofs.Whole.{has_value, kept}

-- ---- a fraction of prec digits before the point is rounded to a whole number

size-gt : (n j : ℕ) → 2 ^ j ≤ n → j < size n
size-gt n j h = lt_of_not-le (λ (g : size n ≤ j). not-le_of_lt (lt_of_lt_of_le (size-lt n) (pow_mono g)) h)

exactly : (z p l : ℕ) → z ≤ suc p + l → p + l < z → z - suc p ≡ l
exactly z p l a b = omega arith

drops : (a c l p : ℕ) → 0 < c → 2 ^ p * c ≤ a → a < 2 ^ suc p * c → size (a * 2 ^ l / c) - suc p ≡ l
drops a c l p C lo hi =
    let lo' : 2 ^ (p + l) * c ≤ a * 2 ^ l = le_trans (le_of_eq (ap (λ (z : ℕ). z * c) (pow-add 2 p l) ∙ mul_right_comm (2 ^ p) (2 ^ l) c)) (mul-le-mul_right (2 ^ l) lo) in
    let hi' : a * 2 ^ l < 2 ^ (suc p + l) * c = lt_of_lt_of_le (mul-lt-mul_of_pos_right hi (pow_pos l)) (le_of_eq (mul_right_comm (2 ^ suc p) c (2 ^ l) ∙ ap (λ (z : ℕ). z * c) (sym (pow-add 2 (suc p) l)))) in
    exactly (size (a * 2 ^ l / c)) p l (size-le (a * 2 ^ l / c) (suc p + l) ((div-lt_iff_lt-mul C).1 hi')) (size-gt (a * 2 ^ l / c) (p + l) ((le-div_iff_mul-le C).1 lo'))

wide : (p l t : ℕ) → p < t → p + l < l + t
wide p l t h = omega arith

-- the value over 2 ^ l is the value over 1
over-one : (z : Float) (s : Bool) (q l : ℕ) → HasValue z s (q * 2 ^ l) (2 ^ l) → HasValue z s q 1
over-one nan s q l h = absurd h
over-one (inf r) s q l h = absurd h
over-one (fin r m e) s q l h =
    (h.0, eq_of_mul-eq-mul_right (2 ^ l) (pow_pos l) (m * up e * 1) (q * down e) (plain (m * up e) (2 ^ l) ∙ h.1 ∙ mul_right_comm q (2 ^ l) (down e)))
  where
    plain : (x y : ℕ) → x * 1 * y ≡ x * y
    plain x y = omega arith

at_most : (a c p : ℕ) → 0 < c → a < 2 ^ p * c → closest a c ≤ 2 ^ p
at_most a c p C h = le_trans (nearest-le (a / c) (compare (a % c * 2) c)) ((div-lt_iff_lt-mul C).1 h)

at_least : (a c p : ℕ) → 0 < c → 2 ^ p * c ≤ a → 2 ^ p ≤ closest a c
at_least a c p C h = le_trans ((le-div_iff_mul-le C).1 h) (nearest-ge (a / c) (compare (a % c * 2) c))

module _ (s : Bool) (a c : ℕ) (C : 0 < c) (lo : 2 ^ 52 * c ≤ a) (hi : a < 2 ^ 53 * c) where
  whole-units : round binary64 s a c ≡ units binary64 s (closest a c) (low binary64)
  whole-units =
      let l = low binary64 in
      round_is binary64 s a c
      ∙ ap (λ (k : ℕ). units binary64 s (closest (a * 2 ^ l) (c * 2 ^ k)) k) (drops a c l 52 C lo hi)
      ∙ ap (λ (q : ℕ). units binary64 s q l) (closest_same (a * 2 ^ l) (c * 2 ^ l) a c (mul-pos C (pow_pos l)) C (mul_assoc a (2 ^ l) c ∙ ap (λ (z : ℕ). a * z) (mul_comm (2 ^ l) c)))

  pub whole-value : HasValue (round binary64 s a c) s (closest a c) 1
  whole-value =
      let l = low binary64 in
      let q = closest a c in
      let fine : q * 2 ^ l < 2 ^ (l + suc (emax binary64)) =
      lt_of_le_of_lt (mul-le-mul_right (2 ^ l) (at_most a c 53 C hi)) (lt_of_le_of_lt (le_of_eq (sym (pow-add 2 53 l))) (pow-lt (wide 53 l (suc (emax binary64)) (lit≤ tt)))) in
      over-one (round binary64 s a c) s q l (subst (λ (z : Float). HasValue z s (q * 2 ^ l) (2 ^ l)) (sym whole-units) (units_val binary64 s q l fine))

-- ---- less 2 ^ 52 again

-- ±2 ^ 52
abbrev pub bulk : Bool → Float
bulk s = fin s 1 (pos 52)

-- of sign s but where it is zero, and as large as q
pub record Snapped (z : Float) (s : Bool) (q : ℕ) : Type 0 where
  pub sign : Bool
  pub like : Alike s sign q
  pub value : HasValue z sign q 1

module _ (w : ℕ) (lo : 4503599627370496 ≤ w) (hi : w ≤ exact) where
  taken-off : (x d : ℕ) → x * 1 ≡ w * d → (x * 1 - 4503599627370496 * d) * 1 ≡ (w - 4503599627370496) * (d * 1)
  taken-off x d h =
      let u = w - 4503599627370496 in
      let e : w ≡ u + 4503599627370496 = omega arith in
      omega (arith, h, ap (λ (k : ℕ). k * d) e)

  reached : (x d : ℕ) → x * 1 ≡ w * d → 4503599627370496 * d ≤ x * 1
  reached x d h = omega (arith, h, mul-le-mul_right d lo)

  left : (t : Bool) (x d : ℕ) → 0 < d → x * 1 ≡ w * d → HasValue (round binary64 t (x * 1 - 4503599627370496 * d) (d * 1)) t (w - 4503599627370496) 1
  left t x d D h =
      let q = w - 4503599627370496 in
      subst (λ (z : Float). HasValue z t q 1) (sym (round_same binary64 t (x * 1 - 4503599627370496 * d) (d * 1) q 1 (mul-pos D (zero-lt-suc 0)) (zero-lt-suc 0) (taken-off x d h)))
      (round_whole binary64 t q (omega arith))

  -- a zero that is left is +0
  none_left : (x d : ℕ) → 0 < d → x * 1 ≡ w * d → x * 1 ≤ 4503599627370496 * d → w - 4503599627370496 ≡ 0
  none_left x d D h k = let i : w ≤ 4503599627370496 = le_of_mul-le-mul_right (le_trans (le_of_eq (sym h)) k) D in omega arith

  below : (x d : ℕ) → 0 < d → x * 1 ≡ w * d → Snapped (round binary64 (ltb (4503599627370496 * d) (x * 1)) (x * 1 - 4503599627370496 * d) (d * 1)) true (w - 4503599627370496)
  below x d D h = go (ltb (4503599627370496 * d) (x * 1)) (nltb→le (4503599627370496 * d) (x * 1))
    where
      go : (t : Bool) → (T (not t) → x * 1 ≤ 4503599627370496 * d) → Snapped (round binary64 t (x * 1 - 4503599627370496 * d) (d * 1)) true (w - 4503599627370496)
      go true k = record { sign = true; like = inl refl; value = left true x d D h }
      go false k = record { sign = false; like = inr (none_left x d D h (k tt)); value = left false x d D h }

  less : (z : Float) (s : Bool) → HasValue z s w 1 → Snapped (add binary64 z (bulk (not s))) s (w - 4503599627370496)
  unfolding add sum
  less nan s h = absurd h
  less (inf r) s h = absurd h
  less (fin true m e) true h = rw (le-ltb (m * up e * 1) (4503599627370496 * down e) (reached (m * up e) (down e) h.1)) (below (m * up e) (down e) (down_pos e) h.1)
  less (fin false m e) false h =
      rw (le-ltb (m * up e * 1) (4503599627370496 * down e) (reached (m * up e) (down e) h.1))
      (record { sign = false; like = inl refl; value = left false (m * up e) (down e) (down_pos e) h.1 })
  less (fin true m e) false h = absurd (true≢false h.0)
  less (fin false m e) true h = absurd (false≢true h.0)

-- ---- both steps

-- the whole number that is left, and how far it is
pub record Near (n c : ℕ) (z : Float) (s : Bool) : Type 0 where
  pub number : ℕ
  pub snapped : Snapped z s number
  pub close : gap n (number * c) * 2 ≤ c

plus : (s : Bool) (x c y : ℕ) → sum binary64 s (x * 1) s y (c * 1) ≡ round binary64 s (x + y) c
unfolding sum
plus true x c y = ap₂ (round binary64 true) (ap (λ (z : ℕ). z + y) (mul-one x)) (mul-one c)
plus false x c y = ap₂ (round binary64 false) (ap (λ (z : ℕ). z + y) (mul-one x)) (mul-one c)

module _ (s : Bool) (m : ℕ) (e : ℤ) (h : m * up e < 4503599627370496 * down e) where
  first : add binary64 (fin s m e) (bulk s) ≡ round binary64 s (m * up e + 4503599627370496 * down e) (down e)
  unfolding add
  first = plus s (m * up e) (down e) (4503599627370496 * down e)

  pub snap : Near (m * up e) (down e) (add binary64 (add binary64 (fin s m e) (bulk s)) (bulk (not s))) s
  snap =
      let n = m * up e in
      let c = down e in
      let a = n + 4503599627370496 * c in
      let C = down_pos e in
      let w = closest a c in
      let lo : 4503599627370496 ≤ w = at_least a c 52 C (omega arith) in
      let hi : w ≤ exact = at_most a c 53 C (omega arith) in
      let l = less w lo hi (add binary64 (fin s m e) (bulk s)) s (subst (λ (z : Float). HasValue z s w 1) (sym first) (whole-value s a c C (omega arith) (omega arith))) in
      record { number = w - 4503599627370496; snapped = l; close = shifted n c w lo (closest-gap a c C) }
    where
      shifted : (n c w : ℕ) → 4503599627370496 ≤ w → gap (n + 4503599627370496 * c) (w * c) * 2 ≤ c → gap n ((w - 4503599627370496) * c) * 2 ≤ c
      shifted n c w lo h =
          let u = w - 4503599627370496 in
          let i : w ≡ u + 4503599627370496 = omega arith in
          omega (arith, h, ap (λ (k : ℕ). k * c) i)

-- ---- against the whole number that it rounds to

settled : (s : Bool) (k : ℕ) → k ≤ exact → Snapped (of_int binary64 (saturated s k)) s k
settled s k h = rw (kept s k h) (go s k h)
  where
    go : (s : Bool) (k : ℕ) → k ≤ exact → Snapped (of_int binary64 (signed s k)) s k
    go false k h = record { sign = false; like = inl refl; value = rw pos-neg at (has_value (pos k) h) }
    go true zero h = record { sign = false; like = inr refl; value = rw pos-neg at (has_value (pos 0) h) }
    go true (suc k) h = record { sign = true; like = inl refl; value = has_value (negsuc k) h }

within : (n c : ℕ) → 0 < c → n < 4503599627370496 * c → half_upward n c ≤ exact
unfolding half_upward
within n c C h =
    let p : 0 < c * 2 = omega arith in
    let i : (n * 2 + c) / (c * 2) < 9007199254740993 = (div-lt_iff_lt-mul p).1 (omega arith) in
    omega arith

pub told : (s : Bool) (m : ℕ) (e : ℤ) → m * up e < 4503599627370496 * down e
    → small (sub binary64 (fin s m e) (add binary64 (add binary64 (fin s m e) (bulk s)) (bulk (not s)))) ≡ small (sub binary64 (fin s m e) (of_int binary64 (round_of (fin s m e))))
unfolding round_of size_of
told s m e h =
    let n = m * up e in
    let c = down e in
    let C = down_pos e in
    let f = snap s m e h in
    let k = half_upward n c in
    let g = settled s k (within n c C h) in
    sub-gap s m e _ f.snapped.sign f.number f.snapped.like f.snapped.value
    ∙ ap (λ (d : ℕ). small (round binary64 false d c)) (same_gap n c f.number k f.close (half-up-gap n c C))
    ∙ sym (sub-gap s m e _ g.sign k g.like g.value)

-- ---- the tests of the code: between 0 and 2 ^ 52, and between -2 ^ 52 and 0

-- 2 ^ 52 as MIR has it
abbrev pub end : Float
end = of_bits binary64 0x4330_0000_0000_0000

-- close to the whole number that it rounds to
abbrev pub close_to : Float → Bool
close_to x = small (sub binary64 x (of_int binary64 (round_of x)))

yes : {b : Bool} → b ≡ true → T b
yes h = subst T (sym h) tt

short : (n d : ℕ) → ltb (n * 1) (4503599627370496 * d) ≡ true → n < 4503599627370496 * d
short n d h = go n d (ltb→lt (n * 1) (4503599627370496 * d) (yes h))
  where
    go : (n d : ℕ) → n * 1 < 4503599627370496 * d → n < 4503599627370496 * d
    go n d h = omega arith

below_none : (n d : ℕ) → ltb (n * 1) (0 * d) ≡ true → ⊥
below_none n d h = go n d (ltb→lt (n * 1) (0 * d) (yes h))
  where
    go : (n d : ℕ) → n * 1 < 0 * d → ⊥
    go n d h = omega arith

pub above : (x : Float) → lt (of_bits binary64 0) x ≡ true → lt x end ≡ true → small (sub binary64 x (sub binary64 (add binary64 x end) end)) ≡ close_to x
unfolding lt of_bits sub neg
above nan h k = absurd (false≢true h)
above (inf true) h k = absurd (false≢true h)
above (inf false) h k = absurd (false≢true k)
above (fin true m e) h k = absurd (false≢true h)
above (fin false m e) h k = told false m e (short (m * up e) (down e) k)

pub under : (x : Float) → lt x (of_bits binary64 0) ≡ true → lt (neg end) x ≡ true → small (sub binary64 x (add binary64 (sub binary64 x end) end)) ≡ close_to x
unfolding lt of_bits sub neg
under nan h k = absurd (false≢true h)
under (inf true) h k = absurd (false≢true k)
under (inf false) h k = absurd (false≢true h)
under (fin false m e) h k = absurd (below_none (m * up e) (down e) h)
under (fin true m e) h k = told true m e (short (m * up e) (down e) k)
