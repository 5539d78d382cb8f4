-- Twice a float is exact below 2 ^ 63, and the whole part of twice a number, halved upward, is the number rounded, a half upward.
use Rattle.std.proofs.Common.{◌≡◌, ℕ, zero, suc, ◌+◌, ◌-◌, ◌*◌, ◌/◌, ◌%◌, ◌^◌, ◌<◌, ◌≤◌, min, true, false, ◌&&◌, T, eqb, ltb, leb, ℤ, pos, negsuc, sym, ap, ◌∙◌, subst, true≢false, le_trans, le_of_eq, lt_of_lt_of_le, le_of_suc-le-suc, lt_of_le_of_lt, lt_irrefl, mul-le-mul_right, zero-lt-suc, mul_assoc, div-lt_iff_lt-mul, lt_of_mul-lt-mul_right, mul-lt-mul_of_pos_right, mul-pos, lt_of_not-le, zero-mul, mul-one, mul_right_comm, arith, lit≤, ltb→lt, lt→ltb, leb→le, pow_pos, pow_mono, pow-add}
use native.Mathlib.Nat.{pow-succ', div-div-eq-div-mul, add-div_right}
use lib.Pow.{pow-lt}
use lib.Ieee.{Float, nan, inf, fin, Format, binary32, binary64, prec, emax, low, up, down, add, sum, lt, fits, to_unsigned, of_bits}
use lib.Ieee.Digits.{back}
use lib.Ieee.Fits.{down_pos, and_l, and_r}
use lib.Ieee.Exact.{HasValue, round_exact}
use lib.Ieee.Nearest.{div_same}
use lib.Ieee.Scale.{round_same}
use Rattle.ratio.specs.Range.{limit}
use Rattle.bridge.specs.Round.{half_upward, size_of}

-- ---- twice m * 2 ^ e, in units of 2 ^ -l
abbrev lift : ℕ → ℤ → ℕ
lift l (pos k) = k + suc l
lift l (negsuc k) = suc l - suc k

power_le : (i j : ℕ) → 2 ^ i ≤ 2 ^ j → i ≤ j
power_le i j h = le_of_suc-le-suc (lt_of_not-le (λ (g : suc j ≤ i). lt_irrefl (2 ^ j) (lt_of_lt_of_le (pow-lt g) h)))

lifted : (l : ℕ) (e : ℤ) → down e ≤ 2 ^ l → up e * 2 * 2 ^ l ≡ 2 ^ lift l e * down e
lifted l (pos k) h =
    mul_assoc (2 ^ k) 2 (2 ^ l) ∙ ap (λ (z : ℕ). 2 ^ k * z) (sym (pow-succ' 2 l)) ∙ sym (pow-add 2 k (suc l)) ∙ sym (mul-one (2 ^ (k + suc l)))
lifted l (negsuc k) h =
    let p : suc k ≤ l = power_le (suc k) l h in
    let q : suc k ≤ suc l = omega arith in
    sym (pow-succ' 2 l) ∙ ap (λ (z : ℕ). 2 ^ z) (sym (back (suc l) (suc k) q)) ∙ pow-add 2 (suc l - suc k) (suc k)

reach-64 : (f : Format) → 64 ≤ suc (emax f)
reach-64 binary32 = lit≤ tt
reach-64 binary64 = lit≤ tt

far : (l t : ℕ) → 64 ≤ t → 64 + l ≤ l + t
far l t h = omega arith

both-add : (a b : ℕ) → (a + a) * b ≡ a * 2 * b
both-add a b = ap (λ (z : ℕ). z * b) (go a)
  where
    go : (a : ℕ) → a + a ≡ a * 2
    go a = omega arith

twice : (n d : ℕ) → (n * d + n * d) * d ≡ n * 2 * (d * d)
twice n d = both-add (n * d) d ∙ ap (λ (z : ℕ). z * d) (mul_right_comm n d 2) ∙ mul_assoc (n * 2) d d

module _ (f : Format) (m : ℕ) (e : ℤ) (small : m < 2 ^ prec f) (deep : down e ≤ 2 ^ low f) (under : m * up e < 2 ^ 63 * down e) where
  units-eq : m * up e * 2 * 2 ^ low f ≡ m * 2 ^ lift (low f) e * down e
  units-eq =
      ap (λ (z : ℕ). z * 2 ^ low f) (mul_assoc m (up e) 2)
      ∙ mul_assoc m (up e * 2) (2 ^ low f)
      ∙ ap (λ (z : ℕ). m * z) (lifted (low f) e deep)
      ∙ sym (mul_assoc m (2 ^ lift (low f) e) (down e))

  fine : m * 2 ^ lift (low f) e < 2 ^ (low f + suc (emax f))
  fine =
      let d = down e in
      let l = low f in
      let a : m * up e * (2 * 2 ^ l) < 2 ^ 63 * d * (2 * 2 ^ l) = mul-lt-mul_of_pos_right under (mul-pos (zero-lt-suc 1) (pow_pos l)) in
      let b : 2 ^ 63 * d * (2 * 2 ^ l) ≡ 2 ^ (64 + l) * d =
      mul_right_comm (2 ^ 63) d (2 * 2 ^ l) ∙ ap (λ (z : ℕ). z * d) (sym (mul_assoc (2 ^ 63) 2 (2 ^ l)) ∙ sym (pow-add 2 64 l)) in
      let c : 2 ^ (64 + l) * d ≤ 2 ^ (l + suc (emax f)) * d = mul-le-mul_right d (pow_mono (far l (suc (emax f)) (reach-64 f))) in
      lt_of_mul-lt-mul_right d
      (lt_of_le_of_lt (le_of_eq (sym units-eq ∙ mul_assoc (m * up e) 2 (2 ^ l))) (lt_of_lt_of_le a (le_trans (le_of_eq b) c)))

  pub doubled : HasValue (add f (fin false m e) (fin false m e)) false (m * up e * 2) (down e)
  unfolding add sum
  doubled =
      let n = m * up e in
      let d = down e in
      let D = down_pos e in
      subst (λ (z : Float). HasValue z false (n * 2) d) (sym (round_same f false (n * d + n * d) (d * d) (n * 2) d (mul-pos D D) D (twice n d)))
      (round_exact f false (n * 2) d m (lift (low f) e) D small fine units-eq)

-- ---- the whole part of a value that is known as a fraction
under-two : (n d : ℕ) → n < 9223372036854775808 * d → n * 2 < 18446744073709551616 * d
under-two n d h = omega arith

some : (d n : ℕ) → 0 < d → 0 < 1 * d + n * 1
some d n h = omega arith

one_of : (a : ℕ) → a * 1 ≡ a
one_of a = omega arith

uncapped : (w : ℕ) → w < 18446744073709551616 → min w 18446744073709551615 ≡ w
uncapped w h = omega arith

-- what `truncating_f64_to_u64` requires of y, and what it then gives
abbrev pub Cut : Float → ℕ → ℕ → Type 0
Cut y a c = T (lt (fin true 1 (pos 0)) y) × T (lt y (fin false 1 (pos 64))) × (to_unsigned 64 y ≡ a / c)

pub cut : (y : Float) (a c : ℕ) → 0 < c → a < 2 ^ 64 * c → HasValue y false a c → Cut y a c
unfolding lt to_unsigned
cut nan a c C h v = absurd v
cut (inf s) a c C h v = absurd v
cut (fin true m e) a c C h v = absurd (true≢false v.0)
cut (fin false m e) a c C h v =
    let n = m * up e in
    let d = down e in
    let D = down_pos e in
    let q : n / d ≡ a / c = div_same n d a c D C v.1 in
    let w : n / d < 2 ^ 64 = subst (λ (z : ℕ). z < 2 ^ 64) (sym q) ((div-lt_iff_lt-mul C).1 h) in
    let k : n < 2 ^ 64 * d = (div-lt_iff_lt-mul D).0 w in (
      lt→ltb 0 (1 * d + n * 1) (some d n D),
      lt→ltb (n * 1) (1 * 2 ^ 64 * d) (subst (λ (z : ℕ). z < 2 ^ 64 * d) (sym (one_of n)) k),
      uncapped (n / d) w ∙ q,
    )

-- ---- halved upward
odd-up : (u : ℕ) → (u + 1) / 2 ≡ u / 2 + u % 2
odd-up u = omega arith

pub half_up : (n d : ℕ) → 0 < d → half_upward n d ≡ n * 2 / d / 2 + n * 2 / d % 2
unfolding half_upward
half_up n d D = sym (div-div-eq-div-mul (n * 2 + d) d 2) ∙ ap (λ (z : ℕ). z / 2) (add-div_right (n * 2) D) ∙ odd-up (n * 2 / d)

-- ---- a float above 0 and below 2 ^ 63
tidy : (n d : ℕ) → n * 1 < 1 * 9223372036854775808 * d → n < 9223372036854775808 * d
tidy n d h = omega arith

-- a whole number stays what it is, and a float with a fraction is below 2 ^ 53
no_more : (m : ℕ) (e : ℤ) → m < 9007199254740992 → m * up e < 9223372036854775808 * down e → half_upward (m * up e) (down e) < 9223372036854775808
unfolding half_upward
no_more m (pos k) h u = (div-lt_iff_lt-mul (zero-lt-suc 1)).1 (whole (m * 2 ^ k) u)
  where
    whole : (n : ℕ) → n < 9223372036854775808 * 1 → n * 2 + 1 < 9223372036854775808 * (1 * 2)
    whole n u = omega arith
no_more m (negsuc k) h u = (div-lt_iff_lt-mul (mul-pos (pow_pos (suc k)) (zero-lt-suc 1))).1 (part (2 ^ suc k) (pow_pos (suc k)))
  where
    part : (d : ℕ) → 0 < d → m * 1 * 2 + d < 9223372036854775808 * (d * 2)
    part d D = omega arith

-- what the function's proof cites: twice a is cut as the call asks, and the answer is a's size rounded, within the range
abbrev pub Sized : Float → Type 0
Sized a =
    T (lt (fin true 1 (pos 0)) (add binary64 a a)) × T (lt (add binary64 a a) (fin false 1 (pos 64)))
    × (to_unsigned 64 (add binary64 a a) / 2 + to_unsigned 64 (add binary64 a a) % 2 ≡ size_of a) × (size_of a ≤ limit)

pub sized : (a : Float) → T (fits binary64 a) → T (lt (of_bits binary64 0) a) → T (lt a (fin false 1 (pos 63))) → Sized a
unfolding lt of_bits size_of fits
sized nan f p q = absurd p
sized (inf true) f p q = absurd p
sized (inf false) f p q = absurd q
sized (fin true m e) f p q = absurd p
sized (fin false zero e) f p q = absurd (lt_irrefl 0 (ltb→lt 0 0 (subst (λ (z : ℕ). T (ltb 0 z)) (ap (λ (z : ℕ). z * 1) (zero-mul (up e))) (subst (λ (z : ℕ). T (ltb z (zero * up e * 1))) (zero-mul (down e)) p))))
sized (fin false (suc m) e) f p q =
    let n = suc m * up e in
    let d = down e in
    let D = down_pos e in
    let u = tidy n d (ltb→lt (n * 1) (1 * 2 ^ 63 * d) q) in
    let A = eqb (suc m % 2) 1 in
    let B = ltb (suc m) (2 ^ prec binary64) in
    let C = leb d (2 ^ low binary64) in
    let E = ltb n (2 ^ suc (emax binary64) * d) in
    let abc = and_l (A && B && C) E f in
    let small = ltb→lt (suc m) (2 ^ prec binary64) (and_r A B (and_l (A && B) C abc)) in
    let deep = leb→le d (2 ^ low binary64) (and_r (A && B) C abc) in
    let k = cut (add binary64 (fin false (suc m) e) (fin false (suc m) e)) (n * 2) d D (under-two n d u) (doubled binary64 (suc m) e small deep u) in
    (k.0, k.1, ap (λ (w : ℕ). w / 2 + w % 2) k.2 ∙ sym (half_up n d D), le_of_suc-le-suc (no_more (suc m) e small u))
