-- Whole numbers up to 2^53 as floats: nothing is rounded, a quotient of two is rounded once, and they come back from the search as themselves.
use Rattle.std.proofs.Common.{◌≡◌, ℕ, suc, ◌+◌, ◌-◌, ◌*◌, ◌<◌, ◌≤◌, min, Bool, true, false, ℤ, pos, negsuc, neg_ℤ, nat_abs, sym, refl, ap, ◌∙◌, zero-lt-suc, div-lt_iff_lt-mul, mul-pos, le-div_iff_mul-le, zero-mul, arith, le-ltb, ne_eqb}
use lib.Signed.{lt_z}
use lib.Ieee.{Float, nan, inf, fin, Format, binary64, up, down, unlike, round, neg, add, sub, sum, mul, div, of_int, of_bits, lt}
use lib.Ieee.Fits.{up_pos, down_pos}
use lib.Ieee.Exact.{HasValue}
use lib.Ieee.Scale.{finite, round_same}
use lib.Ieee.Back.{round_whole}
use Rattle.ratio.specs.Step.{signed}
use Rattle.ratio.proofs.Words.{pos-neg}
use Rattle.bridge.specs.Round.{half_upward, size_of, saturated, round_of}
use Rattle.std.specs.Float.{float_with_sign}
use Rattle.bridge.specs.Search.{small, scaled, near}
use Rattle.bridge.specs.Promise.{exact}

-- ---- the value of such a float

pub has_value : (n : ℤ) → nat_abs n ≤ exact → HasValue (of_int binary64 n) (lt_z n (pos 0)) (nat_abs n) 1
unfolding of_int
has_value (pos n) h = rw (pos-neg n) (round_whole binary64 false n h)
has_value (negsuc n) h = round_whole binary64 true (suc n) h

is-round : (n : ℤ) → of_int binary64 n ≡ round binary64 (lt_z n (pos 0)) (nat_abs n) 1
unfolding of_int
is-round (pos n) = rw (pos-neg n)
is-round (negsuc n) = refl

-- ---- a quotient

no-significand : (m u d b : ℕ) → m * u * 1 ≡ b * d → 0 < b → 0 < d → m ≡ 0 → ⊥
no-significand m u d b e B D z = omega (arith, mul-pos B D, ap (λ (k : ℕ). k * u * 1) z, zero-mul u)

some : (n : ℕ) → (n ≡ 0 → ⊥) → 0 < n
some n h = omega (arith, h)

cross : (x y p q a b : ℕ) → x * 1 ≡ a * p → y * 1 ≡ b * q → x * q * b ≡ a * (y * p)
cross x y p q a b e i = omega (arith, ap (λ (k : ℕ). k * q * b) e, ap (λ (k : ℕ). a * (k * p)) i)

pub div-at : (f : Format) (x y : Float) (s t : Bool) (a b : ℕ) → 0 < b → HasValue x s a 1 → HasValue y t b 1 → div f x y ≡ round f (unlike s t) a b
unfolding div
div-at f nan y s t a b B h k = absurd h
div-at f (inf r) y s t a b B h k = absurd h
div-at f (fin r m e) nan s t a b B h k = absurd k
div-at f (fin r m e) (inf q) s t a b B h k = absurd k
div-at f (fin r m e) (fin q n d) s t a b B h k =
    let ne = no-significand n (up d) (down d) b k.1 B (down_pos d) in
    rw (h.0, k.0, ne_eqb n 0 ne)
    (round_same f (unlike s t) (m * up e * down d) (n * up d * down e) a b (mul-pos (mul-pos (some n ne) (up_pos d)) (down_pos e)) B
    (cross (m * up e) (n * up d) (down e) (down d) a b h.1 k.1))

-- ---- times one

unlike-plus : (s : Bool) → unlike s false ≡ s
unlike-plus true = refl
unlike-plus false = refl

times-one : (x a d : ℕ) → x * 1 ≡ a * d → x * 1 * 1 ≡ a * (d * 1)
times-one x a d e = omega arith

mul-one-at : (f : Format) (x : Float) (s : Bool) (a : ℕ) → HasValue x s a 1 → mul f x (fin false 1 (pos 0)) ≡ round f s a 1
unfolding mul
mul-one-at f nan s a h = absurd h
mul-one-at f (inf r) s a h = absurd h
mul-one-at f (fin r m e) s a h =
    rw (h.0, unlike-plus s) (round_same f s (m * up e * 1) (down e * 1) a 1 (mul-pos (down_pos e) (zero-lt-suc 0)) (zero-lt-suc 0) (times-one (m * up e) a (down e) h.1))

-- ---- rounded to a whole number it is itself

half-up-whole : (n a d : ℕ) → 0 < d → n * 1 ≡ a * d → half_upward n d ≡ a
unfolding half_upward
half-up-whole n a d D e =
    let q = half_upward n d in
    let p : 0 < d * 2 = omega arith in
    let least : a ≤ q = (le-div_iff_mul-le p).1 (omega arith) in
    let most : q < a + 1 = (div-lt_iff_lt-mul p).1 (omega arith) in
    omega arith

pub kept : (s : Bool) (a : ℕ) → a ≤ exact → saturated s a ≡ signed s a
kept true a h = ap (λ (n : ℕ). neg_ℤ (pos n)) (let i : min a 9223372036854775808 ≡ a = omega arith in i)
kept false a h = ap pos (let i : min a 9223372036854775807 ≡ a = omega arith in i)

round-at : (x : Float) (s : Bool) (a : ℕ) → a ≤ exact → HasValue x s a 1 → round_of x ≡ signed s a
unfolding round_of size_of
round-at nan s a A h = absurd h
round-at (inf r) s a A h = absurd h
round-at (fin r m e) s a A h = rw (h.0, half-up-whole (m * up e) a (down e) (down_pos e) h.1) (kept s a A)

-- ---- less itself it is zero

nothing : (f : Format) (x c : ℕ) → 0 < c → round f false (x - x) c ≡ round f false 0 1
nothing f x c C = round_same f false (x - x) c 0 1 C (zero-lt-suc 0) (omega arith)

less-itself : (f : Format) (x : Float) (s : Bool) (a : ℕ) → HasValue x s a 1 → sub f x x ≡ round f false 0 1
unfolding sub add neg sum
less-itself f nan s a h = absurd h
less-itself f (inf r) s a h = absurd h
less-itself f (fin true m e) s a h =
    let x = m * up e * down e in rw (le-ltb x x (omega arith)) (nothing f x (down e * down e) (mul-pos (down_pos e) (down_pos e)))
less-itself f (fin false m e) s a h =
    let x = m * up e * down e in rw (le-ltb x x (omega arith)) (nothing f x (down e * down e) (mul-pos (down_pos e) (down_pos e)))

zero-small : small (round binary64 false 0 1) ≡ true
unfolding small float_with_sign lt round of_bits
zero-small = refl

one_float : of_int binary64 (pos 1) ≡ fin false 1 (pos 0)
unfolding of_int round
one_float = refl

-- ---- such a float is close to a whole number at the first denominator

pub signed_is : (n : ℤ) → signed (lt_z n (pos 0)) (nat_abs n) ≡ n
signed_is (pos n) = rw (pos-neg n)
signed_is (negsuc n) = refl

once : (n : ℤ) → nat_abs n ≤ exact → scaled (of_int binary64 n) 1 ≡ of_int binary64 n
once n h = ap (mul binary64 (of_int binary64 n)) one_float ∙ mul-one-at binary64 (of_int binary64 n) (lt_z n (pos 0)) (nat_abs n) (has_value n h) ∙ sym (is-round n)

pub back : (n : ℤ) → nat_abs n ≤ exact → round_of (scaled (of_int binary64 n) 1) ≡ n
back n h = ap round_of (once n h) ∙ round-at (of_int binary64 n) (lt_z n (pos 0)) (nat_abs n) h (has_value n h) ∙ signed_is n

pub near-one : (n : ℤ) → nat_abs n ≤ exact → near (of_int binary64 n) 1 ≡ true
unfolding near
near-one n h =
    rw (back n h, once n h) (ap small (less-itself binary64 (of_int binary64 n) (lt_z n (pos 0)) (nat_abs n) (has_value n h)) ∙ zero-small)

-- ---- the ends of the range

pub near-top : near (of_int binary64 (pos 9223372036854775808)) 1 ≡ true
unfolding near small float_with_sign round_of size_of half_upward mul sub add neg sum round of_int lt of_bits
near-top = refl

pub back-top : round_of (scaled (of_int binary64 (pos 9223372036854775808)) 1) ≡ pos 9223372036854775807
unfolding round_of size_of half_upward mul round of_int
back-top = refl

pub near-least : near (of_int binary64 (negsuc 9223372036854775807)) 1 ≡ true
unfolding near small float_with_sign round_of size_of half_upward mul sub add neg sum round of_int lt of_bits
near-least = refl

pub back-least : round_of (scaled (of_int binary64 (negsuc 9223372036854775807)) 1) ≡ negsuc 9223372036854775807
unfolding round_of size_of half_upward mul round of_int
back-least = refl

pub top-finite : finite (of_int binary64 (pos 9223372036854775808)) ≡ true
unfolding of_int round
top-finite = refl

pub least-finite : finite (of_int binary64 (negsuc 9223372036854775807)) ≡ true
unfolding of_int round
least-finite = refl
