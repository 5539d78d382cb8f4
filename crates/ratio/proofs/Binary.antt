-- Laws of the greatest common divisor by halves: twos are divided out, and the smaller of two odd numbers is taken from the larger.
use mathlib.Core.Path.{◌≡◌, refl, sym, ap, ap₂, subst, ◌∙◌}
use Prim.Native.Nat.{ℕ, zero, suc, ◌∣◌, ◌+◌, ◌*◌, ◌-◌, ◌/◌, ◌%◌, ◌<◌, ◌≤◌, ◌^◌, min}
use native.Mathlib.Nat.{dvd_antisymm, dvd_trans, dvd-sub, dvd-sub_iff_left, dvd-mul_left, dvd-mul_right, dvd-mul_right_of_dvd, dvd_of_mod-eq-zero, mod-eq-zero_of_dvd, dvd_of_mul-dvd-mul_right, mul-dvd-mul_right, mul-div_cancel', div-mul_cancel, div-one, div-div-eq-div-mul, div-lt_iff_lt-mul, mul-one, mul_assoc, mul_left_comm, sub-add_cancel, pow-suc, pow-succ', zero-lt-suc, mul-le-mul_left}
use native.Mathlib.Omega.{arith, min_cases}
use lib.Pow.{pow-add, pow_pos}
use lib.Count.{count_trailing_zeros, under}
use Rattle.ratio.specs.Gcd.{gcd_of}
use Rattle.ratio.proofs.Euclid.{is-gcd}

-- ---- two pairs with the same common divisors have the same greatest one

gcd-same : (a b c d : ℕ) → ((k : ℕ) → k ∣ a → k ∣ b → (k ∣ c) × (k ∣ d)) → ((k : ℕ) → k ∣ c → k ∣ d → (k ∣ a) × (k ∣ b)) → gcd_of a b ≡ gcd_of c d
gcd-same a b c d to from =
    let p = is-gcd a b in
    let q = is-gcd c d in
    let t = to (gcd_of a b) p.divides-a p.divides-b in
    let f = from (gcd_of c d) q.divides-a q.divides-b in
    dvd_antisymm (q.greatest (gcd_of a b) t.0 t.1) (p.greatest (gcd_of c d) f.0 f.1)

pub gcd-comm : (a b : ℕ) → gcd_of a b ≡ gcd_of b a
gcd-comm a b = gcd-same a b b a (λ k x y. (y, x)) (λ k x y. (y, x))

gcd-less : (x z : ℕ) → x ≤ z → gcd_of x z ≡ gcd_of x (z - x)
gcd-less x z h = gcd-same x z x (z - x) (λ k p q. (p, dvd-sub k q p)) (λ k p q. (p, (dvd-sub_iff_left k h p).0 q))

-- the smaller of two, and how far they are apart
pub gcd-gap : (x z : ℕ) → gcd_of x z ≡ gcd_of (min x z) (x - z + (z - x))
gcd-gap x z =
    min_cases x z (gcd_of x z ≡ gcd_of (min x z) (x - z + (z - x)))
    (λ h e. gcd-less x z h ∙ ap₂ gcd_of (sym e) (let w : z - x ≡ x - z + (z - x) = omega arith in w))
    (λ h e. gcd-comm x z ∙ gcd-less z x h ∙ ap₂ gcd_of (sym e) (let w : x - z ≡ x - z + (z - x) = omega arith in w))

-- ---- an odd number has no twos in common with any other

odd-divisor : (d x : ℕ) → d ∣ x → x % 2 ≡ 1 → d % 2 ≡ 1
odd-divisor d x h o = by (d % 2) refl
  where
    by : (r : ℕ) → d % 2 ≡ r → d % 2 ≡ 1
    by zero e = absurd (let z : x % 2 ≡ 0 = mod-eq-zero_of_dvd 2 (dvd_trans 2 (dvd_of_mod-eq-zero 2 e) h) in omega arith)
    by (suc r) e = omega arith

halve : (d w : ℕ) → d % 2 ≡ 1 → d ∣ w * 2 → d ∣ w
halve d w o h =
    let q = w * 2 / d in
    let e : d * q ≡ w * 2 = mul-div_cancel' d h in
    let s : d * q ≡ (d / 2 * 2 + 1) * q = ap (λ (n : ℕ). n * q) (let z : d ≡ d / 2 * 2 + 1 = omega arith in z) in
    let t : d * q ≡ d * (q / 2 * 2 + q % 2) = ap (λ (n : ℕ). d * n) (let z : q ≡ q / 2 * 2 + q % 2 = omega arith in z) in
    let even : q % 2 ≡ 0 = omega arith in
    let u : d * (q / 2) ≡ w = omega (arith, ap (λ (n : ℕ). d * n) even) in
    subst (λ (n : ℕ). d ∣ n) u (dvd-mul_right d (q / 2))

strip-divisor : (d z k : ℕ) → d % 2 ≡ 1 → d ∣ z * 2 ^ k → d ∣ z
strip-divisor d z zero o h = subst (λ (n : ℕ). d ∣ n) (mul-one z) h
strip-divisor d z (suc k) o h = strip-divisor d z k o (halve d (z * 2 ^ k) o (subst (λ (n : ℕ). d ∣ n) (ap (λ (n : ℕ). z * n) (pow-suc 2 k) ∙ sym (mul_assoc z (2 ^ k) 2)) h))

pub gcd-strip : (x z k : ℕ) → x % 2 ≡ 1 → gcd_of x (z * 2 ^ k) ≡ gcd_of x z
gcd-strip x z k o = gcd-same x (z * 2 ^ k) x z (λ d p q. (p, strip-divisor d z k (odd-divisor d x p o) q)) (λ d p q. (p, dvd-mul_right_of_dvd d q (2 ^ k)))

-- one round: z is what is left of y without its twos
pub round-odd : (x z : ℕ) → x % 2 ≡ 1 → z % 2 ≡ 1 → min x z % 2 ≡ 1
round-odd x z ox oz = min_cases x z (min x z % 2 ≡ 1) (λ h e. ap (λ (n : ℕ). n % 2) e ∙ ox) (λ h e. ap (λ (n : ℕ). n % 2) e ∙ oz)

pub round_same : (x y z k : ℕ) → x % 2 ≡ 1 → z * 2 ^ k ≡ y → gcd_of (min x z) (x - z + (z - x)) ≡ gcd_of x y
round_same x y z k ox e = sym (gcd-gap x z) ∙ sym (gcd-strip x z k ox) ∙ ap (gcd_of x) e

pub round-less : (x y z k : ℕ) → x % 2 ≡ 1 → z % 2 ≡ 1 → z * 2 ^ k ≡ y → min x z + (x - z + (z - x)) < x + y
round-less x y z k ox oz e =
    let h : z * 1 ≤ z * 2 ^ k = mul-le-mul_left z (pow_pos k) in
    omega arith

-- ---- a common factor

gcd-scale : (m n c : ℕ) → 0 < c → gcd_of (m * c) (n * c) ≡ gcd_of m n * c
gcd-scale m n c h =
    let g = gcd_of m n in
    let p = is-gcd m n in
    let k = gcd_of (m * c) (n * c) in
    let q = is-gcd (m * c) (n * c) in
    let e : k / c * c ≡ k = div-mul_cancel c (q.greatest c (dvd-mul_left c m) (dvd-mul_left c n)) in
    let left : k / c ∣ m = dvd_of_mul-dvd-mul_right (k / c) h (subst (λ (t : ℕ). t ∣ m * c) (sym e) q.divides-a) in
    let right : k / c ∣ n = dvd_of_mul-dvd-mul_right (k / c) h (subst (λ (t : ℕ). t ∣ n * c) (sym e) q.divides-b) in
    dvd_antisymm
    (subst (λ (t : ℕ). t ∣ g * c) e (mul-dvd-mul_right (k / c) (p.greatest (k / c) left right) c))
    (q.greatest (g * c) (mul-dvd-mul_right g p.divides-a c) (mul-dvd-mul_right g p.divides-b c))

-- the lesser power of two is taken out of both
split : (x s t : ℕ) → s ≤ t → x * 2 ^ t ≡ x * 2 ^ (t - s) * 2 ^ s
split x s t h = ap (λ (n : ℕ). x * n) (ap (λ (n : ℕ). 2 ^ n) (sym (sub-add_cancel h)) ∙ pow-add 2 (t - s) s) ∙ sym (mul_assoc x (2 ^ (t - s)) (2 ^ s))

pub gcd-twos : (a x s t : ℕ) → a % 2 ≡ 1 → x % 2 ≡ 1 → gcd_of (a * 2 ^ s) (x * 2 ^ t) ≡ gcd_of (a * 2 ^ s) x * 2 ^ min s t
gcd-twos a x s t oa ox =
    let odd : gcd_of (a * 2 ^ s) x ≡ gcd_of a x = gcd-comm (a * 2 ^ s) x ∙ gcd-strip x a s ox ∙ gcd-comm x a in
    min_cases s t (gcd_of (a * 2 ^ s) (x * 2 ^ t) ≡ gcd_of (a * 2 ^ s) x * 2 ^ min s t)
    (λ h e. ap (gcd_of (a * 2 ^ s)) (split x s t h) ∙ gcd-scale a (x * 2 ^ (t - s)) (2 ^ s) (pow_pos s) ∙ ap₂ (λ (g k : ℕ). g * 2 ^ k) (gcd-strip a x (t - s) oa ∙ sym odd) (sym e))
    (λ h e. ap (λ (n : ℕ). gcd_of n (x * 2 ^ t)) (split a t s h) ∙ gcd-scale (a * 2 ^ (s - t)) x (2 ^ t) (pow_pos t) ∙ ap₂ (λ (g k : ℕ). g * 2 ^ k) (gcd-comm (a * 2 ^ (s - t)) x ∙ gcd-strip x a (s - t) ox ∙ gcd-comm x a ∙ sym odd) (sym e))

-- ---- the zeros at a number's end

-- with its closing zeros divided out, a number is odd
pub ends-odd : (d n : ℕ) → 0 < n → n < 2 ^ d → n / 2 ^ count_trailing_zeros d n % 2 ≡ 1
unfolding count_trailing_zeros
ends-odd zero n h k = absurd (let z : ⊥ = omega arith in z)
ends-odd (suc d) n h k =
    by (n % 2) refl (λ e. ends-odd d (n / 2) (omega arith) ((div-lt_iff_lt-mul (zero-lt-suc 1)).1 (subst (λ (x : ℕ). n < x) (pow-suc 2 d) k)))
  where
    by : (r : ℕ) → n % 2 ≡ r → (n % 2 ≡ 0 → n / 2 / 2 ^ count_trailing_zeros d (n / 2) % 2 ≡ 1) → n / 2 ^ under r (count_trailing_zeros d (n / 2)) % 2 ≡ 1
    by zero e ih =
        let t = count_trailing_zeros d (n / 2) in
        ap (λ (x : ℕ). x % 2) (ap (λ (x : ℕ). n / x) (pow-succ' 2 t) ∙ sym (div-div-eq-div-mul n 2 (2 ^ t))) ∙ ih e
    by (suc r) e ih = ap (λ (x : ℕ). x % 2) (div-one n) ∙ (let z : n % 2 ≡ 1 = omega arith in z)

pub ends-back : (d n : ℕ) → n / 2 ^ count_trailing_zeros d n * 2 ^ count_trailing_zeros d n ≡ n
unfolding count_trailing_zeros
ends-back zero n = mul-one (n / 1) ∙ div-one n
ends-back (suc d) n = by (n % 2) refl (ends-back d (n / 2))
  where
    by : (r : ℕ) → n % 2 ≡ r → n / 2 / 2 ^ count_trailing_zeros d (n / 2) * 2 ^ count_trailing_zeros d (n / 2) ≡ n / 2 → n / 2 ^ under r (count_trailing_zeros d (n / 2)) * 2 ^ under r (count_trailing_zeros d (n / 2)) ≡ n
    by zero e ih =
        let t = count_trailing_zeros d (n / 2) in
        ap (λ (x : ℕ). n / x * x) (pow-succ' 2 t)
        ∙ ap (λ (x : ℕ). x * (2 * 2 ^ t)) (sym (div-div-eq-div-mul n 2 (2 ^ t)))
        ∙ mul_left_comm (n / 2 / 2 ^ t) 2 (2 ^ t)
        ∙ ap (λ (x : ℕ). 2 * x) ih
        ∙ (let z : 2 * (n / 2) ≡ n = omega arith in z)
    by (suc r) e ih = mul-one (n / 1) ∙ div-one n

pub ends-below : (d n : ℕ) → 0 < n → n < 2 ^ d → count_trailing_zeros d n < d
unfolding count_trailing_zeros
ends-below zero n h k = absurd (let z : ⊥ = omega arith in z)
ends-below (suc d) n h k =
    by (n % 2) refl (λ e. ends-below d (n / 2) (omega arith) ((div-lt_iff_lt-mul (zero-lt-suc 1)).1 (subst (λ (x : ℕ). n < x) (pow-suc 2 d) k)))
  where
    by : (r : ℕ) → n % 2 ≡ r → (n % 2 ≡ 0 → count_trailing_zeros d (n / 2) < d) → under r (count_trailing_zeros d (n / 2)) < suc d
    by zero e ih = omega (arith, ih e)
    by (suc r) e ih = omega arith

-- the twos of both, and the rest by what is left of the second
pub gcd-ends : (d a b x : ℕ) → 0 < a → a < 2 ^ d → x % 2 ≡ 1 → x * 2 ^ count_trailing_zeros d b ≡ b → gcd_of a x * 2 ^ min (count_trailing_zeros d a) (count_trailing_zeros d b) ≡ gcd_of a b
gcd-ends d a b x h k o e =
    let s = count_trailing_zeros d a in
    let back : a / 2 ^ s * 2 ^ s ≡ a = ends-back d a in
    ap (λ (n : ℕ). gcd_of n x * 2 ^ min s (count_trailing_zeros d b)) (sym back) ∙ sym (gcd-twos (a / 2 ^ s) x s (count_trailing_zeros d b) (ends-odd d a h k) o) ∙ ap₂ gcd_of back e
