-- Laws of `gcd_of`: Euclid's step, and the textbook's words.
use mathlib.Core.Path.{◌≡◌, refl, ap, ◌∙◌}
use Prim.Native.Nat.{ℕ, zero, suc, ◌∣◌, ◌%◌, ◌<◌, ◌≤◌, suc-le-suc, zero-le}
use native.Mathlib.Nat.{mod-lt, mod-one, dvd_refl, dvd-zero, dvd-mod_iff, pos_of_dvd_of_pos, le_of_dvd}
use native.Mathlib.Omega.{arith}
use Rattle.ratio.specs.Gcd.{gcd_by, gcd_of, IsGcd}

-- the number of divisions left does not matter
by-any : (k j a b : ℕ) → b < k → b < j → gcd_by k a b ≡ gcd_by j a b
unfolding gcd_by
by-any zero j a b p q = absurd (let z : ⊥ = omega arith in z)
by-any (suc k) zero a b p q = absurd (let z : ⊥ = omega arith in z)
by-any (suc k) (suc j) a zero p q = refl
by-any (suc k) (suc j) a (suc b) p q =
    let h : a % suc b < suc b = mod-lt a (suc-le-suc zero-le) in
    by-any k j (suc b) (a % suc b) (omega arith) (omega arith)

pub gcd-zero : (x : ℕ) → gcd_of x 0 ≡ x
unfolding gcd_of gcd_by
gcd-zero x = refl

pub gcd-step : (x y : ℕ) → (y ≡ 0 → ⊥) → gcd_of x y ≡ gcd_of y (x % y)
unfolding gcd_of gcd_by
gcd-step x zero n = absurd (n refl)
gcd-step x (suc b) n = by-any (suc b) (suc (x % suc b)) (suc b) (x % suc b) (mod-lt x (suc-le-suc zero-le)) (omega arith)

pub gcd-one : (x : ℕ) → gcd_of x 1 ≡ 1
gcd-one x = gcd-step x 1 (λ e. omega arith) ∙ ap (gcd_of 1) (mod-one x) ∙ gcd-zero 1

by-greatest : (k a b d : ℕ) → b < k → d ∣ a → d ∣ b → d ∣ gcd_by k a b
unfolding gcd_by
by-greatest zero a b d p x y = x
by-greatest (suc k) a zero d p x y = x
by-greatest (suc k) a (suc b) d p x y =
    let h : a % suc b < suc b = mod-lt a (suc-le-suc zero-le) in
    by-greatest k (suc b) (a % suc b) d (omega arith) y ((dvd-mod_iff d y).1 x)

by-divides : (k a b : ℕ) → b < k → (gcd_by k a b ∣ a) × (gcd_by k a b ∣ b)
unfolding gcd_by
by-divides zero a b p = absurd (let z : ⊥ = omega arith in z)
by-divides (suc k) a zero p = (dvd_refl a, dvd-zero a)
by-divides (suc k) a (suc b) p =
    let h : a % suc b < suc b = mod-lt a (suc-le-suc zero-le) in
    let ih = by-divides k (suc b) (a % suc b) (omega arith) in
    ((dvd-mod_iff (gcd_by k (suc b) (a % suc b)) ih.0).0 ih.1, ih.0)

pub is-gcd : (a b : ℕ) → IsGcd a b (gcd_of a b)
unfolding gcd_of
is-gcd a b =
    let h = by-divides (suc b) a b (omega arith) in
    record { divides-a = h.0; divides-b = h.1; greatest = λ k. by-greatest (suc b) a b k (omega arith) }

pub gcd-above : (a b : ℕ) → 0 < b → 0 < gcd_of a b
gcd-above a b h = pos_of_dvd_of_pos (is-gcd a b).divides-b h

pub gcd-most : (a b : ℕ) → 0 < b → gcd_of a b ≤ b
gcd-most a b h = le_of_dvd h (is-gcd a b).divides-b
