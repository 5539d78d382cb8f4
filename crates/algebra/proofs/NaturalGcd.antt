-- The greatest common divisor of natural numbers, as Euclid's algorithm finds it: the one that every common divisor divides.
use mathlib.Core.Path.{◌≡◌, sym, subst, subst₂}
use Prim.Native.Nat.{ℕ, ◌*◌, ◌/◌, ◌%◌, ◌<◌, ◌∣◌}
use native.Mathlib.Nat.{dvd_refl, dvd-zero, dvd_antisymm, dvd-mod_iff, one-dvd, one-mul, mul-dvd-mul_right, div-mul_cancel, dvd_of_mul-dvd-mul_right, dvd-one, pos_of_dvd_of_pos}
use lib.IntN.{ℤ, pos, nat_abs}
use Rattle.algebra.proofs.Bezout.{Bezout, bez-dvd-l, bez-dvd-r, bez-greatest}
use Rattle.algebra.proofs.Whole.{ℤ-ring}
use Rattle.algebra.proofs.WholeDivides.{OnlyOne, dvd-abs, abs-dvd}

pub record Greatest (m n g : ℕ) : Type 0 where
  pub left : g ∣ m
  pub right : g ∣ n
  pub greatest : (k : ℕ) → k ∣ m → k ∣ n → k ∣ g

pub greatest-unique : (m n g g' : ℕ) → Greatest m n g → Greatest m n g' → g ≡ g'
greatest-unique m n g g' h h' = dvd_antisymm (h'.greatest g h.left h.right) (h.greatest g' h'.left h'.right)

pub greatest-sym : (m n g : ℕ) → Greatest m n g → Greatest n m g
greatest-sym m n g h = record { left = h.right; right = h.left; greatest = λ k d e. h.greatest k e d }

-- Euclid's end and Euclid's step
pub greatest-zero : (m : ℕ) → Greatest m 0 m
greatest-zero m = record { left = dvd_refl m; right = dvd-zero m; greatest = λ k d e. d }

pub greatest-step : (m n g : ℕ) → Greatest n (m % n) g → Greatest m n g
greatest-step m n g h = record {
  left = (dvd-mod_iff g h.left).0 h.right;
  right = h.left;
  greatest = λ k d e. h.greatest k e ((dvd-mod_iff k e).1 d);
}

pub greatest-above : (m n g : ℕ) → 0 < n → Greatest m n g → 0 < g
greatest-above m n g k h = pos_of_dvd_of_pos h.right k

-- divided by it, the two have no common divisor but 1
pub greatest-cofactors : (m n g : ℕ) → 0 < g → Greatest (m * g) (n * g) g → OnlyOne m n
greatest-cofactors m n g h G k d e = dvd-one.0 (dvd_of_mul-dvd-mul_right k h
    (subst (λ t. k * g ∣ t) (sym (one-mul g)) (G.greatest (k * g) (mul-dvd-mul_right k d g) (mul-dvd-mul_right k e g))))

pub greatest-quotients : (m n g : ℕ) → 0 < g → Greatest m n g → OnlyOne (m / g) (n / g)
greatest-quotients m n g h G = greatest-cofactors (m / g) (n / g) g h
    (subst₂ (λ s t. Greatest s t g) (sym (div-mul_cancel g G.left)) (sym (div-mul_cancel g G.right)) G)

pub only-one-greatest : (m n : ℕ) → OnlyOne m n → Greatest m n 1
only-one-greatest m n h = record { left = one-dvd m; right = one-dvd n; greatest = λ k d e. dvd-one.1 (h k d e) }

-- the size of the gcd of whole numbers
pub bez-size : (a b : ℤ) (z : Bezout ℤ-ring a b) → Greatest (nat_abs a) (nat_abs b) (nat_abs z.g)
bez-size a b z = record {
  left = dvd-abs z.g a (bez-dvd-l ℤ-ring a b z);
  right = dvd-abs z.g b (bez-dvd-r ℤ-ring a b z);
  greatest = λ k d e. dvd-abs (pos k) z.g (bez-greatest ℤ-ring a b z (pos k) (abs-dvd (pos k) a d) (abs-dvd (pos k) b e));
}
