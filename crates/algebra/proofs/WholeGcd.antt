-- The greatest common divisor of two whole numbers, with its cofactors.
use mathlib.Core.Path.{sym, ap}
use Prim.Native.Nat.{ℕ, zero, suc, ◌<◌, ◌/◌, ◌%◌}
use native.Mathlib.Omega.{arith}
use native.Mathlib.Nat.{div-add-mod, mod-lt}
use lib.IntN.{ℤ, pos, negsuc}
use Rattle.algebra.proofs.Whole.{ℤ-ring}
use Rattle.algebra.proofs.Bezout.{Bezout, bez-nil, bez-step, bez-neg-l, bez-swap}

pub gcd-ℤ : (fuel m n : ℕ) → n < fuel → Bezout ℤ-ring (pos m) (pos n)
gcd-ℤ zero m n h = absurd (omega arith)
gcd-ℤ (suc f) m zero h = bez-nil ℤ-ring (pos m)
gcd-ℤ (suc f) m (suc n) h =
    bez-step ℤ-ring (pos m) (pos (suc n)) (pos (m / suc n)) (pos (m % suc n)) (ap pos (sym (div-add-mod m (suc n))))
    (gcd-ℤ f (suc n) (m % suc n) (let g : m % suc n < suc n = mod-lt m (omega arith) in omega arith))

bez-l : (a : ℤ) (n : ℕ) → Bezout ℤ-ring a (pos n)
bez-l (pos m) n = gcd-ℤ (suc n) m n (omega arith)
bez-l (negsuc m) n = bez-neg-l ℤ-ring (pos (suc m)) (pos n) (gcd-ℤ (suc n) (suc m) n (omega arith))

pub bezout : (a b : ℤ) → Bezout ℤ-ring a b
bezout a (pos n) = bez-l a n
bezout a (negsuc n) = bez-swap ℤ-ring (negsuc n) a (bez-neg-l ℤ-ring (pos (suc n)) a (bez-swap ℤ-ring a (pos (suc n)) (bez-l a (suc n))))
