-- Divisibility of whole numbers: the same as that of their sizes; and coprime numbers are those with no common divisor but 1.
use mathlib.Core.Path.{◌≡◌, sym, ◌∙◌, ap, subst}
use mathlib.Core.HLevel.{Π_prop, →_prop}
use mathlib.Core.List.{[], ◌∷◌}
use Prim.Native.Nat.{ℕ, suc, ◌*◌, ◌/◌, ◌∣◌}
use native.Mathlib.Nat.{ℕ_set, dvd-mul_left, eq-one_of_dvd-one, div-mul_cancel}
use lib.IntN.{ℤ, pos, negsuc, ◌*ℤ◌, nat_abs}
use Rattle.algebra.proofs.Ring.{CRing, by2, pow}
use Rattle.algebra.proofs.Reflect.{ring!, reify}
use Rattle.algebra.proofs.Divides.{Dvd, Coprime, coprime-unit, coprime-dvd-pow, dvd-neg, neg-dvd}
use Rattle.algebra.proofs.Bezout.{Bezout, bez-dvd-l, bez-dvd-r}
use Rattle.algebra.proofs.Whole.{ℤ-ring, abs-mul, abs-square}
use Rattle.algebra.proofs.WholeGcd.{bezout}

abbrev pub Dvdℤ : ℤ → ℤ → Type 0
Dvdℤ = Dvd ℤ-ring

abbrev pub Coprimeℤ : ℤ → ℤ → Type 0
Coprimeℤ = Coprime ℤ-ring

pub dvd-abs : (a b : ℤ) → Dvdℤ a b → nat_abs a ∣ nat_abs b
dvd-abs a b (k, e) = subst (λ n. nat_abs a ∣ n) (sym (ap nat_abs e ∙ abs-mul k a)) (dvd-mul_left (nat_abs a) (nat_abs k))

pos-dvd : (m : ℕ) (b : ℤ) → m ∣ nat_abs b → Dvdℤ (pos m) b
pos-dvd m (pos n) d = (pos (n / m), ap pos (sym (div-mul_cancel m d)))
pos-dvd m (negsuc n) d = dvd-neg ℤ-ring (pos m) (pos (suc n)) (pos (suc n / m), ap pos (sym (div-mul_cancel m d)))

pub abs-dvd : (a b : ℤ) → nat_abs a ∣ nat_abs b → Dvdℤ a b
abs-dvd (pos m) b d = pos-dvd m b d
abs-dvd (negsuc m) b d = neg-dvd ℤ-ring (pos (suc m)) b (pos-dvd (suc m) b d)

-- 1 is the only common divisor
abbrev pub OnlyOne : ℕ → ℕ → Type 0
OnlyOne m n = (k : ℕ) → k ∣ m → k ∣ n → k ≡ 1

pub only-one-prop : (m n : ℕ) → IsProp (OnlyOne m n)
only-one-prop m n = Π_prop (λ k. →_prop (→_prop (ℕ_set k 1)))

pub only-one-sym : (m n : ℕ) → OnlyOne m n → OnlyOne n m
only-one-sym m n h k d e = h k e d

pub coprime-only-one : (a b : ℤ) → Coprimeℤ a b → OnlyOne (nat_abs a) (nat_abs b)
coprime-only-one a b h k d e = eq-one_of_dvd-one (dvd-abs (pos k) (pos 1) (coprime-unit ℤ-ring a b (pos k) h (abs-dvd (pos k) a d) (abs-dvd (pos k) b e)))

-- a combination g of size 1 makes one that is 1
module _ {A : Type 0} (R : CRing A) where
  open R use {add as ◌+◌, mul as ◌*◌, neg as -◌, one as 𝟙}

  infix 75 -◌
  infixl 60 ◌+◌
  infixl 70 ◌*◌
  unit-comb : (a b g u v : A) → g ≡ a * u + b * v → g * g ≡ 𝟙 → Coprime R a b
  unit-comb a b g u v e f = (u * g, v * g, by2 R (- g) e 𝟙 f (ring! R (a ∷ b ∷ g ∷ u ∷ v ∷ []) (search reify depth 30 fits 20000) tt))

pub only-one-coprime : (a b : ℤ) → OnlyOne (nat_abs a) (nat_abs b) → Coprimeℤ a b
only-one-coprime a b h =
    let z : Bezout ℤ-ring a b = bezout a b in
    let one : nat_abs z.g ≡ 1 = h (nat_abs z.g) (dvd-abs z.g a (bez-dvd-l ℤ-ring a b z)) (dvd-abs z.g b (bez-dvd-r ℤ-ring a b z)) in
    unit-comb ℤ-ring a b z.g z.u z.v z.comb (abs-square z.g ∙ ap (λ n. pos (n * n)) one)

-- p divides a qⁿ and has no divisor in common with q: it divides a
pub only-one-pow : (p q a : ℤ) (n : ℕ) → OnlyOne (nat_abs p) (nat_abs q) → Dvdℤ p (a *ℤ pow ℤ-ring q n) → Dvdℤ p a
only-one-pow p q a n h = coprime-dvd-pow ℤ-ring p q a n (only-one-coprime p q h)
