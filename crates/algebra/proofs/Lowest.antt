-- Lowest terms: numerator and denominator have no common divisor but 1. Each pair is equal, by cross products, to exactly one such.
use mathlib.Core.Path.{◌≡◌, sym, ◌∙◌, ap, subst, subst₂}
use mathlib.Core.HLevel.{is_prop→PathP}
use mathlib.Core.List.{[], ◌∷◌}
use Prim.Native.Nat.{ℕ, ◌*◌, ◌/◌, ◌<◌, ◌∣◌}
use native.Mathlib.Bridge.{le_prop}
use native.Mathlib.Nat.{dvd_antisymm, dvd-mul_right, div-mul_cancel, pos_of_dvd_of_pos}
use lib.IntN.{pos, ◌*ℤ◌, nat_abs}
use Rattle.algebra.specs.Rational.{Rat, Same}
use Rattle.algebra.proofs.Ring.{CRing, by2}
use Rattle.algebra.proofs.Reflect.{ring!, reify}
use Rattle.algebra.proofs.Divides.{coprime-dvd, coprime-sym}
use Rattle.algebra.proofs.Whole.{ℤ-ring, mul-cancel, abs-mul}
use Rattle.algebra.proofs.WholeGcd.{bezout}
use Rattle.algebra.proofs.WholeDivides.{Dvdℤ, OnlyOne, dvd-abs, abs-dvd, only-one-coprime}
use Rattle.algebra.proofs.NaturalGcd.{Greatest, greatest-above, greatest-cofactors, bez-size}
use Rattle.algebra.proofs.Rational.{den-ne, same-sym}

abbrev pub LowestTerms : Rat → Type 0
LowestTerms x = OnlyOne (nat_abs x.num) x.den

pub rat-path : (x y : Rat) → x.num ≡ y.num → x.den ≡ y.den → x ≡ y
rat-path x y e f = λ i. record { num = e i; den = f i; above_zero = is_prop→PathP (λ j. 0 < f j) (λ j. le_prop) x.above_zero y.above_zero i }

-- a denominator divides the other
half : (x y : Rat) → LowestTerms x → Same x y → x.den ∣ y.den
half x y l e = dvd-abs (pos x.den) (pos y.den)
    (coprime-dvd ℤ-ring (pos x.den) x.num (pos y.den)
    (coprime-sym ℤ-ring x.num (pos x.den) (only-one-coprime x.num (pos x.den) l))
    (y.num, e))

pub lowest-unique : (x y : Rat) → LowestTerms x → LowestTerms y → Same x y → x ≡ y
lowest-unique x y l m e =
    let f : x.den ≡ y.den = dvd_antisymm (half x y l e) (half y x m (same-sym x y e)) in
    rat-path x y (mul-cancel x.num y.num (pos x.den) (den-ne x) (ap (λ k. x.num *ℤ pos k) f ∙ e)) f

module _ {A : Type 0} (R : CRing A) where
  open R use {mul as ◌*◌, neg as -◌}

  infixl 70 ◌*◌
  infix 75 -◌
  scaled : (n d n' d' g : A) → n' * g ≡ n → d' * g ≡ d → n' * d ≡ n * d'
  scaled n d n' d' g e f = by2 R d' e (- n') f (ring! R (n ∷ d ∷ n' ∷ d' ∷ g ∷ []) (search reify depth 30 fits 20000) tt)

-- divided by the greatest common divisor, a pair is in lowest terms
pub lowest_by : (x y : Rat) (g : ℕ) → Greatest (nat_abs x.num) x.den g → y.num *ℤ pos g ≡ x.num → y.den * g ≡ x.den → LowestTerms y × Same y x
lowest_by x y g G e f = (
  greatest-cofactors (nat_abs y.num) y.den g (greatest-above (nat_abs x.num) x.den g x.above_zero G)
      (subst₂ (λ s t. Greatest s t g) (sym (ap nat_abs e) ∙ abs-mul y.num (pos g)) (sym f) G),
  scaled ℤ-ring x.num (pos x.den) y.num (pos y.den) (pos g) e (ap pos f),
)

above_quotient : (d g : ℕ) → 0 < d → g ∣ d → 0 < d / g
above_quotient d g h k = pos_of_dvd_of_pos (subst (λ t. d / g ∣ t) (div-mul_cancel g k) (dvd-mul_right (d / g) g)) h

pub reduce : (x : Rat) → (y : Rat) × LowestTerms y × Same y x
reduce x =
    let g : ℕ = nat_abs (bezout x.num (pos x.den)).g in
    let G : Greatest (nat_abs x.num) x.den g = bez-size x.num (pos x.den) (bezout x.num (pos x.den)) in
    let k : Dvdℤ (pos g) x.num = abs-dvd (pos g) x.num G.left in
    let y : Rat = record { num = k.0; den = x.den / g; above_zero = above_quotient x.den g x.above_zero G.right } in
    let r : LowestTerms y × Same y x = lowest_by x y g G (sym k.1) (div-mul_cancel g G.right) in
    (y, r.0, r.1)
