-- Demand 3, gcd: at most 2nm + 3n + 3m + 4 steps for inputs of degrees n and m, answered or refused.
use mathlib.Core.Path.{◌≡◌, refl, subst}
use mathlib.Core.Bool.{Bool, true, false}
use mathlib.Core.List.{List, [], ◌∷◌}
use Prim.Native.Nat.{ℕ, zero, suc, ◌+◌, ◌-◌, ◌*◌, ◌≤◌, ◌<◌}
use native.Mathlib.Nat.{mul-le-mul_left}
use native.Mathlib.Omega.{arith}
use borrow.Author.Tests.{ltb-false}
use lib.Dec.{ltb}
use lib.ListN.{length}
use Rattle.ratio.specs.Refusal.{ratio_of}
use Rattle.ratio.specs.Step.{inv_of}
use Rattle.ratio.specs.declared.Ratio.{Ratio}
use Rattle.terms.specs.Poly.{drop_top}
use Rattle.terms.specs.Machine.{plain}
use Rattle.terms.specs.Work.{scaled}
use Rattle.terms.proofs.StepsCount.{steps_of, takes-at-most, at-most-then, scaled-takes}
use Rattle.remainders.specs.Divide.{lead, divided}
use Rattle.remainders.specs.Gcd.{monic, gcd_by, gcd_of}
use Rattle.remainders.specs.Price.{division_if, division_price, gcd_price}
use Rattle.remainders.proofs.PriceDivide.{Below, divided-takes, division-lower}

-- ---- the arithmetic: a division and the gcd of the divisor and the rest

higher-zero : (m d : ℕ) → (d + 1) * (2 * m + 3) + suc m ≤ gcd_price (m + d) m
higher-zero m d = omega arith

higher-some : (m d r : ℕ) → r < m → (d + 1) * (2 * m + 3) + gcd_price m r ≤ gcd_price (m + d) m
higher-some m d r h = omega (arith, mul-le-mul_left m h)

lower-some : (n m r : ℕ) → r ≤ n → gcd_price m r ≤ gcd_price n m
lower-some n m r h = omega (arith, mul-le-mul_left m h)

as-sum : (n m : ℕ) → m ≤ n → m + (n - m) ≡ n
as-sum n m h = omega arith

module _ (n m : ℕ) where
  zero-if : (t : Bool) → ltb n m ≡ t → division_if t n m + suc m ≤ gcd_price n m
  zero-if true e = omega arith
  zero-if false e = subst (λ (x : ℕ). (n - m + 1) * (2 * m + 3) + suc m ≤ gcd_price x m) (as-sum n m (ltb-false n m e)) (higher-zero m (n - m))

  then-zero : division_price n m + suc m ≤ gcd_price n m
  then-zero = zero-if (ltb n m) refl

  some-if : (r : ℕ) → r < m → r ≤ n → (t : Bool) → ltb n m ≡ t → division_if t n m + gcd_price m r ≤ gcd_price n m
  some-if r p q true e = omega (arith, lower-some n m r q)
  some-if r p q false e = subst (λ (x : ℕ). (n - m + 1) * (2 * m + 3) + gcd_price m r ≤ gcd_price x m) (as-sum n m (ltb-false n m e)) (higher-some m (n - m) r p)

  then_some : (r : ℕ) → r < m → r ≤ n → division_price n m + gcd_price m r ≤ gcd_price n m
  then_some r p q = some-if r p q (ltb n m) refl

-- ---- the run

-- with zero the other is only scaled
abbrev pub gcd_price_with : List Ratio → List Ratio → ℕ
gcd_price_with u [] = length u
gcd_price_with u (b ∷ v) = gcd_price (length u - 1) (length v)

pub monic-price : (u : List Ratio) (k : ℕ) → steps_of (monic plain u k) ≤ k + length u
unfolding monic
monic-price [] k = omega arith
monic-price (a ∷ u) k =
    let c = ratio_of (inv_of (lead plain (a ∷ u))) in
    takes-at-most (λ (ys : List Ratio). length ys ≡ length (a ∷ u)) k (length (a ∷ u)) (scaled plain (a ∷ u) c k) (scaled-takes (a ∷ u) c k)

-- a division, and then at most what the divisor and the rest take
onward-price : (u : List Ratio) (b : Ratio) (v rest : List Ratio) → 1 ≤ length u → length rest < suc (length v) → length rest ≤ length u → division_price (length u - 1) (length v) + gcd_price_with (b ∷ v) rest ≤ gcd_price (length u - 1) (length v)
onward-price u b v [] h p q = then-zero (length u - 1) (length v)
onward-price u b v (r ∷ rs) h p q =
    let e : suc (length v) - 1 ≡ length v = omega arith in
    rw e (then_some (length u - 1) (length v) (length rs) (omega arith) (omega arith))

gcd_by-price : (f : ℕ) (u v : List Ratio) (k : ℕ) → 1 ≤ length u → length v ≤ f → steps_of (gcd_by plain f u v k) ≤ k + gcd_price_with u v
unfolding gcd_by
gcd_by-price zero u [] k h l = monic-price u k
gcd_by-price zero u (b ∷ v) k h l = let z : ◌≡◌ {A = ℕ} 0 1 = omega arith in omega arith
gcd_by-price (suc f) u [] k h l = monic-price u k
gcd_by-price (suc f) u (b ∷ v) k h l =
    let n = length u - 1 in
    let m = length v in
    let c = division_price n m in
    let e : suc m - 1 ≡ m = omega arith in
    at-most-then (Below u (b ∷ v)) k c (k + gcd_price n m) (divided plain u (b ∷ v) k) _ (rw e at (divided-takes u (b ∷ v) (omega arith) h k)) (omega (arith, onward-price u b v [] h (omega arith) (omega arith))) (λ s w.
    let p = gcd_by-price f (b ∷ v) s.rest (k + c) (omega arith) (omega (arith, w.shorter)) in
    let q = onward-price u b v s.rest h w.shorter w.no_longer in
    omega arith)

-- document 01: for inputs of degrees n and m that are not zero
pub gcd-price : (a b : List Ratio) (k : ℕ) → 1 ≤ length a → 1 ≤ length b → steps_of (gcd_of plain a b k) ≤ k + gcd_price (length a - 1) (length b - 1)
unfolding gcd_of
gcd-price a [] k h l = omega arith
gcd-price a (y ∷ b) k h l =
    let e : suc (length b) - 1 ≡ length b = omega arith in
    rw e (gcd_by-price (suc (length b)) a (y ∷ b) k h (omega arith))

-- with zero as an input the other is only scaled
gcd_by-nil : (f : ℕ) (u : List Ratio) (k : ℕ) → steps_of (gcd_by plain f u [] k) ≤ k + length u
unfolding gcd_by
gcd_by-nil zero u k = monic-price u k
gcd_by-nil (suc f) u k = monic-price u k

pub gcd-price-right-zero : (a : List Ratio) (k : ℕ) → steps_of (gcd_of plain a [] k) ≤ k + length a
unfolding gcd_of
gcd-price-right-zero a k = gcd_by-nil 0 a k

pub gcd-price-left-zero : (b : List Ratio) (k : ℕ) → steps_of (gcd_of plain [] b k) ≤ k + length b
unfolding gcd_of gcd_by drop_top
gcd-price-left-zero [] k = gcd_by-nil 0 [] k
gcd-price-left-zero (y ∷ b) k =
    let e = division-lower [] (y ∷ b) (omega arith) (omega arith) k in
    rw e (gcd_by-nil (length b) (y ∷ b) k)
