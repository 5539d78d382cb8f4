-- The number of steps of a square-free part of degree n is at most 3n² + 9n + 4, answered or refused, so that it fits a word.
use mathlib.Core.Path.{◌≡◌, refl, subst}
use mathlib.Core.Bool.{Bool, true, false}
use mathlib.Core.List.{List, [], ◌∷◌}
use Prim.Native.Nat.{ℕ, suc, ◌+◌, ◌-◌, ◌*◌, ◌≤◌}
use native.Mathlib.Nat.{mul-le-mul_left}
use native.Mathlib.Omega.{arith}
use borrow.Author.Tests.{ltb-false}
use lib.Dec.{ltb}
use lib.ListN.{length}
use Rattle.ratio.specs.Step.{is_nil}
use Rattle.ratio.specs.declared.Ratio.{Ratio}
use Rattle.terms.specs.Machine.{plain}
use Rattle.terms.specs.Work.{derived}
use Rattle.terms.proofs.StepsCount.{steps_of, at-most-then, few-then, derived-takes, drop_top-length}
use Rattle.remainders.specs.Divide.{dropped, divided}
use Rattle.remainders.specs.Gcd.{gcd_of, monic_if, freed, square_free}
use Rattle.remainders.specs.Price.{division_if, division_price, square_free_price}
use Rattle.remainders.proofs.PriceDivide.{Below, divided-takes}
use Rattle.remainders.proofs.PriceGcd.{monic-price, gcd-price, gcd-price-right-zero}

-- the gcd with a polynomial that is no longer than the derivative
derivative-price : (x : Ratio) (f d : List Ratio) (k : ℕ) → length d ≤ length f → steps_of (gcd_of plain (x ∷ f) d k) ≤ k + (2 * length f * length f + 4 * length f + 1)
derivative-price x f [] k h = omega (arith, gcd-price-right-zero (x ∷ f) k)
derivative-price x f (y ∷ d) k h =
    let p : suc (length f) - 1 ≡ length f = omega arith in
    let q : suc (length d) - 1 ≡ length d = omega arith in
    omega (arith, rw (p, q) at (gcd-price (x ∷ f) (y ∷ d) k (omega arith) (omega arith)), mul-le-mul_left (length f) h)

-- a division by degree m, at least 1, and the quotient scaled
terms-few : (m d : ℕ) → (d + 1) * (2 * m + 3) ≤ (m + d) * (m + d) + 3 * (m + d) + 3
terms-few m d = omega arith

division-few : (n m : ℕ) → division_price n m ≤ n * n + 3 * n + 3
division-few n m = go (ltb n m) refl
  where
    go : (t : Bool) → ltb n m ≡ t → division_if t n m ≤ n * n + 3 * n + 3
    go true e = omega arith
    go false e =
        let l = ltb-false n m e in
        let s : m + (n - m) ≡ n = omega arith in
        subst (λ (x : ℕ). (n - m + 1) * (2 * m + 3) ≤ x * x + 3 * x + 3) s (terms-few m (n - m))

monic_if-price : (rest f q : List Ratio) (k : ℕ) → steps_of (monic_if plain rest f q k) ≤ k + length q
monic_if-price [] f q k = monic-price q k
monic_if-price (r ∷ rest) f q k = omega arith

pub freed-price : (x : Ratio) (f g : List Ratio) (k : ℕ) → steps_of (freed plain (x ∷ f) g k) ≤ k + (length f * length f + 4 * length f + 3)
freed-price x f [] k = omega arith
freed-price x f (y ∷ []) k = omega arith
freed-price x f (y ∷ z ∷ g) k =
    let n = length f in
    let u : List Ratio = x ∷ f in
    let v : List Ratio = y ∷ z ∷ g in
    let c = division_price (suc n - 1) (suc (suc (length g)) - 1) in
    let p : suc n - 1 ≡ n = omega arith in
    let b : c ≤ n * n + 3 * n + 3 = rw p (division-few n (suc (suc (length g)) - 1)) in
    at-most-then (Below u v) k c (k + (n * n + 4 * n + 3)) (divided plain u v k) _ (divided-takes u v (omega arith) (omega arith) k) (omega arith) (λ s w.
    omega (arith, monic_if-price s.rest u s.quotient (k + c), w.few-terms))

higher-price : (x : Ratio) (f : List Ratio) (k : ℕ) → steps_of (square_free plain (x ∷ f) k) ≤ k + square_free_price (length f)
unfolding square_free
higher-price x f k =
    let n = length f in
    let t = k + square_free_price n in
    let c = 2 * n * n + 4 * n + 1 in
    let less : suc n - 1 ≡ n = omega arith in
    at-most-then (λ (d : List Ratio). length d ≡ n) k n t (derived plain (x ∷ f) k) _ (rw less at (derived-takes (x ∷ f) k)) (omega arith) (λ d e.
    few-then (k + n + c) t (gcd_of plain (x ∷ f) (dropped plain d) (k + n)) _ (derivative-price x f (dropped plain d) (k + n) (omega (arith, drop_top-length (λ (r : Ratio). is_nil r.num) d))) (omega arith) (λ j g p.
    omega (arith, freed-price x f (dropped plain g) j)))

pub square_free-price : (f : List Ratio) (k : ℕ) → 1 ≤ length f → steps_of (square_free plain f k) ≤ k + square_free_price (length f - 1)
square_free-price [] k h = absurd (let z : ⊥ = omega arith in z)
square_free-price (x ∷ f) k h =
    let less : suc (length f) - 1 ≡ length f = omega arith in
    rw less (higher-price x f k)
