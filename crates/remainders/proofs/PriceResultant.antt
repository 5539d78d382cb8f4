-- Demand 3, resultant and discriminant: the number of steps is at most document 01's, answered or refused.
use mathlib.Core.Path.{◌≡◌, refl, subst, ◌∙◌}
use mathlib.Core.Bool.{Bool, true, false}
use mathlib.Core.List.{List, [], ◌∷◌}
use Prim.Native.Nat.{ℕ, zero, suc, ◌+◌, ◌-◌, ◌*◌, ◌/◌, ◌≤◌, ◌<◌}
use native.Mathlib.Nat.{mul-le-mul_left}
use native.Mathlib.Omega.{arith}
use borrow.Author.Tests.{ltb-true, ltb-false, le-ltb}
use lib.Dec.{ltb, leb-suc-suc}
use lib.ListN.{length}
use Rattle.ratio.specs.Refusal.{ratio_of}
use Rattle.ratio.specs.Step.{inv_of, is_nil}
use Rattle.ratio.specs.declared.Ratio.{Ratio}
use Rattle.terms.specs.Machine.{times, Ran, counted, step_of, plain}
use Rattle.terms.specs.Work.{derived}
use Rattle.terms.proofs.StepsCount.{steps_of, Takes, Any, takes-at-most, takes-then, at-most-then, few-then, step-takes, derived-takes, drop_top-length}
use Rattle.remainders.specs.Divide.{lead, divided, dropped}
use Rattle.remainders.specs.Resultant.{degree_of, unit, powered, signed, onward, ordered, swapped_if, resultant_of, discriminant_of}
use Rattle.remainders.specs.Price.{division_price, ordered_price, resultant_if, resultant_price, discriminant_price}
use Rattle.remainders.proofs.PriceDivide.{Below, divided-takes}

-- ---- the arithmetic: a division by degree m, and what the divisor and a rest of degree r take

rest-zero : (m d : ℕ) → 1 ≤ m → (d + 1) * (2 * m + 3) ≤ ordered_price (m + d) m
rest-zero m d h = omega (arith, mul-le-mul_left m h)

rest-constant : (m d : ℕ) → 1 ≤ m → (d + 1) * (2 * m + 3) + (m + d + m + 2) ≤ ordered_price (m + d) m
rest-constant m d h = omega (arith, mul-le-mul_left m h)

rest-higher : (m d r : ℕ) → 1 ≤ r → r < m → (d + 1) * (2 * m + 3) + (m + d - r + ordered_price m r + 2) ≤ ordered_price (m + d) m
rest-higher m d r h l = omega (arith, mul-le-mul_left m l)

-- the dividend's degree is the divisor's and some more
by-degrees : (n m x : ℕ) → m ≤ n → ((d : ℕ) → n ≡ m + d → (d + 1) * (2 * m + 3) + x ≤ ordered_price (m + d) m) → division_price n m + x ≤ ordered_price n m
by-degrees n m x h f =
    let e : m + (n - m) ≡ n = omega arith in
    rw (le-ltb n m h) (subst (λ (y : ℕ). (n - m + 1) * (2 * m + 3) + x ≤ ordered_price y m) e (f (n - m) (omega arith)))

-- ---- the powers

pub powered-takes : (c : Ratio) (e : ℕ) (acc : Ratio) (k : ℕ) → Takes Any k e (powered plain c e acc k)
unfolding powered
powered-takes c zero acc k = (omega arith, tt)
powered-takes c (suc e) acc k = takes-then Any k 1 Any e (suc e) (counted k (step_of times acc c)) _ (omega arith) (step-takes k (step_of times acc c)) (λ acc u. powered-takes c e acc (k + 1))

pub powered-price : (c : Ratio) (e : ℕ) (acc : Ratio) (k : ℕ) → steps_of (powered plain c e acc k) ≤ k + e
powered-price c e acc k = takes-at-most Any k e (powered plain c e acc k) (powered-takes c e acc k)

step-price : (k : ℕ) (a b : Ratio) → steps_of (counted k (step_of times a b)) ≤ k + 1
step-price k a b = takes-at-most Any k 1 (counted k (step_of times a b)) (step-takes k (step_of times a b))

-- ---- the run

-- the first not below the second, by what the second is: zero, a constant, or of higher degree
abbrev pub ordered_with : List Ratio → List Ratio → ℕ
ordered_with a [] = 0
ordered_with a (y ∷ []) = length a - 1
ordered_with a (y ∷ z ∷ b) = ordered_price (length a - 1) (suc (length b))

-- what comes after the division, by the rest
abbrev after_rest : List Ratio → List Ratio → List Ratio → ℕ
after_rest a b [] = 0
after_rest a b (r ∷ rest) = length a - suc (length rest) + ordered_with b (r ∷ rest) + 2

onward-price : (a b rest : List Ratio) (inner : ℕ → Ran ℕ Ratio) (k : ℕ) → ((j : ℕ) → steps_of (inner j) ≤ j + ordered_with b rest) → steps_of (onward plain a b inner rest k) ≤ k + after_rest a b rest
onward-price a b [] inner k h = omega arith
onward-price a b (r ∷ rest) inner k h =
    let e = length a - suc (length rest) in
    let x = ordered_with b (r ∷ rest) in
    let n = k + (e + x + 2) in
    let one = unit plain in
    at-most-then Any k e n (powered plain (lead plain b) e one k) _ (powered-takes (lead plain b) e one k) (omega arith) (λ p u.
    few-then (k + e + x) n (inner (k + e)) _ (h (k + e)) (omega arith) (λ i sub l.
    let s = signed plain (degree_of a * degree_of b) in
    few-then (k + e + x + 1) n (counted i (step_of times s p)) _ (omega (arith, step-price i s p)) (omega arith) (λ j t m.
    omega (arith, step-price j t sub))))

-- a rest below the divisor
after-price : (a : List Ratio) (y z : Ratio) (b rest : List Ratio) → suc (suc (length b)) ≤ length a → length rest < suc (suc (length b)) → division_price (length a - 1) (suc (length b)) + after_rest a (y ∷ z ∷ b) rest ≤ ordered_price (length a - 1) (suc (length b))
after-price a y z b [] h l =
    by-degrees (length a - 1) (suc (length b)) 0 (omega arith) (λ d e. omega (arith, rest-zero (suc (length b)) d (omega arith)))
after-price a y z b (r ∷ []) h l =
    by-degrees (length a - 1) (suc (length b)) _ (omega arith) (λ d e. omega (arith, rest-constant (suc (length b)) d (omega arith)))
after-price a y z b (r ∷ r' ∷ rest) h l =
    let q : suc (suc (length b)) - 1 ≡ suc (length b) = omega arith in
    rw q (by-degrees (length a - 1) (suc (length b)) _ (omega arith) (λ d e. omega (arith, rest-higher (suc (length b)) d (suc (length rest)) (omega arith) (omega arith))))

pub ordered-price : (f : ℕ) (a b : List Ratio) (k : ℕ) → length b ≤ f → length b ≤ length a → steps_of (ordered plain f a b k) ≤ k + ordered_with a b
unfolding ordered
ordered-price zero a [] k h l = omega arith
ordered-price zero a (y ∷ []) k h l = powered-price y (degree_of a) (unit plain) k
ordered-price zero a (y ∷ z ∷ b) k h l = omega arith
ordered-price (suc f) a [] k h l = omega arith
ordered-price (suc f) a (y ∷ []) k h l = powered-price y (degree_of a) (unit plain) k
ordered-price (suc f) a (y ∷ z ∷ b) k h l =
    let n = length a - 1 in
    let m = suc (length b) in
    let c = division_price n m in
    let v : List Ratio = y ∷ z ∷ b in
    let e : suc m - 1 ≡ m = omega arith in
    at-most-then (Below a v) k c (k + ordered_price n m) (divided plain a v k) _ (rw e at (divided-takes a v (omega arith) (omega arith) k)) (omega (arith, after-price a y z b [] l (omega arith))) (λ s w.
    let p = onward-price a v s.rest (λ j. ordered plain f v s.rest j) (k + c) (λ j. ordered-price f v s.rest j (omega (arith, w.shorter)) (omega (arith, w.shorter))) in
    let q = after-price a y z b s.rest l w.shorter in
    omega arith)

less : (n : ℕ) → suc n - 1 ≡ n
less n = omega arith

swapped-price : (x x' y y' : Ratio) (a b : List Ratio) (k : ℕ) (t : Bool) → ltb (length a) (length b) ≡ t → steps_of (swapped_if plain t (x ∷ x' ∷ a) (y ∷ y' ∷ b) k) ≤ k + resultant_if t (suc (length a)) (suc (length b))
swapped-price x x' y y' a b k true e =
    let u : List Ratio = x ∷ x' ∷ a in
    let v : List Ratio = y ∷ y' ∷ b in
    let l = ltb-true (length a) (length b) e in
    let p = rw (less (suc (length b))) at (ordered-price (suc (suc (length a))) v u k (omega arith) (omega arith)) in
    let c = ordered_price (suc (length b)) (suc (length a)) in
    few-then (k + c) (k + (c + 1)) (ordered plain (suc (suc (length a))) v u k) _ p (omega arith) (λ j r h.
    omega (arith, step-price j r (signed plain (degree_of u * degree_of v))))
swapped-price x x' y y' a b k false e =
    let l = ltb-false (length a) (length b) e in
    rw (less (suc (length a))) at (ordered-price (suc (suc (length b))) (x ∷ x' ∷ a) (y ∷ y' ∷ b) k (omega arith) (omega arith))

tests : (n m : ℕ) → ltb (suc (suc n)) (suc (suc m)) ≡ ltb n m
tests n m = leb-suc-suc (suc (suc n)) (suc m) ∙ leb-suc-suc (suc n) m

-- document 01: for inputs of degrees n and m that are not zero
pub resultant-price : (a b : List Ratio) (k : ℕ) → 1 ≤ length a → 1 ≤ length b → steps_of (resultant_of plain a b k) ≤ k + resultant_price (length a - 1) (length b - 1)
unfolding resultant_of
resultant-price [] b k h l = omega arith
resultant-price (x ∷ a) [] k h l = omega arith
resultant-price (x ∷ []) (y ∷ b) k h l = rw (less (length b)) (powered-price x (length b) (unit plain) k)
resultant-price (x ∷ x' ∷ a) (y ∷ []) k h l = rw (less (suc (length a))) (powered-price y (suc (length a)) (unit plain) k)
resultant-price (x ∷ x' ∷ a) (y ∷ y' ∷ b) k h l =
    rw (less (suc (length a)), less (suc (length b)), tests (length a) (length b)) (swapped-price x x' y y' a b k (ltb (length a) (length b)) refl)

-- zero against anything takes none
pub resultant-price-left-zero : (b : List Ratio) (k : ℕ) → steps_of (resultant_of plain [] b k) ≡ k
unfolding resultant_of
resultant-price-left-zero b k = refl

pub resultant-price-right-zero : (a : List Ratio) (k : ℕ) → steps_of (resultant_of plain a [] k) ≡ k
unfolding resultant_of
resultant-price-right-zero [] k = refl
resultant-price-right-zero (x ∷ a) k = refl

-- ---- the discriminant

-- the price grows with the second degree
grows : (n m : ℕ) → m ≤ n → resultant_price (suc n) m ≤ resultant_price (suc n) n
grows zero zero h = omega arith
grows zero (suc m) h = absurd (let z : ⊥ = omega arith in z)
grows (suc n) zero h = rw (le-ltb (suc n) n (omega arith)) (omega arith)
grows (suc n) (suc m) h =
    rw (le-ltb (suc n) n (omega arith), le-ltb (suc n) m (omega arith)) (omega (arith, mul-le-mul_left (suc (suc n)) h))

derivative-price : (x y : Ratio) (f d : List Ratio) (k : ℕ) → length d ≤ suc (length f) → steps_of (resultant_of plain (x ∷ y ∷ f) d k) ≤ k + resultant_price (suc (length f)) (length f)
derivative-price x y f [] k h = omega (arith, resultant-price-right-zero (x ∷ y ∷ f) k)
derivative-price x y f (z ∷ d) k h =
    let p = rw (less (suc (length f)), less (length d)) at (resultant-price (x ∷ y ∷ f) (z ∷ d) k (omega arith) (omega arith)) in
    omega (arith, p, grows (length f) (length d) (omega arith))

higher-price : (x y : Ratio) (f : List Ratio) (k : ℕ) → steps_of (discriminant_of plain (x ∷ y ∷ f) k) ≤ k + discriminant_price (suc (length f))
unfolding discriminant_of
higher-price x y f k =
    let u : List Ratio = x ∷ y ∷ f in
    let n = suc (length f) in
    let c = resultant_price n (length f) in
    let t = k + (n + c + 2) in
    let s = signed plain (n * length f / 2) in
    let i = ratio_of (inv_of (lead plain u)) in
    at-most-then (λ (d : List Ratio). length d ≡ n) k n t (derived plain u k) _ (rw (less n) at (derived-takes u k)) (omega arith) (λ d e.
    few-then (k + n + c) t (resultant_of plain u (dropped plain d) (k + n)) _ (derivative-price x y f (dropped plain d) (k + n) (omega (arith, drop_top-length (λ (r : Ratio). is_nil r.num) d))) (omega arith) (λ j r p.
    few-then (k + n + c + 1) t (counted j (step_of times s r)) _ (omega (arith, step-price j s r)) (omega arith) (λ j' v q.
    omega (arith, step-price j' v i))))

constant-price : (x : Ratio) (k : ℕ) → steps_of (discriminant_of plain (x ∷ []) k) ≡ k
unfolding discriminant_of
constant-price x k = refl

pub discriminant-price : (f : List Ratio) (k : ℕ) → 1 ≤ length f → steps_of (discriminant_of plain f k) ≤ k + discriminant_price (length f - 1)
discriminant-price [] k h = absurd (let z : ⊥ = omega arith in z)
discriminant-price (x ∷ []) k h = omega (arith, constant-price x k)
discriminant-price (x ∷ y ∷ f) k h = rw (less (suc (length f))) (higher-price x y f k)
