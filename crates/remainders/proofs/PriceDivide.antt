-- Demand 3, division: the number of steps, exactly, and at most so many where a step is refused; the rest is shorter than the divisor.
use mathlib.Core.Path.{◌≡◌, refl, ap, ap₂, ◌∙◌}
use mathlib.Core.Bool.{Bool, true, false}
use mathlib.Core.List.{List, [], ◌∷◌}
use Prim.Native.Nat.{ℕ, zero, suc, ◌+◌, ◌-◌, ◌*◌, ◌≤◌, ◌<◌}
use native.Mathlib.Omega.{arith}
use borrow.Author.Tests.{ltb-true, ltb-false, lt-ltb, le-ltb}
use lib.Dec.{ltb}
use lib.ListN.{length, get_or, take}
use Rattle.ratio.specs.Refusal.{zero_r, ratio_of}
use Rattle.ratio.specs.Step.{is_nil, inv_of}
use Rattle.ratio.specs.declared.Ratio.{Ratio}
use Rattle.terms.specs.Poly.{trim}
use Rattle.terms.specs.Machine.{minus, times, fine, counted, step_of, plain}
use Rattle.terms.specs.Work.{rowed}
use Rattle.terms.proofs.StepsCount.{steps_of, Takes, Any, takes-at-most, takes-exactly, takes-then, takes-weaker, step-takes, rowed-takes, drop_top-length, take-length-most}
use Rattle.remainders.specs.Divide.{Split, split, lead, quotients, finished, divided_if, divided}
use Rattle.remainders.specs.Price.{division_if, division_price}

-- k terms more in the quotient
pub record Grown (rem quot : List Ratio) (k : ℕ) (s : Split Ratio) : Type 0 where
  pub terms : length s.quotient ≡ k + length quot
  pub as_long : length s.rest ≡ length rem

-- each term of the quotient: one step for the term, two for each coefficient of the divisor
pub quotients-take : (rem b : List Ratio) (k : ℕ) (quot : List Ratio) (n : ℕ) → Takes (Grown rem quot k) n (k * (1 + 2 * length b)) (quotients plain rem b k quot n)
unfolding quotients
quotients-take rem b zero quot n = (omega arith, record { terms = omega arith; as_long = refl })
quotients-take rem b (suc k) quot n =
    let x = get_or rem (k + (length b - 1)) zero_r in
    let i = ratio_of (inv_of (lead plain b)) in
    let c = k * (1 + 2 * length b) in
    takes-then Any n 1 (Grown rem quot (suc k)) (2 * length b + c) (suc k * (1 + 2 * length b)) (counted n (step_of times x i)) _ (omega arith) (step-takes n (step_of times x i)) (λ t u.
    takes-then (λ l. length l ≡ length rem) (n + 1) (2 * length b) (Grown rem quot (suc k)) c (2 * length b + c) (rowed plain minus rem k t b (n + 1)) _ refl (rowed-takes minus rem k t b (n + 1)) (λ rem' e.
    takes-weaker (λ s g. record { terms = omega (arith, g.terms); as_long = g.as_long ∙ e }) (n + 1 + 2 * length b) c (quotients plain rem' b k (t ∷ quot) (n + 1 + 2 * length b)) (quotients-take rem' b k (t ∷ quot) (n + 1 + 2 * length b))))

-- the rest is below the divisor, and no longer than the dividend; the quotient has no more terms than are computed
pub record Below (a b : List Ratio) (s : Split Ratio) : Type 0 where
  pub shorter : length s.rest < length b
  pub no_longer : length s.rest ≤ length a
  pub few-terms : length s.quotient ≤ length a + 1 - length b

-- in lengths and in degrees
degrees : (x y : ℕ) → 1 ≤ y → y ≤ x → (x - y + 1) * (1 + 2 * y) ≡ (x - 1 - (y - 1) + 1) * (2 * (y - 1) + 3)
degrees x y h l =
    let p : x - y + 1 ≡ x - 1 - (y - 1) + 1 = omega arith in
    let q : 1 + 2 * y ≡ 2 * (y - 1) + 3 = omega arith in
    ap₂ (λ (u v : ℕ). u * v) p q

module _ (a b : List Ratio) (some : 1 ≤ length b) where
  higher : length b ≤ length a → (k : ℕ) → Takes (Below a b) k ((length a - length b + 1) * (1 + 2 * length b)) (divided_if plain false a b k)
  higher l k =
      let c = (length a - length b + 1) * (1 + 2 * length b) in
      takes-then (Grown a [] (length a - length b + 1)) k c (Below a b) 0 c (quotients plain a b (length a - length b + 1) [] k) (finished plain b) (omega arith) (quotients-take a b (length a - length b + 1) [] k) (λ s u.
      let t = take-length-most (length b - 1) s.rest in
      let d = drop_top-length (λ (r : Ratio). is_nil r.num) (take (length b - 1) s.rest) in
      let q = drop_top-length (λ (r : Ratio). is_nil r.num) s.quotient in
      (omega arith, record { shorter = omega arith; no_longer = omega arith; few-terms = omega (arith, u.terms) }))

  lower : length a < length b → (k : ℕ) → Takes (Below a b) k 0 (divided_if plain true a b k)
  lower l k =
      let d = drop_top-length (λ (r : Ratio). is_nil r.num) a in
      (omega arith, record { shorter = omega arith; no_longer = omega arith; few-terms = omega arith })

  takes-if : (k : ℕ) (t : Bool) → ltb (length a) (length b) ≡ t → Takes (Below a b) k (division_if t (length a - 1) (length b - 1)) (divided_if plain t a b k)
  takes-if k true e = lower (ltb-true (length a) (length b) e) k
  takes-if k false e =
      let l = ltb-false (length a) (length b) e in
      rw (← degrees (length a) (length b) some l) (higher l k)

  divided-takes-if : (k : ℕ) → Takes (Below a b) k (division_if (ltb (length a) (length b)) (length a - 1) (length b - 1)) (divided plain a b k)
  unfolding divided
  divided-takes-if k = takes-if k (ltb (length a) (length b)) refl

  tests : 1 ≤ length a → (t : Bool) → ltb (length a) (length b) ≡ t → ltb (length a - 1) (length b - 1) ≡ t
  tests h true e = lt-ltb (length a - 1) (length b - 1) (omega (arith, ltb-true (length a) (length b) e))
  tests h false e = le-ltb (length a - 1) (length b - 1) (omega (arith, ltb-false (length a) (length b) e))

  pub divided-takes : 1 ≤ length a → (k : ℕ) → Takes (Below a b) k (division_price (length a - 1) (length b - 1)) (divided plain a b k)
  divided-takes h k = rw (tests h (ltb (length a) (length b)) refl) (divided-takes-if k)

  pub division-lower : length a < length b → (k : ℕ) → divided plain a b k ≡ fine k (split [] (trim a))
  unfolding divided
  division-lower l k = rw (lt-ltb (length a) (length b) l)

  pub division-exact : (k k' : ℕ) (s : Split Ratio) → length b ≤ length a → divided plain a b k ≡ fine k' s → k' ≡ k + (length a - length b + 1) * (2 * (length b - 1) + 3)
  division-exact k k' s l e =
      let t = (takes-exactly (Below a b) k _ (divided plain a b k) (divided-takes-if k) k' s e).0 in
      let d : length a - 1 - (length b - 1) ≡ length a - length b = omega arith in
      (rw (le-ltb (length a) (length b) l) at t) ∙ ap (λ (x : ℕ). k + (x + 1) * (2 * (length b - 1) + 3)) d

  pub division-price : 1 ≤ length a → (k : ℕ) → steps_of (divided plain a b k) ≤ k + division_price (length a - 1) (length b - 1)
  division-price h k = takes-at-most (Below a b) k _ (divided plain a b k) (divided-takes h k)

  pub rest_below : (k k' : ℕ) (s : Split Ratio) → divided plain a b k ≡ fine k' s → Below a b s
  rest_below k k' s e = (takes-exactly (Below a b) k _ (divided plain a b k) (divided-takes-if k) k' s e).1
