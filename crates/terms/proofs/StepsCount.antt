-- How many steps the plain machine counts: exactly so many where the work is answered, at most so many where it is refused.
use Rattle.ratio.specs.declared.Reason.{Reason}
use Rattle.std.specs.Prelude.{Result, Ok, Err}
use mathlib.Core.Path.{◌≡◌, refl, ap, subst}
use mathlib.Core.Bool.{Bool, true, false}
use mathlib.Core.List.{List, [], ◌∷◌}
use Prim.Native.Nat.{ℕ, zero, suc, ◌+◌, ◌-◌, ◌*◌, ◌≤◌}
use native.Mathlib.Omega.{arith}
use lib.IntN.{pos}
use lib.ListN.{length, get_or, set, take, length-take, length-set}
use Rattle.ratio.specs.Refusal.{zero_r}
use Rattle.ratio.specs.declared.Ratio.{Ratio}
use Rattle.terms.specs.Machine.{Op, times, Ran, fine, over, and_then, counted, step_of, plain, whole_r}
use Rattle.terms.specs.Poly.{on_top, drop_top}
use Rattle.terms.specs.Work.{each, scaled, derived, rowed}

-- the counter, of an answer and of a refusal alike
abbrev pub steps_of : {X : Type 0} → Ran ℕ X → ℕ
steps_of (fine n x) = n
steps_of (over n) = n

-- from k on, the work takes c steps where it is answered, and P holds of its result; it takes at most c where it is refused
abbrev pub Takes : {X : Type 0} → (X → Type 0) → ℕ → ℕ → Ran ℕ X → Type 0
Takes P k c (fine n x) = (n ≡ k + c) × P x
Takes P k c (over n) = n ≤ k + c

-- nothing is said of the result
abbrev pub Any : {X : Type 0} → X → Type 0
Any x = Unit {0}

takes-from : {X : Type 0} (P : X → Type 0) (k c d t : ℕ) (r : Ran ℕ X) → t ≡ c + d → Takes P (k + c) d r → Takes P k t r
takes-from P k c d t (fine n x) e h = (omega arith, h.1)
takes-from P k c d t (over n) e h = omega arith

-- what follows from P holds too
pub takes-weaker : {X : Type 0} {P Q : X → Type 0} → ((x : X) → P x → Q x) → (k c : ℕ) (r : Ran ℕ X) → Takes P k c r → Takes Q k c r
takes-weaker f k c (fine n x) h = (h.0, f x h.1)
takes-weaker f k c (over n) h = h

module _ {X : Type 0} (P : X → Type 0) (k c : ℕ) where
  pub takes-at-most : (r : Ran ℕ X) → Takes P k c r → steps_of r ≤ k + c
  takes-at-most (fine n x) h = omega arith
  takes-at-most (over n) h = h

  pub takes-exactly : (r : Ran ℕ X) → Takes P k c r → (n : ℕ) (x : X) → r ≡ fine n x → (n ≡ k + c) × P x
  takes-exactly r h n x e = subst (Takes P k c) e h

  -- one work after the other: the prices add up
  pub takes-then : {Y : Type 0} (Q : Y → Type 0) (d t : ℕ) (r : Ran ℕ X) (f : ℕ → X → Ran ℕ Y) → t ≡ c + d → Takes P k c r → ((x : X) → P x → Takes Q (k + c) d (f (k + c) x)) → Takes Q k t (and_then r f)
  takes-then Q d t (fine n x) f e h g = rw h.0 (takes-from Q k c d t (f (k + c) x) e (g x h.1))
  takes-then Q d t (over n) f e h g = omega arith

  -- the same where only a bound is known of the second work
  pub at-most-then : {Y : Type 0} (n : ℕ) (r : Ran ℕ X) (f : ℕ → X → Ran ℕ Y) → Takes P k c r → k + c ≤ n → ((x : X) → P x → steps_of (f (k + c) x) ≤ n) → steps_of (and_then r f) ≤ n
  at-most-then n (fine m x) f h l g = rw h.0 (g x h.1)
  at-most-then n (over m) f h l g = omega arith

-- and where only a bound is known of both
pub few-then : {X Y : Type 0} (m n : ℕ) (r : Ran ℕ X) (f : ℕ → X → Ran ℕ Y) → steps_of r ≤ m → m ≤ n → ((k : ℕ) (x : X) → k ≤ m → steps_of (f k x) ≤ n) → steps_of (and_then r f) ≤ n
few-then m n (fine k x) f h l g = g k x h
few-then m n (over k) f h l g = omega arith

pub step-takes : (k : ℕ) (s : Result Ratio Reason) → Takes Any k 1 (counted k s)
step-takes k (Ok r) = (omega arith, tt)
step-takes k (Err why) = omega arith

-- one step an item: as many steps as items
module _ {X : Type 0} (f : ℕ → ℕ → Ran ℕ X) (h : (i k : ℕ) → Takes Any k 1 (f i k)) where
  pub each-takes : (n i k : ℕ) → Takes (λ ys. length ys ≡ n) k n (each f n i k)
  unfolding each
  each-takes zero i k = (omega arith, refl)
  each-takes (suc n) i k =
      takes-then Any k 1 (λ ys. length ys ≡ suc n) n (suc n) (f i k) _ (omega arith) (h i k) (λ y t.
      takes-then (λ ys. length ys ≡ n) (k + 1) n (λ ys. length ys ≡ suc n) 0 n (each f n (suc i) (k + 1)) _ (omega arith) (each-takes n (suc i) (k + 1)) (λ ys e. (omega arith, ap suc e)))

pub scaled-takes : (a : List Ratio) (c : Ratio) (k : ℕ) → Takes (λ ys. length ys ≡ length a) k (length a) (scaled plain a c k)
unfolding scaled
scaled-takes a c k = each-takes _ (λ i k. step-takes k (step_of times (get_or a i zero_r) c)) (length a) 0 k

pub derived-takes : (a : List Ratio) (k : ℕ) → Takes (λ ys. length ys ≡ length a - 1) k (length a - 1) (derived plain a k)
unfolding derived
derived-takes a k = each-takes _ (λ i k. step-takes k (step_of times (get_or a (i + 1) zero_r) (whole_r (pos (i + 1))))) (length a - 1) 0 k

-- two steps for each coefficient, zeros included
pub rowed-takes : (op : Op) (acc : List Ratio) (p : ℕ) (x : Ratio) (b : List Ratio) (k : ℕ) → Takes (λ l. length l ≡ length acc) k (2 * length b) (rowed plain op acc p x b k)
unfolding rowed
rowed-takes op acc p x [] k = (omega arith, refl)
rowed-takes op acc p x (y ∷ b) k =
    takes-then Any k 1 (λ l. length l ≡ length acc) (1 + 2 * length b) (2 * suc (length b)) (counted k (step_of times x y)) _ (omega arith) (step-takes k (step_of times x y)) (λ t u.
    takes-then Any (k + 1) 1 (λ l. length l ≡ length acc) (2 * length b) (1 + 2 * length b) (counted (k + 1) (step_of op (get_or acc p zero_r) t)) _ refl (step-takes (k + 1) (step_of op (get_or acc p zero_r) t)) (λ s v.
    rw length-set at (rowed-takes op (set acc p s) (p + 1) x b (k + 1 + 1))))

-- ---- what is left after the top is dropped is no longer

on_top-length : {W : Type 0} (t : Bool) (a : W) (l : List W) → length (on_top t a l) ≤ suc (length l)
on_top-length true a [] = omega arith
on_top-length false a [] = omega arith
on_top-length true a (b ∷ l) = omega arith
on_top-length false a (b ∷ l) = omega arith

pub drop_top-length : {W : Type 0} (f : W → Bool) (l : List W) → length (drop_top f l) ≤ length l
unfolding drop_top
drop_top-length f [] = omega arith
drop_top-length f (a ∷ l) = omega (arith, on_top-length (f a) a (drop_top f l), drop_top-length f l)

pub take-length-most : {W : Type 0} (n : ℕ) (l : List W) → length (take n l) ≤ n
take-length-most n l = omega (arith, length-take n l)
