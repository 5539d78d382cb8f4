-- How many steps the work makes at most, so that sums of steps fit a word.
use Rattle.ratio.specs.declared.Reason.{Reason}
use Rattle.std.specs.Prelude.{Result, Ok, Err}
use mathlib.Core.Path.{◌≡◌, refl}
use mathlib.Core.Bool.{Bool, true, false}
use mathlib.Core.List.{List, [], ◌∷◌}
use Prim.Native.Nat.{ℕ, zero, suc, ◌+◌, ◌-◌, ◌*◌, ◌≤◌, max}
use native.Mathlib.Omega.{arith}
use lib.Dec.{ltb}
use lib.IntN.{pos}
use lib.ListN.{length, get_or, set, replicate}
use Rattle.ratio.specs.Refusal.{zero_r}
use Rattle.ratio.specs.declared.Ratio.{Ratio}
use Rattle.terms.specs.declared.Answer.{Answer}
use Rattle.terms.proofs.StepsCount.{steps_of, few-then}
use Rattle.terms.specs.Machine.{Op, plus, times, Ran, fine, over, counted, step_of, plain, whole_r}
use Rattle.terms.specs.Work.{each, zipped, scaled, derived, rowed, rows, multiplied}
use Rattle.terms.specs.Answer.{answer_of, unless_long, product_of}

step-few : (n : ℕ) (s : Result Ratio Reason) → steps_of (counted n s) ≤ n + 1
step-few n (Ok r) = omega arith
step-few n (Err why) = omega arith

module _ {X : Type 0} (f : ℕ → ℕ → Ran ℕ X) (h : (i k : ℕ) → steps_of (f i k) ≤ k + 1) where
  pub each-few : (n i k : ℕ) → steps_of (each f n i k) ≤ k + n
  unfolding each
  each-few zero i k = omega arith
  each-few (suc n) i k =
      few-then (k + 1) (k + suc n) (f i k) _ (h i k) (omega arith) (λ j y p.
      few-then (k + suc n) (k + suc n) (each f n (suc i) j) _ (omega (arith, each-few n (suc i) j)) (omega arith) (λ j ys q. q))

pub zipped-few : (op : Op) (a b : List Ratio) (k : ℕ) → steps_of (zipped plain op a b k) ≤ k + max (length a) (length b)
unfolding zipped
zipped-few op a b k = each-few _ (λ i k. step-few k (step_of op (get_or a i zero_r) (get_or b i zero_r))) (max (length a) (length b)) 0 k

pub scaled-few : (a : List Ratio) (c : Ratio) (k : ℕ) → steps_of (scaled plain a c k) ≤ k + length a
unfolding scaled
scaled-few a c k = each-few _ (λ i k. step-few k (step_of times (get_or a i zero_r) c)) (length a) 0 k

pub derived-few : (a : List Ratio) (k : ℕ) → steps_of (derived plain a k) ≤ k + (length a - 1)
unfolding derived
derived-few a k = each-few _ (λ i k. step-few k (step_of times (get_or a (i + 1) zero_r) (whole_r (pos (i + 1))))) (length a - 1) 0 k

pub rowed-few : (op : Op) (acc : List Ratio) (p : ℕ) (x : Ratio) (b : List Ratio) (k : ℕ) → steps_of (rowed plain op acc p x b k) ≤ k + 2 * length b
unfolding rowed
rowed-few op acc p x [] k = omega arith
rowed-few op acc p x (y ∷ b) k =
    few-then (k + 1) (k + 2 * suc (length b)) (counted k (step_of times x y)) _ (step-few k (step_of times x y)) (omega arith) (λ i t h.
    few-then (k + 2) (k + 2 * suc (length b)) (counted i (step_of op (get_or acc p zero_r) t)) _ (omega (arith, step-few i (step_of op (get_or acc p zero_r) t))) (omega arith) (λ j s q.
    omega (arith, rowed-few op (set acc p s) (p + 1) x b j)))

pub rows_few : (acc : List Ratio) (p : ℕ) (a b : List Ratio) (k : ℕ) → steps_of (rows plain acc p a b k) ≤ k + 2 * (length a * length b)
unfolding rows
rows_few acc p [] b k = omega arith
rows_few acc p (x ∷ a) b k =
    few-then (k + 2 * length b) (k + 2 * (suc (length a) * length b)) (rowed plain plus acc p x b k) _ (rowed-few plus acc p x b k) (omega arith) (λ j acc q.
    omega (arith, rows_few acc (p + 1) a b j))

pub multiplied-few : (a b : List Ratio) (k : ℕ) → steps_of (multiplied plain a b k) ≤ k + 2 * (length a * length b)
unfolding multiplied
multiplied-few a b k = rows_few (replicate (length a + length b - 1) zero_r) 0 a b k

-- ---- the answer's steps

pub answer-steps : (r : Ran ℕ (List Ratio)) → (answer_of r).steps ≡ steps_of r
answer-steps (fine k l) = refl
answer-steps (over k) = refl

unless-few : (t : Bool) (r : Answer) (n : ℕ) → r.steps ≤ n → (unless_long t r).steps ≤ n
unless-few true r n h = omega arith
unless-few false r n h = h

pub product-few : (a b : List Ratio) → (product_of a b).steps ≤ 2 * (length a * length b)
unfolding product_of
product-few [] b = omega arith
product-few (x ∷ a) [] = omega arith
product-few (x ∷ a) (y ∷ b) =
    unless-few (ltb 32 (length (x ∷ a) + length (y ∷ b) - 1)) _ _ (rw (answer-steps (multiplied plain (x ∷ a) (y ∷ b) 0)) (omega (arith, multiplied-few (x ∷ a) (y ∷ b) 0)))
