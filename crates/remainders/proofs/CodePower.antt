-- Laws of powers and of the last two multiplications of a resultant: a loop that has made the first i products, its turn, its end and its refusal.
use Rattle.std.specs.Prelude.{Ok, Err}
use mathlib.Core.Path.{◌≡◌, refl, ap, ◌∙◌}
use Prim.Native.Nat.{ℕ, suc, ◌+◌, ◌-◌, ◌<◌, ◌≤◌}
use native.Mathlib.Numerals.{add-one}
use native.Mathlib.Omega.{arith}
use lib.IntN.{pos}
use Rattle.ratio.specs.Step.{mul_of}
use Rattle.ratio.specs.declared.Ratio.{Ratio}
use Rattle.ratio.specs.declared.Reason.{Reason}
use Rattle.terms.specs.Machine.{fine, plain, whole_r}
use Rattle.remainders.specs.Resultant.{unit, powered, joined}
use Rattle.remainders.specs.Answer.{no_number, number_of}

module _ (c : Ratio) (k : ℕ) where
  -- what is left to multiply gives the whole power
  pub record Powered (i : ℕ) (r : Ratio) : Type 0 where
    pub whole : powered plain c (k - i) r i ≡ powered plain c k (unit plain) 0

  pub powered-none : Powered 0 (whole_r (pos 1))
  powered-none =
      let s : k - 0 ≡ k = omega arith in
      record { whole = rw s refl }

  module _ (i : ℕ) (r : Ratio) (h : i < k) (v : Powered i r) where
    pub powered-more : (s : Ratio) → mul_of r c ≡ Ok s → Powered (i + 1) s
    unfolding powered
    powered-more s e =
        let n : k - i ≡ suc (k - suc i) = omega arith in
        record { whole = rw (add-one i) (rw (n, e) at v.whole) }

    pub powered-over : (why : Reason) → mul_of r c ≡ Err why → no_number (i + 1) ≡ number_of (powered plain c k (unit plain) 0)
    unfolding powered
    powered-over why e =
        let n : k - i ≡ suc (k - suc i) = omega arith in
        rw (add-one i) (ap number_of (rw (n, e) at v.whole))

  pub powered-all : (i : ℕ) (r : Ratio) → k ≤ i → i ≤ k → Powered i r → number_of (fine k r) ≡ number_of (powered plain c k (unit plain) 0)
  unfolding powered
  powered-all i r h j v =
      let n : k - i ≡ 0 = omega arith in
      let e : k ≡ i = omega arith in
      ap (λ (x : ℕ). number_of (fine x r)) e ∙ ap number_of (rw n at v.whole)

module _ (s p x : Ratio) (k : ℕ) where
  pub first-over : (why : Reason) → mul_of s p ≡ Err why → no_number (k + 1) ≡ number_of (joined plain s p x k)
  first-over why e = rw (e, add-one k)

  pub second-over : (t : Ratio) (why : Reason) → mul_of s p ≡ Ok t → mul_of t x ≡ Err why → no_number (k + 2) ≡ number_of (joined plain s p x k)
  second-over t why e f =
      let n : k + 2 ≡ suc (suc k) = omega arith in
      rw (e, f, n)

  pub joined-all : (t r : Ratio) → mul_of s p ≡ Ok t → mul_of t x ≡ Ok r → number_of (fine (k + 2) r) ≡ number_of (joined plain s p x k)
  joined-all t r e f =
      let n : k + 2 ≡ suc (suc k) = omega arith in
      rw (e, f, n)
