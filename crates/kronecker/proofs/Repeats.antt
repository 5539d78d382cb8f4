-- Laws of a step that is repeated until one is refused: a loop that has made the first j.
use Rattle.ratio.specs.Refusal.{no_refusal, zero_r}
use Rattle.std.specs.Prelude.{Ok, Err}
use mathlib.Core.Path.{◌≡◌, sym, ap, subst, ◌∙◌}
use mathlib.Core.Bool.{true, false}
use mathlib.Core.List.{List}
use Prim.Native.Nat.{ℕ, suc, ◌+◌, ◌-◌, ◌<◌, ◌≤◌}
use native.Mathlib.Numerals.{add-one}
use native.Mathlib.Decide.{ℕ_discrete}
use native.Mathlib.Omega.{arith}
use lib.ListN.{length, get_or, set}
use lib.Seq.{get_or-set_same, get_or-set_other}
use Rattle.ratio.specs.declared.Ratio.{Ratio}
use Rattle.ratio.specs.declared.Reason.{Reason}
use Rattle.terms.specs.declared.Answer.{Answer}
use Rattle.terms.specs.Poly.{terms_of}
use Rattle.terms.specs.Machine.{plus, fine, plain}
use Rattle.terms.specs.Work.{zipped}
use Rattle.terms.specs.Answer.{answer_of, value_of}
use Rattle.kronecker.specs.declared.Basis.{Basis}
use Rattle.kronecker.specs.Points.{point_of}
use Rattle.kronecker.specs.Interpolation.{skip, on_outcome, on_answer, repeated, basis_of, part_of, added_part, added_from, Serves, Serving}

-- an answer that was given goes on, another one doesn't
pub answer-done : {X : Type 0} (a b : Answer) (x : X) (k : List Ratio → X) → b ≡ a → b.outcome ≡ no_refusal → k (terms_of b.poly) ≡ on_answer a x k
answer-done a b x k e o = sym (ap (λ t. on_outcome t x (k (terms_of b.poly))) o) ∙ ap (λ (t : Answer). on_answer t x k) e

pub answer-refused : {X : Type 0} (a b : Answer) (x : X) (k : List Ratio → X) (why : Reason) → b ≡ a → b.outcome ≡ Err why → x ≡ on_answer a x k
answer-refused a b x k why e o = sym (ap (λ t. on_outcome t x (k (terms_of b.poly))) o) ∙ ap (λ (t : Answer). on_answer t x k) e

module _ (step : ℕ → List Ratio → Answer) (n : ℕ) (start : List Ratio) where
  -- what is left to be made gives the whole
  pub record Repeating (j : ℕ) (acc : List Ratio) : Type 0 where
    pub whole : repeated step (n - j) j acc ≡ repeated step n 0 start

  pub repeating-none : (acc : List Ratio) → acc ≡ start → Repeating 0 acc
  repeating-none acc e = let s : n - 0 ≡ n = omega arith in record { whole = rw (s, e) }

  module _ (j : ℕ) (acc : List Ratio) (h : j < n) (s : Repeating j acc) (a : Answer) (e : a ≡ step j acc) where
    pub repeating-more : a.outcome ≡ no_refusal → Repeating (j + 1) (terms_of a.poly)
    unfolding repeated
    repeating-more o =
        let k : n - j ≡ suc (n - suc j) = omega arith in
        record { whole = rw (add-one j) (answer-done (step j acc) a skip (repeated step (n - suc j) (suc j)) e o ∙ (rw k at s.whole)) }

    pub repeating-over : (why : Reason) → a.outcome ≡ Err why → skip ≡ repeated step n 0 start
    unfolding repeated
    repeating-over why o =
        let k : n - j ≡ suc (n - suc j) = omega arith in
        answer-refused (step j acc) a skip (repeated step (n - suc j) (suc j)) why e o ∙ (rw k at s.whole)

  pub repeating-all : (j : ℕ) (acc : List Ratio) → n ≤ j → Repeating j acc → answer_of (fine 0 acc) ≡ repeated step n 0 start
  unfolding repeated
  repeating-all j acc h s = let k : n - j ≡ 0 = omega arith in rw k at s.whole

-- turn i of the sum
abbrev pub turn : List Ratio → ℕ → ℕ → List Ratio → Answer
turn ys n i acc = added_part acc i n (get_or ys i zero_r)

-- ---- the basis of a point

module _ (i n : ℕ) (b : Answer) (e : b ≡ basis_of i n) where
  pub serves-none : (why : Reason) → b.outcome ≡ Err why → (r : Basis) → r.fine ≡ false → Serves i n r
  unfolding part_of
  serves-none why o r f = record { is = λ y. rw (f, ← e, o) }

  module _ (o : b.outcome ≡ no_refusal) where
    pub serves-valueless : (why : Reason) → value_of (terms_of b.poly) (point_of i) ≡ Err why → (r : Basis) → r.fine ≡ false → Serves i n r
    unfolding part_of
    serves-valueless why v r f = record { is = λ y. rw (f, ← e, o, v) }

    pub serves-done : (d : Ratio) → value_of (terms_of b.poly) (point_of i) ≡ Ok d → Serves i n (record { fine = true; poly = b.poly; at = d })
    unfolding part_of
    serves-done d v = record { is = λ y. rw (← e, o, v) }

-- ---- the bases of n points, one after the other

module _ (n : ℕ) where
  pub serving-none : (rows : List Basis) → Serving n 0 rows
  serving-none rows = record { each = λ k h d. absurd (omega arith) }

  pub serving-more : (i : ℕ) (rows : List Basis) (b : Basis) → i < length rows → Serves i n b → Serving n i rows → Serving n (i + 1) (set rows i b)
  serving-more i rows b h s l = record { each = λ k g d. at k g d (ℕ_discrete k i) }
    where
      at : (k : ℕ) → k < i + 1 → (d : Basis) → Dec (k ≡ i) → Serves k n (get_or (set rows i b) k d)
      at k g d (yes p) = subst (λ (k : ℕ). Serves k n (get_or (set rows i b) k d)) (sym p) (subst (Serves i n) (sym (get_or-set_same rows i b d h)) s)
      at k g d (no p) = subst (Serves k n) (sym (get_or-set_other rows i k b d p)) (l.each k (omega arith) d)

-- ---- one part of the sum

module _ (acc : List Ratio) (b : Basis) (y : Ratio) where
  pub added-serves : (i n : ℕ) → Serves i n b → added_from acc b y ≡ added_part acc i n y
  unfolding added_part
  added-serves i n s = ap (λ (a : Answer). on_answer a skip (λ p. answer_of (zipped plain plus acc p 0))) (s.is y)
