-- Answers in a row: each entry is what was answered for its place; and the polynomial that they are.
use mathlib.Core.Path.{◌≡◌, sym, ◌∙◌, ap, subst}
use mathlib.Core.List.{List, [], ◌∷◌}
use Prim.Native.Nat.{ℕ, zero, suc, ◌+◌, ◌<◌}
use native.Mathlib.Omega.{arith}
use native.Mathlib.Decide.{dec_lt}
use lib.ListN.{length, get_or, get_or-eq_default}
use Rattle.algebra.proofs.Rational.{ℚ-ring}
use Rattle.algebra.proofs.Series.{Below}
use Rattle.algebra.proofs.Lists.{ℚP}
use Rattle.ratio.specs.Refusal.{zero_r}
use Rattle.ratio.specs.declared.Ratio.{Ratio}
use Rattle.ratio.proofs.Steps.{value, zero-value}
use Rattle.terms.specs.Machine.{Ran, fine}
use Rattle.terms.specs.Work.{each}
use Rattle.terms.proofs.MeaningStep.{same_answer, both-answered}
use Rattle.terms.proofs.Meaning.{poly_r, poly_r-is}

-- ---- n answers in a row

-- y was answered for place i
pub record AnsweredAt {W Log : Type 0} (f : ℕ → Log → Ran Log W) (i : ℕ) (y : W) : Type 0 where
  pub before : Log
  pub after : Log
  pub is : f i before ≡ fine after y

module _ {W Log : Type 0} (f : ℕ → Log → Ran Log W) where
  pub each-length : (n i : ℕ) (log log' : Log) (l : List W) → each f n i log ≡ fine log' l → length l ≡ n
  unfolding each
  each-length zero i log log' l e = ap length (sym (same_answer log log' [] l e))
  each-length (suc n) i log log' l e =
      let a = both-answered (f i log) _ log' l e in
      let b = both-answered (each f n (suc i) a.log) _ log' l a.then in
      ap length (sym (same_answer _ _ (a.got ∷ b.got) l b.then)) ∙ ap suc (each-length n (suc i) a.log b.log b.got b.first)

  at-cons : (n i : ℕ) (y : W) (ys : List W) (d : W) → AnsweredAt f i y → ((j : ℕ) → j < n → AnsweredAt f (suc i + j) (get_or ys j d))
      → (j : ℕ) → j < suc n → AnsweredAt f (i + j) (get_or (y ∷ ys) j d)
  at-cons n i y ys d a r zero h = subst (λ k. AnsweredAt f k y) (omega arith) a
  at-cons n i y ys d a r (suc j) h = subst (λ k. AnsweredAt f k (get_or ys j d)) (omega arith) (r j (omega arith))

  each_from : (n i : ℕ) (log log' : Log) (l : List W) → each f n i log ≡ fine log' l → (d : W) (j : ℕ) → j < n → AnsweredAt f (i + j) (get_or l j d)
  unfolding each
  each_from zero i log log' l e d j h = absurd (omega arith)
  each_from (suc n) i log log' l e d j h =
      let a = both-answered (f i log) _ log' l e in
      let b = both-answered (each f n (suc i) a.log) _ log' l a.then in
      subst (λ m. AnsweredAt f (i + j) (get_or m j d)) (same_answer _ _ (a.got ∷ b.got) l b.then)
      (at-cons n i a.got b.got d (record { before = log; after = a.log; is = a.first }) (each_from n (suc i) a.log b.log b.got b.first d) j h)

  pub each_at : (n : ℕ) (log log' : Log) (l : List W) → each f n 0 log ≡ fine log' l → (d : W) (i : ℕ) → i < n → AnsweredAt f i (get_or l i d)
  each_at n log log' l e d i h = subst (λ k. AnsweredAt f k (get_or l i d)) (omega arith) (each_from n 0 log log' l e d i h)

-- fractions in a row are a polynomial, where each is its coefficient
module _ (f : ℕ → ℕ → Ran ℕ Ratio) where
  pub each-means : (n k k' : ℕ) (l : List Ratio) (p : ℚP) → each f n 0 k ≡ fine k' l → ((i : ℕ) (r : Ratio) → AnsweredAt f i r → value r ≡ p.0 i) → Below ℚ-ring n p.0 → poly_r l ≡ p
  each-means n k k' l p e h z = poly_r-is l p (λ i. pick i (dec_lt i n))
    where
      pick : (i : ℕ) → Dec (i < n) → value (get_or l i zero_r) ≡ p.0 i
      pick i (yes b) = h i (get_or l i zero_r) (each_at f n k k' l e zero_r i b)
      pick i (no b) =
          let s : length l ≡ n = each-length f n 0 k k' l e in
          ap value (get_or-eq_default l zero_r (omega arith)) ∙ zero-value ∙ sym (z i (omega arith))
