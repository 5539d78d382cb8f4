-- The heights of Horner's form: degree n takes 2 n + 1 values at once.
use Rattle.std.specs.Prelude.{Ok, Err}
use mathlib.Core.Path.{◌≡◌, refl, sym, ap, ◌∙◌}
use mathlib.Core.Bool.{Bool, true, false, cond}
use mathlib.Core.List.{List, [], ◌∷◌, ◌++◌, append_assoc, append-nil}
use Prim.Native.Nat.{ℕ, suc, ◌+◌, ◌*◌, ◌-◌, ◌≤◌, max}
use native.Mathlib.Omega.{arith}
use borrow.Author.Tests.{lt-ltb, le-ltb, ltb-true, ltb-false}
use lib.Dec.{ltb}
use lib.ListN.{length}
use Rattle.ratio.specs.Refusal.{Outcome, no_refusal}
use Rattle.ratio.specs.declared.Reason.TheVariants as R
use Rattle.ratio.specs.declared.Ratio.{Ratio}
use Rattle.bridge.specs.Value.{value_of}
use Rattle.tokens.specs.declared.Height.{Height}
use Rattle.tokens.specs.declared.Token.{Token}
use Rattle.tokens.specs.declared.Token.TheVariants as T
use Rattle.tokens.specs.Spelling.{token_of}
use Rattle.tokens.specs.Heights.{takes, is_other, is_malformed, check_from, bare}
use Rattle.horner.specs.Text.{constant, variable}
use Rattle.horner.proofs.Runs.{times, plus, horner_words, token-times, token-plus}

-- ---- whether over 16 values ever stood there

abbrev over : Bool → ℕ → Bool
over d n = cond d true (ltb 16 n)

either : (m n : ℕ) (s t : Bool) → ltb 16 m ≡ s → ltb 16 n ≡ t → cond s true t ≡ ltb 16 (max m n)
either m n true t e f = sym (lt-ltb 16 (max m n) (omega (arith, ltb-true 16 m e)))
either m n false true e f = sym (lt-ltb 16 (max m n) (omega (arith, ltb-true 16 n f)))
either m n false false e f = sym (le-ltb 16 (max m n) (omega (arith, ltb-false 16 m e, ltb-false 16 n f)))

over-over : (d : Bool) (m n : ℕ) → over (over d m) n ≡ over d (max m n)
over-over true m n = refl
over-over false m n = either m n (ltb 16 m) (ltb 16 n) refl refl

abbrev height : ℕ → Bool → Height
height v d = record { values = v; deep = d; past = false }

-- ---- one word

module _ (end at v : ℕ) (d : Bool) (w : List ℕ) (ws : List (List ℕ)) (r : Outcome) where
  put : (t : Token) → token_of w ≡ t → is_malformed t ≡ false → is_other t ≡ false → (m : ℕ) → takes t ≤ v → m ≡ v - takes t + 1
      → ((at : ℕ) → check_from end at (height m (over d m)) ws ≡ r) → check_from end at (height v d) (w ∷ ws) ≡ r
  unfolding check_from
  put t e f g m h k next = rw (e, f, le-ltb v (takes t) h, g, ← k) (next (at + length w + 1))

-- ---- the words of Horner's form

flags : (d : Bool) (v n : ℕ) → over (over (over (over (over d (v + 1)) (v + 2)) (v + 2 + 2 * n + 1)) (v + 2)) (v + 1) ≡ over d (v + 2 * suc n + 1)
flags d v n =
    let most : max (max (max (max (v + 1) (v + 2)) (v + 2 + 2 * n + 1)) (v + 2)) (v + 1) ≡ v + 2 * suc n + 1 = omega arith in
    ap (λ b. over (over (over b (v + 2 + 2 * n + 1)) (v + 2)) (v + 1)) (over-over d (v + 1) (v + 2))
    ∙ ap (λ b. over (over b (v + 2)) (v + 1)) (over-over d _ (v + 2 + 2 * n + 1))
    ∙ ap (λ b. over b (v + 1)) (over-over d _ (v + 2))
    ∙ over-over d _ (v + 1)
    ∙ ap (over d) most

limited : (n : ℕ) (t : Bool) → ltb 8 (suc n) ≡ t → ltb 16 (0 + 2 * n + 1) ≡ t
limited n true e = lt-ltb 16 (0 + 2 * n + 1) (omega (arith, ltb-true 8 (suc n) e))
limited n false e = le-ltb 16 (0 + 2 * n + 1) (omega (arith, ltb-false 8 (suc n) e))

limit : (n : ℕ) → ltb 16 (0 + 2 * n + 1) ≡ ltb 8 (suc n)
limit n = limited n (ltb 8 (suc n)) refl

module _ (wrt : ℕ) (tv : token_of (variable wrt) ≡ T.Var wrt) (tc : (c : Ratio) → token_of (constant c) ≡ T.Const (value_of c)) where
  heights : (c : Ratio) (l : List Ratio) (end at v : ℕ) (d : Bool) (ws : List (List ℕ)) (r : Outcome)
      → ((at : ℕ) → check_from end at (height (v + 1) (over d (v + 2 * length l + 1))) ws ≡ r) → check_from end at (height v d) (horner_words wrt c l ++ ws) ≡ r
  heights c [] end at v d ws r next =
      let e : v + 1 ≡ v + 2 * 0 + 1 = omega arith in
      put end at v d (constant c) ws r (T.Const (value_of c)) (tc c) refl refl (v + 1) (omega arith) (omega arith) (λ at. ap (λ m. check_from end at (height (v + 1) (over d m)) ws) e ∙ next at)
  heights c (e ∷ l) end at v d ws r next =
      let n = length l in
      rw (append_assoc (horner_words wrt e l) (times ∷ plus ∷ []) ws)
      (put end at v d (constant c) _ r (T.Const (value_of c)) (tc c) refl refl (v + 1) (omega arith) (omega arith) (λ at.
      put end at (v + 1) _ (variable wrt) _ r (T.Var wrt) tv refl refl (v + 2) (omega arith) (omega arith) (λ at.
      heights e l end at (v + 2) _ (times ∷ plus ∷ ws) r (λ at.
      put end at (v + 2 + 1) _ times _ r T.Mul token-times refl refl (v + 2) (omega arith) (omega arith) (λ at.
      put end at (v + 2) _ plus ws r T.Add token-plus refl refl (v + 1) (omega arith) (omega arith) (λ at.
      ap (λ f. check_from end at (height (v + 1) f) ws) (flags d v n) ∙ next at))))))

  pub check : (c : Ratio) (l : List Ratio) (end : ℕ) → check_from end 0 bare (horner_words wrt c l) ≡ cond (ltb 8 (suc (length l))) (Err R.TooLong) no_refusal
  unfolding check_from
  check c l end =
      ap (check_from end 0 bare) (sym (append-nil (horner_words wrt c l)))
      ∙ heights c l end 0 0 false [] _ (λ at. ap (λ b. cond b (Err R.TooLong) no_refusal) (limit (length l)))
