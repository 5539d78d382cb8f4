-- The first part of a text, up to a mark, and the rest of its parts.
use mathlib.Core.Path.{◌≡◌, refl}
use mathlib.Core.Bool.{Bool, true, false, cond}
use mathlib.Core.List.{List, [], ◌∷◌}
use Prim.Native.Nat.{ℕ, zero, suc, max, ◌+◌, ◌<◌, ◌≤◌}
use native.Mathlib.Omega.{arith}
use native.Mathlib.Numerals.{add-one}
use borrow.Author.Tests.{eq-eqb, ne_eqb, ltb-true, ltb-false}
use lib.Dec.{eqb, ltb}
use lib.ListN.{length, take, drop, get_or, drop_of_length-le}
use lib.Seq.{drop-cons}
use Rattle.tokens.specs.Words.{on_first, parts_of, length_to}

-- the parts after the first one
abbrev pub later_parts : ℕ → List ℕ → List (List ℕ)
later_parts mark [] = []
later_parts mark (b ∷ l) = parts_of mark l

first : (t : Bool) (mark b : ℕ) (l : List ℕ) → parts_of mark l ≡ take (length_to mark l) l ∷ later_parts mark (drop (length_to mark l) l)
    → cond t ([] ∷ parts_of mark l) (on_first b (parts_of mark l)) ≡ take (cond t zero (suc (length_to mark l))) (b ∷ l) ∷ later_parts mark (drop (cond t zero (suc (length_to mark l))) (b ∷ l))
first true mark b l e = refl
first false mark b l e = rw e

pub parts_first : (mark : ℕ) (l : List ℕ) → parts_of mark l ≡ take (length_to mark l) l ∷ later_parts mark (drop (length_to mark l) l)
unfolding parts_of length_to
parts_first mark [] = refl
parts_first mark (b ∷ l) = first (eqb b mark) mark b l (parts_first mark l)

module _ (mark : ℕ) (s : List ℕ) (i : ℕ) (h : i < length s) where
  pub length-mark : get_or s i 0 ≡ mark → length_to mark (drop i s) ≡ 0
  unfolding length_to
  length-mark e = rw (drop-cons s i 0 h, eq-eqb (get_or s i 0) mark e)

  pub length_more : (get_or s i 0 ≡ mark → ⊥) → length_to mark (drop i s) ≡ suc (length_to mark (drop (i + 1) s))
  unfolding length_to
  length_more e = rw (add-one, drop-cons s i 0 h, ne_eqb (get_or s i 0) mark e)

pub length_none : (mark : ℕ) (s : List ℕ) (i : ℕ) → length s ≤ i → length_to mark (drop i s) ≡ 0
unfolding length_to
length_none mark s i h = rw (drop_of_length-le s h)

bounded : (t : Bool) (n m : ℕ) → n ≤ m → cond t zero (suc n) ≤ suc m
bounded true n m h = omega arith
bounded false n m h = omega arith

pub length-bounded : (mark : ℕ) (l : List ℕ) → length_to mark l ≤ length l
unfolding length_to
length-bounded mark [] = omega arith
length-bounded mark (b ∷ l) = bounded (eqb b mark) (length_to mark l) (length l) (length-bounded mark l)

-- no mark up to the text's end
module _ (mark at end m : ℕ) (s : List ℕ) (e : m ≡ max at (length s)) (f : at ≤ length s → end ≤ length s) (h : length s ≤ end) (w : end + length_to mark (drop end s) ≡ at + length_to mark (drop at s)) where
  all-by : (t : Bool) → ltb (length s) at ≡ t → m ≡ at + length_to mark (drop at s)
  all-by true q = omega (arith, e, ltb-true (length s) at q, length_none mark s at (omega (arith, ltb-true (length s) at q)))
  all-by false q = omega (arith, e, f (ltb-false (length s) at q), ltb-false (length s) at q, length_none mark s end h, w)

  pub length-all : m ≡ at + length_to mark (drop at s)
  length-all = all-by (ltb (length s) at) refl
