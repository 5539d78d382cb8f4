-- A text without a mark: it is one part, and what follows the mark is the next.
use mathlib.Core.Path.{◌≡◌, refl, sym, ap, ◌∙◌}
use mathlib.Core.Bool.{Bool, true, false, cond}
use mathlib.Core.List.{List, [], ◌∷◌, ◌++◌, map, append-nil}
use Prim.Native.Nat.{ℕ, zero, suc, ◌+◌, ◌/◌, ◌%◌, ◌<◌}
use native.Mathlib.Omega.{arith}
use borrow.Author.Tests.{eq-eqb, ne_eqb, eqb-true}
use lib.Dec.{ltb, eqb}
use lib.IntN.{ℤ, pos, negsuc}
use lib.ListN.{length, drop, get_or}
use Rattle.ratio.specs.declared.Ratio.{Ratio}
use Rattle.tokens.specs.Words.{parts_of, length_to, words_of}
use Rattle.text.specs.Spell.{decimal_in, decimal_of, whole_text, is_one, ratio_text, spaced, parted}

unfoldable pub Avoids : ℕ → List ℕ → Type 0
Avoids m [] = Unit {0}
Avoids m (b ∷ l) = (b ≡ m → ⊥) × Avoids m l

pub avoids-head : (m : ℕ) (l : List ℕ) → Avoids m l → 0 < length l → get_or l 0 0 ≡ m → ⊥
unfolding Avoids
avoids-head m [] a h = absurd (omega arith)
avoids-head m (b ∷ l) a h = a.0

pub avoids-append : (m : ℕ) (l r : List ℕ) → Avoids m l → Avoids m r → Avoids m (l ++ r)
unfolding Avoids
avoids-append m [] r a b = b
avoids-append m (x ∷ l) r a b = (a.0, avoids-append m l r a.1 b)

module _ (m : ℕ) where
  pub length-all : (w : List ℕ) → Avoids m w → length_to m w ≡ length w
  unfolding Avoids length_to
  length-all [] a = refl
  length-all (b ∷ w) a = rw (ne_eqb b m a.0, length-all w a.1)

  pub length_part : (w r : List ℕ) → Avoids m w → length_to m (w ++ (m ∷ r)) ≡ length w
  unfolding Avoids length_to
  length_part [] r a = rw (eq-eqb m m refl)
  length_part (b ∷ w) r a = rw (ne_eqb b m a.0, length_part w r a.1)

  marked : (x : ℕ) (l : List ℕ) (b : ℕ) (d : List ℕ) → (drop (length_to m l) l ≡ b ∷ d → b ≡ m) → (t : Bool) → eqb x m ≡ t → drop (cond t zero (suc (length_to m l))) (x ∷ l) ≡ b ∷ d → b ≡ m
  marked x l b d h true e q = let z : x ≡ b = cc in sym z ∙ eqb-true x m e
  marked x l b d h false e q = h q

  -- the first part ends at a mark
  pub at_mark : (w : List ℕ) (b : ℕ) (d : List ℕ) → drop (length_to m w) w ≡ b ∷ d → b ≡ m
  unfolding length_to
  at_mark [] b d q = let z : ◌≡◌ {A = ℕ} 0 1 = cc in absurd (omega arith)
  at_mark (x ∷ l) b d q = marked x l b d (at_mark l b d) (eqb x m) refl q

-- ---- words

pub word-alone : (w : List ℕ) → Avoids 32 w → words_of w ≡ w ∷ []
unfolding Avoids parts_of
word-alone [] a = refl
word-alone (b ∷ w) a = rw (ne_eqb b 32 a.0, word-alone w a.1)

word_first : (w t : List ℕ) → Avoids 32 w → words_of (w ++ (32 ∷ t)) ≡ w ∷ words_of t
unfolding Avoids parts_of
word_first [] t a = refl
word_first (b ∷ w) t a = rw (ne_eqb b 32 a.0, word_first w t a.1)

-- the words of words that were put together
pub words-parted : {X : Type 0} (f : X → List ℕ) → ((x : X) → Avoids 32 (f x)) → (x : X) (l : List X) → words_of (parted (map f (x ∷ l))) ≡ map f (x ∷ l)
unfolding parted spaced
words-parted f a x [] = rw append-nil (word-alone (f x) (a x))
words-parted f a x (y ∷ l) = word_first (f x) (parted (map f (y ∷ l))) (a x) ∙ ap (λ r. f x ∷ r) (words-parted f a y l)

-- ---- numbers

avoids-chosen : (t : Bool) (m : ℕ) (a b : List ℕ) → Avoids m a → Avoids m b → Avoids m (cond t a b)
avoids-chosen true m a b x y = x
avoids-chosen false m a b x y = y

module _ (m : ℕ) (h : m < 48) where
  avoids-in : (k n : ℕ) → Avoids m (decimal_in k n)
  unfolding Avoids decimal_in
  avoids-in zero n = tt
  avoids-in (suc k) n = avoids-chosen (ltb n 10) m _ _ (λ e. omega arith, tt) (avoids-append m (decimal_in k (n / 10)) ((48 + n % 10) ∷ []) (avoids-in k (n / 10)) (λ e. omega arith, tt))

  pub decimal-avoids : (n : ℕ) → Avoids m (decimal_of n)
  unfolding decimal_of
  decimal-avoids n = avoids-in 20 n

  pub whole-avoids : (45 ≡ m → ⊥) → (z : ℤ) → Avoids m (whole_text z)
  unfolding Avoids whole_text
  whole-avoids f (pos n) = decimal-avoids n
  whole-avoids f (negsuc n) = (f, decimal-avoids (suc n))

pub ratio-avoids : (r : Ratio) → Avoids 32 (ratio_text r)
unfolding Avoids ratio_text
ratio-avoids r =
    let a = whole-avoids 32 (omega arith) (λ e. omega arith) r.num in
    let b = whole-avoids 32 (omega arith) (λ e. omega arith) r.den in
    avoids-chosen (is_one r.den) 32 _ _ a (avoids-append 32 (whole_text r.num) (47 ∷ whole_text r.den) a (λ e. omega arith, b))
