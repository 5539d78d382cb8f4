-- A text and its parts: they make it up, and they are found again in it.
use mathlib.Core.Path.{◌≡◌, refl, sym, ap, ◌∙◌}
use mathlib.Core.Bool.{Bool, true, false, cond}
use mathlib.Core.List.{List, [], ◌∷◌}
use Prim.Native.Nat.{ℕ, ◌<◌}
use native.Mathlib.Omega.{arith}
use borrow.Author.Tests.{eqb-true}
use lib.Dec.{eqb}
use lib.ListN.{length}
use Rattle.tokens.specs.Words.{on_first, parts_of, words_of}
use Rattle.tokens.proofs.Words.{parts_first}
use Rattle.text.specs.Spell.{spaced, parted}

-- ---- words, put together again

pub words-some : (t : List ℕ) → 0 < length (words_of t)
words-some t = rw (parts_first 32 t) (omega arith)

pub spaced-some : (ws : List (List ℕ)) → 0 < length ws → spaced ws ≡ 32 ∷ parted ws
unfolding spaced parted
spaced-some [] h = absurd (omega arith)
spaced-some (w ∷ ws) h = refl

first-parted : (b : ℕ) (ws : List (List ℕ)) → 0 < length ws → parted (on_first b ws) ≡ b ∷ parted ws
unfolding parted
first-parted b [] h = absurd (omega arith)
first-parted b (w ∷ ws) h = refl

more-parted : (b : ℕ) (l : List ℕ) → parted (words_of l) ≡ l → (t : Bool) → eqb b 32 ≡ t → parted (cond t ([] ∷ words_of l) (on_first b (words_of l))) ≡ b ∷ l
unfolding parted
more-parted b l h true e = spaced-some (words_of l) (words-some l) ∙ ap (λ x. 32 ∷ x) h ∙ ap (λ x. x ∷ l) (sym (eqb-true b 32 e))
more-parted b l h false e = first-parted b (words_of l) (words-some l) ∙ ap (λ x. b ∷ x) h

pub parted-words : (t : List ℕ) → parted (words_of t) ≡ t
unfolding parts_of parted spaced
parted-words [] = refl
parted-words (b ∷ l) = more-parted b l (parted-words l) (eqb b 32) refl
