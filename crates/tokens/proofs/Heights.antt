-- One turn of the check: the first word decides, or the rest does.
use Rattle.std.specs.Prelude.{Err}
use mathlib.Core.Path.{◌≡◌, ap, ◌∙◌}
use mathlib.Core.Bool.{Bool, true, false, cond}
use mathlib.Core.List.{List, [], ◌∷◌}
use Prim.Native.Nat.{ℕ, ◌+◌, ◌-◌, ◌<◌, ◌≤◌}
use native.Mathlib.Omega.{arith}
use native.Mathlib.Numerals.{add-one}
use lib.ListN.{length, take, drop, length-take, length-drop, drop_of_length-le}
use lib.Seq.{length-take-le, drop-cons, drop-drop}
use Rattle.ratio.specs.declared.Reason.TheVariants as R
use Rattle.tokens.specs.declared.Height.{Height}
use Rattle.tokens.specs.declared.Token.{Token}
use Rattle.tokens.specs.Spelling.{token_of}
use Rattle.tokens.specs.Words.{words_of, word_length}
use Rattle.tokens.specs.Heights.{is_other, is_bad, after, finish, check_from}
use Rattle.tokens.proofs.Words.{later_parts, parts_first, length-bounded}

-- the word from a place to its end
module _ (s : List ℕ) (at end : ℕ) (h : at ≤ length s) (e : end ≡ at + word_length (drop at s)) where
  pub end-within : end ≤ length s
  end-within = omega (arith, length-bounded 32 (drop at s), length-drop at s)

  size : end - at ≡ word_length (drop at s)
  size = omega arith

  pub words-at : words_of (drop at s) ≡ take (end - at) (drop at s) ∷ later_parts 32 (drop end s)
  words-at = rw (size, e, ← drop-drop) (parts_first 32 (drop at s))

  pub words_last : end ≡ length s → words_of (drop at s) ≡ take (end - at) (drop at s) ∷ []
  words_last z = words-at ∙ ap (λ l. take (end - at) (drop at s) ∷ later_parts 32 l) (drop_of_length-le s {i = end} (omega arith))

  pub words_more : (end ≡ length s → ⊥) → words_of (drop at s) ≡ take (end - at) (drop at s) ∷ words_of (drop (end + 1) s)
  words_more z = rw add-one (words-at ∙ ap (λ l. take (end - at) (drop at s) ∷ later_parts 32 l) (drop-cons s end 0 (omega (arith, end-within, z))))

  pub word-length : at + length (take (end - at) (drop at s)) + 1 ≡ end + 1
  word-length = omega (arith, length-take-le (end - at) (drop at s) (omega (arith, end-within, length-drop at s)))

  module _ (H : Height) where
    pub turn-bad : is_bad (token_of (take (end - at) (drop at s))) H ≡ true → Err (R.Malformed at) ≡ check_from (length s) at H (words_of (drop at s))
    unfolding check_from
    turn-bad t = rw (words-at, t)

    pub turn_end : is_bad (token_of (take (end - at) (drop at s))) H ≡ false → end ≡ length s
        → finish end (after (token_of (take (end - at) (drop at s))) H) ≡ check_from (length s) at H (words_of (drop at s))
    unfolding check_from
    turn_end t z = rw (words_last z, t, z)

    pub turn_more : is_bad (token_of (take (end - at) (drop at s))) H ≡ false → (end ≡ length s → ⊥)
        → check_from (length s) (end + 1) (after (token_of (take (end - at) (drop at s))) H) (words_of (drop (end + 1) s)) ≡ check_from (length s) at H (words_of (drop at s))
    unfolding check_from
    turn_more t z = rw (words_more z, t, word-length)

some : (w : List ℕ) (H : Height) → is_bad (token_of w) H ≡ false → 0 < length w
unfolding token_of
some [] H t = let z : ◌≡◌ {A = ℕ} 0 1 = cc in absurd (omega arith)
some (b ∷ l) H t = omega arith

-- a word that is no bad token isn't empty
pub word_some : (s : List ℕ) (at end : ℕ) (H : Height) → is_bad (token_of (take (end - at) (drop at s))) H ≡ false → at < end
word_some s at end H t = omega (arith, some (take (end - at) (drop at s)) H t, length-take (end - at) (drop at s))

grown : (p o : Bool) (a b c : Height) → a.values ≤ c.values → b.values ≤ c.values → (d : Height) → d.values ≤ c.values → (cond p a (cond o b d)).values ≤ c.values
grown true o a b c x y d z = x
grown false true a b c x y d z = y
grown false false a b c x y d z = z

-- a token puts at most one value more on the stack
pub after-grows : (t : Token) (H : Height) → (after t H).values ≤ H.values + 1
after-grows t H = grown H.past (is_other t) _ _ (record { values = H.values + 1; deep = true; past = true }) (omega arith) (omega arith) _ (omega arith)
