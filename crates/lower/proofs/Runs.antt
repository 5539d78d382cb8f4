-- One turn of the run: the first word's work is done, then the rest runs.
use mathlib.Core.Path.{◌≡◌, refl, sym, ap, ◌∙◌}
use mathlib.Core.Bool.{Bool, true, false, cond}
use mathlib.Core.List.{List, [], ◌∷◌}
use Prim.Native.Nat.{ℕ, ◌+◌, ◌-◌, ◌<◌, ◌≤◌}
use native.Mathlib.Omega.{arith}
use borrow.Author.Tests.{lt-ltb, le-ltb, ltb-true, ltb-false}
use lib.Dec.{ltb}
use lib.ListN.{length, take, drop}
use Rattle.ratio.specs.declared.Reason.{Reason}
use Rattle.terms.specs.declared.Poly.{Poly}
use Rattle.tokens.specs.Spelling.{token_of}
use Rattle.tokens.specs.Words.{words_of, word_length}
use Rattle.tokens.proofs.Heights.{end-within, words_last, words_more}
use Rattle.lower.specs.declared.Work.{Work}
use Rattle.lower.specs.Stack.{Left, fine, stopped, applied}
use Rattle.lower.specs.Work.{work_of}
use Rattle.lower.specs.Room.{bounded, bounded_from}
use Rattle.lower.proofs.Works.{worked, worked-applied}

-- the words from a place on; past the text's end there is none
abbrev pub rest_after : ℕ → List ℕ → List (List ℕ)
rest_after at s = cond (ltb (length s) at) [] (words_of (drop at s))

pub rest_all : (s : List ℕ) → rest_after 0 s ≡ words_of s
rest_all s = rw (le-ltb (length s) 0 (omega arith))

pub rest-none : (s : List ℕ) (at wrt : ℕ) (l : List Poly) → length s < at → bounded_from wrt (rest_after at s) l ≡ fine l
unfolding bounded_from
rest-none s at wrt l h = rw (lt-ltb (length s) at h)

module _ (s : List ℕ) (at end : ℕ) (h : at ≤ length s) (e : end ≡ at + word_length (drop at s)) where
  rest-by : (b : Bool) → ltb (length s) (end + 1) ≡ b → words_of (drop at s) ≡ take (end - at) (drop at s) ∷ cond b [] (words_of (drop (end + 1) s))
  rest-by true q = words_last s at end h e (omega (arith, ltb-true (length s) (end + 1) q, end-within s at end h e))
  rest-by false q = words_more s at end h e (λ z. omega (arith, ltb-false (length s) (end + 1) q))

  rest-turn : rest_after at s ≡ take (end - at) (drop at s) ∷ rest_after (end + 1) s
  rest-turn = rw (le-ltb (length s) at h) (rest-by (ltb (length s) (end + 1)) refl)

  module _ (wrt : ℕ) (l : List Poly) (w : Work) (k : w ≡ work_of (token_of (take (end - at) (drop at s)))) where
    told : {a : Left} → bounded (worked wrt w l) ≡ a → bounded (applied wrt (token_of (take (end - at) (drop at s))) l) ≡ a
    told t = ap bounded (sym (worked-applied wrt (token_of (take (end - at) (drop at s))) l) ∙ ap (λ v. worked wrt v l) (sym k)) ∙ t

    pub run-stop : {why : Reason} → bounded (worked wrt w l) ≡ stopped why → stopped why ≡ bounded_from wrt (rest_after at s) l
    unfolding bounded_from
    run-stop t = rw (rest-turn, told t)

    pub run_more : {m : List Poly} → bounded (worked wrt w l) ≡ fine m → bounded_from wrt (rest_after (end + 1) s) m ≡ bounded_from wrt (rest_after at s) l
    unfolding bounded_from
    run_more t = rw (rest-turn, told t)
