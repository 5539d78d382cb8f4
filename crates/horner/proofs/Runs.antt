-- The words of Horner's form run: the polynomial of the coefficients that come through the bridge is put on the stack.
use Rattle.ratio.specs.declared.Reason.{Reason}
use Rattle.std.specs.Prelude.{Result, Ok, Err}
use mathlib.Core.Path.{◌≡◌, refl, sym, ap}
use mathlib.Core.List.{List, [], ◌∷◌, ◌++◌, append_assoc}
use Prim.Native.Nat.{ℕ, suc, ◌≤◌}
use native.Mathlib.Omega.{arith}
use borrow.Author.Tests.{eq-eqb}
use lib.Ieee.{Float}
use lib.ListN.{length}
use Rattle.ratio.specs.Promise.{Lowest}
use Rattle.ratio.specs.declared.Ratio.{Ratio}
use Rattle.ratio.proofs.Answers.{lowest-tells}
use Rattle.bridge.specs.Value.{value_of}
use Rattle.bridge.specs.Search.{to_ratio}
use Rattle.bridge.proofs.Finds.{finds-both}
use Rattle.terms.specs.declared.Poly.{Poly}
use Rattle.terms.specs.Poly.{poly_of, drop_top, trim}
use Rattle.terms.proofs.Lists.{trim-short}
use Rattle.terms.proofs.MeaningLowest.{AllLowest, none-lowest, cons-lowest}
use Rattle.terms.proofs.MeaningCanonical.{trim-canonical}
use Rattle.poly.specs.Operations.{constant_of}
use Rattle.tokens.specs.declared.Token.TheVariants as T
use Rattle.tokens.specs.Spelling.{mark_of, token_of}
use Rattle.lower.specs.Stack.{Left, fine, stopped, constant_by, variable_if, pushed}
use Rattle.lower.specs.Run.{and_then, run_from}
use Rattle.text.specs.Ascii.{bytes}
use Rattle.horner.specs.Text.{constant, variable}
use Rattle.horner.specs.Back.{Through, all, lost, with, first, through}
use Rattle.horner.proofs.Shift.{xs, times-x, plus-c}

-- ---- the words

abbrev pub times : List ℕ
times = bytes "*"

abbrev pub plus : List ℕ
plus = bytes "+"

abbrev pub horner_words : ℕ → Ratio → List Ratio → List (List ℕ)
horner_words wrt c [] = constant c ∷ []
horner_words wrt c (d ∷ l) = constant c ∷ variable wrt ∷ horner_words wrt d l ++ (times ∷ plus ∷ [])

pub token-times : token_of times ≡ T.Mul
unfolding token_of mark_of
token-times = refl

pub token-plus : token_of plus ≡ T.Add
unfolding token_of mark_of
token-plus = refl

-- ---- what comes through is in lowest terms

pub found-lowest : (v : Float) (c : Ratio) → to_ratio v ≡ Ok c → Lowest c
found-lowest v c e = (finds-both v (Ok c) (sym e)).1.lowest refl

pub data Sound (n : ℕ) : Through → Type 0 where
  sound : {l : List Ratio} → length l ≡ n → AllLowest l → Sound n (all l)
  none : {why : _} → Sound n (lost why)

with-sound : (n : ℕ) (c : Ratio) (t : Through) → Lowest c → Sound n t → Sound (suc n) (with c t)
with-sound n c (all l) h (sound e k) = sound {l = c ∷ l} (ap suc e) (cons-lowest c l h k)
with-sound n c (lost why) h none = none

first-sound : (n : ℕ) (s : Result Ratio Reason) (t : Through) → ((c : Ratio) → s ≡ Ok c → Lowest c) → Sound n t → Sound (suc n) (first s t)
first-sound n (Ok c) t h k = with-sound n c t (h c refl) k
first-sound n (Err why) t h k = none

pub through-sound : (l : List Ratio) → Sound (length l) (through l)
unfolding through
through-sound [] = sound refl none-lowest
through-sound (c ∷ l) = first-sound (length l) (to_ratio (value_of c)) (through l) (found-lowest (value_of c)) (through-sound l)

-- ---- one turn

abbrev pub onto : Through → List Poly → Left
onto (all l) st = fine (poly_of (trim l) ∷ st)
onto (lost why) st = stopped why

constant-push : (c : Ratio) → Lowest c → (st : List Poly) → pushed (constant_of c) st ≡ fine (poly_of (trim (c ∷ [])) ∷ st)
constant-push c h st = rw ((lowest-tells c).tells h)

variable-push : (wrt : ℕ) (st : List Poly) → pushed (variable_if wrt wrt) st ≡ fine (poly_of xs ∷ st)
variable-push wrt st = rw (eq-eqb wrt wrt refl)

module _ (wrt : ℕ) (ws : List (List ℕ)) where
  -- x times what came last, then the constant before it
  turn : (c : Ratio) → Lowest c → (l : List Ratio) → AllLowest l → length l ≤ 31 → (st : List Poly)
      → run_from wrt (times ∷ plus ∷ ws) (poly_of (trim l) ∷ poly_of xs ∷ poly_of (trim (c ∷ [])) ∷ st) ≡ run_from wrt ws (poly_of (trim (c ∷ l)) ∷ st)
  unfolding run_from drop_top
  turn c h l k n st =
      let m : length (trim l) ≤ 31 = omega (arith, trim-short l) in
      rw (token-times, times-x (trim l) (trim-canonical l k) m (poly_of (trim (c ∷ [])) ∷ st), token-plus, plus-c (trim l) (trim-canonical l k) m st c h)

  joined-run : (c : Ratio) → Lowest c → (n : ℕ) → n ≤ 31 → (t : Through) → Sound n t → (st : List Poly)
      → and_then (onto t (poly_of xs ∷ poly_of (trim (c ∷ [])) ∷ st)) (run_from wrt (times ∷ plus ∷ ws)) ≡ and_then (onto (with c t) st) (run_from wrt ws)
  joined-run c h n b (all l) (sound e k) st = turn c h l k (omega arith) st
  joined-run c h n b (lost why) none st = refl

-- ---- the run

alone : (wrt : ℕ) (ws : List (List ℕ)) (s : Result Ratio Reason) (st : List Poly) → ((c : Ratio) → s ≡ Ok c → Lowest c) → and_then (pushed (constant_by s) st) (run_from wrt ws) ≡ and_then (onto (first s (all [])) st) (run_from wrt ws)
alone wrt ws (Ok c) st h = rw (constant-push c (h c refl) st)
alone wrt ws (Err why) st h = refl

module _ (wrt : ℕ) (tv : token_of (variable wrt) ≡ T.Var wrt) where
  more : (ws hs : List (List ℕ)) (s : Result Ratio Reason) (st : List Poly) (n : ℕ) (t : Through) → n ≤ 31 → Sound n t → ((c : Ratio) → s ≡ Ok c → Lowest c)
      → ((st : List Poly) → run_from wrt (hs ++ (times ∷ plus ∷ ws)) st ≡ and_then (onto t st) (run_from wrt (times ∷ plus ∷ ws)))
      → and_then (pushed (constant_by s) st) (run_from wrt (variable wrt ∷ hs ++ (times ∷ plus ∷ ws))) ≡ and_then (onto (first s t) st) (run_from wrt ws)
  unfolding run_from
  more ws hs (Ok c) st n t b k h r =
      rw (constant-push c (h c refl) st, tv, variable-push wrt (poly_of (trim (c ∷ [])) ∷ st), r (poly_of xs ∷ poly_of (trim (c ∷ [])) ∷ st))
      (joined-run wrt ws c (h c refl) n b t k st)
  more ws hs (Err why) st n t b k h r = refl

  pub run : ((c : Ratio) → token_of (constant c) ≡ T.Const (value_of c)) → (c : Ratio) (l : List Ratio) (ws : List (List ℕ)) (st : List Poly) → length l ≤ 31
      → run_from wrt (horner_words wrt c l ++ ws) st ≡ and_then (onto (through (c ∷ l)) st) (run_from wrt ws)
  unfolding run_from through
  run tc c [] ws st h = rw (tc c) (alone wrt ws (to_ratio (value_of c)) st (found-lowest (value_of c)))
  run tc c (d ∷ l) ws st h =
      rw (tc c, append_assoc (horner_words wrt d l) (times ∷ plus ∷ []) ws)
      (more ws (horner_words wrt d l) (to_ratio (value_of c)) st (length (d ∷ l)) (through (d ∷ l)) h (through-sound (d ∷ l)) (found-lowest (value_of c)) (λ st. run tc d l (times ∷ plus ∷ ws) st (omega arith)))
