-- Text after text on a page.
use mathlib.Core.Bool.{Bool, true, false}
use lib.Dec.{leb}
use Rattle.std.proofs.lemmas.Bool.{leb-false}
use native.Mathlib.Nat.{min-eq_left}
use mathlib.Core.Path.{◌≡◌, refl, sym, ap, ◌∙◌}
use mathlib.Core.List.{List, [], ◌∷◌, ◌++◌, append_assoc}
use Prim.Native.Nat.{ℕ, suc, ◌+◌, ◌≤◌, ◌<◌, min}
use native.Mathlib.Omega.{arith}
use native.Mathlib.Numerals.{add-one}
use borrow.Author.Tests.{lt-ltb, le-ltb, leb-true}
use lib.ListN.{length, take, drop, get_or, set, length-set, take-append-drop}
use lib.Seq.{set_out, take-suc, take-suc-set, drop-set-lt, take_all}
use Rattle.text.specs.Page.{behind, laid, after}

pub laid-append : (s t : List ℕ) (at : ℕ) (page : List ℕ) → laid (s ++ t) at page ≡ laid t (after s at page) (laid s at page)
unfolding laid after
laid-append [] t at page = refl
laid-append (b ∷ s) t at page = laid-append s t (behind at page) (set page at b)

pub after-append : (s t : List ℕ) (at : ℕ) (page : List ℕ) → after (s ++ t) at page ≡ after t (after s at page) (laid s at page)
unfolding laid after
after-append [] t at page = refl
after-append (b ∷ s) t at page = after-append s t (behind at page) (set page at b)

-- one text behind the other
pub ruleset pages = (laid-append, after-append)

pub laid-length : (s : List ℕ) (at : ℕ) (page : List ℕ) → length (laid s at page) ≡ length page
unfolding laid
laid-length [] at page = refl
laid-length (b ∷ s) at page = laid-length s (behind at page) (set page at b) ∙ length-set page at b

-- a page and a place are what a text makes of another page and place
abbrev pub Lays : List ℕ → ℕ → List ℕ → ℕ → List ℕ → Type 0
Lays s at page next now = (next ≡ after s at page) × (now ≡ laid s at page)

pub lays-none : (at : ℕ) (page : List ℕ) → Lays [] at page at page
unfolding laid after
lays-none at page = (refl, refl)

pub lays_one : (b at : ℕ) (page : List ℕ) → at < length page → Lays (b ∷ []) at page (at + 1) (set page at b)
unfolding laid after
lays_one b at page h = (rw (lt-ltb at (length page) h), refl)

pub lays-out : (b at : ℕ) (page : List ℕ) → length page ≤ at → Lays (b ∷ []) at page at page
unfolding laid after
lays-out b at page h = (rw (le-ltb at (length page) h), sym (set_out page at b h))

pub lays-then : (s t : List ℕ) (a : ℕ) (p : List ℕ) {b c : ℕ} {q r : List ℕ} → Lays s a p b q → Lays t b q c r → Lays (s ++ t) a p c r
lays-then s t a p e f = (
  f.0 ∙ (rw (e.0, e.1) (sym (after-append s t a p))),
  f.1 ∙ (rw (e.0, e.1) (sym (laid-append s t a p))),
)

pub lays-length : (s : List ℕ) (a : ℕ) (p : List ℕ) {b : ℕ} {q : List ℕ} → Lays s a p b q → length q ≡ length p
lays-length s a p e = ap length e.1 ∙ laid-length s a p

-- the same text, worded otherwise
pub lays-as : (s t : List ℕ) (a : ℕ) (p : List ℕ) {b : ℕ} {q : List ℕ} → s ≡ t → Lays s a p b q → Lays t a p b q
lays-as s t a p e h = rw e at h

-- the first i bytes, and one more
pub lays-next : (s : List ℕ) (i : ℕ) (a : ℕ) (p : List ℕ) {b c : ℕ} {q r : List ℕ} → i < length s → Lays (take i s) a p b q → Lays (get_or s i 0 ∷ []) b q c r → Lays (take (i + 1) s) a p c r
lays-next s i a p h e f = lays-as _ _ _ _ (rw (add-one, take-suc s i 0 h)) (lays-then _ _ _ _ e f)

-- ---- a text that has room

room : (b : ℕ) (s : List ℕ) (at : ℕ) (page : List ℕ) → at + length (b ∷ s) ≤ length page → (at < length page) × (at + 1 + length s ≤ length (set page at b))
room b s at page h = (omega arith, rw length-set (omega arith))

pub after-fits : (s : List ℕ) (at : ℕ) (page : List ℕ) → at + length s ≤ length page → after s at page ≡ at + length s
unfolding after
after-fits [] at page h = omega arith
after-fits (b ∷ s) at page h =
    let r = room b s at page h in
    rw (lt-ltb at (length page) r.0) (after-fits s (at + 1) (set page at b) r.1 ∙ omega arith)

pub laid-fits : (s : List ℕ) (at : ℕ) (page : List ℕ) → at + length s ≤ length page → laid s at page ≡ take at page ++ (s ++ drop (at + length s) page)
unfolding laid
laid-fits [] at page h = let e : at + 0 ≡ at = omega arith in rw e (sym (take-append-drop at page))
laid-fits (b ∷ s) at page h =
    let r = room b s at page h in
    let e : at + 1 + length s ≡ at + suc (length s) = omega arith in
    rw (lt-ltb at (length page) r.0) (laid-fits s (at + 1) (set page at b) r.1
    ∙ rw (drop-set-lt (at + 1 + length s) page at b (omega arith), e, add-one, take-suc-set page at b r.0, append_assoc))

-- the first n of k are as many as there are
take-min-by : {X : Type 0} (n k : ℕ) (l : List X) (b : Bool) → leb n k ≡ b → length l ≡ k → take (min n k) l ≡ take n l
take-min-by n k l true h e = ap (λ (m : ℕ). take m l) (min-eq_left (leb-true n k h))
take-min-by n k l false h e =
    let f = leb-false n k h in
    ap (λ (m : ℕ). take m l) (let m : min n k ≡ k = omega arith in m) ∙ take_all k l (omega arith) ∙ sym (take_all n l (omega arith))

pub take-min : {X : Type 0} (n k : ℕ) (l : List X) → length l ≡ k → take (min n k) l ≡ take n l
take-min n k l e = take-min-by n k l (leb n k) refl e
