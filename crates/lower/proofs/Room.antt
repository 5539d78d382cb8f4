-- Once the tokens are checked the limit of 16 values changes nothing: the heights that the check counts are the lengths of the stack.
use Rattle.std.specs.Prelude.{Ok, Err, Option, Some, None}
use mathlib.Core.Path.{◌≡◌, refl, sym, ap, ◌∙◌}
use mathlib.Core.Bool.{Bool, true, false, cond}
use mathlib.Core.List.{List, [], ◌∷◌}
use Prim.Native.Nat.{ℕ, ◌+◌, ◌-◌, ◌≤◌}
use native.Mathlib.Omega.{arith}
use borrow.Author.Tests.{le-ltb, ltb-false}
use lib.Dec.{ltb, eqb}
use lib.ListN.{length}
use Rattle.ratio.specs.Refusal.{Outcome, no_refusal}
use Rattle.ratio.specs.declared.Reason.{Reason}
use Rattle.ratio.specs.declared.Reason.TheVariants as R
use Rattle.terms.specs.declared.Poly.{Poly}
use Rattle.terms.specs.declared.Answer.{Answer}
use Rattle.tokens.specs.declared.Height.{Height}
use Rattle.tokens.specs.declared.Token.{Token}
use Rattle.tokens.specs.declared.Token.TheVariants as T
use Rattle.tokens.specs.Spelling.{token_of}
use Rattle.tokens.specs.Words.{words_of}
use Rattle.tokens.specs.Heights.{takes, is_other, is_bad, after, check_from, bare, check_of}
use Rattle.lower.specs.declared.Binary.{Binary}
use Rattle.lower.specs.declared.Unary.{Unary}
use Rattle.lower.specs.declared.Binary.TheVariants as B
use Rattle.lower.specs.declared.Unary.TheVariants as U
use Rattle.lower.specs.Exponent.{exponent_of}
use Rattle.lower.specs.Stack.{Left, fine, stopped, constant_from, variable_if, combined, changed, pushed_by, pushed, one, two, raised, applied}
use Rattle.lower.specs.Run.{and_then, run_from}
use Rattle.lower.specs.Room.{bounded, bounded_from}

-- ---- what an answered check tells

pub chosen : (b : Bool) (why : Reason) (o : Outcome) → cond b (Err why) o ≡ no_refusal → (b ≡ false) × (o ≡ no_refusal)
chosen true why o e = let z : ◌≡◌ {A = ℕ} 0 1 = cc in absurd (omega arith)
chosen false why o e = (refl, e)

finish-deep : (p t d : Bool) (end : ℕ) → cond p (cond d (Err R.TooLong) no_refusal) (cond t (cond d (Err R.TooLong) no_refusal) (Err (R.Malformed end))) ≡ no_refusal → d ≡ false
finish-deep true t d end e = (chosen d R.TooLong no_refusal e).0
finish-deep false true d end e = (chosen d R.TooLong no_refusal e).0
finish-deep false false d end e = let z : ◌≡◌ {A = ℕ} 0 1 = cc in absurd (omega arith)

deeper : (d x : Bool) → cond d true x ≡ false → d ≡ false
deeper true x e = let z : ◌≡◌ {A = ℕ} 0 1 = cc in absurd (omega arith)
deeper false x e = refl

after-by : (p o : Bool) (h a b : Height) → (a.deep ≡ false → h.deep ≡ false) → (b.deep ≡ false → h.deep ≡ false) → (cond p h (cond o a b)).deep ≡ false → h.deep ≡ false
after-by true o h a b f g e = e
after-by false true h a b f g e = f e
after-by false false h a b f g e = g e

after-deep : (t : Token) (h : Height) → (after t h).deep ≡ false → h.deep ≡ false
after-deep t h e = after-by h.past (is_other t) h _ _ (λ z. z) (λ z. deeper h.deep _ z) e

-- over 16 values stay noted
pub check-deep : (end at : ℕ) (h : Height) (ws : List (List ℕ)) → check_from end at h ws ≡ no_refusal → h.deep ≡ false
unfolding check_from
check-deep end at h [] e = finish-deep h.past (eqb h.values 1) h.deep end e
check-deep end at h (w ∷ ws) e =
    after-deep (token_of w) h (check-deep end (at + length w + 1) (after (token_of w) h) ws (chosen (is_bad (token_of w) h) (R.Malformed at) _ e).1)

-- ---- the stack's length

pub data Sized (n : ℕ) : Left → Type 0 where
  sized : {l : List Poly} → length l ≡ n → Sized n (fine l)
  over : {why : Reason} → Sized n (stopped why)

pushed-by : (o : Outcome) (p : Poly) (l : List Poly) (n : ℕ) → length l + 1 ≡ n → Sized n (pushed_by o p l)
pushed-by (Ok _) p l n h = sized {l = p ∷ l} (omega arith)
pushed-by (Err why) p l n h = over

pushed-sized : (r : Answer) (l : List Poly) (n : ℕ) → length l + 1 ≡ n → Sized n (pushed r l)
pushed-sized r l n h = pushed-by r.outcome r.poly l n h

one-sized : (op : Unary) (l : List Poly) → Sized (length l - 1 + 1) (one op l)
one-sized op [] = over
one-sized op (a ∷ l) = pushed-sized (changed op a) l _ (omega arith)

two_sized : (op : Binary) (l : List Poly) → Sized (length l - 2 + 1) (two op l)
two_sized op [] = over
two_sized op (b ∷ []) = over
two_sized op (b ∷ a ∷ l) = pushed-sized (combined op a b) l _ (omega arith)

raised-sized : (e : Option ℕ) (l : List Poly) → Sized (length l - 1 + 1) (raised e l)
raised-sized (Some n) l = one-sized (U.Pow n) l
raised-sized None l = over

pub applied-sized : (wrt : ℕ) (t : Token) (l : List Poly) → Sized (length l - takes t + 1) (applied wrt t l)
applied-sized wrt (T.Const x) l = pushed-sized (constant_from x) l _ (omega arith)
applied-sized wrt (T.Var i) l = pushed-sized (variable_if i wrt) l _ (omega arith)
applied-sized wrt T.Add l = two_sized B.Add l
applied-sized wrt T.Sub l = two_sized B.Sub l
applied-sized wrt T.Mul l = two_sized B.Mul l
applied-sized wrt T.Neg l = one-sized U.Neg l
applied-sized wrt (T.Pow x) l = raised-sized (exponent_of x) l
applied-sized wrt T.Other l = over
applied-sized wrt T.Malformed l = over

-- ---- the run

turn : (wrt n : ℕ) (ws : List (List ℕ)) (a : Left) → Sized n a → n ≤ 16 → ((l : List Poly) → length l ≡ n → bounded_from wrt ws l ≡ run_from wrt ws l)
    → and_then (bounded a) (bounded_from wrt ws) ≡ and_then a (run_from wrt ws)
turn wrt n ws (fine l) (sized e) h f = rw (le-ltb 16 (length l) (omega arith)) (f l e)
turn wrt n ws (stopped why) over h f = refl

-- the height after a token that is neither `?` nor past one
pub counted : (t : Token) (h : Height) → h.past ≡ false → is_other t ≡ false → h.deep ≡ false → after t h ≡ record { values = h.values - takes t + 1; deep = ltb 16 (h.values - takes t + 1); past = false }
counted t h p o d = rw (p, o, d)

next : (wrt end at : ℕ) (h : Height) (ws : List (List ℕ)) (l : List Poly) (t : Token) → is_other t ≡ false → h.past ≡ false → h.deep ≡ false → h.values ≡ length l → check_from end at (after t h) ws ≡ no_refusal
    → ((k : Height) (m : List Poly) → check_from end at k ws ≡ no_refusal → k.past ≡ false → k.values ≡ length m → bounded_from wrt ws m ≡ run_from wrt ws m)
    → and_then (bounded (applied wrt t l)) (bounded_from wrt ws) ≡ and_then (applied wrt t l) (run_from wrt ws)
next wrt end at h ws l t o p d v e f =
    let k : Height = record { values = h.values - takes t + 1; deep = ltb 16 (h.values - takes t + 1); past = false } in
    let g : check_from end at k ws ≡ no_refusal = ap (λ z. check_from end at z ws) (sym (counted t h p o d)) ∙ e in
    turn wrt (length l - takes t + 1) ws (applied wrt t l) (applied-sized wrt t l) (omega (arith, ltb-false 16 (h.values - takes t + 1) (check-deep end at k ws g), v))
    (λ m z. f k m g refl (omega arith))

one_token : (wrt end at : ℕ) (h : Height) (ws : List (List ℕ)) (l : List Poly) (t : Token) → h.past ≡ false → h.deep ≡ false → h.values ≡ length l → check_from end at (after t h) ws ≡ no_refusal
    → ((k : Height) (m : List Poly) → check_from end at k ws ≡ no_refusal → k.past ≡ false → k.values ≡ length m → bounded_from wrt ws m ≡ run_from wrt ws m)
    → and_then (bounded (applied wrt t l)) (bounded_from wrt ws) ≡ and_then (applied wrt t l) (run_from wrt ws)
one_token wrt end at h ws l (T.Const x) p d v e f = next wrt end at h ws l (T.Const x) refl p d v e f
one_token wrt end at h ws l (T.Var i) p d v e f = next wrt end at h ws l (T.Var i) refl p d v e f
one_token wrt end at h ws l T.Add p d v e f = next wrt end at h ws l T.Add refl p d v e f
one_token wrt end at h ws l T.Sub p d v e f = next wrt end at h ws l T.Sub refl p d v e f
one_token wrt end at h ws l T.Mul p d v e f = next wrt end at h ws l T.Mul refl p d v e f
one_token wrt end at h ws l T.Neg p d v e f = next wrt end at h ws l T.Neg refl p d v e f
one_token wrt end at h ws l (T.Pow x) p d v e f = next wrt end at h ws l (T.Pow x) refl p d v e f
one_token wrt end at h ws l T.Other p d v e f = refl
one_token wrt end at h ws l T.Malformed p d v e f = refl

room-from : (wrt end at : ℕ) (h : Height) (ws : List (List ℕ)) (l : List Poly) → check_from end at h ws ≡ no_refusal → h.past ≡ false → h.values ≡ length l → bounded_from wrt ws l ≡ run_from wrt ws l
unfolding check_from bounded_from run_from
room-from wrt end at h [] l e p v = refl
room-from wrt end at h (w ∷ ws) l e p v =
    one_token wrt end (at + length w + 1) h ws l (token_of w) p (check-deep end at h (w ∷ ws) e) v (chosen (is_bad (token_of w) h) (R.Malformed at) _ e).1
    (λ k m g q u. room-from wrt end (at + length w + 1) k ws m g q u)

pub room : (wrt : ℕ) (s : List ℕ) → check_of s ≡ no_refusal → bounded_from wrt (words_of s) [] ≡ run_from wrt (words_of s) []
unfolding check_of
room wrt s e = room-from wrt (length s) 0 bare (words_of s) [] e refl refl
