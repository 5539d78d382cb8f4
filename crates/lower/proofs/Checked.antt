-- A run that comes to one value shows that the check answers; and once the check answers, a run that isn't refused comes to one value.
use Rattle.std.specs.Prelude.{Ok, Err, Option, Some, None}
use mathlib.Core.Path.{◌≡◌, refl, sym, ap, ◌∙◌}
use mathlib.Core.Bool.{Bool, true, false, cond}
use mathlib.Core.List.{List, [], ◌∷◌}
use Prim.Native.Nat.{ℕ, ◌+◌, ◌-◌, ◌≤◌}
use native.Mathlib.Omega.{arith}
use borrow.Author.Tests.{le-ltb, ltb-false, ne_eqb}
use lib.Dec.{ltb}
use lib.ListN.{length}
use Rattle.ratio.specs.Refusal.{Outcome, no_refusal}
use Rattle.ratio.specs.declared.Reason.{Reason}
use Rattle.ratio.specs.declared.Reason.TheVariants as R
use Rattle.terms.specs.declared.Poly.{Poly}
use Rattle.terms.specs.Answer.{refused_with}
use Rattle.tokens.specs.declared.Height.{Height}
use Rattle.tokens.specs.declared.Token.{Token}
use Rattle.tokens.specs.declared.Token.TheVariants as T
use Rattle.tokens.specs.Spelling.{token_of}
use Rattle.tokens.specs.Words.{words_of}
use Rattle.tokens.specs.Heights.{takes, is_other, is_malformed, is_bad, after, finish, check_from, check_of}
use Rattle.lower.specs.declared.Binary.{Binary}
use Rattle.lower.specs.declared.Unary.{Unary}
use Rattle.lower.specs.declared.Binary.TheVariants as B
use Rattle.lower.specs.declared.Unary.TheVariants as U
use Rattle.lower.specs.Exponent.{exponent_of}
use Rattle.lower.specs.Stack.{Left, fine, stopped, one, two, raised, applied}
use Rattle.lower.specs.Run.{and_then, run_from, answered, unless_refused, lower_of}
use Rattle.lower.specs.Room.{bounded, bounded_from, alone}
use Rattle.lower.proofs.Room.{Sized, sized, over, applied-sized, counted, room}

-- ---- one token

sized-by : (b : Bool) (l m : List Poly) → ltb 16 (length l) ≡ b → cond b (stopped R.TooLong) (fine l) ≡ fine m → (length m ≡ length l) × (length m ≤ 16)
sized-by true l m q e = let z : ◌≡◌ {A = ℕ} 0 1 = cc in absurd (omega arith)
sized-by false l m q e = let z : l ≡ m = cc in (ap length (sym z), omega (arith, ltb-false 16 (length l) q, ap length z))

sized-fine : (n : ℕ) (a : Left) (m : List Poly) → Sized n a → bounded a ≡ fine m → (length m ≡ n) × (length m ≤ 16)
sized-fine n (fine l) m (sized h) e = let z = sized-by (ltb 16 (length l)) l m refl e in (z.0 ∙ h, z.1)
sized-fine n (stopped why) m over e = let z : ◌≡◌ {A = ℕ} 0 1 = cc in absurd (omega arith)

one-enough : (op : Unary) (l m : List Poly) → bounded (one op l) ≡ fine m → 1 ≤ length l
one-enough op [] m e = let z : ◌≡◌ {A = ℕ} 0 1 = cc in absurd (omega arith)
one-enough op (a ∷ l) m e = omega arith

two-enough : (op : Binary) (l m : List Poly) → bounded (two op l) ≡ fine m → 2 ≤ length l
two-enough op [] m e = let z : ◌≡◌ {A = ℕ} 0 1 = cc in absurd (omega arith)
two-enough op (b ∷ []) m e = let z : ◌≡◌ {A = ℕ} 0 1 = cc in absurd (omega arith)
two-enough op (b ∷ a ∷ l) m e = omega arith

raised-enough : (w : Option ℕ) (l m : List Poly) → bounded (raised w l) ≡ fine m → 1 ≤ length l
raised-enough (Some n) l m e = one-enough (U.Pow n) l m e
raised-enough None l m e = let z : ◌≡◌ {A = ℕ} 0 1 = cc in absurd (omega arith)

-- a token that isn't refused is spelled well, is no `?`, and has the values that it takes
record Good (t : Token) (l : List Poly) : Type 0 where
  spelled : is_malformed t ≡ false
  plain : is_other t ≡ false
  enough : takes t ≤ length l

good : (wrt : ℕ) (t : Token) (l m : List Poly) → bounded (applied wrt t l) ≡ fine m → Good t l
good wrt (T.Const x) l m e = record { spelled = refl; plain = refl; enough = omega arith }
good wrt (T.Var i) l m e = record { spelled = refl; plain = refl; enough = omega arith }
good wrt T.Add l m e = record { spelled = refl; plain = refl; enough = two-enough B.Add l m e }
good wrt T.Sub l m e = record { spelled = refl; plain = refl; enough = two-enough B.Sub l m e }
good wrt T.Mul l m e = record { spelled = refl; plain = refl; enough = two-enough B.Mul l m e }
good wrt T.Neg l m e = record { spelled = refl; plain = refl; enough = one-enough U.Neg l m e }
good wrt (T.Pow x) l m e = record { spelled = refl; plain = refl; enough = raised-enough (exponent_of x) l m e }
good wrt T.Other l m e = let z : ◌≡◌ {A = ℕ} 0 1 = cc in absurd (omega arith)
good wrt T.Malformed l m e = let z : ◌≡◌ {A = ℕ} 0 1 = cc in absurd (omega arith)

-- so many values, never over 16, and no `?`
abbrev plainly : ℕ → Height
plainly n = record { values = n; deep = false; past = false }

module _ (wrt : ℕ) (t : Token) (n : ℕ) (l m : List Poly) (v : n ≡ length l) (e : bounded (applied wrt t l) ≡ fine m) where
  not-bad : is_bad t (plainly n) ≡ false
  not-bad = let g = good wrt t l m e in rw (g.spelled, le-ltb n (takes t) (omega (arith, g.enough, v)))

  after_is : after t (plainly n) ≡ plainly (length m)
  after_is =
      let z = sized-fine (length l - takes t + 1) (applied wrt t l) m (applied-sized wrt t l) e in
      let k : n - takes t + 1 ≡ length m = omega (arith, z.0, v) in
      counted t (plainly n) refl (good wrt t l m e).plain refl ∙ rw (k, le-ltb 16 (length m) z.1)

-- ---- all tokens

data Through (a : Left) (k : List Poly → Left) (m : List Poly) : Type 0 where
  through : (l : List Poly) → a ≡ fine l → k l ≡ fine m → Through a k m

then-through : (a : Left) (k : List Poly → Left) (m : List Poly) → and_then a k ≡ fine m → Through a k m
then-through (fine l) k m e = through l refl e
then-through (stopped why) k m e = let z : ◌≡◌ {A = ℕ} 0 1 = cc in absurd (omega arith)

turn : (wrt end at next : ℕ) (n : ℕ) (ws : List (List ℕ)) (t : Token) (l m : List Poly) → n ≡ length l → Through (bounded (applied wrt t l)) (bounded_from wrt ws) m
    → ((k : ℕ) (q : List Poly) → k ≡ length q → bounded_from wrt ws q ≡ fine m → check_from end next (plainly k) ws ≡ finish end (plainly (length m)))
    → cond (is_bad t (plainly n)) (Err (R.Malformed at)) (check_from end next (after t (plainly n)) ws) ≡ finish end (plainly (length m))
turn wrt end at next n ws t l m v (through q a b) f = rw (not-bad wrt t n l q v a, after_is wrt t n l q v a) (f (length q) q refl b)

-- a run that isn't refused leaves as many values as the check counts
heights : (wrt end at n : ℕ) (ws : List (List ℕ)) (l m : List Poly) → n ≡ length l → bounded_from wrt ws l ≡ fine m → check_from end at (plainly n) ws ≡ finish end (plainly (length m))
unfolding check_from bounded_from
heights wrt end at n [] l m v e = let z : l ≡ m = cc in ap (λ k. finish end (plainly k)) (v ∙ ap length z)
heights wrt end at n (w ∷ ws) l m v e =
    turn wrt end at (at + length w + 1) n ws (token_of w) l m v (then-through (bounded (applied wrt (token_of w) l)) (bounded_from wrt ws) m e)
    (λ k q u f. heights wrt end (at + length w + 1) k ws q m u f)

check-is : (wrt : ℕ) (s : List ℕ) (m : List Poly) → bounded_from wrt (words_of s) [] ≡ fine m → check_of s ≡ finish (length s) (plainly (length m))
unfolding check_of
check-is wrt s m e = heights wrt (length s) 0 0 (words_of s) [] m refl e

-- ---- the whole text

data One (a : Left) : Type 0 where
  one_value : (p : Poly) → a ≡ fine (p ∷ []) → One a

only : (a : Left) → (alone a).outcome ≡ no_refusal → One a
only (fine []) e = let z : ◌≡◌ {A = ℕ} 0 1 = cc in absurd (omega arith)
only (fine (p ∷ [])) e = one_value p refl
only (fine (p ∷ q ∷ l)) e = let z : ◌≡◌ {A = ℕ} 0 1 = cc in absurd (omega arith)
only (stopped why) e = let z : ◌≡◌ {A = ℕ} 0 1 = cc in absurd (omega arith)

done-by : (wrt : ℕ) (s : List ℕ) → One (bounded_from wrt (words_of s) []) → alone (bounded_from wrt (words_of s) []) ≡ lower_of wrt s
unfolding lower_of
done-by wrt s (one_value p e) =
    let d : check_of s ≡ no_refusal = check-is wrt s (p ∷ []) e in
    rw (d, ← room wrt s d, e)

pub answered-done : (wrt : ℕ) (s : List ℕ) → (alone (bounded_from wrt (words_of s) [])).outcome ≡ no_refusal → alone (bounded_from wrt (words_of s) []) ≡ lower_of wrt s
answered-done wrt s e = done-by wrt s (only (bounded_from wrt (words_of s) []) e)

-- two values or more are not one
many : (end n : ℕ) → 2 ≤ n → finish end (plainly n) ≡ Err (R.Malformed end)
many end n h = rw (ne_eqb n 1 (omega arith))

left_by : (s : List ℕ) (a : Left) (why : Reason) → ((m : List Poly) → a ≡ fine m → check_of s ≡ finish (length s) (plainly (length m))) → check_of s ≡ no_refusal → (alone a).outcome ≡ Err why → refused_with why 0 ≡ answered a
left_by s (fine []) why f d e = let g : Err (R.Malformed (length s)) ≡ no_refusal = sym (f [] refl) ∙ d in let z : ◌≡◌ {A = ℕ} 0 1 = cc in absurd (omega arith)
left_by s (fine (p ∷ [])) why f d e = let z : ◌≡◌ {A = ℕ} 0 1 = cc in absurd (omega arith)
left_by s (fine (p ∷ q ∷ l)) why f d e =
    let g : Err (R.Malformed (length s)) ≡ no_refusal = sym (f (p ∷ q ∷ l) refl ∙ many (length s) (length (p ∷ q ∷ l)) (omega arith)) ∙ d in
    let z : ◌≡◌ {A = ℕ} 0 1 = cc in
    absurd (omega arith)
left_by s (stopped w) why f d e = let z : w ≡ why = cc in ap (λ v. refused_with v 0) (sym z)

refused-by : (wrt : ℕ) (s : List ℕ) (why : Reason) (o : Outcome) → check_of s ≡ o → (alone (bounded_from wrt (words_of s) [])).outcome ≡ Err why → unless_refused o (refused_with why 0) ≡ unless_refused o (answered (run_from wrt (words_of s) []))
refused-by wrt s why (Ok _) d e = left_by s (bounded_from wrt (words_of s) []) why (check-is wrt s) d e ∙ ap answered (room wrt s d)
refused-by wrt s why (Err w) d e = refl

pub answered-refused : (wrt : ℕ) (s : List ℕ) (why : Reason) → (alone (bounded_from wrt (words_of s) [])).outcome ≡ Err why → unless_refused (check_of s) (refused_with why 0) ≡ lower_of wrt s
unfolding lower_of
answered-refused wrt s why e = refused-by wrt s why (check_of s) refl e
