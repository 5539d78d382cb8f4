-- The first refusal in postfix order, said of the model: behind an answered check a run comes to one value, every word accepted, or a word is refused after the values before it.
use Rattle.ratio.specs.declared.Ratio.{Ratio}
use Rattle.std.specs.Prelude.{Result, Ok, Err, Option, Some, None}
use mathlib.Core.Path.{◌≡◌, refl, sym, ap, subst, ◌∙◌}
use mathlib.Core.Bool.{Bool, true, false, cond}
use mathlib.Core.List.{List, [], ◌∷◌, ◌++◌, append_assoc, append-nil}
use Prim.Native.Nat.{ℕ, ◌+◌, ◌-◌, ◌≤◌}
use native.Mathlib.Omega.{arith}
use borrow.Author.Tests.{ltb-false, eqb-true, eqb-false}
use lib.Dec.{eqb}
use lib.Ieee.{Float}
use lib.ListN.{length}
use Rattle.ratio.specs.Promise.{Lowest}
use Rattle.ratio.specs.Refusal.{number_of, status_of, ratio_of, Outcome, no_refusal}
use Rattle.ratio.specs.When.{GivenWhen}
use Rattle.ratio.specs.declared.Reason.{Reason}
use Rattle.ratio.specs.declared.Reason.TheVariants as R
use Rattle.ratio.proofs.Answers.{lowest-tells}
use Rattle.bridge.specs.Search.{to_ratio}
use Rattle.bridge.proofs.Finds.{finds-both}
use Rattle.terms.specs.declared.Poly.{Poly}
use Rattle.terms.specs.declared.Answer.{Answer}
use Rattle.poly.specs.Operations.{constant_of, add_of, sub_of, mul_of, neg_of, pow_of}
use Rattle.tokens.specs.declared.Height.{Height}
use Rattle.tokens.specs.declared.Token.{Token}
use Rattle.tokens.specs.declared.Token.TheVariants as T
use Rattle.tokens.specs.Spelling.{token_of}
use Rattle.tokens.specs.Words.{words_of}
use Rattle.tokens.specs.Heights.{takes, is_other, is_malformed, is_bad, after, room_of, check_from, bare, check_of}
use Rattle.lower.specs.Exponent.{exponent_of}
use Rattle.lower.specs.Stack.{Left, fine, stopped, constant_by, pushed_by, pushed, raised, applied}
use Rattle.lower.specs.Run.{and_then, run_from, answered, unless_refused, lower_of}
use Rattle.lower.specs.Promise.{meant, meant_all, Accepted, AllAccepted, Match, none, some, Halts, no_fraction, other-variable, in_sum, in-difference, in-product, in-negative, no-exponent, in-power, other-operator, Stops, Comes, through, Lowers}
use Rattle.lower.specs.Promise as P
use Rattle.lower.proofs.Meaning.{Fits, held, applied-fits, lowers}
use Rattle.lower.proofs.Room.{chosen, check-deep, Sized, sized, applied-sized, counted}

-- ---- one word

-- it is accepted and leaves values, or it is refused
data Taken (wrt : ℕ) (t : Token) (l : List Poly) : Left → Type 0 where
  taken : {m : List Poly} → Accepted wrt t → Taken wrt t l (fine m)
  refused : {why : Reason} → Halts wrt t l why → Taken wrt t l (stopped why)

pushed-taken : (wrt : ℕ) (t : Token) (l k : List Poly) (o : Outcome) (p : Poly) → (o ≡ no_refusal → Accepted wrt t) → ((why : Reason) → o ≡ Err why → Halts wrt t l why) → Taken wrt t l (pushed_by o p k)
pushed-taken wrt t l k (Ok _) p f g = taken (f refl)
pushed-taken wrt t l k (Err why) p f g = refused (g why refl)

-- a fraction in lowest terms is a constant
constant-done : (c : _) → Lowest c → (constant_of c).outcome ≡ no_refusal
constant-done c h = rw ((lowest-tells c).tells h)

constant-taken : (wrt : ℕ) (x : Float) (l : List Poly) (s : Result Ratio Reason) → to_ratio x ≡ s → Taken wrt (T.Const x) l (pushed (constant_by s) l)
constant-taken wrt x l (Ok c) e =
    let h : Lowest c = subst (λ (s : Result Ratio Reason). status_of s ≡ 0 → Lowest (ratio_of s)) e (finds-both x (to_ratio x) refl).1.lowest refl in
    pushed-taken wrt (T.Const x) l l (constant_of c).outcome _ (λ d. rw e) (λ why d. let z : ◌≡◌ {A = ℕ} 0 1 = cc (constant-done c h) in absurd (omega arith))
constant-taken wrt x l (Err why) e = refused (no_fraction e)

variable-taken : (wrt i : ℕ) (l : List Poly) → Taken wrt (T.Var i) l (applied wrt (T.Var i) l)
variable-taken wrt i l = go (eqb i wrt) refl
  where
    go : (b : Bool) → eqb i wrt ≡ b → Taken wrt (T.Var i) l (applied wrt (T.Var i) l)
    go true e = rw e (taken (eqb-true i wrt e))
    go false e = rw e (refused (other-variable (eqb-false i wrt e)))

power-taken : (wrt : ℕ) (x : Float) (l : List Poly) (w : Option ℕ) → exponent_of x ≡ w → 1 ≤ length l → Taken wrt (T.Pow x) l (raised w l)
power-taken wrt x [] (Some n) e h = absurd (omega arith)
power-taken wrt x (a ∷ l) (Some n) e h =
    pushed-taken wrt (T.Pow x) (a ∷ l) l (pow_of a n).outcome _ (λ d f. let z : ◌≡◌ {A = ℕ} 0 1 = cc in omega arith) (λ why d. in-power e d)
power-taken wrt x l None e h = refused (no-exponent e)

token-taken : (wrt : ℕ) (t : Token) (l : List Poly) → is_malformed t ≡ false → takes t ≤ length l → Taken wrt t l (applied wrt t l)
token-taken wrt (T.Const x) l m h = constant-taken wrt x l (to_ratio x) refl
token-taken wrt (T.Var i) l m h = variable-taken wrt i l
token-taken wrt T.Add [] m h = absurd (omega arith)
token-taken wrt T.Add (b ∷ []) m h = absurd (omega arith)
token-taken wrt T.Add (b ∷ a ∷ l) m h = pushed-taken wrt T.Add (b ∷ a ∷ l) l (add_of a b).outcome _ (λ d. tt) (λ why d. in_sum d)
token-taken wrt T.Sub [] m h = absurd (omega arith)
token-taken wrt T.Sub (b ∷ []) m h = absurd (omega arith)
token-taken wrt T.Sub (b ∷ a ∷ l) m h = pushed-taken wrt T.Sub (b ∷ a ∷ l) l (sub_of a b).outcome _ (λ d. tt) (λ why d. in-difference d)
token-taken wrt T.Mul [] m h = absurd (omega arith)
token-taken wrt T.Mul (b ∷ []) m h = absurd (omega arith)
token-taken wrt T.Mul (b ∷ a ∷ l) m h = pushed-taken wrt T.Mul (b ∷ a ∷ l) l (mul_of a b).outcome _ (λ d. tt) (λ why d. in-product d)
token-taken wrt T.Neg [] m h = absurd (omega arith)
token-taken wrt T.Neg (a ∷ l) m h = pushed-taken wrt T.Neg (a ∷ l) l (neg_of a).outcome _ (λ d. tt) (λ why d. in-negative d)
token-taken wrt (T.Pow x) l m h = power-taken wrt x l (exponent_of x) refl h
token-taken wrt T.Other l m h = refused other-operator
token-taken wrt T.Malformed l m h = let z : ◌≡◌ {A = ℕ} 0 1 = cc in absurd (omega arith)

-- ---- word after word

-- one value is left and every word accepted, or one of them is refused
data Ends (wrt : ℕ) (ws : List (List ℕ)) : Left → Type 0 where
  one_value : {p : Poly} → AllAccepted wrt ws → Ends wrt ws (fine (p ∷ []))
  halted : {why : Reason} → Stops wrt ws why → Ends wrt ws (stopped why)

meant-more : (ws : List (List ℕ)) (w : List ℕ) (m : List (List _)) → meant_all (ws ++ (w ∷ [])) m ≡ meant (token_of w) (meant_all ws m)
unfolding meant_all
meant-more [] w m = refl
meant-more (v ∷ ws) w m = meant-more ws w (meant (token_of v) m)

accepted-more : (wrt : ℕ) (ws : List (List ℕ)) (w : List ℕ) → AllAccepted wrt ws → Accepted wrt (token_of w) → AllAccepted wrt (ws ++ (w ∷ []))
unfolding AllAccepted
accepted-more wrt [] w h a = (a, tt)
accepted-more wrt (v ∷ ws) w h a = (h.0, accepted-more wrt ws w h.1 a)

-- what is accepted is no `?`
accepted-plain : (wrt : ℕ) (t : Token) → Accepted wrt t → is_other t ≡ false
accepted-plain wrt (T.Const x) a = refl
accepted-plain wrt (T.Var i) a = refl
accepted-plain wrt T.Add a = refl
accepted-plain wrt T.Sub a = refl
accepted-plain wrt T.Mul a = refl
accepted-plain wrt T.Neg a = refl
accepted-plain wrt (T.Pow x) a = refl
accepted-plain wrt T.Other a = absurd a
accepted-plain wrt T.Malformed a = absurd a

-- a good token is spelled well and has its values
good : (m p u : Bool) → cond m true (cond p false u) ≡ false → p ≡ false → (m ≡ false) × (u ≡ false)
good true p u e q = let z : ◌≡◌ {A = ℕ} 0 1 = cc in absurd (omega arith)
good false true u e q = let z : ◌≡◌ {A = ℕ} 0 1 = cc in absurd (omega arith)
good false false u e q = (refl, e)

one_left : (o : Bool) (h : Height) (end : ℕ) → cond o (room_of h) (Err (R.Malformed end)) ≡ no_refusal → o ≡ true
one_left true h end e = refl
one_left false h end e = let z : ◌≡◌ {A = ℕ} 0 1 = cc in absurd (omega arith)

module _ (wrt end : ℕ) where
  ended : (seen : List (List ℕ)) (l : List Poly) → length l ≡ 1 → AllAccepted wrt seen → Ends wrt (seen ++ []) (fine l)
  ended seen [] n a = absurd (omega arith)
  ended seen (p ∷ []) n a = rw append-nil (one_value a)
  ended seen (p ∷ q ∷ l) n a = absurd (omega arith)

  abbrev Goes : List (List ℕ) → Type 0
  Goes ws = (at : ℕ) (h : Height) (l : List Poly) (seen : List (List ℕ)) → check_from end at h ws ≡ no_refusal → h.past ≡ false → h.values ≡ length l → AllAccepted wrt seen → Match l (meant_all seen []) → Ends wrt (seen ++ ws) (run_from wrt ws l)

  module _ (at : ℕ) (h : Height) (l : List Poly) (seen : List (List ℕ)) (w : List ℕ) (ws : List (List ℕ)) (go : Goes ws) (p : h.past ≡ false) (d : h.deep ≡ false) (v : h.values ≡ length l)
      (e : check_from end at (after (token_of w) h) ws ≡ no_refusal) (a : AllAccepted wrt seen) (m : Match l (meant_all seen [])) where
    -- the values that a word leaves are those that it means, as many as the check counts
    next : (r : Left) → Taken wrt (token_of w) l r → Fits r (meant (token_of w) (meant_all seen [])) → Sized (length l - takes (token_of w) + 1) r → Ends wrt (seen ++ (w ∷ ws)) (and_then r (run_from wrt ws))
    next (fine k) (taken t) (held g) (sized n) =
        let s : (seen ++ (w ∷ [])) ++ ws ≡ seen ++ (w ∷ ws) = append_assoc seen (w ∷ []) ws in
        let c = counted (token_of w) h p (accepted-plain wrt (token_of w) t) d in
        subst (λ z. Ends wrt z (run_from wrt ws k)) s
        (go at (after (token_of w) h) k (seen ++ (w ∷ [])) e (ap (λ (z : Height). z.past) c) (ap (λ (z : Height). z.values) c ∙ omega arith) (accepted-more wrt seen w a t) (rw (meant-more seen w []) g))
    next (stopped why) (refused t) g n = halted (record { before = seen; word = w; behind = ws; values = l; words = refl; accepted = a; held = m; halts = t })

  goes : (ws : List (List ℕ)) → Goes ws
  unfolding check_from run_from
  goes [] at h l seen e p v a m =
      let f : cond (eqb h.values 1) (room_of h) (Err (R.Malformed end)) ≡ no_refusal = rw p at e in
      ended seen l (sym v ∙ eqb-true h.values 1 (one_left (eqb h.values 1) h end f)) a
  goes (w ∷ ws) at h l seen e p v a m =
      let f = chosen (is_bad (token_of w) h) (R.Malformed at) _ e in
      let g = good (is_malformed (token_of w)) h.past _ f.0 p in
      next (at + length w + 1) h l seen w ws (goes ws) p (check-deep end at h (w ∷ ws) e) v f.1 a m (applied wrt (token_of w) l)
      (token-taken wrt (token_of w) l g.0 (omega (arith, v, ltb-false h.values (takes (token_of w)) g.1)))
      (applied-fits wrt (token_of w) m) (applied-sized wrt (token_of w) l)

-- ---- a check is refused with 5 or with 4

data Few : Outcome → Type 0 where
  fine-check : Few no_refusal
  too_long : Few (Err R.TooLong)
  malformed : (at : ℕ) → Few (Err (R.Malformed at))

room-few : (h : Height) → Few (room_of h)
room-few h = go h.deep
  where
    go : (b : Bool) → Few (cond b (Err R.TooLong) no_refusal)
    go true = too_long
    go false = fine-check

either-by : (b : Bool) (x y : Outcome) → Few x → Few y → Few (cond b x y)
either-by true x y f g = f
either-by false x y f g = g

check-few : (end at : ℕ) (h : Height) (ws : List (List ℕ)) → Few (check_from end at h ws)
unfolding check_from
check-few end at h [] = either-by h.past _ _ (room-few h) (either-by (eqb h.values 1) _ _ (room-few h) (malformed end))
check-few end at h (w ∷ ws) = either-by (is_bad (token_of w) h) _ _ (malformed at) (check-few end (at + length w + 1) (after (token_of w) h) ws)

check-all : (s : List ℕ) → Few (check_of s)
unfolding check_of
check-all s = check-few (length s) 0 bare (words_of s)

few-numbers : (o : Outcome) (why : Reason) → Few o → o ≡ Err why → (number_of why ≡ 5 → ⊥) → (number_of why ≡ 4 → ⊥) → ⊥
few-numbers (Ok _) why f e b l = let z : ◌≡◌ {A = ℕ} 0 1 = cc in omega arith
few-numbers (Err R.NotPolynomial) why f e b l = elim f [ ]
few-numbers (Err R.CoeffOverflow) why f e b l = elim f [ ]
few-numbers (Err R.DivByZero) why f e b l = elim f [ ]
few-numbers (Err R.BadInput) why f e b l = elim f [ ]
few-numbers (Err R.Budget) why f e b l = elim f [ ]
few-numbers (Err R.TooDeep) why f e b l = elim f [ ]
few-numbers (Err R.NoRoom) why f e b l = elim f [ ]
few-numbers (Err R.TooLong) why f e b l = let z : R.TooLong ≡ why = cc in l (ap number_of (sym z))
few-numbers (Err (R.Malformed at)) why f e b l = let z : R.Malformed at ≡ why = cc in b (ap number_of (sym z))

-- ---- the whole text

number-kept : (ws : List (List ℕ)) (wrt : ℕ) (r : Left) → Ends wrt ws r → Comes wrt ws (status_of (answered r).outcome)
number-kept ws wrt (fine []) h = elim h [ ]
number-kept ws wrt (fine (p ∷ (q ∷ l))) h = elim h [ ]
number-kept ws wrt (fine (p ∷ [])) (one_value a) = through a refl
number-kept ws wrt (stopped why) (halted s) = P.stopped why s refl

refusals-by : (wrt : ℕ) (s : List ℕ) (o : Outcome) → check_of s ≡ o → (o ≡ no_refusal → Comes wrt (words_of s) (status_of (answered (run_from wrt (words_of s) [])).outcome))
    → GivenWhen (status_of o ≡ 5) (status_of o ≡ 4) ⊥ (Comes wrt (words_of s)) (status_of (unless_refused o (answered (run_from wrt (words_of s) []))).outcome)
refusals-by wrt s (Ok _) e c = record {
  five = λ b. absurd (omega arith);
  four = λ b l. absurd (omega arith);
  three = λ b l z. absurd z;
  behind = λ b l z. c refl;
}
refusals-by wrt s (Err why) e c = record {
  five = λ b. b;
  four = λ b l. l;
  three = λ b l z. absurd z;
  behind = λ b l z. absurd (few-numbers (check_of s) why (check-all s) e b l);
}

pub lowers-all : (wrt : ℕ) (s : List ℕ) → Lowers wrt s (lower_of wrt s)
unfolding lower_of check_of AllAccepted meant_all
lowers-all wrt s = record {
  gives = lowers wrt s;
  refusals = refusals-by wrt s (check_of s) refl (λ e. number-kept (words_of s) wrt (run_from wrt (words_of s) []) (goes wrt (length s) (words_of s) 0 bare [] [] e refl refl tt none));
}

-- a result that is the model's has the model's promise
pub with-lowers : (wrt : ℕ) (s : List ℕ) (r : Answer) → r ≡ lower_of wrt s → (r ≡ lower_of wrt s) × Lowers wrt s r
with-lowers wrt s r e = (e, subst (Lowers wrt s) (sym e) (lowers-all wrt s))
