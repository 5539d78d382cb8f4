-- The price of a bisection (document 01, module 6): how many calls it makes and how often it works out a polynomial's value in floats, and the numbers that are never passed.
use Rattle.std.specs.Prelude.{Bool, true, false, List, [], ◌∷◌, ℕ, zero, suc, ◌+◌, ◌*◌, ◌≤◌, Float, length}
use Rattle.std.specs.Float.{binary64}
use Rattle.std.specs.Float.Ieee.{sub, lt, le}
use Rattle.yun.specs.Got.{Got, got, none, then_got}
use Rattle.bisect.specs.declared.Bracket.{Bracket}
use Rattle.bisect.specs.declared.Cut.{Cut}
use Rattle.bisect.specs.Bracket.{Found, marked}
use Rattle.bisect.specs.Cut.{count_in, root_at, cut_of}
use Rattle.bisect.specs.Bisect.{partly, inner_of, start, end}

-- c is the chain by its rows, one for each entry

-- a refusal ends the work
abbrev pub after : {X : Type 0} → Got X → (X → ℕ) → ℕ
after (got x) work = work x
after (none why) work = 0

abbrev pub if_there : Bool → (List Bracket → ℕ) → List Bracket → ℕ
if_there true work l = work l
if_there false work l = 0

abbrev pub if_split : ℕ → Bool → ℕ → ℕ
if_split zero narrow work = 0
if_split (suc zero) narrow work = 0
if_split (suc (suc n)) true work = 0
if_split (suc (suc n)) false work = work

-- the work in both parts, the right one onto what the left one finds
abbrev pub below : Cut → (List Bracket → Found) → (List Bracket → ℕ) → (List Bracket → ℕ) → List Bracket → ℕ
below s left p q l = after (marked s.exact s.mid l) (λ l. if_there s.left p l + after (partly s.left left l) (λ l. if_there s.right q l))

-- this call and those below it, where each call counts for `call` and each split for `split` more, by whether the middle is an exact root
unfoldable pub work_of : ℕ → (Bool → ℕ) → ℕ → List (List Float) → Float → Float → Float → List Bracket → ℕ
work_of call split zero c a b tol l = call
work_of call split (suc k) c a b tol l =
    call + if_split (count_in c a b) (lt (sub binary64 b a) tol)
    (split (cut_of c a b tol).exact + below (cut_of c a b tol) (λ l. inner_of k c a (cut_of c a b tol).lo tol l) (λ l. work_of call split k c a (cut_of c a b tol).lo tol l) (λ l. work_of call split k c (cut_of c a b tol).hi b tol l) l)

abbrev pub unless_none : Bool → ℕ → ℕ
unless_none true work = 0
unless_none false work = work

-- the same of a whole bisection, with `first` for its two ends
unfoldable pub work_for : ℕ → ℕ → (Bool → ℕ) → List (List Float) → Float → Float → Float → ℕ
work_for first call split c a b tol =
    after (then_got (marked (root_at c a) a []) (λ l. marked (root_at c b) b l)) (λ l.
    unless_none (le (end c a b) (start c a b)) (first + work_of call split 48 c (start c a b) (end c a b) tol l))

abbrev pub calls_for : List (List Float) → Float → Float → Float → ℕ
calls_for c a b tol = work_for 0 1 (λ exact. 0) c a b tol

-- how often `root_at` works out a value
abbrev pub looks : List (List Float) → ℕ
looks [] = 0
looks (p ∷ c) = 1

-- a split counts for s, and for e more where the middle is an exact root
abbrev pub split_cost : ℕ → ℕ → Bool → ℕ
split_cost s e false = s
split_cost s e true = s + e

-- the first entry at both ends, then all of them at both ends of what is halved; a split takes the first in the middle, then all of them where the parts meet, or at two places beside an exact root
abbrev pub evaluations_for : List (List Float) → Float → Float → Float → ℕ
evaluations_for c a b tol = 2 * looks c + work_for (2 * length c) 0 (split_cost (looks c + length c) (length c)) c a b tol

-- two calls for each of 48 splits and one more, for each of 64 brackets and a refusal
abbrev pub most_calls : ℕ
most_calls = 6305

-- of n entries: 48 splits for each of 64 brackets and a refusal, each of which may be an exact root; and the ends
abbrev pub most_evaluations : ℕ → ℕ
most_evaluations n = 65 * (48 * (n + 1) + n) + 2 * n + 2

pub record PricePromise (most : ℕ) : Type 0 where
  pub calls : (c : List (List Float)) (a b tol : Float) → calls_for c a b tol ≤ most
  pub evaluations : (c : List (List Float)) (a b tol : Float) → evaluations_for c a b tol ≤ most_evaluations (length c)
