-- The price of an isolation (document 01, module 6), quoted from the degree alone: how many calls the bisection makes, and how often a polynomial's value is worked out in floats. 4 for a degree over 31.
use Rattle.std.specs.Prelude.{◌≡◌, Bool, true, false, List, [], ◌∷◌, ℕ, ◌+◌, ◌*◌, ◌≤◌, leb, Float, Result, Ok, Err}
use Rattle.algebra.specs.Textbook.{HasDegree}
use Rattle.ratio.specs.declared.Ratio.{Ratio}
use Rattle.ratio.specs.declared.Reason.{Reason}
use Rattle.ratio.specs.declared.Reason.TheVariants.{TooLong}
use Rattle.terms.specs.declared.Poly.{Poly}
use Rattle.terms.specs.Machine.{plain}
use Rattle.terms.specs.Poly.{terms_of}
use Rattle.poly.specs.declared.Gate.TheVariants.{Open}
use Rattle.poly.specs.Door.{door_of, both, entered}
use Rattle.poly.specs.Promise.{reading}
use Rattle.remainders.specs.Gcd.{square_free}
use Rattle.yun.specs.Got.{list_from}
use Rattle.chain.specs.Sequence.{sequence_of}
use Rattle.sturm.specs.Value.{floats_of}
use Rattle.sturm.specs.Along.{rows_of}
use Rattle.bisect.specs.declared.Bracket.{Bracket}
use Rattle.bisect.specs.Bisect.{bisect_of}
use Rattle.bisect.specs.Price.{after, calls_for, evaluations_for, most_calls, most_evaluations}
use Rattle.refine.specs.Price.{root_work, most_of_root}
use Rattle.isolate.specs.declared.Most.{Most}
use Rattle.isolate.specs.Isolate.{limits_of}

-- ---- the work, in the order of `isolate_from`

-- the values for the roots of the brackets
unfoldable pub roots_work : List Float → Float → List Bracket → ℕ
roots_work p tol [] = 0
roots_work p tol (x ∷ b) = root_work p x tol + roots_work p tol b

unfoldable pub calls_from : List Ratio → Float → Float → Float → ℕ
calls_from p lo hi tol = after (list_from (square_free plain p 0)) (λ f. after (sequence_of f) (λ c. calls_for (rows_of c) lo hi tol))

unfoldable pub evaluations_from : List Ratio → Float → Float → Float → ℕ
evaluations_from p lo hi tol =
    after (list_from (square_free plain p 0)) (λ f.
    after (sequence_of f) (λ c.
    evaluations_for (rows_of c) lo hi tol + after (bisect_of (rows_of c) lo hi tol) (λ b. roots_work (floats_of f) tol b)))

-- a shut door costs nothing
abbrev pub calls_in : Poly → Float → Float → Float → ℕ
calls_in p lo hi tol = entered (λ why. 0) (both (limits_of lo hi tol) (door_of p)) (calls_from (terms_of p) lo hi tol)

abbrev pub evaluations_in : Poly → Float → Float → Float → ℕ
evaluations_in p lo hi tol = entered (λ why. 0) (both (limits_of lo hi tol) (door_of p)) (evaluations_from (terms_of p) lo hi tol)

-- ---- the quote

-- a chain of n + 1 entries, and 64 brackets
abbrev pub evaluations_price : ℕ → ℕ
evaluations_price n = most_evaluations (n + 1) + 64 * most_of_root

abbrev pub quote_if : Bool → ℕ → ℕ → Result Most Reason
quote_if true calls evaluations = Ok (record { calls = calls; evaluations = evaluations })
quote_if false calls evaluations = Err TooLong

abbrev pub isolation_quote : ℕ → Result Most Reason
isolation_quote n = quote_if (leb n 31) most_calls (evaluations_price n)

-- never more than was quoted; and what came through the door has a quote
pub record QuotesIsolation (n : ℕ) (q : Result Most Reason) : Type 0 where
  pub bounds : (p : Poly) (lo hi tol : Float) → HasDegree (reading p) n → (c e : ℕ) → q ≡ Ok (record { calls = c; evaluations = e }) → (calls_in p lo hi tol ≤ c) × (evaluations_in p lo hi tol ≤ e)
  pub quoted : (p : Poly) → door_of p ≡ Open → HasDegree (reading p) n → (why : Reason) → q ≡ Err why → ⊥
