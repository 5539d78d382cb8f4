-- Document 01, module 5, `rational_roots`: clear denominators, strip zero roots, list the divisors of the constant and the leading term, try every quotient, drop repeats, sort. The zero polynomial has an empty list. A refusal hands back an empty list and what was counted.
use Rattle.std.specs.Prelude.{Bool, true, false, List, [], ◌∷◌, ℕ, ◌-◌, ltb, ℤ, pos, nat_abs, length, drop, get_or, replicate, Result, Ok, Err}
use Rattle.ratio.specs.Refusal.{zero_r, Outcome, no_refusal}
use Rattle.ratio.specs.declared.Ratio.{Ratio}
use Rattle.ratio.specs.declared.Reason.{Reason}
use Rattle.ratio.specs.declared.Reason.TheVariants.{CoeffOverflow}
use Rattle.terms.specs.Machine.{Ran, fine, over, whole_r}
use Rattle.terms.specs.Poly.{trim}
use Rattle.divisors.specs.Listing.{factors_of}
use Rattle.divisors.specs.Marks.{listing_of}
use Rattle.search.specs.declared.Roots.{Roots}
use Rattle.search.specs.declared.Tally.{Tally}
use Rattle.search.specs.Clear.{multiple_from, cleared_by}
use Rattle.search.specs.Strip.{zeros}
use Rattle.search.specs.Try.{Count, try_all}
use Rattle.search.specs.Tally.{tally_of}

abbrev pub no_roots : Reason → ℕ → ℕ → Roots
no_roots why n k = record { outcome = Err why; values = replicate 32 zero_r; len = 0; tried = n; steps = k }

-- the outcome where the work came to its end, or didn't
abbrev pub outcome_if : Bool → Outcome
outcome_if true = no_refusal
outcome_if false = Err CoeffOverflow

abbrev pub answer_for : Tally → Roots
answer_for t = record { outcome = outcome_if t.fine; values = t.values; len = t.len; tried = t.tried; steps = t.steps }

abbrev pub answered : Ran Count (List Ratio) → Roots
answered r = answer_for (tally_of r)

abbrev pub nothing : Count
nothing = record { tried = 0; steps = 0 }

-- zero is a root where x was divided out
abbrev pub started : Bool → List Ratio
started true = zero_r ∷ []
started false = []

abbrev pub when_listed : Outcome → Roots → Roots
when_listed (Ok _) r = r
when_listed (Err why) r = no_roots why 0 0

-- the divisors of n are listed, where the budget allows it
abbrev pub listed_then : ℤ → ℕ → (List ℤ → Roots) → Roots
listed_then n budget k = when_listed (listing_of n budget).outcome (k (factors_of (nat_abs n)))

abbrev pub searched_below : List Ratio → Bool → ℕ → List ℤ → Roots
searched_below l zero budget ps = listed_then (get_or l (length l - 1) zero_r).num budget (λ qs. answered (try_all l ps qs nothing (started zero)))

-- whole coefficients with no zero at either end
unfoldable pub searched_in : List Ratio → Bool → ℕ → Roots
searched_in l zero budget = listed_then (get_or l 0 zero_r).num budget (λ ps. searched_below l zero budget ps)

abbrev pub searched_whole : ℕ → Ran ℕ (List Ratio) → Roots
searched_whole budget (fine k l) = searched_in (drop (zeros l) l) (ltb 0 (zeros l)) budget
searched_whole budget (over k) = no_roots CoeffOverflow 0 0

abbrev pub cleared_then : List Ratio → ℕ → Result Ratio Reason → Roots
cleared_then l budget (Ok m) = searched_whole budget (cleared_by m l)
cleared_then l budget (Err why) = no_roots CoeffOverflow 0 0

-- without zeros at the top
unfoldable pub roots_for : List Ratio → ℕ → Roots
roots_for [] budget = answered (fine nothing [])
roots_for (a ∷ l) budget = cleared_then (a ∷ l) budget (multiple_from (a ∷ l) (whole_r (pos 1)))

abbrev pub roots_of : List Ratio → ℕ → Roots
roots_of l budget = roots_for (trim l) budget
