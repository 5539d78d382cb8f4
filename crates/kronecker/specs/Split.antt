-- Document 01, module 5, Kronecker (`kronecker_try_split`): each candidate of degree 1 or more with whole coefficients is divided by. A refusal 2 means no split; a listing's refusal is returned.
use Rattle.std.specs.Prelude.{Bool, true, false, not, cond, List, [], ◌∷◌, ℕ, zero, suc, ◌+◌, ◌-◌, ◌/◌, min, ltb, length}
use Rattle.ratio.specs.declared.Ratio.{Ratio}
use Rattle.terms.specs.Poly.{terms_of, poly_of, trim}
use Rattle.remainders.specs.Answer.{divided_of}
use Rattle.remainders.specs.declared.Division.{Division}
use Rattle.kronecker.specs.declared.Split.{Split}
use Rattle.kronecker.specs.declared.Verdict.{Verdict}
use Rattle.kronecker.specs.declared.Verdict.TheVariants.{Found, Next, NoSplit, Refused}
use Rattle.kronecker.specs.declared.Values.{Values}
use Rattle.kronecker.specs.declared.Values.TheVariants.{Whole, Broken, Over}
use Rattle.kronecker.specs.Points.{all_whole, surveyed}
use Rattle.kronecker.specs.Combinations.{Gathering, stopped, made, gathered}
use Rattle.kronecker.specs.Interpolation.{on_outcome, on_answer, interpolated_of}

abbrev pub without : Verdict → Split
without v = record { verdict = v; factor = poly_of [] }

abbrev pub found_with : List Ratio → Split
found_with c = record { verdict = Found; factor = poly_of (trim c) }

abbrev pub is_over : Verdict → Bool
is_over Found = true
is_over Next = false
is_over NoSplit = true
is_over (Refused why) = true

-- the first that is over counts
abbrev pub or_else : Split → Split → Split
or_else s t = cond (is_over s.verdict) s t

-- a zero rest is a factor found; a refused division ends the search
abbrev pub judged_by : Division → List Ratio → Split
judged_by d c = on_outcome d.outcome (without NoSplit) (cond (ltb 0 (length (terms_of d.rest))) (without Next) (found_with c))

unfoldable pub judged : List Ratio → List Ratio → Split
judged f c = cond (ltb (length c) 2) (without Next) (cond (not (all_whole c)) (without Next) (judged_by (divided_of f c) c))

-- the candidate of a combination; one that is refused is skipped
unfoldable pub tried_of : List Ratio → ℕ → List Ratio → Split
tried_of f n ys = on_answer (interpolated_of ys n) (without Next) (judged f)

unfoldable pub tried_from : List Ratio → ℕ → List (List Ratio) → Split
tried_from f n [] = without Next
tried_from f n (ys ∷ more) = or_else (tried_of f n ys) (tried_from f n more)

abbrev pub tried_gathered : List Ratio → ℕ → Gathering → Split
tried_gathered f n (stopped why) = without (Refused why)
tried_gathered f n (made l) = tried_from f n l

abbrev pub on_values : Values → Split → Split
on_values Whole s = s
on_values Broken s = without Next
on_values Over s = without NoSplit

-- the candidates that n points give
unfoldable pub tried_at : List Ratio → ℕ → ℕ → Split
tried_at f budget n = on_values (surveyed f n 0 true) (tried_gathered f n (gathered f budget n 0 ([] ∷ [])))

-- n degrees from k on; a candidate of degree k takes k + 1 points
unfoldable pub tried_degrees : List Ratio → ℕ → ℕ → ℕ → Split
tried_degrees f budget zero k = without NoSplit
tried_degrees f budget (suc n) k = or_else (tried_at f budget (k + 1)) (tried_degrees f budget n (suc k))

-- up to half of f's degree, and as the seven points allow
abbrev pub most_of : List Ratio → ℕ
most_of f = min ((length f - 1) / 2) 6

unfoldable pub try_split_of : List Ratio → ℕ → Split
try_split_of f budget = tried_degrees f budget (most_of f) 1
