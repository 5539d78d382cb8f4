-- Document 01, "the job program": a line is a key, `=`, a value and a newline. Read from left to right; the first thing that is bad stops it, with its place.
use Rattle.ratio.specs.declared.Ratio.{Ratio}
use Rattle.std.specs.Prelude.{Bool, true, false, ◌&&◌, cond, List, [], ℕ, ◌+◌, ltb, Float, length, take, drop, Result, Ok, Err, Option, Some, None}
use Rattle.std.specs.Float.{binary64}
use Rattle.std.specs.Float.Ieee.{of_bits, lt}
use Rattle.std.specs.Float.Ieee.Scale.{finite}
use Rattle.ratio.specs.Refusal.{zero_r, Outcome}
use Rattle.ratio.specs.declared.Reason.{Reason}
use Rattle.ratio.specs.declared.Reason.TheVariants as R
use Rattle.terms.specs.declared.Poly.{Poly}
use Rattle.terms.specs.Poly.{poly_of}
use Rattle.sturm.specs.Count.{inside}
use Rattle.tokens.specs.Words.{length_to}
use Rattle.reading.specs.Numbers.{ratio_from, float_from, budget_from}
use Rattle.reading.specs.Coefficients.{read_poly}
use Rattle.request.specs.declared.Cursor.{Cursor}
use Rattle.request.specs.declared.PolyLine.{PolyLine}
use Rattle.request.specs.declared.RatioLine.{RatioLine}
use Rattle.request.specs.declared.BudgetLine.{BudgetLine}
use Rattle.request.specs.declared.FloatLine.{FloatLine}
use Rattle.request.specs.Ops.{begins}

-- ---- where reading stands

-- something is bad here
abbrev pub stopped_at : ℕ → Cursor
stopped_at at = record { at = at; bad = true; long = false }

-- all is well up to here; whether a list was too long
abbrev pub standing_at : ℕ → Bool → Cursor
standing_at at long = record { at = at; bad = false; long = long }

-- behind the key of the line that starts here; another line is bad at its start
abbrev pub opened_at : List ℕ → List ℕ → Cursor → Cursor
opened_at s key c = cond c.bad c (cond (begins key (drop c.at s)) (standing_at (c.at + length key) c.long) (stopped_at c.at))

-- the end of the value that starts here: a newline (10) or the text's end
abbrev pub end_of : List ℕ → ℕ → ℕ
end_of s at = at + length_to 10 (drop at s)

abbrev pub value_at : List ℕ → ℕ → List ℕ
value_at s at = take (length_to 10 (drop at s)) (drop at s)

-- behind the newline at the end of a value; where it is missing, the text's end is bad
abbrev pub closed_at : List ℕ → ℕ → Bool → Cursor
closed_at s end long = cond (ltb end (length s)) (standing_at (end + 1) long) (stopped_at end)

-- ---- a line with coefficients

abbrev pub no_poly : Cursor → PolyLine
no_poly c = record { cursor = c; poly = poly_of [] }

-- over 32 coefficients count only at the end
abbrev pub too_long : List ℕ → Cursor → Cursor
too_long s v = closed_at s (end_of s v.at) true

-- a bad word is bad at its place; coefficients are refused for no other reason than these two
abbrev pub cursor_for : List ℕ → Cursor → Reason → Cursor
cursor_for s v (R.Malformed k) = stopped_at (v.at + k)
cursor_for s v R.TooLong = too_long s v
cursor_for s v R.NotPolynomial = too_long s v
cursor_for s v R.CoeffOverflow = too_long s v
cursor_for s v R.DivByZero = too_long s v
cursor_for s v R.BadInput = too_long s v
cursor_for s v R.Budget = too_long s v
cursor_for s v R.TooDeep = too_long s v
cursor_for s v R.NoRoom = too_long s v

abbrev pub poly_by : List ℕ → Cursor → Outcome → Poly → PolyLine
poly_by s v (Ok _) p = record { cursor = closed_at s (end_of s v.at) v.long; poly = p }
poly_by s v (Err why) p = no_poly (cursor_for s v why)

abbrev pub poly_in : List ℕ → Cursor → PolyLine
poly_in s v = cond v.bad (no_poly v) (let r = read_poly (value_at s v.at) in poly_by s v r.outcome r.poly)

-- a line that is not wanted is not there
unfoldable pub poly_line_of : List ℕ → Cursor → List ℕ → Bool → PolyLine
poly_line_of s c key wanted = cond wanted (poly_in s (opened_at s key c)) (no_poly c)

-- ---- a line with a fraction

abbrev pub no_ratio : Cursor → RatioLine
no_ratio c = record { cursor = c; ratio = zero_r }

abbrev pub ratio_by : List ℕ → Cursor → Result Ratio Reason → RatioLine
ratio_by s v (Ok r) = record { cursor = closed_at s (end_of s v.at) v.long; ratio = r }
ratio_by s v (Err why) = no_ratio (stopped_at v.at)

abbrev pub ratio_in_line : List ℕ → Cursor → RatioLine
ratio_in_line s v = cond v.bad (no_ratio v) (ratio_by s v (ratio_from (value_at s v.at)))

unfoldable pub ratio_line_of : List ℕ → Cursor → List ℕ → Bool → RatioLine
ratio_line_of s c key wanted = cond wanted (ratio_in_line s (opened_at s key c)) (no_ratio c)

-- ---- a line with a budget

-- what a missing budget is
abbrev pub default_budget : ℕ
default_budget = 65536

abbrev pub no_budget : Cursor → BudgetLine
no_budget c = record { cursor = c; budget = default_budget }

abbrev pub budget_by : List ℕ → Cursor → Option ℕ → BudgetLine
budget_by s v (Some n) = record { cursor = closed_at s (end_of s v.at) v.long; budget = n }
budget_by s v None = no_budget (stopped_at v.at)

abbrev pub budget_in : List ℕ → Cursor → BudgetLine
budget_in s v = cond v.bad (no_budget v) (budget_by s v (budget_from (value_at s v.at)))

-- it may be missing
unfoldable pub budget_line_of : List ℕ → Cursor → List ℕ → Bool → BudgetLine
budget_line_of s c key wanted = cond wanted (cond (begins key (drop c.at s)) (budget_in s (opened_at s key c)) (no_budget c)) (no_budget c)

-- ---- a line with a float

-- an end is within ±1e15, a tolerance is finite and above 0
abbrev pub is_limited : Bool → Float → Bool
is_limited true x = finite x && lt (of_bits binary64 0) x
is_limited false x = inside x

abbrev pub limited_of : Bool → Option Float → Option Float
limited_of tolerance (Some x) = cond (is_limited tolerance x) (Some x) None
limited_of tolerance None = None

abbrev pub no_float : Cursor → FloatLine
no_float c = record { cursor = c; float = of_bits binary64 0 }

abbrev pub float_by : List ℕ → Cursor → Option Float → FloatLine
float_by s v (Some x) = record { cursor = closed_at s (end_of s v.at) v.long; float = x }
float_by s v None = no_float (stopped_at v.at)

abbrev pub float_in : List ℕ → Cursor → Bool → FloatLine
float_in s v tolerance = cond v.bad (no_float v) (float_by s v (limited_of tolerance (float_from (value_at s v.at))))

unfoldable pub float_line_of : List ℕ → Cursor → List ℕ → Bool → Bool → FloatLine
float_line_of s c key wanted tolerance = cond wanted (float_in s (opened_at s key c) tolerance) (no_float c)
