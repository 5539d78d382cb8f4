-- Document 01, "the job program": a job is its lines in the order op, a, b, x, budget, lo, hi, tol, unused keys absent, and nothing behind them; at most 4,096 bytes. 5 anywhere comes before 4.
use Rattle.std.specs.Prelude.{true, false, cond, List, [], ℕ, ltb, length, Ok, Err}
use Rattle.std.specs.Float.{binary64}
use Rattle.std.specs.Float.Ieee.{of_bits}
use Rattle.ratio.specs.Refusal.{zero_r, Outcome, no_refusal}
use Rattle.ratio.specs.declared.Reason.{Reason}
use Rattle.ratio.specs.declared.Reason.TheVariants as R
use Rattle.terms.specs.Poly.{poly_of}
use Rattle.text.specs.Ascii.{bytes}
use Rattle.ops.specs.declared.Op.{Op}
use Rattle.ops.specs.declared.Op.TheVariants.{Unknown}
use Rattle.request.specs.declared.Cursor.{Cursor}
use Rattle.request.specs.declared.OpLine.{OpLine}
use Rattle.request.specs.declared.PolyLine.{PolyLine}
use Rattle.request.specs.declared.RatioLine.{RatioLine}
use Rattle.request.specs.declared.BudgetLine.{BudgetLine}
use Rattle.request.specs.declared.FloatLine.{FloatLine}
use Rattle.request.specs.declared.Interval.{Interval}
use Rattle.request.specs.declared.Request.{Request}
use Rattle.request.specs.declared.Wants.{Wants}
use Rattle.request.specs.Ops.{op_of, is_known, wants_of}
use Rattle.request.specs.Lines.{stopped_at, standing_at, opened_at, end_of, value_at, closed_at, poly_line_of, ratio_line_of, budget_line_of, float_line_of}

-- ---- the lines

abbrev pub op_by : List ℕ → Cursor → Op → OpLine
op_by s v op = cond (is_known op) (record { op = op; cursor = closed_at s (end_of s v.at) false }) (record { op = Unknown; cursor = stopped_at v.at })

abbrev pub op_in : List ℕ → Cursor → OpLine
op_in s v = cond v.bad (record { op = Unknown; cursor = v }) (op_by s v (op_of (value_at s v.at)))

unfoldable pub op_line_of : List ℕ → OpLine
op_line_of s = op_in s (opened_at s (bytes "op=") (standing_at 0 false))

abbrev pub keys_of : List ℕ → Wants
keys_of s = wants_of (op_line_of s).op

unfoldable pub a_of : List ℕ → PolyLine
a_of s = poly_line_of s (op_line_of s).cursor (bytes "a=") true

unfoldable pub b_of : List ℕ → PolyLine
b_of s = poly_line_of s (a_of s).cursor (bytes "b=") (keys_of s).b

unfoldable pub x_of : List ℕ → RatioLine
x_of s = ratio_line_of s (b_of s).cursor (bytes "x=") (keys_of s).x

unfoldable pub budget_of : List ℕ → BudgetLine
budget_of s = budget_line_of s (x_of s).cursor (bytes "budget=") (keys_of s).budget

unfoldable pub lo_of : List ℕ → FloatLine
lo_of s = float_line_of s (budget_of s).cursor (bytes "lo=") (keys_of s).ends false

unfoldable pub hi_of : List ℕ → FloatLine
hi_of s = float_line_of s (lo_of s).cursor (bytes "hi=") (keys_of s).ends false

unfoldable pub tol_of : List ℕ → FloatLine
tol_of s = float_line_of s (hi_of s).cursor (bytes "tol=") (keys_of s).tol true

-- the last three lines together
abbrev pub interval_of : List ℕ → Interval
interval_of s = record { cursor = (tol_of s).cursor; lo = (lo_of s).float; hi = (hi_of s).float; tol = (tol_of s).float }

-- ---- the job

-- what is bad, or a line too many; then a list that is too long
abbrev pub finished_at : List ℕ → Cursor → Outcome
finished_at s c =
    cond c.bad (Err (R.Malformed c.at))
    (cond (ltb c.at (length s)) (Err (R.Malformed c.at))
    (cond c.long (Err R.TooLong) no_refusal))

abbrev pub refused_for : Op → Reason → Request
refused_for op why = record {
  op = op;
  outcome = Err why;
  a = poly_of [];
  b = poly_of [];
  x = zero_r;
  budget = 0;
  lo = of_bits binary64 0;
  hi = of_bits binary64 0;
  tol = of_bits binary64 0;
}

abbrev pub read_for : List ℕ → Request
read_for s = record {
  op = (op_line_of s).op;
  outcome = no_refusal;
  a = (a_of s).poly;
  b = (b_of s).poly;
  x = (x_of s).ratio;
  budget = (budget_of s).budget;
  lo = (lo_of s).float;
  hi = (hi_of s).float;
  tol = (tol_of s).float;
}

abbrev pub made_by : List ℕ → Outcome → Request
made_by s (Ok _) = read_for s
made_by s (Err why) = refused_for (op_line_of s).op why

unfoldable pub made_of : List ℕ → Request
made_of s = made_by s (finished_at s (tol_of s).cursor)

-- the bytes of the longest job
abbrev pub longest : ℕ
longest = 4096

-- one that is longer is not read past its first line
unfoldable pub request_of : List ℕ → Request
request_of s = cond (ltb longest (length s)) (refused_for (op_line_of s).op (R.Malformed longest)) (made_of s)
