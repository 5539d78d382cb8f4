-- The first line, and a job made of its lines.
use Rattle.ratio.specs.Refusal.{no_refusal}
use Rattle.std.specs.Prelude.{Err}
use mathlib.Core.Path.{◌≡◌, sym, ap, ◌∙◌}
use mathlib.Core.Bool.{true, false}
use mathlib.Core.List.{List}
use Prim.Native.Nat.{ℕ, ◌-◌, ◌≤◌, ◌<◌}
use borrow.Author.Tests.{lt-ltb, le-ltb}
use lib.ListN.{length, take, drop}
use Rattle.ratio.specs.declared.Reason.{Reason}
use Rattle.ratio.specs.declared.Reason.TheVariants as R
use Rattle.text.specs.Ascii.{bytes}
use Rattle.ops.specs.declared.Op.{Op}
use Rattle.ops.specs.declared.Op.TheVariants.{Unknown}
use Rattle.request.specs.declared.Cursor.{Cursor}
use Rattle.request.specs.declared.OpLine.{OpLine}
use Rattle.request.specs.declared.PolyLine.{PolyLine}
use Rattle.request.specs.declared.RatioLine.{RatioLine}
use Rattle.request.specs.declared.BudgetLine.{BudgetLine}
use Rattle.request.specs.declared.FloatLine.{FloatLine}
use Rattle.request.specs.declared.Interval.{Interval}
use Rattle.request.specs.declared.Request.{Request}
use Rattle.request.specs.Ops.{op_of, is_known}
use Rattle.request.specs.Lines.{stopped_at, standing_at, opened_at, end_of, closed_at}
use Rattle.request.specs.Request.{op_by, op_in, op_line_of, a_of, b_of, x_of, budget_of, lo_of, hi_of, tol_of, interval_of, finished_at, refused_for, made_by, made_of, request_of}
use Rattle.request.proofs.Within.{value-is}
use Rattle.request.proofs.Lined.{pick_true, pick-false}

-- the first line
module _ (s : List ℕ) (c v : Cursor) (q : c ≡ standing_at 0 false) (e : v ≡ opened_at s (bytes "op=") c) where
  line-is : op_in s v ≡ op_line_of s
  unfolding op_line_of
  line-is = ap (op_in s) (e ∙ ap (opened_at s (bytes "op=")) q)

  pub op-bad : v.bad ≡ true → ◌≡◌ {A = OpLine} (record { op = Unknown; cursor = v }) (op_line_of s)
  op-bad b = pick_true b _ _ ∙ line-is

  module _ (b : v.bad ≡ false) (end : ℕ) (z : end ≡ end_of s v.at) (op : Op) (o : op ≡ op_of (take (end - v.at) (drop v.at s))) where
    named : op_by s v op ≡ op_line_of s
    named = ap (op_by s v) (o ∙ ap op_of (value-is s v.at end z)) ∙ pick-false b _ _ ∙ line-is

    pub op-known : is_known op ≡ true → ◌≡◌ {A = OpLine} (record { op = op; cursor = closed_at s end false }) (op_line_of s)
    op-known k = ap {B = OpLine} (λ n. record { op = op; cursor = closed_at s n false }) z ∙ pick_true k _ _ ∙ named

    pub op-unknown : is_known op ≡ false → ◌≡◌ {A = OpLine} (record { op = Unknown; cursor = stopped_at v.at }) (op_line_of s)
    op-unknown k = pick-false k _ _ ∙ named

pub interval-is : (s : List ℕ) (lo hi tol : FloatLine) → lo ≡ lo_of s → hi ≡ hi_of s → tol ≡ tol_of s → ◌≡◌ {A = Interval} (record { cursor = tol.cursor; lo = lo.float; hi = hi.float; tol = tol.float }) (interval_of s)
interval-is s lo hi tol a b c = rw (a, b, c)

-- the rest
module _ (s : List ℕ) (op : Op) (p : op ≡ (op_line_of s).op) (i : Interval) (t : i ≡ interval_of s) where
  pub made-refused : {why : Reason} → finished_at s i.cursor ≡ Err why → refused_for op why ≡ made_of s
  unfolding made_of
  made-refused {why} f = ap (λ o. refused_for o why) p ∙ ap (made_by s) (sym f ∙ ap (λ (l : Interval). finished_at s l.cursor) t)

  pub made-done : (a b : PolyLine) (x : RatioLine) (n : BudgetLine) → a ≡ a_of s → b ≡ b_of s → x ≡ x_of s → n ≡ budget_of s → finished_at s i.cursor ≡ no_refusal
      → ◌≡◌ {A = Request} (record { op = op; outcome = no_refusal; a = a.poly; b = b.poly; x = x.ratio; budget = n.budget; lo = i.lo; hi = i.hi; tol = i.tol }) (made_of s)
  unfolding made_of
  made-done a b x n ea eb ex en f = rw (ea, eb, ex, en, p, t) (ap (made_by s) (sym f ∙ ap (λ (l : Interval). finished_at s l.cursor) t))

pub request-long : (s : List ℕ) → 4096 < length s → refused_for (op_line_of s).op (R.Malformed 4096) ≡ request_of s
unfolding request_of
request-long s h = rw (lt-ltb 4096 (length s) h)

pub request-short : (s : List ℕ) → length s ≤ 4096 → made_of s ≡ request_of s
unfolding request_of
request-short s h = rw (le-ltb 4096 (length s) h)
