-- `request::interval_lines` meets its contract.
use mathlib.Core.Path.{◌≡◌, sym, ap₂, subst, ◌∙◌}
use mathlib.Core.Bool.{Bool, true, false}
use Prim.Native.Nat.{◌≤◌}
use lib.ListN.{length}
use Rattle.text.specs.Ascii.{bytes}
use Rattle.request.specs.declared.Cursor.{Cursor}
use Rattle.request.specs.declared.FloatLine.{FloatLine}
use Rattle.request.specs.Lines.{float_line_of}
use Rattle.request.specs.Request.{lo_of, hi_of, tol_of}
use Rattle.request.proofs.Within.{n_within, lo-within, hi-within}
use Rattle.request.proofs.Made.{interval-is}
use Rattle.request.proofs.interval_lines.Statement.{statement}
use Rattle.request.proofs.interval_lines.Tie as tie

-- what the lines hold, one after the other
lo-is : (c : tie.After-float_line-lo) → c.float_line-lo.result ≡ lo_of c.args.text.now
unfolding lo_of
lo-is c = let s = c in c.float_line-lo.ensures ∙ ap₂ (λ (d : Cursor) (w : Bool). float_line_of s.args.text.now d (bytes "lo=") w false) s.requires.0 s.requires.1

hi-is : (c : tie.After-float_line-hi) → c.float_line-hi.result ≡ hi_of c.args.text.now
unfolding hi_of
hi-is c = let s = c in c.float_line-hi.ensures ∙ ap₂ (λ (l : FloatLine) (w : Bool). float_line_of s.args.text.now l.cursor (bytes "hi=") w false) (lo-is c.before.before.before.before) s.requires.1

tol-is : (c : tie.After-float_line-last) → c.float_line-last.result ≡ tol_of c.args.text.now
unfolding tol_of
tol-is c = let s = c in c.float_line-last.ensures ∙ ap₂ (λ (l : FloatLine) (w : Bool). float_line_of s.args.text.now l.cursor (bytes "tol=") w true) (hi-is c.before.before.before.before) s.requires.2

float-line-requires : tie.Need-float_line-lo-requires
float-line-requires c κs = let s = c in subst (λ (d : Cursor). d.at ≤ length s.args.text.now) (sym s.requires.0) (n_within s.args.text.now)

float-line-requires-2 : tie.Need-float_line-hi-requires
float-line-requires-2 c κs = let s = c in subst (λ (l : FloatLine). l.cursor.at ≤ length s.args.text.now) (sym (lo-is c.before.before.before)) (lo-within s.args.text.now)

float-line-requires-3 : tie.Need-float_line-last-requires
float-line-requires-3 c κs = let s = c in subst (λ (l : FloatLine). l.cursor.at ≤ length s.args.text.now) (sym (hi-is c.before.before.before)) (hi-within s.args.text.now)

returns : tie.Need-returns
returns c =
    let t = c in
    let h = t in
    let l = h in
    interval-is l.args.text.now l.float_line-lo.result h.float_line-hi.result t.float_line-last.result (lo-is l.before.before.before.before.before.before.before.before.before) (hi-is h.before.before.before.before.before) (tol-is t.before)

pub interval_lines_spec : {M : Type 1} → statement M
interval_lines_spec =
    tie.close
    (tie.spec float-line-requires float-line-requires-2 float-line-requires-3 returns)
