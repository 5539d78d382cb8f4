-- `request::poly_line` meets its contract.
use mathlib.Core.Path.{ap, ◌∙◌}
use Prim.Native.Nat.{◌≤◌}
use native.Mathlib.Omega.{arith}
use borrow.Author.Tests.{not-true, not-false}
use lib.ListN.{length}
use Rattle.request.specs.Lines.{no_poly}
use Rattle.request.proofs.Within.{opened-within, part-within, placed}
use Rattle.request.proofs.Lined.{poly-not, poly-wanted, poly-bad, poly-done, poly-malformed, poly-long}
use borrow.Author.Rules.{rules}
use Rattle.request.proofs.poly_line.Statement.{statement}
use Rattle.request.proofs.poly_line.Tie as tie

no-poly-requires : tie.Need-no_poly-requires
no-poly-requires c κs = tt

returns : tie.Need-returns-then-not-wanted
returns c = let s = c.args in c.no_poly.ensures ∙ poly-not s.text.now s.c s.key.now s.wanted (not-true s.wanted c.if-not-wanted.true-raw)

open-requires : tie.Need-open-v-requires
open-requires c κs = c.requires.0

no-poly-requires-2 : tie.Need-no_poly-requires-then-v
no-poly-requires-2 c κs = tt

returns-2 : tie.Need-returns-then-v
returns-2 c =
    let o = c in
    let v = o.open-v.result in
    let s = o.args in
    c.no_poly-then-v.ensures ∙ poly-wanted s.text.now s.c s.key.now s.wanted (not-false s.wanted o.if-not-wanted.false-raw) v o.open-v.ensures (poly-bad s.text.now v c.if-v.true)

part-end-requires : tie.Need-part_end-end-requires
part-end-requires c κs = tt

sub-read-poly : tie.Need-slice_bounds-read_poly-count
sub-read-poly c = search rules

part-read-poly-start : tie.Need-slice_bounds-read_poly-start
part-read-poly-start c = search rules

-- behind the key reading stands within the text
stands : (c : tie.After-open-v) → c.open-v.result.at ≤ length c.args.text.now
stands c =
    let s = c in
    rw c.open-v.ensures (opened-within s.args.text.now s.args.key.now s.args.c s.requires.0)

part-read-poly-end : tie.Need-slice_bounds-read_poly-end
part-read-poly-end c =
    let o = c in
    rw c.part_end-end.ensures (part-within o.args.text.now o.open-v.result.at (stands o.before.before))

read-poly-requires : tie.Need-read_poly-r-requires
read-poly-requires c κs = tt

enum-known-o : tie.Need-enum_known-o
enum-known-o c = search rules

enum_told : tie.Need-enum_told-1
enum_told c = search rules

close-requires : tie.Need-close-requires
close-requires c κs = tt

returns-3 : tie.Need-returns-in_default
returns-3 c =
    let r = c in
    let e = r in
    let o = e in
    let v = o.open-v.result in
    let s = o.args in
    rw c.close.ensures (poly-wanted s.text.now s.c s.key.now s.wanted (not-false s.wanted o.if-not-wanted.false-raw) v o.open-v.ensures (poly-done s.text.now v e.if-v.false e.part_end-end.result e.part_end-end.ensures r.read_poly-r.result r.read_poly-r.ensures.0 c.in_default.is))

enum-known-why : tie.Need-enum_known-why
enum-known-why c = search rules

add-stopped : tie.Need-overflow_add-at
add-stopped c =
    let r = c in
    let e = r in
    let o = e in
    let v = o.open-v.result in
    let s = o.args in
    omega (arith, placed s.text.now v (stands o.before.before.before.before.before.before) e.part_end-end.result e.part_end-end.ensures r.read_poly-r.result r.read_poly-r.ensures.0 c.in-Err.is _ c.in-Malformed.is, o.requires.1)

stopped-requires : tie.Need-stopped-requires
stopped-requires c κs = tt

no-poly-requires-3 : tie.Need-no_poly-requires-in-Malformed
no-poly-requires-3 c κs = tt

close-requires-2 : tie.Need-close-requires-in_default-why
close-requires-2 c κs = tt

no-poly-requires-4 : tie.Need-no_poly-requires-in_default-why
no-poly-requires-4 c κs = tt

returns-4 : tie.Need-returns-in-Malformed
returns-4 c =
    let k = c in
    let r = k in
    let e = r in
    let o = e in
    let v = o.open-v.result in
    let s = o.args in
    c.no_poly-in-Malformed.ensures ∙ ap no_poly c.stopped.ensures ∙ poly-wanted s.text.now s.c s.key.now s.wanted (not-false s.wanted o.if-not-wanted.false-raw) v o.open-v.ensures (poly-malformed s.text.now v e.if-v.false e.part_end-end.result e.part_end-end.ensures r.read_poly-r.result r.read_poly-r.ensures.0 k.in-Err.is _ k.in-Malformed.is)

returns-5 : tie.Need-returns-in_default-why
returns-5 c =
    let m = c in
    let r = m in
    let e = r in
    let o = e in
    let v = o.open-v.result in
    let s = o.args in
    c.no_poly-in_default-why.ensures ∙ ap no_poly c.close-in_default-why.ensures ∙ poly-wanted s.text.now s.c s.key.now s.wanted (not-false s.wanted o.if-not-wanted.false-raw) v o.open-v.ensures (poly-long s.text.now v e.if-v.false e.part_end-end.result e.part_end-end.ensures r.read_poly-r.result r.read_poly-r.ensures.0 _ m.in-Err.is m.in_default-why.in_default-why-own.keys2)

pub poly_line_spec : {M : Type 1} → statement M
poly_line_spec =
    tie.close
    (tie.spec
    no-poly-requires
    returns
    open-requires
    no-poly-requires-2
    returns-2
    part-end-requires
    sub-read-poly
    part-read-poly-start
    part-read-poly-end
    read-poly-requires
    enum-known-o
    enum_told
    close-requires
    returns-3
    enum-known-why
    add-stopped
    stopped-requires
    no-poly-requires-3
    close-requires-2
    no-poly-requires-4
    returns-4
    returns-5)
