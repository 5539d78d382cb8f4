-- `reply::show_division` meets its contract.
use borrow.Author.Rules.{rules}
use native.Mathlib.Omega.{arith}
use mathlib.Core.Path.{◌≡◌}
use lib.ListN.{length}
use Rattle.terms.proofs.Lists.{long}
use Rattle.terms.specs.Poly.{terms_of}
use Rattle.text.specs.Spell.{poly_text}
use Rattle.text.proofs.Pages.{lays-then}
use Rattle.reply.proofs.Parts.{shows-both, shows-refused}
use Rattle.reply.proofs.Sizes.{shown-fits, poly-room}
use Rattle.reply.proofs.show_division.Statement.{statement}
use Rattle.reply.proofs.show_division.Tie as tie

enum_told : tie.Need-enum_told-1
enum_told c = search rules

begin-requires : tie.Need-begin-first-requires
begin-requires c κs = tt

write-poly-requires : tie.Need-write_poly-behind-requires
write-poly-requires c κs = tt

write-bytes-requires : tie.Need-write_bytes-second-requires
write-bytes-requires c κs = tt

write-poly-requires-2 : tie.Need-write_poly-last-requires
write-poly-requires-2 c κs = tt

finish-requires : tie.Need-finish-requires
finish-requires c κs = tt

enum-known-o : tie.Need-enum_known-o
enum-known-o c = search rules

refuse-requires : tie.Need-refuse-requires
refuse-requires c κs = tt

same_length : tie.Need-shape_of-out-in-Ok
same_length c = search rules

returns : tie.Need-returns-in-Ok
returns c =
    let t = c in
    let s = t.args in
    let x = s.d in
    let q : length x.quotient.coeffs ≡ 32 = search (rules, long) in
    let r : length x.rest.coeffs ≡ 32 = search (rules, long) in
    let e =
    shows-both s.op x.steps x.outcome (poly_text (terms_of x.quotient)) (poly_text (terms_of x.rest)) s.at s.out.now c.in-Ok.is
    (lays-then _ _ _ _ c.begin-first.ensures (
    lays-then _ _ _ _ c.write_poly-behind.ensures (
    lays-then _ _ _ _ c.write_bytes-second.ensures (
    lays-then _ _ _ _ c.write_poly-last.ensures c.finish.ensures)))) in
    (e.0, (e.1, shown-fits s.op x.outcome x.steps (poly_text (terms_of x.quotient)) (poly_text (terms_of x.rest)) (omega (arith, poly-room x.quotient q, poly-room x.rest r))))

same-length-2 : tie.Need-shape_of-out-in-Err
same-length-2 c = search rules

returns-2 : tie.Need-returns-in-Err
returns-2 c =
    let s = c.args in
    let x = s.d in
    let q : length x.quotient.coeffs ≡ 32 = search (rules, long) in
    let r : length x.rest.coeffs ≡ 32 = search (rules, long) in
    let e = shows-refused s.op x.steps x.outcome (poly_text (terms_of x.quotient)) (poly_text (terms_of x.rest)) s.at s.out.now c.in-Err.why c.in-Err.is c.refuse.ensures in
    (e.0, (e.1, shown-fits s.op x.outcome x.steps (poly_text (terms_of x.quotient)) (poly_text (terms_of x.rest)) (omega (arith, poly-room x.quotient q, poly-room x.rest r))))

pub show_division_spec : {M : Type 1} → statement M
show_division_spec =
    tie.close
    (tie.spec enum_told begin-requires write-poly-requires write-bytes-requires write-poly-requires-2 finish-requires enum-known-o refuse-requires same_length returns same-length-2 returns-2)
