-- `reply::show_whole` meets its contract.
use borrow.Author.Rules.{rules}
use mathlib.Core.List.{[]}
use native.Mathlib.Omega.{arith}
use mathlib.Core.Path.{ap}
use mir.Facts.{to_z-of_z}
use Rattle.text.specs.Spell.{whole_text}
use Rattle.text.proofs.Lengths.{whole_length}
use Rattle.text.proofs.Pages.{lays-then, lays-as}
use Rattle.reply.proofs.Parts.{shows-one, shows-refused}
use Rattle.reply.proofs.Sizes.{shown-fits}
use Rattle.reply.proofs.show_whole.Statement.{statement}
use Rattle.reply.proofs.show_whole.Tie as tie

enum_told : tie.Need-enum_told-1
enum_told c = search rules

begin-requires : tie.Need-begin-first-requires
begin-requires c κs = tt

write-whole-requires : tie.Need-write_whole-behind-requires
write-whole-requires c κs = tt

end-requires : tie.Need-end-requires
end-requires c κs = tt

enum-known-o : tie.Need-enum_known-o
enum-known-o c = search rules

refuse-requires : tie.Need-refuse-requires
refuse-requires c κs = tt

same_length : tie.Need-shape_of-out-in-Ok
same_length c = search rules

returns : tie.Need-returns-in-Ok
returns c =
    let s = c.args in
    let x = s.w in
    let v = ap whole_text (to_z-of_z {w = Rattle.std.proofs.Common.w64} {z = x.value} (record { sfits = c.struct_told-1.given.1.0.1 })) in
    let e =
    shows-one s.op x.steps x.outcome (whole_text x.value) [] s.at s.out.now c.in-Ok.is
    (lays-then _ _ _ _ c.begin-first.ensures (lays-then _ _ _ _ (lays-as _ _ _ _ v c.write_whole-behind.ensures) c.end.ensures)) in
    (e.0, (e.1, shown-fits s.op x.outcome x.steps (whole_text x.value) [] (omega (arith, whole_length x.value))))

same-length-2 : tie.Need-shape_of-out-in-Err
same-length-2 c = search rules

returns-2 : tie.Need-returns-in-Err
returns-2 c =
    let s = c.args in
    let x = s.w in
    let e = shows-refused s.op x.steps x.outcome (whole_text x.value) [] s.at s.out.now c.in-Err.why c.in-Err.is c.refuse.ensures in
    (e.0, (e.1, shown-fits s.op x.outcome x.steps (whole_text x.value) [] (omega (arith, whole_length x.value))))

pub show_whole_spec : {M : Type 1} → statement M
show_whole_spec =
    tie.close
    (tie.spec
    enum_told
    begin-requires
    write-whole-requires
    end-requires
    enum-known-o
    refuse-requires
    same_length
    returns
    same-length-2
    returns-2)
