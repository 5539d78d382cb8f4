-- `reply::show_roots` meets its contract.
use borrow.Author.Rules.{rules}
use mathlib.Core.List.{[]}
use Rattle.text.proofs.Pages.{lays-then}
use native.Mathlib.Omega.{arith}
use mathlib.Core.Path.{◌≡◌}
use lib.ListN.{length, take}
use Rattle.terms.proofs.Lists.{long}
use Rattle.text.specs.Spell.{ratios_text}
use Rattle.reply.proofs.Parts.{shows-one, shows-refused}
use Rattle.reply.proofs.Sizes.{shown-fits, ratios-room}
use Rattle.reply.proofs.show_roots.Statement.{statement}
use Rattle.reply.proofs.show_roots.Tie as tie

enum_told : tie.Need-enum_told-1
enum_told c = search rules

begin-requires : tie.Need-begin-first-requires
begin-requires c κs = tt

write-ratios-requires : tie.Need-write_ratios-behind-requires
write-ratios-requires c κs = tt

end-requires : tie.Need-end-requires
end-requires c κs = tt

enum-known-o : tie.Need-enum_known-o
enum-known-o c = search rules

refuse-requires : tie.Need-refuse-requires
refuse-requires c κs = tt

same_length : tie.Need-shape_of-out-in-Ok
same_length c = search rules

returns : tie.Need-returns-in-Ok
returns c =
    let s = c.args in
    let x = s.r in
    let l : length x.values ≡ 32 = search (rules, long) in
    let e =
    shows-one s.op 0 x.outcome (ratios_text (take x.len x.values)) [] s.at s.out.now c.in-Ok.is
    (lays-then _ _ _ _ c.begin-first.ensures (lays-then _ _ _ _ c.write_ratios-behind.ensures c.end.ensures)) in
    (e.0, (e.1, shown-fits s.op x.outcome 0 (ratios_text (take x.len x.values)) [] (omega (arith, ratios-room x.len x.values l))))

same-length-2 : tie.Need-shape_of-out-in-Err
same-length-2 c = search rules

returns-2 : tie.Need-returns-in-Err
returns-2 c =
    let s = c.args in
    let x = s.r in
    let l : length x.values ≡ 32 = search (rules, long) in
    let e = shows-refused s.op 0 x.outcome (ratios_text (take x.len x.values)) [] s.at s.out.now c.in-Err.why c.in-Err.is c.refuse.ensures in
    (e.0, (e.1, shown-fits s.op x.outcome 0 (ratios_text (take x.len x.values)) [] (omega (arith, ratios-room x.len x.values l))))

pub show_roots_spec : {M : Type 1} → statement M
show_roots_spec =
    tie.close
    (tie.spec
    enum_told
    begin-requires
    write-ratios-requires
    end-requires
    enum-known-o
    refuse-requires
    same_length
    returns
    same-length-2
    returns-2)
