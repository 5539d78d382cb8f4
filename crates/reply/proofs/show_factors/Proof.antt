-- `reply::show_factors` meets its contract.
use borrow.Author.Rules.{rules}
use mathlib.Core.List.{[], ◌++◌}
use Rattle.factor.specs.Rebuild.{factors_in}
use Rattle.text.specs.Spell.{ratio_text}
use Rattle.text.proofs.Pages.{lays-then}
use Rattle.reply.specs.Results.{pieces_text}
use Rattle.reply.proofs.Parts.{shows-one, shows-refused}
use Rattle.reply.proofs.Factors.{factored-fits}
use Rattle.reply.proofs.show_factors.Statement.{statement}
use Rattle.reply.proofs.show_factors.Tie as tie

enum_told : tie.Need-enum_told-1
enum_told c = search rules

begin-requires : tie.Need-begin-first-requires
begin-requires c κs = tt

write-ratio-requires : tie.Need-write_ratio-behind-requires
write-ratio-requires c κs = tt

write-pieces-requires : tie.Need-write_pieces-last-requires
write-pieces-requires c κs = tt

end-requires : tie.Need-end-requires
end-requires c κs = tt

enum-known-o : tie.Need-enum_known-o
enum-known-o c = search rules

refuse-requires : tie.Need-refuse-requires
refuse-requires c κs = tt

same_length : tie.Need-shape_of-out-in-Ok
same_length c = search rules

returns : tie.Need-returns-in-Ok
returns c =
    let s = c.args in
    let x = s.f in
    let e =
    shows-one s.op 0 x.outcome (ratio_text x.content ++ pieces_text (factors_in x)) [] s.at s.out.now c.in-Ok.is
    (lays-then _ _ _ _ c.begin-first.ensures (
    lays-then _ _ _ _ (lays-then _ _ _ _ c.write_ratio-behind.ensures c.write_pieces-last.ensures) c.end.ensures)) in
    (e.0, (e.1, factored-fits s.op x))

same-length-2 : tie.Need-shape_of-out-in-Err
same-length-2 c = search rules

returns-2 : tie.Need-returns-in-Err
returns-2 c =
    let s = c.args in
    let x = s.f in
    let e = shows-refused s.op 0 x.outcome (ratio_text x.content ++ pieces_text (factors_in x)) [] s.at s.out.now c.in-Err.why c.in-Err.is c.refuse.ensures in
    (e.0, (e.1, factored-fits s.op x))

pub show_factors_spec : {M : Type 1} → statement M
show_factors_spec =
    tie.close
    (tie.spec
    enum_told
    begin-requires
    write-ratio-requires
    write-pieces-requires
    end-requires
    enum-known-o
    refuse-requires
    same_length
    returns
    same-length-2
    returns-2)
