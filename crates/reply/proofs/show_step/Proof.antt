-- `reply::show_step` meets its contract.
use Rattle.ratio.specs.Refusal.{no_refusal}
use Rattle.std.specs.Prelude.{Ok}
use borrow.Author.Rules.{rules}
use mathlib.Core.Path.{refl, sym, ap}
use mathlib.Core.List.{[]}
use Rattle.text.specs.Spell.{ratio_text}
use Rattle.text.proofs.Pages.{lays-then, lays-as}
use Rattle.reply.specs.Results.{value_text}
use Rattle.reply.proofs.Parts.{shows-one}
use Rattle.reply.proofs.Sizes.{value-fits}
use Rattle.reply.proofs.show_step.Statement.{statement}
use Rattle.reply.proofs.show_step.Tie as tie

enum-known-s : tie.Need-enum_known-s
enum-known-s c = search rules

begin-requires : tie.Need-begin-first-requires
begin-requires c κs = tt

write-ratio-requires : tie.Need-write_ratio-behind-requires
write-ratio-requires c κs = tt

end-requires : tie.Need-end-requires
end-requires c κs = tt

enum-known-s-2 : tie.Need-enum_known-s-in-Err-1
enum-known-s-2 c = search rules

refuse-requires : tie.Need-refuse-requires
refuse-requires c κs = tt

same_length : tie.Need-shape_of-out-in-Ok
same_length c = search rules

returns : tie.Need-returns-in-Ok
returns c =
    let s = c.args in
    let e =
    shows-one s.op 0 no_refusal (ratio_text c.in-Ok.v) [] s.at s.out.now refl
    (lays-then _ _ _ _ c.begin-first.ensures (lays-then _ _ _ _ c.write_ratio-behind.ensures c.end.ensures)) in
    let f = lays-as _ _ _ _ (sym (ap (value_text s.op) c.in-Ok.is)) e in
    (f.0, (f.1, value-fits s.op s.s))

same-length-2 : tie.Need-shape_of-out-in-Err
same-length-2 c = search rules

returns-2 : tie.Need-returns-in-Err
returns-2 c =
    let s = c.args in
    let f = lays-as _ _ _ _ (sym (ap (value_text s.op) c.in-Err.is)) c.refuse.ensures in
    (f.0, (f.1, value-fits s.op s.s))

pub show_step_spec : {M : Type 1} → statement M
show_step_spec =
    tie.close
    (tie.spec
    enum-known-s
    begin-requires
    write-ratio-requires
    end-requires
    enum-known-s-2
    refuse-requires
    same_length
    returns
    same-length-2
    returns-2)
