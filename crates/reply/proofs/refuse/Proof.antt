-- `reply::refuse` meets its contract.
use borrow.Author.Rules.{rules}
use mathlib.Core.Path.{ap, ◌∙◌}
use mathlib.Core.List.{◌++◌}
use Rattle.text.proofs.Pages.{lays-then, lays-as}
use Rattle.reply.specs.Reply.{begin_text, end_text}
use Rattle.reply.proofs.Parts.{no_part}
use Rattle.reply.proofs.refuse.Statement.{statement}
use Rattle.reply.proofs.refuse.Tie as tie

number-requires : tie.Need-number-requires
number-requires c κs = tt

begin-requires : tie.Need-begin-a-requires
begin-requires c κs = tt

end-requires : tie.Need-end-requires
end-requires c κs = tt

same_length : tie.Need-shape_of-out
same_length c = search rules

returns : tie.Need-returns
returns c =
    let s = c.args in
    lays-as _ _ _ _ (ap (λ n. begin_text s.op n ++ end_text s.op s.steps) c.number.ensures ∙ no_part s.op s.steps s.why) (lays-then _ _ _ _ c.begin-a.ensures c.end.ensures)

pub refuse_spec : {M : Type 1} → statement M
refuse_spec = tie.close (tie.spec number-requires begin-requires end-requires same_length returns)
