-- `horner::to_lowered` meets its contract.
use borrow.Author.Rules.{rules}
use mathlib.Core.Path.{◌≡◌, ap, ap₂, ◌∙◌}
use native.Mathlib.Omega.{arith}
use Rattle.poly.specs.Door.{both}
use Rattle.terms.proofs.Lists.{long}
use Rattle.horner.specs.Written.{doors, done_after}
use Rattle.horner.proofs.Answers.{index-open, no_room, all-written, shut_out}
use Rattle.horner.proofs.to_lowered.Statement.{statement}
use Rattle.horner.proofs.to_lowered.Tie as tie

-- the door that was found is the model's
gate : (c : tie.After-both-d) → c.both-d.result ≡ doors c.args.p c.args.wrt
gate c = c.both-d.ensures ∙ ap₂ both c.index_door.ensures c.door.ensures

index-door-requires : tie.Need-index_door-requires
index-door-requires c κs = tt

door-requires : tie.Need-door-requires
door-requires c κs = tt

both-requires : tie.Need-both-d-requires
both-requires c κs = tt

enum_told : tie.Need-enum_told-1
enum_told c = c.in-Open-1.keys1

size-requires : tie.Need-size-len-requires
size-requires c κs = let s = c.args in index-open s.p s.wrt s.out.now _ (gate c.before) c.in-Open.is

refused-requires : tie.Need-refused-requires
refused-requires c κs = tt

returns : tie.Need-returns-then-out-len
returns c =
    let g = c in
    let s = g.args in
    no_room s.p s.wrt s.out.now g.both-d.result (gate g.before.before.before.before) c.in-Open.is c.refused.result (omega (arith, c.size-len.ensures)) c.refused.ensures

write-requires : tie.Need-write-requires
write-requires c κs = tt

reason-requires : tie.Need-reason-requires
reason-requires c κs = tt

refused-requires-2 : tie.Need-refused-requires-in_default
refused-requires-2 c κs = tt

same_length : tie.Need-shape_of-out
same_length c = search rules

returns-2 : tie.Need-returns-else-out-len
returns-2 c =
    let g = c in
    let s = g.args in
    all-written s.p s.wrt s.out.now g.both-d.result (gate g.before.before.before.before.before.before.before) c.in-Open.is _ _ (search (rules, long)) (omega (arith, c.size-len.ensures)) (ap done_after c.size-len.ensures) c.write.ensures.1

returns-3 : tie.Need-returns-in_default
returns-3 c =
    let g = c in
    let s = g.args in
    shut_out s.p s.wrt s.out.now g.both-d.result (gate g.before.before.before) c.refused-in_default.result c.reason.result c.in_default.in_default-own.keys2 c.reason.ensures c.refused-in_default.ensures

pub to_lowered_spec : {M : Type 1} → statement M
to_lowered_spec =
    tie.close
    (tie.spec
    index-door-requires
    door-requires
    both-requires
    enum_told
    size-requires
    refused-requires
    returns
    write-requires
    reason-requires
    refused-requires-2
    same_length
    returns-2
    returns-3)
