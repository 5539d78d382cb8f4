-- `chain::follow` meets its contract: a link that is refused refuses the whole, and any other goes on with it.
use mathlib.Core.Path.{refl, ◌∙◌}
use native.Mathlib.Omega.{arith}
use Rattle.terms.specs.Poly.{terms_of}
use Rattle.chain.proofs.CodeFollow.{going-none, going_end, going-room, going-refused, going-short, going_more}
use Rattle.chain.proofs.follow.Goals as goal

pub loop-a-init : goal.loop-a-init
loop-a-init c =
    let r = c.requires in
    going-none c.args.p c.args.d c.empty-out.result _ r.0 r.1 r.2 c.empty-out.ensures refl

pub bounds-out-n : goal.bounds-out-n
bounds-out-n c =
    let l = c.loop-a in
    going-room (terms_of c.args.p) (terms_of c.args.d) l.out (terms_of l.a) l.b l.invariant (omega (arith, c.length.ensures))

pub returns-in-Err : goal.returns-in-Err
returns-in-Err c =
    let l = c.loop-a in
    c.refused.ensures.is ∙ going-refused (terms_of c.args.p) (terms_of c.args.d) l.out (terms_of l.a) l.b l.invariant (omega (arith, c.length.ensures)) c.next-r.result c.next-r.ensures _ c.in-Err.is

pub loop-a-smaller : goal.loop-a-smaller
loop-a-smaller c =
    let l = c.loop-a in
    going-short (terms_of c.args.p) (terms_of c.args.d) l.out (terms_of l.a) l.b l.invariant (omega (arith, c.length.ensures)) c.next-r.result c.next-r.ensures c.in_default.is

pub loop-a-preserved : goal.loop-a-preserved
loop-a-preserved c =
    let l = c.loop-a in
    going_more (terms_of c.args.p) (terms_of c.args.d) l.out (terms_of l.a) l.b l.invariant (omega (arith, c.length.ensures)) c.next-r.result c.next-r.ensures _ refl c.in_default.is

pub returns : goal.returns
returns c =
    let l = c.loop-a in
    going_end (terms_of c.args.p) (terms_of c.args.d) l.out (terms_of l.a) l.b l.invariant (omega (arith, c.length.ensures))
