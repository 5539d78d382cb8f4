-- `yun::whole` meets its contract.
use mathlib.Core.Path.{◌≡◌, ap}
use native.Mathlib.Omega.{arith}
use Rattle.terms.specs.Poly.{terms_of}
use Rattle.yun.specs.declared.Decomposition.{Decomposition}
use Rattle.yun.proofs.CodeFound.{stored-first, room-few}
use Rattle.yun.proofs.whole.Statement.{statement}
use Rattle.yun.proofs.whole.Tie as tie

-- nothing is found yet
none : (c : tie.After-nothing-out) → c.nothing-out.result.len ≡ 0
none c = ap (λ (d : Decomposition). d.len) c.nothing-out.ensures

nothing-requires : tie.Need-nothing-out-requires
nothing-requires c κs = tt

piece-of-requires : tie.Need-piece_of-requires
piece-of-requires c κs = c.requires

mul-t6 : tie.Need-offset_bounds-out-n
mul-t6 c = omega (arith, none c.before)

element-set-from-out : tie.Need-bounds-out-n
element-set-from-out c = omega (arith, none c.before)

room-requires : tie.Need-room-requires
room-requires c κs = tt

add-out : tie.Need-overflow_add-out
add-out c = omega (arith, none c.before.before, c.room.ensures, room-few (terms_of c.args.f))

returns : tie.Need-returns
returns c =
    let n = c in
    stored-first n.nothing-out.result (terms_of n.args.f) c.piece_of.result c.room.result n.nothing-out.ensures c.piece_of.ensures c.room.ensures

pub whole_spec : {M : Type 1} → statement M
whole_spec =
    tie.close
    (tie.spec
    nothing-requires
    piece-of-requires
    mul-t6
    element-set-from-out
    room-requires
    add-out
    returns)
