-- `calls::told_factor` meets its contract.
use mathlib.Core.Path.{◌≡◌, ap, ◌∙◌}
use mathlib.Core.List.{[]}
use Prim.Native.Nat.{◌%◌}
use native.Mathlib.Omega.{arith}
use borrow.Author.Tests.{lt-ltb, le-ltb}
use lib.IntN.{ℤ}
use lib.ListN.{length, get_or}
use Rattle.ratio.proofs.Words.{size_back}
use Rattle.terms.specs.declared.Poly.{Poly}
use Rattle.terms.specs.Machine.{whole_r}
use Rattle.terms.proofs.Lists.{long, get_d_any}
use Rattle.remainders.specs.declared.Division.{Division}
use Rattle.yun.specs.declared.Piece.{Piece}
use Rattle.yun.specs.Answer.{no_piece}
use Rattle.calls.specs.Call.{constant_of, piece_told}
use borrow.Author.Rules.{rules}
use Rattle.calls.proofs.told_factor.Statement.{statement}
use Rattle.calls.proofs.told_factor.Tie as tie

told-content-requires : tie.Need-told_content-requires
told-content-requires c κs = search rules

told-content-requires-2 : tie.Need-told_content-requires-then-at-len
told-content-requires-2 c κs = search rules

mul-piece : tie.Need-offset_bounds-f-at
mul-piece c = search rules

element-copy-out-piece : tie.Need-bounds-f-at
element-copy-out-piece c = search rules

cast-t20 : tie.Need-overflow_cast-times
cast-t20 c = search rules

constant-requires : tie.Need-constant-requires
constant-requires c κs = search rules

returns : tie.Need-returns-then-at-ge32
returns c = rw (le-ltb c.args.at 32 c.if-at-ge32.true) c.told_content.ensures

returns-2 : tie.Need-returns-then-at-len
returns-2 c = rw (lt-ltb c.args.at 32 c.if-at-ge32.false, le-ltb c.args.at c.args.f.len c.if-at-len.true) c.told_content-then-at-len.ensures

returns-3 : tie.Need-returns-else-at-len
returns-3 c =
    let s = c in
    let f = s.args.f in
    let n : length f.pieces ≡ 32 = search (rules, long) in
    let past : Piece = record { poly = record { coeffs = []; len = 0 }; times = 0 } in
    let p : Piece = get_or f.pieces s.args.at past in
    rw (lt-ltb s.args.at 32 c.if-at-ge32.false, lt-ltb s.args.at f.len c.if-at-len.false)
    (ap {B = Division} (λ (q : Poly). record { outcome = f.outcome; quotient = p.poly; rest = q; steps = f.len }) (c.constant.ensures ∙ ap (λ (z : ℤ). constant_of (whole_r z)) (size_back (p.times % 64) (omega arith)))
    ∙ ap (piece_told f) (get_d_any f.pieces s.args.at past no_piece (omega arith)))

pub told_factor_spec : {M : Type 1} → statement M
told_factor_spec =
    tie.close
    (tie.spec
    told-content-requires
    told-content-requires-2
    mul-piece
    element-copy-out-piece
    cast-t20
    constant-requires
    returns
    returns-2
    returns-3)
