-- `reply::write_pieces` meets its contract. The loop's invariant: the first i factors are laid.
use mathlib.Core.Path.{◌≡◌, sym, ap, ◌∙◌}
use Prim.Native.Nat.{◌≤◌, ◌<◌, ◌-◌}
use native.Mathlib.Omega.{arith}
use borrow.Author.Rules.{rules}
use lib.ListN.{length, take}
use lib.Seq.{take_all}
use Rattle.terms.proofs.Lists.{long}
use Rattle.text.proofs.Pages.{Lays, lays-none, lays-then, lays-as, lays-length}
use Rattle.reply.specs.Results.{pieces_text}
use Rattle.reply.proofs.Parts.{pieces_none, pieces_more}
use Rattle.reply.proofs.write_pieces.Statement.{statement}
use Rattle.reply.proofs.write_pieces.Tie as tie

abbrev invariant-loop : tie.invariant-loop-i
invariant-loop len out₀ at pieces next₀ i₀ out next i = (i ≤ 32) × (i ≤ len) × (length pieces ≡ 32) × Lays (pieces_text (take i pieces)) at out₀ next out

abbrev decreases-loop : tie.decreases-loop-i
decreases-loop len out₀ at pieces next₀ i₀ out next i = 32 - i

loop-holds : tie.Need-loop-i-init invariant-loop decreases-loop
loop-holds c = (omega arith, omega arith, search (rules, long), lays-as _ _ _ _ pieces_none (lays-none c.args.at c.args.out.now))

same_length : tie.Need-shape_of-out-then-i-len invariant-loop decreases-loop
same_length c = lays-length _ _ _ c.loop-i.invariant.3

returns : tie.Need-returns-then-i-len invariant-loop decreases-loop
returns c =
    let s = c.args in
    let e : c.loop-i.i ≡ s.len = omega arith in
    lays-as _ _ _ _ (ap (λ n. pieces_text (take n s.pieces)) e) c.loop-i.invariant.3

mul-write-piece : tie.Need-offset_bounds-pieces-i invariant-loop decreases-loop
mul-write-piece c = omega arith

array-copy-out-write-piece : tie.Need-bounds-pieces-i invariant-loop decreases-loop
array-copy-out-write-piece c = omega arith

write-piece-requires : tie.Need-write_piece-next-requires invariant-loop decreases-loop
write-piece-requires c κs = tt

add-i : tie.Need-overflow_add-i invariant-loop decreases-loop
add-i c = omega arith

loop-less : tie.Need-loop-i-smaller invariant-loop decreases-loop
loop-less c = omega arith

loop-again : tie.Need-loop-i-preserved invariant-loop decreases-loop
loop-again c =
    let l = c in
    let s = l.args in
    let i = l.loop-i.i in
    let h : i < length s.pieces = omega arith in (
      omega arith,
      omega arith,
      l.loop-i.invariant.2,
      lays-as _ _ _ _ (pieces_more i s.pieces _ h) (lays-then _ _ _ _ l.loop-i.invariant.3 c.write_piece-next.ensures),
    )

same-length-2 : tie.Need-shape_of-out invariant-loop decreases-loop
same-length-2 c = lays-length _ _ _ c.loop-i.invariant.3

returns-2 : tie.Need-returns invariant-loop decreases-loop
returns-2 c =
    let s = c.args in
    let i = c.loop-i.i in
    lays-as _ _ _ _ (ap pieces_text (take_all i s.pieces (omega arith) ∙ sym (take_all s.len s.pieces (omega arith)))) c.loop-i.invariant.3

pub write_pieces_spec : {M : Type 1} → statement M
write_pieces_spec =
    tie.close
    (tie.spec
    invariant-loop
    decreases-loop
    loop-holds
    same_length
    returns
    mul-write-piece
    array-copy-out-write-piece
    write-piece-requires
    add-i
    loop-less
    loop-again
    same-length-2
    returns-2)
