-- The first words are laid.
use Rattle.std.proofs.Common.{take, map}
use Rattle.text.specs.Spell.{parted}
use Rattle.text.proofs.Pages.{Lays}
use Rattle.text.proofs.write_words.Given as goal

abbrev pub invariant-loop-i : goal.invariant-loop-i
invariant-loop-i g l = Lays (parted (map g.W.Word.spelling (take l.i l.words))) l.at l.fn.out l.next l.out
