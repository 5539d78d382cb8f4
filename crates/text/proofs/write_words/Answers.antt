use Rattle.std.proofs.Common.{◌≡◌, ◌+◌, ◌++◌, take, map, sym, ap, ◌∙◌, take_all}
use Rattle.text.specs.Spell.{next_word, parted}
use lib.Dec.{eqb}
use Rattle.text.proofs.Pages.{Lays, lays-none, lays-then, lays-as}
use Rattle.text.proofs.Numbers.{words_more}
use Rattle.text.proofs.write_words.Goals as goal

pub loop-i-init : goal.loop-i-init
unfolding parted
loop-i-init g c = lays-none _ _

pub loop-i-preserved : goal.loop-i-preserved
loop-i-preserved g c =
    let f = g.W.Word.spelling in
    let l = c.args.words.now in
    let i = c.loop-i.i in
    let d = c.index-words-i.result in
    let e : parted (map f (take (i + 1) l)) ≡ parted (map f (take i l)) ++ next_word (eqb i 0) (f d) =
    words_more f l i d c.loop-i-test.true ∙ ap (λ x. parted (map f (take i l)) ++ next_word (eqb i 0) (f x)) (sym c.index-words-i.is) in
    lays-as _ _ _ _ (sym e) (lays-then _ _ _ _ c.loop-i.invariant (c.write_next-next.ensures.value, c.write_next-next.ensures.out_after))

whole : (g : _) (c : goal.After-loop-i g) → Lays (parted (map g.W.Word.spelling c.args.words.now)) c.args.at c.args.out.now c.loop-i.next c.loop-i.out
whole g c = lays-as _ _ _ _ (ap (λ l. parted (map g.W.Word.spelling l)) (take_all c.loop-i.i c.args.words.now c.loop-i-test.false)) c.loop-i.invariant

pub returns-clause-value : goal.returns-clause-value
returns-clause-value g c = (whole g c).0

pub returns-clause-out_after : goal.returns-clause-out_after
returns-clause-out_after g c = (whole g c).1
