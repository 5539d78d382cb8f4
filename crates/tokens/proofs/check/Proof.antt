-- `tokens::check` meets its contract. The loop's invariant: the words from here on decide.
use mathlib.Core.Path.{◌≡◌, refl, sym, ap, ◌∙◌}
use Prim.Native.Nat.{◌≤◌, ◌+◌, ◌-◌}
use native.Mathlib.Omega.{arith}
use borrow.Author.Rules.{rules}
use lib.ListN.{length, take, drop}
use Rattle.tokens.specs.declared.Height.{Height}
use Rattle.tokens.specs.Spelling.{token_of}
use Rattle.tokens.specs.Words.{words_of}
use Rattle.tokens.specs.Heights.{is_bad, after, finish, check_from, check_of}
use Rattle.tokens.proofs.Heights.{end-within, turn-bad, turn_end, turn_more, word_some, after-grows}
use Rattle.tokens.proofs.check.Statement.{statement}
use Rattle.tokens.proofs.check.Tie as tie

abbrev invariant-loop : tie.invariant-loop-at
invariant-loop text height₀ at₀ height at =
    (at ≤ length text) × (height.values ≤ at) × (check_from (length text) at height (words_of (drop at text)) ≡ check_of text)

abbrev decreases-loop : tie.decreases-loop-at
decreases-loop text height₀ at₀ height at = length text - at

loop-holds : tie.Need-loop-at-init invariant-loop decreases-loop
unfolding check_of
loop-holds c = (omega arith, omega arith, refl)

word-end-requires : tie.Need-word_end-end-requires invariant-loop decreases-loop
word-end-requires c κs = tt

sub-token-of : tie.Need-slice_bounds-token_of-count invariant-loop decreases-loop
sub-token-of c = omega (arith, c.word_end-end.ensures)

part-token-of-start : tie.Need-slice_bounds-token_of-start invariant-loop decreases-loop
part-token-of-start c = search rules

part-token-of-end : tie.Need-slice_bounds-token_of-end invariant-loop decreases-loop
part-token-of-end c =
    let l = c in
    end-within l.args.text.now l.loop-at.at c.word_end-end.result l.loop-at.invariant.0 c.word_end-end.ensures

token-of-requires : tie.Need-token_of-token-requires invariant-loop decreases-loop
token-of-requires c κs = tt

is-bad-requires : tie.Need-is_bad-requires invariant-loop decreases-loop
is-bad-requires c κs = tt

-- the test of a turn
test : (c : tie.After-is_bad invariant-loop decreases-loop)
    → is_bad (token_of (take (c.word_end-end.result - c.loop-at.at) (drop c.loop-at.at c.args.text.now))) c.loop-at.height ≡ c.is_bad.result
test c =
    let l = c in
    ap (λ t. is_bad t l.loop-at.height) (sym c.token_of-token.ensures) ∙ sym c.is_bad.ensures

returns : tie.Need-returns-then-is_bad invariant-loop decreases-loop
returns c =
    let w = c in
    let l = w in
    let s = l.args in
    turn-bad s.text.now l.loop-at.at w.word_end-end.result l.loop-at.invariant.0 w.word_end-end.ensures l.loop-at.height
    (test c.before ∙ c.if-is_bad.true) ∙ l.loop-at.invariant.2

after-requires : tie.Need-after-height-requires invariant-loop decreases-loop
after-requires c κs =
    let w = c in
    let l = w in
    let s = l.args in
    omega (arith, end-within s.text.now l.loop-at.at w.word_end-end.result l.loop-at.invariant.0 w.word_end-end.ensures, word_some s.text.now l.loop-at.at w.word_end-end.result l.loop-at.height (test c.before ∙ c.if-is_bad.false), l.loop-at.invariant.1)

finish-requires : tie.Need-finish-requires invariant-loop decreases-loop
finish-requires c κs = tt

returns-2 : tie.Need-returns-then-end-text invariant-loop decreases-loop
returns-2 c =
    let a = c in
    let w = a in
    let l = w in
    let s = l.args in
    c.finish.ensures ∙ ap (λ h. finish w.word_end-end.result h) (a.after-height.ensures ∙ ap (λ t. after t l.loop-at.height) a.token_of-token.ensures)
    ∙ turn_end s.text.now l.loop-at.at w.word_end-end.result l.loop-at.invariant.0 w.word_end-end.ensures l.loop-at.height (test a.before.before.before.before ∙ a.if-is_bad.false) c.if-end-text.true ∙ l.loop-at.invariant.2

add_at : tie.Need-overflow_add-at invariant-loop decreases-loop
add_at c =
    let a = c in
    let w = a in
    let l = w in
    let s = l.args in
    omega (arith, end-within s.text.now l.loop-at.at w.word_end-end.result l.loop-at.invariant.0 w.word_end-end.ensures, c.if-end-text.false)

loop-less : tie.Need-loop-at-smaller invariant-loop decreases-loop
loop-less c =
    let a = c in
    let w = a in
    let l = w in
    let s = l.args in
    omega (arith, end-within s.text.now l.loop-at.at w.word_end-end.result l.loop-at.invariant.0 w.word_end-end.ensures, c.if-end-text.false, w.word_end-end.ensures)

loop-again : tie.Need-loop-at-preserved invariant-loop decreases-loop
loop-again c =
    let a = c in
    let w = a in
    let l = w in
    let s = l.args in (
      omega (arith, end-within s.text.now l.loop-at.at w.word_end-end.result l.loop-at.invariant.0 w.word_end-end.ensures, c.if-end-text.false),
      omega (arith, w.word_end-end.ensures, ap (λ (h : Height). h.values) a.after-height.ensures, after-grows a.token_of-token.result l.loop-at.height, l.loop-at.invariant.1),
      ap (λ h. check_from (length s.text.now) (w.word_end-end.result + 1) h (words_of (drop (w.word_end-end.result + 1) s.text.now))) (a.after-height.ensures ∙ ap (λ t. after t l.loop-at.height) a.token_of-token.ensures)
          ∙ turn_more s.text.now l.loop-at.at w.word_end-end.result l.loop-at.invariant.0 w.word_end-end.ensures l.loop-at.height (test a.before.before.before ∙ a.if-is_bad.false) c.if-end-text.false ∙ l.loop-at.invariant.2,
    )

finish-requires-2 : tie.Need-finish-requires-2 invariant-loop decreases-loop
finish-requires-2 c κs = tt

returns-3 : tie.Need-returns invariant-loop decreases-loop
returns-3 c = let l = c in absurd (omega (arith, l.loop-at.invariant.0, c.loop-at-test.false))

pub check_spec : {M : Type 1} → statement M
check_spec =
    tie.close
    (tie.spec
    invariant-loop
    decreases-loop
    loop-holds
    word-end-requires
    sub-token-of
    part-token-of-start
    part-token-of-end
    token-of-requires
    is-bad-requires
    returns
    after-requires
    finish-requires
    returns-2
    add_at
    loop-less
    loop-again
    finish-requires-2
    returns-3)
