-- `reading::numerator` meets its contract. Left of the check: the sign, by the first byte.
use Rattle.std.proofs.Common.{ap, ◌∙◌, true, false, arith}
use Rattle.tokens.specs.Spelling.{natural_of}
use Rattle.reading.specs.Numbers.{whole_of}
use Rattle.reading.proofs.Parts.{rest-whole, numerator-none, numerator-below, numerator-above}
use Rattle.reading.proofs.numerator.Goals as goal

pub returns-then-word-eq0 : goal.returns-then-word-eq0
returns-then-word-eq0 c = numerator-none c.args.word.now c.if-word-eq0.true

pub returns-then-word-eq45 : goal.returns-then-word-eq45
returns-then-word-eq45 c =
    let w = c.args.word.now in
    c.signed.ensures ∙ ap (whole_of true) (c.natural.ensures.is ∙ ap natural_of (rest-whole w 1)) ∙ numerator-below w (omega arith) c.if-word-eq45.true

pub returns-else-word-eq45 : goal.returns-else-word-eq45
returns-else-word-eq45 c =
    let w = c.args.word.now in
    c.signed-else-word-eq45.ensures ∙ ap (whole_of false) c.natural-else-word-eq45.ensures.is ∙ numerator-above w (omega arith) c.if-word-eq45.false
