-- `reading::read_ratio` meets its contract. Left of the check: a word with a slash, and one without.
use Rattle.std.proofs.Common.{ap, ◌∙◌}
use mathlib.Core.Path.{ap₂}
use Rattle.reading.specs.Numbers.{denominator_of, whole_step, fraction_step}
use Rattle.reading.proofs.Polys.{ratio-both}
use Rattle.reading.proofs.Parts.{rest-whole, ratio-fraction, ratio-whole}
use Rattle.reading.proofs.read_ratio.Goals as goal

pub returns-then-end-word-clause-is : goal.returns-then-end-word-clause-is
returns-then-end-word-clause-is c =
    let w = c.args.word.now in
    c.fraction.ensures ∙ ap₂ fraction_step c.numerator.ensures (c.denominator.ensures ∙ ap denominator_of (rest-whole w _)) ∙ ratio-fraction w _ c.part_end-end.ensures.is c.if-end-word.true

pub returns-then-end-word-clause-promise : goal.returns-then-end-word-clause-promise
returns-then-end-word-clause-promise c = (ratio-both c.args.word.now (returns-then-end-word-clause-is c)).1

pub returns-else-end-word-clause-is : goal.returns-else-end-word-clause-is
returns-else-end-word-clause-is c =
    let w = c.args.word.now in
    c.integer.ensures ∙ ap whole_step c.numerator-else-end-word.ensures ∙ ratio-whole w _ c.part_end-end.ensures.is c.if-end-word.false

pub returns-else-end-word-clause-promise : goal.returns-else-end-word-clause-promise
returns-else-end-word-clause-promise c = (ratio-both c.args.word.now (returns-else-end-word-clause-is c)).1
