-- `tokens::token_of` meets its contract. Left of the check: a word's token, by its length and its first byte.
use Rattle.std.proofs.Common.{ap, ◌∙◌, arith}
use Rattle.tokens.specs.Spelling.{bits_of, const_of, pow_of, var_of}
use Rattle.tokens.proofs.Tokens.{tail-whole, token-none, token-one, token-const, token-pow, token-var, token-else}
use Rattle.tokens.proofs.token_of.Goals as goal

pub returns-then-word-eq0 : goal.returns-then-word-eq0
returns-then-word-eq0 c = record { is = token-none c.args.word.now c.if-word-eq0.true }

pub returns-then-word-eq1 : goal.returns-then-word-eq1
returns-then-word-eq1 c = record { is = c.mark.ensures ∙ token-one c.args.word.now c.if-word-eq1.true }

pub returns-then-b-eq99 : goal.returns-then-b-eq99
returns-then-b-eq99 c =
    let w = c.args.word.now in
    record { is = c.constant.ensures ∙ ap (λ l. const_of (bits_of l)) (tail-whole w) ∙ token-const w (omega arith) c.if-b-eq99.true }

pub returns-then-b-eq94 : goal.returns-then-b-eq94
returns-then-b-eq94 c =
    let w = c.args.word.now in
    record { is = c.power.ensures ∙ ap (λ l. pow_of (bits_of l)) (tail-whole w) ∙ token-pow w (omega arith) c.if-b-eq94.true }

pub returns-then-b-eq118 : goal.returns-then-b-eq118
returns-then-b-eq118 c =
    let w = c.args.word.now in
    record { is = c.variable.ensures ∙ ap var_of (tail-whole w) ∙ token-var w (omega arith) c.if-b-eq118.true }

pub returns-else-b-eq118 : goal.returns-else-b-eq118
returns-else-b-eq118 c = record { is = token-else c.args.word.now (omega arith) c.if-b-eq99.false c.if-b-eq94.false c.if-b-eq118.false }
