-- `reading::top` meets its contract.
use mathlib.Core.Path.{ap, ◌∙◌}
use Rattle.ratio.proofs.Words.{nil-bits, some_bits}
use Rattle.terms.specs.Answer.{done_with}
use Rattle.reading.proofs.Hold.{top-alone, top-zero, top-long, top-done}
use Rattle.reading.proofs.top.Goals as goal

pub returns-then-n-eq0 : goal.returns-then-n-eq0
returns-then-n-eq0 c =
    let n = c in
    let s = n.args in
    λ l h. c.done.ensures.is ∙ ap (λ p. done_with p 0) c.zero.ensures.is ∙ top-alone l s.p s.c h s.at (nil-bits s.c.num (record { sfits = n.struct_told-1.given.0.1 }) n.if-c-eq0.true) c.if-n-eq0.true

pub returns-else-n-eq0 : goal.returns-else-n-eq0
returns-else-n-eq0 c =
    let n = c in
    let s = n.args in
    λ l h. c.bad.ensures ∙ top-zero l s.p s.c h s.at (nil-bits s.c.num (record { sfits = n.struct_told-1.given.0.1 }) n.if-c-eq0.true) c.if-n-eq0.false

pub returns-then-n-gt31 : goal.returns-then-n-gt31
returns-then-n-gt31 c =
    let n = c in
    let s = n.args in
    λ l h. c.refused.ensures.is ∙ top-long l s.p s.c h s.at (some_bits s.c.num (record { sfits = n.struct_told-1.given.0.1 }) n.if-c-eq0.false) c.if-n-gt31.true

pub returns-else-n-gt31 : goal.returns-else-n-gt31
returns-else-n-gt31 c =
    let n = c in
    let s = n.args in
    λ l h. c.done-else-n-gt31.ensures.is ∙ top-done l s.p s.c h s.at (some_bits s.c.num (record { sfits = n.struct_told-1.given.0.1 }) n.if-c-eq0.false) c.if-n-gt31.false c.push.result (c.push.ensures l h)
