-- `tokens::spelled` meets its contract: one digit more, or a byte that is none.
use Rattle.std.proofs.Common.{◌∙◌, ◌+◌, length, arith}
use Rattle.tokens.proofs.Digits.{spelled-more, spelled-not, spelled-end, below, power-fits}
use Rattle.tokens.proofs.spelled.Goals as goal

pub returns-then-d-base : goal.returns-then-d-base
returns-then-d-base c =
    let s = c.args in
    let l = c.loop-i in
    spelled-not s.base l.n l.i s.digits.now (omega arith) (omega (arith, c.digit-d.ensures)) ∙ l.invariant.1

pub overflow_mul-n : goal.overflow_mul-n
overflow_mul-n c =
    let s = c.args in
    let l = c.loop-i in
    record { fits = omega (arith, below s.base l.n c.digit-d.result l.i c.if-d-base.false l.invariant.0, power-fits s.base (l.i + 1) (length s.digits.now) (omega (arith, c.if-d-base.false)) (omega arith) c.requires) }

pub overflow_add-n : goal.overflow_add-n
overflow_add-n c =
    let s = c.args in
    let l = c.loop-i in
    record { fits = omega (arith, below s.base l.n c.digit-d.result l.i c.if-d-base.false l.invariant.0, power-fits s.base (l.i + 1) (length s.digits.now) (omega (arith, c.if-d-base.false)) (omega arith) c.requires) }

pub loop-i-preserved : goal.loop-i-preserved
loop-i-preserved c =
    let s = c.args in
    let l = c.loop-i in (
      below s.base l.n c.digit-d.result l.i c.if-d-base.false l.invariant.0,
      rw c.digit-d.ensures (spelled-more s.base l.n l.i s.digits.now (omega arith) (omega (arith, c.digit-d.ensures, c.if-d-base.false)) ∙ l.invariant.1),
    )

pub returns : goal.returns
returns c =
    let l = c.loop-i in
    spelled-end c.args.base l.n l.i c.args.digits.now (omega arith) ∙ l.invariant.1
