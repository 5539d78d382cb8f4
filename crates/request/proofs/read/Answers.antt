-- `request::read` meets its contract: a text that is too long, and any other.
use Rattle.std.proofs.Common.{ap, ◌∙◌}
use Rattle.ratio.specs.declared.Reason.TheVariants as R
use Rattle.request.specs.declared.OpLine.{OpLine}
use Rattle.request.specs.Request.{refused_for, longest}
use Rattle.request.proofs.Made.{request-long, request-short}
use Rattle.request.proofs.Kept.{request-both}
use Rattle.request.proofs.read.Goals as goal

pub returns-then-text-gt-LONGEST-clause-is : goal.returns-then-text-gt-LONGEST-clause-is
returns-then-text-gt-LONGEST-clause-is c = c.refused.ensures ∙ ap (λ (l : OpLine). refused_for l.op (R.Malformed longest)) c.op_line-first.ensures ∙ request-long c.args.text.now c.if-text-gt-LONGEST.true

pub returns-then-text-gt-LONGEST-clause-promise : goal.returns-then-text-gt-LONGEST-clause-promise
returns-then-text-gt-LONGEST-clause-promise c = (request-both c.args.text.now (returns-then-text-gt-LONGEST-clause-is c)).1

pub returns-clause-is : goal.returns-clause-is
returns-clause-is c = c.rest.ensures ∙ request-short c.args.text.now c.if-text-gt-LONGEST.false

pub returns-clause-promise : goal.returns-clause-promise
returns-clause-promise c = (request-both c.args.text.now (returns-clause-is c)).1
