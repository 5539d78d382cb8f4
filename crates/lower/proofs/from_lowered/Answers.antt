-- `lower::from_lowered` meets its contract. Left of the check: what a run that ends well or ill says of the check of the tokens.
use Rattle.std.proofs.Common.{sym, ap, ◌∙◌}
use Rattle.terms.specs.Answer.{refused_with}
use Rattle.lower.specs.Run.{unless_refused}
use Rattle.lower.proofs.Checked.{answered-done, answered-refused}
use Rattle.lower.proofs.Halting.{with-lowers}
use Rattle.lower.proofs.from_lowered.Goals as goal

pub returns-in-Ok-clause-is : goal.returns-in-Ok-clause-is
returns-in-Ok-clause-is c =
    let s = c.args in
    let r = c.run-r in
    r.ensures ∙ answered-done s.wrt s.text.now (ap (λ a. a.outcome) (sym r.ensures) ∙ c.in-Ok.is)

pub returns-in-Ok-clause-promise : goal.returns-in-Ok-clause-promise
returns-in-Ok-clause-promise c = (with-lowers c.args.wrt c.args.text.now c.run-r.result (returns-in-Ok-clause-is c)).1

pub returns-in-Err-clause-is : goal.returns-in-Err-clause-is
returns-in-Err-clause-is c =
    let s = c.args in
    let why = c.in-Err.why in
    c.refusal.ensures ∙ ap (λ o. unless_refused o (refused_with why 0)) c.check.ensures.is
    ∙ answered-refused s.wrt s.text.now why (ap (λ a. a.outcome) (sym c.run-r.ensures) ∙ c.in-Err.is)

pub returns-in-Err-clause-promise : goal.returns-in-Err-clause-promise
returns-in-Err-clause-promise c = (with-lowers c.args.wrt c.args.text.now c.refusal.result (returns-in-Err-clause-is c)).1
