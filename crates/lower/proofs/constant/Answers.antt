-- `lower::constant` meets its contract. Left of the check: a fraction that is found is in lowest terms.
use Rattle.std.proofs.Common.{ap, ◌∙◌}
use Rattle.terms.specs.Answer.{done_with}
use Rattle.lower.proofs.Levels.{constant-found}
use Rattle.lower.proofs.constant.Goals as goal

pub returns-in-Ok : goal.returns-in-Ok
returns-in-Ok c =
    let f = c.f64_to_ratio in
    constant-found c.in-Ok.c c.args.x f.result c.in-Ok.is f.ensures.is f.ensures.promise c.done.result (c.done.ensures.is ∙ ap (λ p. done_with p 0) c.level.ensures)
