-- `job::kanrosuye_place` meets its contract.
use mathlib.Core.Path.{ap, ◌∙◌}
use Rattle.request.specs.declared.Request.{Request}
use Rattle.job.specs.Run.{place_in}
use Rattle.job.proofs.kanrosuye_place.Statement.{statement}
use Rattle.job.proofs.kanrosuye_place.Tie as tie

read-requires : tie.Need-read-r-requires
read-requires c κs = tt

place-requires : tie.Need-place-requires
place-requires c κs = tt

returns : tie.Need-returns
returns c = c.place.ensures ∙ ap (λ (r : Request). place_in r.outcome) c.read-r.ensures.0

pub kanrosuye_place_spec : {M : Type 1} → statement M
kanrosuye_place_spec = tie.close (tie.spec read-requires place-requires returns)
