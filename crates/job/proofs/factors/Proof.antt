-- `job::factors` meets its contract.
use borrow.Author.Rules.{rules}
use Rattle.job.proofs.Laying.{factors-lie}
use Rattle.job.proofs.factors.Statement.{statement}
use Rattle.job.proofs.factors.Tie as tie

factor-requires : tie.Need-factor-f-requires
factor-requires c κs = tt

show-factors-requires : tie.Need-show_factors-requires
show-factors-requires c κs = tt

same_length : tie.Need-shape_of-page
same_length c = search rules

returns : tie.Need-returns
returns c =
    let f = c.factor-f in
    let w = c.show_factors in
    let s = c.args in
    factors-lie s.op f.result _ f.ensures.0 _ w.new.out w.result w.ensures.0 w.ensures.1.0 (w.ensures.1.1 s.p s.budget f.ensures.0)

pub factors_spec : {M : Type 1} → statement M
factors_spec = tie.close (tie.spec factor-requires show-factors-requires same_length returns)
