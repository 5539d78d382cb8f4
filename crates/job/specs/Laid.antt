-- How the code lays a reply on a page: from its start on, and it fits 4,096 bytes.
use Rattle.std.specs.Prelude.{◌≡◌, List, ℕ, ◌≤◌, length}
use Rattle.text.specs.Page.{laid, after}
use Rattle.job.specs.declared.Ran.{Ran}
use Rattle.job.specs.Job.{Reply}

pub record LaysReply (r : Reply) (entry exit : List ℕ) (t : Ran) : Type 0 where
  pub outcome : t.outcome ≡ r.outcome
  pub place : t.len ≡ after r.text 0 entry
  pub page : exit ≡ laid r.text 0 entry
  pub fits : length r.text ≤ 4096
