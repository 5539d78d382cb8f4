-- `job::reply_to` meets its contract.
use Rattle.job.proofs.Laying.{job-done, job-refused}
use borrow.Author.Rules.{rules}
use Rattle.job.proofs.reply_to.Statement.{statement}
use Rattle.job.proofs.reply_to.Tie as tie

enum_told : tie.Need-enum_told-1
enum_told c = search rules

work-requires : tie.Need-work-requires
work-requires c κs = tt

enum-known-o : tie.Need-enum_known-o
enum-known-o c = search rules

refuse-requires : tie.Need-refuse-requires
refuse-requires c κs = tt

same_length : tie.Need-shape_of-page-in-Ok
same_length c = search rules

returns : tie.Need-returns-in-Ok
returns c = job-done c.args.r _ _ _ c.in-Ok.is c.work.ensures

same-length-2 : tie.Need-shape_of-page-in-Err
same-length-2 c = search rules

returns-2 : tie.Need-returns-in-Err
returns-2 c = job-refused c.args.r _ _ _ _ c.in-Err.is c.refuse.ensures

pub reply_to_spec : {M : Type 1} → statement M
reply_to_spec =
    tie.close
    (tie.spec
    enum_told
    work-requires
    enum-known-o
    refuse-requires
    same_length
    returns
    same-length-2
    returns-2)
