-- The laws that the check uses at each function's goals.
use Rattle.std.proofs.lemmas.Int.{to_z-of_z}
use lib.ListN.{length-set, length-take}
use Rattle.terms.proofs.Lists.{long, within-32, read-terms, terms-of-poly}
use Rattle.kronecker.proofs.Points.{point-zero, whole-more, whole-fails, whole-end, surveying-none, surveying-more, surveying-over, surveying-all}
use Rattle.kronecker.proofs.Repeats.{repeating-none, repeating-more, repeating-over, repeating-all, serves-none, serves-valueless, serves-done, serving-none, serving-more, added-serves}
use Rattle.kronecker.proofs.Rows.{growing-none, growing-next, growing-full, growing-all, grown-full, full-yes, full-no, rows_none, gathers-none, gathers-more, gathers-over, gathers-all, rows-read, rows_long}
use Rattle.kronecker.proofs.Trials.{trying-none, trying-more, trying-over, trying-all, rising_none, rising-more, rising-over, rising-all, judged-short, judged-broken, judged-over, judged-next, judged-found, tried-skipped, tried-judged, gathered-refused, gathered-tried}

pub ruleset point_steps = (point-zero)

pub ruleset survey_steps = (surveying-none, surveying-more, surveying-over, surveying-all)

pub ruleset gather_steps = (to_z-of_z, gathers-none, gathers-more, gathers-over, gathers-all)

pub ruleset grow_steps = (to_z-of_z, length-set, rows-read, rows_long, rows_none, full-yes, full-no, growing-none, growing-next, growing-full, growing-all, grown-full)

pub ruleset product_steps = (terms-of-poly, repeating-none, repeating-more, repeating-over, repeating-all)

pub ruleset basis_steps = (serves-none, serves-valueless, serves-done)

pub ruleset prepared_steps = (length-set, serving-none, serving-more)

pub ruleset sum_steps = (long, read-terms, length-take, repeating-none, repeating-more, repeating-over, repeating-all, added-serves)

pub ruleset whole_steps = (long, within-32, read-terms, whole-more, whole-fails, whole-end)

pub ruleset judge_steps = (judged-short, judged-broken, judged-over, judged-next, judged-found)

pub ruleset one_steps = (tried-skipped, tried-judged)

pub ruleset all_steps = (rows-read, rows_long, trying-none, trying-more, trying-over, trying-all)

pub ruleset gathered_steps = (gathered-refused, gathered-tried)

pub ruleset split_steps = (rising_none, rising-more, rising-over, rising-all)
