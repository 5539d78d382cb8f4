-- The laws that the check uses at each function's goals.
use Rattle.terms.proofs.Lists.{long, within-32, read-terms, terms-of-poly}
use Rattle.yun.proofs.CodeGot.{quotient-poly}
use Rattle.splitting.proofs.Halves.{pair-none, pair-over, paired-refused, paired-rest, paired-constant, paired-both, pair-low, pair-high, pair-tried}
use Rattle.splitting.proofs.Onto.{splitting-none, splitting-more, splitting-over, splitting-full, splitting-line, splitting-all}
use Rattle.splitting.proofs.Peels.{peel-lineless, peel-refused, peel-kept, peel-done, peeling-none, peeling-over, peeling-same, peeling-full, peeling-more, peeling-all}
use Rattle.splitting.proofs.Places.{unless-none, unless-some, add-full, add_done, padded-made}
use Rattle.splitting.proofs.Shorter.{split-padded}

pub ruleset add_steps = (unless-none, unless-some, add-full, add_done)

pub ruleset peel_one_steps = (peel-lineless, peel-refused, peel-kept, peel-done)

pub ruleset peel_steps = (long, within-32, read-terms, peeling-none, peeling-over, peeling-same, peeling-full, peeling-more, peeling-all)

pub ruleset divide_by_steps = (pair-none, pair-over, paired-refused, paired-rest, paired-constant, paired-both, quotient-poly)

pub ruleset halve_steps = (pair-none, pair-over, pair-low, pair-high, pair-tried, split-padded)

pub ruleset all_steps = (long, within-32, read-terms, terms-of-poly, padded-made, splitting-none, splitting-more, splitting-over, splitting-full, splitting-line, splitting-all)
