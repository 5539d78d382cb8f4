use Rattle.std.proofs.Common.{◌≡◌, nat_abs, rules}
use Rattle.ratio.specs.Gcd.{gcd_of}
use Rattle.ratio.proofs.Euclid.{is-gcd}
use Rattle.ratio.proofs.gcd_i64.Goals as goal

pub returns-clause-greatest : goal.returns-clause-greatest
returns-clause-greatest c =
    let e : c.gcd.result ≡ gcd_of (nat_abs c.args.a) (nat_abs c.args.b) = search rules in
    rw e (is-gcd _ _)
