-- Up to i, zeros stand behind the first n coefficients.
use Rattle.std.proofs.Common.{◌≡◌, ◌-◌, ◌≤◌, ◌++◌, length, take, replicate}
use Rattle.ratio.specs.Refusal.{zero_r}
use Rattle.terms.proofs.Poly.normalise.Given as goal

abbrev pub invariant-loop-i : goal.invariant-loop-i
invariant-loop-i l = record {
  few : l.n ≤ 32;
  long : length l.self.coeffs ≡ 32;
  filled : take l.i l.self.coeffs ≡ take l.n l.fn.self.coeffs ++ replicate (l.i - l.n) zero_r;
}
