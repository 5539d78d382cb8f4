-- The first i coefficients are made, along whatever steps the calls can only answer.
use Rattle.std.proofs.Common.{◌≡◌, ℕ, ◌<◌, length}
use Rattle.std.specs.Prelude.{Result}
use Rattle.ratio.specs.declared.Ratio.{Ratio}
use Rattle.ratio.specs.declared.Reason.{Reason}
use Rattle.terms.specs.Pairs.{pairs}
use Rattle.terms.proofs.Each.{Counted}
use Rattle.terms.proofs.make.Given as goal

abbrev pub invariant-loop-i : goal.invariant-loop-i
invariant-loop-i g l = record {
  nums : length l.nums ≡ 32;
  dens : length l.dens ≡ 32;
  made : (s : ℕ → Result Ratio Reason) → ((i : ℕ) (x : Result Ratio Reason) → i < l.n → goal.F-post g l.step i x → x ≡ s i) → Counted s l.n l.i (pairs l.nums l.dens);
}
