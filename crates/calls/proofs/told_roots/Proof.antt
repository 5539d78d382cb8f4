-- `calls::told_roots` meets its contract.
use mathlib.Core.Path.{ap, ◌∙◌}
use Prim.Native.Nat.{◌%◌}
use native.Mathlib.Omega.{arith}
use lib.IntN.{ℤ}
use Rattle.terms.specs.declared.Poly.{Poly}
use Rattle.terms.specs.Machine.{whole_r}
use Rattle.ratio.proofs.Words.{size_back}
use Rattle.remainders.specs.declared.Division.{Division}
use Rattle.calls.specs.Call.{constant_of}
use borrow.Author.Rules.{rules}
use Rattle.calls.proofs.told_roots.Statement.{statement}
use Rattle.calls.proofs.told_roots.Tie as tie

cast-t7 : tie.Need-overflow_cast-count
cast-t7 c = search rules

constant-requires : tie.Need-constant-requires
constant-requires c κs = search rules

returns : tie.Need-returns
returns c =
    let r = c.args.r in
    ap {B = Division} (λ (p : Poly). record { outcome = r.outcome; quotient = record { coeffs = r.values; len = r.len }; rest = p; steps = r.steps })
    (c.constant.ensures ∙ ap (λ (z : ℤ). constant_of (whole_r z)) (size_back (r.len % 64) (omega arith)))

pub told_roots_spec : {M : Type 1} → statement M
told_roots_spec = tie.close (tie.spec cast-t7 constant-requires returns)
