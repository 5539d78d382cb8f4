-- `bridge::round_size` meets its contract.
use Rattle.std.proofs.Common.{ℕ, ◌+◌, ◌/◌, ◌%◌, T, sym, ap, ◌∙◌, subst, arith}
use Rattle.bridge.proofs.Twice.{Sized, sized}
use Rattle.bridge.proofs.round_size.Goals as goal

start : (c : goal.Start) → Sized c.args.a
start c = sized c.args.a (subst T (sym c.well_formed.0.1) tt) c.requires.above_zero c.requires.below_most

pub truncating_f64_to_u64-twice-requires-clause-lower_bound : goal.truncating_f64_to_u64-twice-requires-clause-lower_bound
truncating_f64_to_u64-twice-requires-clause-lower_bound c = (start c).0

pub truncating_f64_to_u64-twice-requires-clause-upper_bound : goal.truncating_f64_to_u64-twice-requires-clause-upper_bound
truncating_f64_to_u64-twice-requires-clause-upper_bound c = (start c).1

pub returns : goal.returns
returns c =
    let k = sized c.args.a (subst T (sym c.well_formed.0.1) tt) c.requires.above_zero c.requires.below_most in
    let e = ap (λ (w : ℕ). w / 2 + w % 2) c.truncating_f64_to_u64-twice.ensures ∙ k.2 in
    (e, omega (arith, e, k.3))
