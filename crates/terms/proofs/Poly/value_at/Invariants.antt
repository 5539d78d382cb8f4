-- What is left to add up gives the whole value.
use Rattle.std.proofs.Common.{◌≡◌, ◌≤◌, length}
use Rattle.terms.specs.Poly.{terms_of}
use Rattle.terms.proofs.Value.{Valued}
use Rattle.terms.proofs.Poly.value_at.Given as goal

abbrev pub invariant-loop-i : goal.invariant-loop-i
invariant-loop-i l = record {
  few : l.n ≤ 32;
  all : l.n ≡ length (terms_of l.self);
  valued : Valued (terms_of l.self) l.x l.i (record { num = l.pn; den = l.pd }) (record { num = l.sn; den = l.sd });
}
