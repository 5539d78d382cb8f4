-- `sturm::chain_floats` meets its contract: one row more.
use mathlib.Core.Path.{◌≡◌, refl, sym, ap, ◌∙◌}
use Prim.Native.Nat.{ℕ}
use native.Mathlib.Omega.{arith}
use borrow.Author.Rules.{rules}
use lib.ListN.{length, length-set}
use Rattle.terms.proofs.Lists.{long}
use Rattle.sturm.specs.declared.Rows.{Rows}
use Rattle.sturm.proofs.Laid.{filled_none, filled_more, filled-all, filled-length, entries-count, entries-few}
use Rattle.sturm.proofs.chain_floats.Goals as goal

pub loop-i-init : goal.loop-i-init
loop-i-init c =
    let s = c.args in
    let h : length s.c.polys ≡ 32 = search (rules, long) in
    let n = c.size-n.ensures s.c.polys h ∙ sym (entries-count s.c) in
    (n, omega (arith, n, entries-few s.c h), refl, refl, h, filled_none s.c)

pub lay-next-requires : goal.lay-next-requires
lay-next-requires c = omega (arith, c.loop-i.invariant.2, c.loop-i.invariant.5.few)

pub loop-i-preserved : goal.loop-i-preserved
loop-i-preserved c =
    let e = c.lay-next.ensures in
    let l = c.loop-i in
    let v = l.invariant in
    let f = filled_more c.args.c l.i l.at l.values l.sizes v.5 _ c.lay-next.result _ (omega (arith, v.0)) (omega arith) e.value.1 e.value.0 e.out_after in
    (v.0, v.1, filled-length c.args.c _ _ _ _ f (omega arith), length-set l.sizes l.i _ ∙ v.3, v.4, f)

pub returns : goal.returns
returns c =
    let l = c.loop-i in
    let n : l.i ≡ c.size-n.result = omega arith in
    record {
      is =
          ap {B = Rows} (λ (i : ℕ). record { values = l.values; sizes = l.sizes; len = i }) (sym n)
          ∙ filled-all c.args.c l.i l.at l.values l.sizes l.invariant.5 (omega (arith, n, l.invariant.0));
    }
