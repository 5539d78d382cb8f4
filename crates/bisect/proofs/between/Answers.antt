-- `bisect::between` meets its contract: the ends alone, or what is between them behind these.
use mathlib.Core.Path.{ap, ap₂, ◌∙◌}
use mathlib.Core.List.{[]}
use Rattle.sturm.specs.Rows.{rows_in}
use Rattle.yun.specs.Got.{got, then_got}
use Rattle.bisect.specs.Bracket.{found_in, brackets_of, marked}
use Rattle.bisect.specs.Bisect.{inner_of}
use Rattle.bisect.specs.declared.End.{End}
use Rattle.bisect.proofs.Cuts.{seen}
use Rattle.bisect.proofs.Hold.{kept_of}
use Rattle.bisect.proofs.Outer.{ends_found, outer-none, outer-more}
use Rattle.bisect.proofs.between.Goals as goal

pub mark-requires : goal.mark-requires
mark-requires c = kept_of c.nothing.result (got []) c.nothing.ensures

pub mark-found-requires : goal.mark-found-requires
mark-found-requires c = kept_of c.mark.result (then_got (found_in c.nothing.result) (λ l. marked c.is_root-at_a.result c.args.a l)) c.mark.ensures

pub returns-then-a_eff-b_eff : goal.returns-then-a_eff-b_eff
returns-then-a_eff-b_eff c =
    let s = c.args in
    kept_of c.mark-found.result (then_got (found_in c.mark.result) (λ l. marked c.is_root-at_b.result s.b l)) c.mark-found.ensures
    ∙ ap brackets_of (outer-none (rows_in s.values.now s.sizes.now) s.a s.b s.tol c.is_root-at_a.result c.is_root-at_b.result c.is_root-at_a.ensures c.is_root-at_b.ensures c.inward-a_eff.result c.inward-b_eff.result c.inward-a_eff.ensures c.inward-b_eff.ensures (found_in c.mark-found.result) (ends_found c.nothing.result c.mark.result c.mark-found.result c.is_root-at_a.result c.is_root-at_b.result s.a s.b c.nothing.ensures c.mark.ensures c.mark-found.ensures) c.if-a_eff-b_eff.true)

pub bisect_isolate_inner-requires : goal.bisect_isolate_inner-requires
bisect_isolate_inner-requires c =
    let s = c.args in
    let r = rows_in s.values.now s.sizes.now in (
      kept_of c.mark-found.result (then_got (found_in c.mark.result) (λ l. marked c.is_root-at_b.result s.b l)) c.mark-found.ensures,
      seen r c.end_at-left.result _ c.end_at-left.ensures,
      seen r c.end_at-right.result _ c.end_at-right.ensures,
    )

pub returns : goal.returns
returns c =
    let s = c.args in
    let r = rows_in s.values.now s.sizes.now in
    c.bisect_isolate_inner.ensures
    ∙ ap brackets_of (
    ap₂ (λ (u v : End). then_got (found_in c.mark-found.result) (λ l. inner_of 48 r u.at v.at s.tol l)) c.end_at-left.ensures c.end_at-right.ensures
    ∙ outer-more r s.a s.b s.tol c.is_root-at_a.result c.is_root-at_b.result c.is_root-at_a.ensures c.is_root-at_b.ensures c.inward-a_eff.result c.inward-b_eff.result c.inward-a_eff.ensures c.inward-b_eff.ensures (found_in c.mark-found.result) (ends_found c.nothing.result c.mark.result c.mark-found.result c.is_root-at_a.result c.is_root-at_b.result s.a s.b c.nothing.ensures c.mark.ensures c.mark-found.ensures) c.if-a_eff-b_eff.false
    )
