-- `text::write_poly` meets its contract.
use borrow.Author.Rules.{rules}
use mathlib.Core.Path.{◌≡◌, sym, ap, ◌∙◌}
use lib.ListN.{length, take}
use Rattle.terms.proofs.Lists.{long}
use Rattle.text.specs.Spell.{poly_text}
use Rattle.text.proofs.Pages.{lays-as}
use Rattle.text.proofs.Numbers.{poly-none, poly-some}
use Rattle.text.proofs.write_poly.Statement.{statement}
use Rattle.text.proofs.write_poly.Tie as tie

put-requires : tie.Need-put-requires
put-requires c κs = tt

write-ratios-requires : tie.Need-write_ratios-requires
write-ratios-requires c κs = tt

same_length : tie.Need-shape_of-out-then-len-eq0
same_length c = search rules

returns : tie.Need-returns-then-len-eq0
returns c =
    let p = c.args.p in
    lays-as _ _ _ _ (poly-none ∙ ap (λ n. poly_text (take n p.coeffs)) (sym c.if-len-eq0.true)) c.put.ensures

same-length-2 : tie.Need-shape_of-out-else-len-eq0
same-length-2 c = search rules

returns-2 : tie.Need-returns-else-len-eq0
returns-2 c =
    let p = c.args.p in
    let n : length p.coeffs ≡ 32 = search (rules, long) in
    lays-as _ _ _ _ (poly-some p.len p.coeffs n c.if-len-eq0.false) c.write_ratios.ensures

pub write_poly_spec : {M : Type 1} → statement M
write_poly_spec =
    tie.close
    (tie.spec put-requires write-ratios-requires same_length returns same-length-2 returns-2)
