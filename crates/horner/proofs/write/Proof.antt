-- `horner::write` meets its contract.
use borrow.Author.Rules.{rules}
use mathlib.Core.Path.{sym, ◌∙◌}
use native.Mathlib.Omega.{arith}
use Rattle.terms.specs.Poly.{terms_of}
use Rattle.text.proofs.Pages.{lays-as}
use Rattle.horner.proofs.Rest.{rest-none}
use Rattle.horner.proofs.write.Statement.{statement}
use Rattle.horner.proofs.write.Tie as tie

length-requires : tie.Need-length-requires
length-requires c κs = tt

constant-requires : tie.Need-constant-requires
constant-requires c κs = tt

horner-requires : tie.Need-horner-requires
horner-requires c κs = search rules

same_length : tie.Need-shape_of-out-then-length-eq0
same_length c = search rules

returns : tie.Need-returns-then-length-eq0
returns c =
    let s = c.args in
    lays-as _ _ _ _ (rest-none s.wrt (terms_of s.p) (sym c.length.ensures ∙ omega arith)) c.constant.ensures

same-length-2 : tie.Need-shape_of-out-else-length-eq0
same-length-2 c = search rules

returns-2 : tie.Need-returns-else-length-eq0
returns-2 c = c.horner.ensures

pub write_spec : {M : Type 1} → statement M
write_spec =
    tie.close
    (tie.spec
    length-requires
    constant-requires
    horner-requires
    same_length
    returns
    same-length-2
    returns-2)
