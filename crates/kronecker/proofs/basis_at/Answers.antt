-- `kronecker::basis_at` meets its contract: there is no basis where the product or its value is refused.
use mathlib.Core.Path.{sym, ap, ◌∙◌}
use Rattle.terms.specs.Poly.{terms_of}
use Rattle.terms.specs.Answer.{value_of}
use Rattle.kronecker.proofs.Repeats.{serves-none, serves-valueless}
use Rattle.kronecker.proofs.basis_at.Goals as goal

pub returns-in-Err : goal.returns-in-Err
returns-in-Err c = serves-none c.args.i c.args.n c.product-b.result c.product-b.ensures _ c.in-Err.is c.no_basis.result c.no_basis.ensures

pub returns-in_default-value_at : goal.returns-in_default-value_at
returns-in_default-value_at c =
    let v = sym (c.value_at.ensures.is ∙ ap (value_of (terms_of c.product-b.result.poly)) c.point.ensures) ∙ c.in_default-value_at.is in
    serves-valueless c.args.i c.args.n c.product-b.result c.product-b.ensures c.in_default.is _ v c.no_basis-in_default-value_at.result c.no_basis-in_default-value_at.ensures
