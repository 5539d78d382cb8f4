-- `horner::size` meets its contract.
use borrow.Author.Rules.{rules}
use native.Mathlib.Omega.{arith}
use Prim.Native.Nat.{◌+◌, ◌*◌, ◌-◌, ◌≤◌}
use mathlib.Core.Path.{sym, ◌∙◌}
use Rattle.text.proofs.Decimal.{decimal-length}
use Rattle.terms.specs.Poly.{terms_of}
use Rattle.terms.proofs.Lists.{long, within-32}
use Rattle.horner.proofs.Sizes.{size_none, size-some, size-short}
use Rattle.horner.proofs.size.Statement.{statement}
use Rattle.horner.proofs.size.Tie as tie

length-requires : tie.Need-length-n-requires
length-requires c κs = tt

sub-result : tie.Need-overflow_sub-result
sub-result c = search rules

digits-requires : tie.Need-digits-requires
digits-requires c κs = search rules

-- at most 32 coefficients
few : (c : tie.After-digits) → c.length-n.result ≤ 32
few c =
    let s = c.args.p in
    omega (arith, c.length-n.ensures, within-32 s.len s.coeffs (search (rules, long)))

-- and few bytes
short : (c : tie.After-digits) → 17 + (c.length-n.result - 1) * (24 + c.digits.result) ≤ 1381
short c = rw c.digits.ensures (size-short c.args.wrt c.length-n.result (few c))

add-result : tie.Need-overflow_add-result
add-result c = omega (arith, c.digits.ensures, decimal-length c.args.wrt)

mul-result : tie.Need-overflow_mul-result
mul-result c = omega (arith, short c)

add-result-2 : tie.Need-overflow_add-result-else-n-eq0
add-result-2 c = omega (arith, short c)

returns : tie.Need-returns-then-n-eq0
returns c = size_none _ _ (sym c.length-n.ensures ∙ omega arith)

returns-2 : tie.Need-returns-else-n-eq0
returns-2 c = rw c.digits.ensures (size-some c.args.wrt c.length-n.result (terms_of c.args.p) c.length-n.ensures (λ e. omega arith))

pub size_spec : {M : Type 1} → statement M
size_spec =
    tie.close
    (tie.spec
    length-requires
    sub-result
    digits-requires
    add-result
    mul-result
    add-result-2
    returns
    returns-2)
