-- `search::roots_of` meets its contract: the multiple lies within the range.
use mathlib.Core.Path.{sym, ◌∙◌}
use native.Mathlib.Omega.{arith}
use lib.IntN.{pos}
use Rattle.terms.specs.Machine.{whole_r}
use Rattle.terms.specs.Poly.{terms_of}
use Rattle.search.proofs.CodeClear.{multiple-within}
use Rattle.search.proofs.roots_of.Goals as goal

pub clear-c-requires : goal.clear-c-requires
clear-c-requires c = multiple-within (terms_of c.normalise-f.result) (whole_r (pos 1)) _ (omega arith) (sym c.multiple.ensures ∙ c.in-Ok.is)
