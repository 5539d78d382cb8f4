-- Document 01, "choosing the form by place": an array by value of 32 polynomials. A refused chain is empty.
use Rattle.ratio.specs.Refusal.{no_refusal}
use Rattle.std.specs.Prelude.{◌≡◌, List, [], ◌++◌, map, ◌-◌, length, take, replicate, Err}
use Rattle.ratio.specs.declared.Ratio.{Ratio}
use Rattle.ratio.specs.declared.Reason.{Reason}
use Rattle.terms.specs.declared.Answer.{Answer}
use Rattle.terms.specs.Poly.{terms_of, poly_of}
use Rattle.yun.specs.Got.{Got, got, none}
use Rattle.chain.specs.declared.Chain.{Chain}

-- the entries in use, each by its coefficients
abbrev pub entries_of : Chain → List (List Ratio)
entries_of c = map terms_of (take c.len c.polys)

abbrev pub holding : List (List Ratio) → Chain
holding l = record { outcome = no_refusal; polys = map poly_of l ++ replicate (32 - length l) (poly_of []); len = length l }

abbrev pub refused_for : Reason → Chain
refused_for why = record { outcome = Err why; polys = replicate 32 (poly_of []); len = 0 }

abbrev pub chain_of : Got (List (List Ratio)) → Chain
chain_of (got l) = holding l
chain_of (none why) = refused_for why

-- one link, as the code hands it over
abbrev pub Links : Got (List Ratio) → Answer → Type 0
Links (got l) r = (r.outcome ≡ no_refusal) × (r.poly ≡ poly_of l)
Links (none why) r = r.outcome ≡ Err why
