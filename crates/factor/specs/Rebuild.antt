-- Document 01, the job `rebuild`: the content times the factors in list order, one multiplication at a time, each as often as its multiplicity.
use Rattle.std.specs.Prelude.{List, [], ◌∷◌, ℕ, zero, suc, take, Ok, Err}
use Rattle.ratio.specs.Refusal.{Outcome}
use Rattle.ratio.specs.declared.Ratio.{Ratio}
use Rattle.ratio.specs.declared.Reason.{Reason}
use Rattle.terms.specs.declared.Answer.{Answer}
use Rattle.terms.specs.declared.Poly.{Poly}
use Rattle.terms.specs.Poly.{terms_of, poly_of, trim}
use Rattle.terms.specs.Answer.{done_with, refused_with, product_of}
use Rattle.yun.specs.declared.Piece.{Piece}
use Rattle.yun.specs.Got.{Got, got, none, then_got}
use Rattle.factor.specs.declared.Factorization.{Factorization}
use Rattle.factor.specs.Factors.{got_of, factor_for}

-- no steps are reported
abbrev pub answer_from : Got (List Ratio) → Answer
answer_from (got l) = done_with (poly_of l) 0
answer_from (none why) = refused_with why 0

abbrev pub refused_from : Reason → Answer
refused_from why = answer_from (none why)

-- acc times q, n times
unfoldable pub raised : ℕ → List Ratio → List Ratio → Got (List Ratio)
raised zero q acc = got acc
raised (suc n) q acc = then_got (got_of (product_of acc q)) (λ acc. raised n q acc)

unfoldable pub rebuilt : List Piece → List Ratio → Got (List Ratio)
rebuilt [] acc = got acc
rebuilt (p ∷ l) acc = then_got (raised p.times (terms_of p.poly) acc) (λ acc. rebuilt l acc)

abbrev pub factors_in : Factorization → List Piece
factors_in r = take r.len r.pieces

abbrev pub rebuilt_if : Outcome → Factorization → Answer
rebuilt_if (Ok _) r = answer_from (rebuilt (factors_in r) (trim (r.content ∷ [])))
rebuilt_if (Err why) r = refused_from why

abbrev pub rebuild_for : Poly → ℕ → Answer
rebuild_for p budget = rebuilt_if (factor_for p budget).outcome (factor_for p budget)
