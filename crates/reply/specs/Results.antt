-- Document 01, "the job program": what each kind of result shows.
use Rattle.ratio.specs.Refusal.{no_refusal}
use Rattle.ratio.specs.declared.Reason.{Reason}
use Rattle.ratio.specs.declared.Ratio.{Ratio}
use Rattle.std.specs.Prelude.{List, [], ◌∷◌, ◌++◌, ℕ, take, Result, Ok, Err}
use Rattle.terms.specs.declared.Answer.{Answer}
use Rattle.terms.specs.Poly.{terms_of}
use Rattle.remainders.specs.declared.Division.{Division}
use Rattle.euclid.specs.declared.Whole.{Whole}
use Rattle.search.specs.declared.Roots.{Roots}
use Rattle.yun.specs.declared.Piece.{Piece}
use Rattle.factor.specs.declared.Factorization.{Factorization}
use Rattle.factor.specs.Rebuild.{factors_in}
use Rattle.sturm.specs.declared.Count.{Count}
use Rattle.isolate.specs.declared.Isolation.{Isolation}
use Rattle.isolate.specs.Answer.{roots_in}
use Rattle.text.specs.Ascii.{bytes}
use Rattle.text.specs.Spell.{decimal_of, whole_text, ratio_text, ratios_text, poly_text, floats_text}
use Rattle.ops.specs.declared.Op.{Op}
use Rattle.reply.specs.Reply.{shown, refusal_text}

-- a polynomial; the steps where the operation reports them
abbrev pub answer_text : Op → Answer → List ℕ
answer_text op a = shown op a.outcome (poly_text (terms_of a.poly)) [] a.steps

-- the quotient and the rest
abbrev pub division_text : Op → Division → List ℕ
division_text op d = shown op d.outcome (poly_text (terms_of d.quotient)) (poly_text (terms_of d.rest)) d.steps

-- a resultant or a discriminant
abbrev pub number_text : Op → Whole → List ℕ
number_text op w = shown op w.outcome (whole_text w.value) [] w.steps

-- a value at a point
abbrev pub value_text : Op → Result Ratio Reason → List ℕ
value_text op (Ok r) = shown op no_refusal (ratio_text r) [] 0
value_text op (Err why) = refusal_text op why

-- rational roots
abbrev pub roots_text : Op → Roots → List ℕ
roots_text op r = shown op r.outcome (ratios_text (take r.len r.values)) [] 0

-- a factor and its multiplicity
unfoldable pub piece_text : Piece → List ℕ
piece_text p = bytes " ; " ++ (poly_text (terms_of p.poly) ++ (bytes " ^ " ++ decimal_of p.times))

unfoldable pub pieces_text : List Piece → List ℕ
pieces_text [] = []
pieces_text (p ∷ l) = piece_text p ++ pieces_text l

-- the content, then the factors
abbrev pub factors_text : Op → Factorization → List ℕ
factors_text op f = shown op f.outcome (ratio_text f.content ++ pieces_text (factors_in f)) [] 0

-- a number of real roots
abbrev pub count_text : Op → Count → List ℕ
count_text op c = shown op c.outcome (decimal_of c.count) [] 0

-- real roots
abbrev pub isolation_text : Op → Isolation → List ℕ
isolation_text op r = shown op r.outcome (floats_text (roots_in r)) [] 0
