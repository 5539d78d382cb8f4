-- Document 01, module 5, factors: each rational root r is divided out as x less r where that leaves no rest.
use Rattle.std.specs.Prelude.{◌≡◌, cond, List, [], ◌∷◌, ◌++◌, ℕ, ltb, pos, length, take, Result, Ok, Err}
use Rattle.ratio.specs.Step.{neg_of}
use Rattle.ratio.specs.Refusal.{Outcome}
use Rattle.ratio.specs.declared.Ratio.{Ratio}
use Rattle.ratio.specs.declared.Reason.{Reason}
use Rattle.ratio.specs.declared.Reason.TheVariants.{CoeffOverflow}
use Rattle.terms.specs.declared.Answer.{Answer}
use Rattle.terms.specs.Machine.{whole_r}
use Rattle.terms.specs.Poly.{terms_of, poly_of}
use Rattle.terms.specs.Answer.{done_with, refused_with}
use Rattle.search.specs.declared.Roots.{Roots}
use Rattle.yun.specs.declared.Piece.{Piece}
use Rattle.yun.specs.Answer.{found_all, refused_for}
use Rattle.yun.specs.Got.{Got, got, none, then_got, parts_of}
use Rattle.yun.specs.Round.{piece}
use Rattle.splitting.specs.declared.Left.{Left}
use Rattle.splitting.specs.declared.Pair.{Pair}
use Rattle.splitting.specs.Pair.{PaddedPair}

-- p is found, as often as `times` says; there are 32 places
unfoldable pub added : List Ratio → ℕ → List Piece → List Piece
added p times found = cond (ltb (length found) 32) (found ++ (piece p times ∷ [])) found

-- the same, of a constant nothing
abbrev pub added_unless : List Ratio → ℕ → List Piece → List Piece
added_unless p times found = cond (ltb (length p) 2) found (added p times found)

-- x less r
abbrev pub line : Ratio → List Ratio
line n = n ∷ whole_r (pos 1) ∷ []

abbrev pub line_from : Result Ratio Reason → Got (List Ratio)
line_from (Ok n) = got (line n)
line_from (Err why) = none CoeffOverflow

abbrev pub line_answer_of : Result Ratio Reason → Answer
line_answer_of (Ok n) = done_with (poly_of (line n)) 0
line_answer_of (Err why) = refused_with CoeffOverflow 0

abbrev pub line_answer : Ratio → Answer
line_answer r = line_answer_of (neg_of r)

-- what was found, and what is left
pub record Peel : Type 0 where
  pub found : List Piece
  pub rest : List Ratio

abbrev pub start : List Piece → List Ratio → Peel
start found f = record { found = found; rest = f }

abbrev pub peel_if : List Ratio → ℕ → List Ratio → List Ratio → Peel → Peel
peel_if [] times x q l = start (added x times l.found) q
peel_if (y ∷ r) times x q l = l

unfoldable pub peel_one : ℕ → Ratio → Peel → Got Peel
peel_one times r l = then_got (line_from (neg_of r)) (λ x. then_got (parts_of l.rest x) (λ s. got (peel_if s.rest times x s.quotient l)))

-- root after root
unfoldable pub peeled : ℕ → List Ratio → Peel → Got Peel
peeled times [] l = got l
peeled times (r ∷ rs) l = then_got (peel_one times r l) (peeled times rs)

abbrev pub roots_in : Roots → List Ratio
roots_in r = take r.len r.values

-- how it lies in memory
abbrev pub left_of : Got Peel → Left
left_of (got l) = record { found = found_all l.found; rest = poly_of l.rest }
left_of (none why) = record { found = refused_for why; rest = poly_of [] }

abbrev pub stopped_for : Reason → Left
stopped_for why = left_of (none why)

abbrev pub unless_stopped : Outcome → Peel → Got Peel
unless_stopped (Ok _) l = got l
unless_stopped (Err why) l = none why

-- what is found and left where one root comes to p
abbrev pub peel_from : Pair → ℕ → Peel → Got Peel
peel_from p times l = unless_stopped p.outcome (cond p.two (start (added (terms_of p.factor) times l.found) (terms_of p.quotient)) l)

-- whatever was found before
pub record PeelsOff (r : Ratio) (f : List Ratio) (p : Pair) : Type 0 where
  pub is : (times : ℕ) (found : List Piece) → peel_from p times (start found f) ≡ peel_one times r (start found f)
  pub padded : PaddedPair p
