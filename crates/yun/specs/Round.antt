-- Document 01, module 5, factors: one round of Yun's loop in the original's order of work, each way it can end.
use Rattle.std.specs.Prelude.{List, [], ◌∷◌, ◌++◌, ℕ}
use Rattle.ratio.specs.declared.Ratio.{Ratio}
use Rattle.terms.specs.Machine.{minus, Ran, fine, plain}
use Rattle.terms.specs.Poly.{poly_of}
use Rattle.terms.specs.Work.{zipped, derived}
use Rattle.remainders.specs.Gcd.{monic, gcd_of}
use Rattle.yun.specs.declared.Piece.{Piece}
use Rattle.yun.specs.Got.{Got, got, none, list_from, parts_of}

abbrev pub piece : List Ratio → ℕ → Piece
piece p i = record { poly = poly_of p; times = i }

-- p is found i times; where there is no p, nothing is
unfoldable pub pushed : List Ratio → ℕ → List Piece → List Piece
pushed [] i found = found
pushed (x ∷ p) i found = found ++ (piece (x ∷ p) i ∷ [])

-- how a round ends: the loop is over, or it goes on with what is found, b and c
pub data Turn : Type 0 where
  over : Got (List Piece) → Turn
  on : List Piece → List Ratio → List Ratio → Turn

-- a refusal ends the loop
abbrev pub or_over : {X : Type 0} → Got X → (X → Turn) → Turn
or_over (got x) k = k x
or_over (none why) k = over (none why)

-- no difference is left: b, scaled, is the last factor
unfoldable pub ended : ℕ → List Ratio → List Piece → Turn
ended i b found = or_over (list_from (monic plain b 0)) (λ p. over (got (pushed p i found)))

-- a of degree at least 1 is scaled and found
unfoldable pub factor_of : List Ratio → Ran ℕ (List Ratio)
factor_of [] = fine 0 []
factor_of (x ∷ []) = fine 0 []
factor_of (x ∷ y ∷ a) = monic plain (x ∷ y ∷ a) 0

-- where a division leaves a rest, the polynomial stays whole
abbrev pub on_if : List Ratio → List Ratio → Turn → Turn
on_if [] [] t = t
on_if [] (x ∷ r) t = over (got [])
on_if (x ∷ q) r t = over (got [])

-- b and d are divided by a
unfoldable pub cut_by : ℕ → List Ratio → List Ratio → List Piece → List Ratio → Turn
cut_by i b d found a =
    or_over (list_from (factor_of a)) (λ p.
    or_over (parts_of b a) (λ q.
    or_over (parts_of d a) (λ r. on_if q.rest r.rest (on (pushed p i found) q.quotient r.quotient))))

-- the difference d = c − b' and its gcd with b
unfoldable pub met : ℕ → List Ratio → List Piece → List Ratio → Turn
met i b found [] = ended i b found
met i b found (x ∷ d) = or_over (list_from (gcd_of plain b (x ∷ d) 0)) (cut_by i b (x ∷ d) found)

-- round i; it is the last one where b is constant
unfoldable pub turn_of : ℕ → List Ratio → List Ratio → List Piece → Turn
turn_of i [] c found = over (got found)
turn_of i (x ∷ []) c found = over (got found)
turn_of i (x ∷ y ∷ b) c found =
    or_over (list_from (derived plain (x ∷ y ∷ b) 0)) (λ db. or_over (list_from (zipped plain minus c db 0)) (met i (x ∷ y ∷ b) found))
