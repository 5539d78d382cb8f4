-- Document 01, "what must change shape": the outcome beside an array by value of 32 factors with their multiplicities. A refused one is empty.
use Rattle.std.specs.Prelude.{◌≡◌, Bool, false, cond, List, [], ◌∷◌, ◌++◌, ℕ, ◌-◌, ◌<◌, length, take, replicate, Ok, Err}
use Rattle.ratio.specs.Refusal.{Outcome, no_refusal}
use Rattle.ratio.specs.declared.Ratio.{Ratio}
use Rattle.ratio.specs.declared.Reason.{Reason}
use Rattle.terms.specs.declared.Poly.{Poly}
use Rattle.terms.specs.Poly.{terms_of, poly_of}
use Rattle.yun.specs.declared.Piece.{Piece}
use Rattle.yun.specs.declared.Decomposition.{Decomposition}
use Rattle.yun.specs.declared.Round.{Round}
use Rattle.yun.specs.Got.{Got, got, none}
use Rattle.yun.specs.Round.{piece, pushed, Turn, over, on}

-- what an unused place holds
abbrev pub no_piece : Piece
no_piece = piece [] 0

-- the factors in use
abbrev pub pieces_of : Decomposition → List Piece
pieces_of d = take d.len d.pieces

abbrev pub found_all : List Piece → Decomposition
found_all l = record { outcome = no_refusal; pieces = l ++ replicate (32 - length l) no_piece; len = length l }

abbrev pub refused_for : Reason → Decomposition
refused_for why = record { outcome = Err why; pieces = replicate 32 no_piece; len = 0 }

abbrev pub decomposition_of : Got (List Piece) → Decomposition
decomposition_of (got l) = found_all l
decomposition_of (none why) = refused_for why

-- what is found so far, with room for one more
pub record Held (d : Decomposition) : Type 0 where
  pub is : d ≡ found_all (pieces_of d)
  pub room : length (pieces_of d) < 32

-- a round of the loop that ends it
abbrev pub over_with : Outcome → Bool → Poly → Round
over_with o w p = record { outcome = o; whole = w; more = false; factor = p; b = poly_of []; c = poly_of [] }

abbrev pub unless_over : Outcome → Turn → Turn
unless_over (Ok _) t = t
unless_over (Err why) t = over (none why)

-- how round i ends that comes to r, after these pieces
abbrev pub turn_from : ℕ → Round → List Piece → Turn
turn_from i r found =
    unless_over r.outcome
    (cond r.whole (over (got []))
    (cond r.more (on (pushed (terms_of r.factor) i found) (terms_of r.b) (terms_of r.c)) (over (got (pushed (terms_of r.factor) i found)))))

-- whatever the round's number and whatever was found before
pub record Turns (t : ℕ → List Piece → Turn) (r : Round) : Type 0 where
  pub is : (i : ℕ) (found : List Piece) → turn_from i r found ≡ t i found
  pub padded : r.factor ≡ poly_of (terms_of r.factor)

-- what is laid behind the pieces for a factor, and how many places it takes
abbrev pub piece_for : List Ratio → ℕ → Piece
piece_for [] i = no_piece
piece_for (x ∷ p) i = piece (x ∷ p) i

abbrev pub room_for : List Ratio → ℕ
room_for [] = 0
room_for (x ∷ p) = 1
