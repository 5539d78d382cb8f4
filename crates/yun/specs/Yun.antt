-- Document 01, module 5, factors: Yun's square-free decomposition in the original's order of work, early returns included.
use Rattle.std.specs.Prelude.{List, [], ◌∷◌, ℕ, zero, suc, length}
use Rattle.ratio.specs.declared.Ratio.{Ratio}
use Rattle.terms.specs.Machine.{plain}
use Rattle.terms.specs.Work.{derived}
use Rattle.remainders.specs.Gcd.{monic, gcd_of}
use Rattle.yun.specs.declared.Piece.{Piece}
use Rattle.yun.specs.Got.{Got, got, then_got, list_from, parts_of}
use Rattle.yun.specs.Round.{pushed, Turn, over, on, turn_of}

abbrev pub go_on : Turn → (List Piece → List Ratio → List Ratio → Got (List Piece)) → Got (List Piece)
go_on (over r) k = r
go_on (on found b c) k = k found b c

-- the rounds from i on, n of them at most
unfoldable pub rounds : ℕ → ℕ → List Ratio → List Ratio → List Piece → Got (List Piece)
rounds zero i b c found = got []
rounds (suc n) i b c found = go_on (turn_of i b c found) (λ found b c. rounds n (suc i) b c found)

abbrev pub unless_rest : List Ratio → Got (List Piece) → Got (List Piece)
unless_rest [] r = r
unless_rest (x ∷ l) r = got []

-- f and its derivative are divided by a, their gcd. In round i the i-th power of b divides f, so that as many rounds as f has coefficients are enough
unfoldable pub split_by : List Ratio → List Ratio → List Ratio → Got (List Piece)
split_by f df a =
    then_got (parts_of f a) (λ q.
    unless_rest q.rest (then_got (parts_of df a) (λ r. unless_rest r.rest (rounds (length f) 1 q.quotient r.quotient []))))

abbrev pub sharing : List Ratio → List Ratio → Got (List Piece)
sharing f [] = got []
sharing f (x ∷ df) = then_got (list_from (gcd_of plain f (x ∷ df) 0)) (split_by f (x ∷ df))

-- the factors of a monic polynomial; none where it stays whole
unfoldable pub split_of : List Ratio → Got (List Piece)
split_of f = then_got (list_from (derived plain f 0)) (sharing f)

abbrev pub or_whole : List Ratio → List Piece → List Piece
or_whole f [] = pushed f 1 []
or_whole f (p ∷ found) = p ∷ found

-- what was found, or all of f
abbrev pub found_or : List Ratio → Got (List Piece) → Got (List Piece)
found_or f g = then_got g (λ found. got (or_whole f found))

-- scaled first; zero has no factors
unfoldable pub square_frees : List Ratio → Got (List Piece)
square_frees [] = got []
square_frees (x ∷ f) = then_got (list_from (monic plain (x ∷ f) 0)) (λ m. then_got (split_of m) (λ found. got (or_whole m found)))
