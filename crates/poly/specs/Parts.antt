-- Document 01, module 3: a polynomial made from two lent lists. Unequal lengths, an entry that is no fraction in lowest terms and a zero at the top are 5; then over 32 entries is 4.
use Rattle.std.specs.Prelude.{Bool, true, false, ◌&&◌, List, [], ◌∷◌, ltb, eqb, ℤ, length}
use Rattle.ratio.specs.declared.Ratio.{Ratio}
use Rattle.terms.specs.declared.Answer.{Answer}
use Rattle.terms.specs.Poly.{poly_of}
use Rattle.terms.specs.Answer.{done_with}
use Rattle.poly.specs.declared.Gate.{Gate}
use Rattle.poly.specs.declared.Gate.TheVariants.{Open, Bad}
use Rattle.poly.specs.Door.{all_lowest, top_is_some, long_if, enter}

-- the fractions of two lists, as far as both go
unfoldable pub paired : List ℤ → List ℤ → List Ratio
paired [] ds = []
paired (n ∷ ns) [] = []
paired (n ∷ ns) (d ∷ ds) = record { num = n; den = d } ∷ paired ns ds

-- every one in lowest terms, and no zero at the top
abbrev pub parts_lowest : List ℤ → List ℤ → Bool
parts_lowest ns ds = all_lowest (paired ns ds) && top_is_some (paired ns ds)

abbrev pub bad_unless : Bool → Gate → Gate
bad_unless true d = d
bad_unless false d = Bad

abbrev pub parts_door : List ℤ → List ℤ → Gate
parts_door ns ds =
    bad_unless (eqb (length ns) (length ds))
    (bad_unless (parts_lowest ns ds) (long_if (ltb 32 (length ns)) Open))

unfoldable pub parts_of : List ℤ → List ℤ → Answer
parts_of ns ds = enter (parts_door ns ds) (done_with (poly_of (paired ns ds)) 0)
