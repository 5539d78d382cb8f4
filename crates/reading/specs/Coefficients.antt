-- Document 01, "the job program": coefficients rise and are parted by one space; zero is `0` and nothing else. The first bad word is 5 with its place, a zero at the top is bad there; then over 32 is 4.
use Rattle.ratio.specs.declared.Reason.{Reason}
use Rattle.std.specs.Prelude.{cond, List, [], ◌∷◌, ◌++◌, ℕ, ◌+◌, ltb, length, Result, Ok, Err}
use Rattle.ratio.specs.Step.{is_nil}
use Rattle.ratio.specs.declared.Ratio.{Ratio}
use Rattle.ratio.specs.declared.Reason.TheVariants.{TooLong, Malformed}
use Rattle.terms.specs.declared.Answer.{Answer}
use Rattle.terms.specs.Answer.{done_with, refused_with}
use Rattle.terms.specs.Poly.{poly_of}
use Rattle.tokens.specs.Words.{words_of}
use Rattle.reading.specs.Numbers.{ratio_from}

abbrev pub bad_at : ℕ → Answer
bad_at at = refused_with (Malformed at) 0

-- a zero stands alone
abbrev pub alone : ℕ → List Ratio → Answer
alone at [] = done_with (poly_of []) 0
alone at (a ∷ l) = bad_at at

-- c, whose word starts at a place, is the last coefficient, after those of l
abbrev pub top_of : ℕ → List Ratio → Ratio → Answer
top_of at l c = cond (is_nil c.num) (alone at l) (cond (ltb 31 (length l)) (refused_with TooLong 0) (done_with (poly_of (l ++ (c ∷ []))) 0))

abbrev pub onward : ℕ → (Ratio → Answer) → Result Ratio Reason → Answer
onward at k (Ok c) = k c
onward at k (Err why) = bad_at at

-- the rest of the words, of which the first starts at a place, after the coefficients of l
unfoldable pub coeffs_from : ℕ → List Ratio → List (List ℕ) → Answer
coeffs_from at l [] = bad_at at
coeffs_from at l (w ∷ []) = onward at (λ c. top_of at l c) (ratio_from w)
coeffs_from at l (w ∷ v ∷ ws) = onward at (λ c. coeffs_from (at + length w + 1) (l ++ (c ∷ [])) (v ∷ ws)) (ratio_from w)

unfoldable pub read_poly : List ℕ → Answer
read_poly t = coeffs_from 0 [] (words_of t)
