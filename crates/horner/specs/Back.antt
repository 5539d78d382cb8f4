-- Document 01, modules 2 and 7: what a polynomial written in Horner form is when it is read again: each coefficient comes through the float bridge.
use Rattle.std.specs.Prelude.{cond, List, [], ◌∷◌, ltb, length, Result, Ok, Err}
use Rattle.ratio.specs.declared.Ratio.{Ratio}
use Rattle.ratio.specs.declared.Reason.{Reason}
use Rattle.ratio.specs.declared.Reason.TheVariants.{TooLong}
use Rattle.bridge.specs.Value.{value_of}
use Rattle.bridge.specs.Search.{to_ratio}
use Rattle.terms.specs.declared.Answer.{Answer}
use Rattle.terms.specs.Poly.{poly_of, trim}
use Rattle.terms.specs.Answer.{done_with, refused_with}

-- the coefficients that came through, or the first refusal
pub data Through : Type 0 where
  all : List Ratio → Through
  lost : Reason → Through

abbrev pub with : Ratio → Through → Through
with c (all l) = all (c ∷ l)
with c (lost why) = lost why

abbrev pub first : Result Ratio Reason → Through → Through
first (Ok c) t = with c t
first (Err why) t = lost why

-- one after the other, the lowest first
unfoldable pub through : List Ratio → Through
through [] = all []
through (c ∷ l) = first (to_ratio (value_of c)) (through l)

abbrev pub answered : Through → Answer
answered (all l) = done_with (poly_of (trim l)) 0
answered (lost why) = refused_with why 0

-- degree n takes 2 n + 1 values at once: above degree 7 that is over 16
unfoldable pub back_of : List Ratio → Answer
back_of l = cond (ltb 8 (length l)) (refused_with TooLong 0) (answered (through l))
