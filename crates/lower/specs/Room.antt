-- Document 01, module 7: a stack of 16 polynomials. The run on it: the same as without a limit once the tokens are checked.
use Rattle.std.specs.Prelude.{cond, List, [], ◌∷◌, ℕ, ltb, length}
use Rattle.ratio.specs.declared.Reason.TheVariants.{TooLong, BadInput}
use Rattle.terms.specs.declared.Poly.{Poly}
use Rattle.terms.specs.declared.Answer.{Answer}
use Rattle.terms.specs.Answer.{done_with, refused_with}
use Rattle.tokens.specs.Spelling.{token_of}
use Rattle.lower.specs.Stack.{Left, fine, stopped, applied}
use Rattle.lower.specs.Run.{and_then}

abbrev pub bounded : Left → Left
bounded (fine l) = cond (ltb 16 (length l)) (stopped TooLong) (fine l)
bounded (stopped why) = stopped why

unfoldable pub bounded_from : ℕ → List (List ℕ) → List Poly → Left
bounded_from wrt [] l = fine l
bounded_from wrt (w ∷ ws) l = and_then (bounded (applied wrt (token_of w) l)) (bounded_from wrt ws)

-- the value that is left, if it is the only one
abbrev pub alone : Left → Answer
alone (fine []) = refused_with BadInput 0
alone (fine (p ∷ [])) = done_with p 0
alone (fine (p ∷ q ∷ l)) = refused_with BadInput 0
alone (stopped why) = refused_with why 0
