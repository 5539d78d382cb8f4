-- Document 01, module 7: `from_lowered`: 5 and 4 as the tokens show them, then the first refusal in postfix order; the value that is left is the answer.
use Rattle.std.specs.Prelude.{List, [], ◌∷◌, ℕ, Ok, Err}
use Rattle.ratio.specs.Refusal.{Outcome}
use Rattle.ratio.specs.declared.Reason.TheVariants.{BadInput}
use Rattle.terms.specs.declared.Poly.{Poly}
use Rattle.terms.specs.declared.Answer.{Answer}
use Rattle.terms.specs.Answer.{done_with, refused_with}
use Rattle.tokens.specs.Spelling.{token_of}
use Rattle.tokens.specs.Words.{words_of}
use Rattle.tokens.specs.Heights.{check_of}
use Rattle.lower.specs.Stack.{Left, fine, stopped, applied}

abbrev pub and_then : Left → (List Poly → Left) → Left
and_then (fine l) k = k l
and_then (stopped why) k = stopped why

-- word after word
unfoldable pub run_from : ℕ → List (List ℕ) → List Poly → Left
run_from wrt [] l = fine l
run_from wrt (w ∷ ws) l = and_then (applied wrt (token_of w) l) (run_from wrt ws)

-- the top value
abbrev pub answered : Left → Answer
answered (fine []) = refused_with BadInput 0
answered (fine (p ∷ l)) = done_with p 0
answered (stopped why) = refused_with why 0

abbrev pub unless_refused : Outcome → Answer → Answer
unless_refused (Ok _) r = r
unless_refused (Err why) r = refused_with why 0

unfoldable pub lower_of : ℕ → List ℕ → Answer
lower_of wrt s = unless_refused (check_of s) (answered (run_from wrt (words_of s) []))
