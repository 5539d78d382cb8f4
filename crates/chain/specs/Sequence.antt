-- Document 01, module 6: the chain of remainders in the original's order of work. A refusal is handed on.
use Rattle.std.specs.Prelude.{List, [], ◌∷◌, ℕ, zero, suc, length}
use Rattle.ratio.specs.declared.Ratio.{Ratio}
use Rattle.terms.specs.Machine.{plain}
use Rattle.terms.specs.Poly.{trim}
use Rattle.terms.specs.Work.{derived}
use Rattle.yun.specs.Got.{Got, got, then_got, list_from}
use Rattle.chain.specs.Next.{next_of}

-- p before the others
abbrev pub before : List Ratio → Got (List (List Ratio)) → Got (List (List Ratio))
before p r = then_got r (λ l. got (p ∷ l))

-- a, then b and what follows, until it is zero. A rest is shorter than its divisor, so that as many links as b has coefficients are enough
unfoldable pub behind : ℕ → List Ratio → List Ratio → Got (List (List Ratio))
behind zero a b = got (a ∷ [])
behind (suc f) a [] = got (a ∷ [])
behind (suc f) a (y ∷ b) = then_got (next_of a (y ∷ b)) (λ r. before a (behind f (y ∷ b) r))

abbrev pub started : List Ratio → Got (List (List Ratio))
started [] = got []
started (x ∷ p) = then_got (list_from (derived plain (x ∷ p) 0)) (λ d. behind (length d) (x ∷ p) d)

-- zeros at the top are dropped first; the zero polynomial has an empty chain
unfoldable pub sequence_of : List Ratio → Got (List (List Ratio))
sequence_of p = started (trim p)
