-- Document 01, modules 7 and "the job program": tokens and coefficients are parted by one space each. A text is its words, one more than it has spaces.
use Rattle.std.specs.Prelude.{cond, List, [], ◌∷◌, ℕ, zero, suc, eqb}

-- a byte in front of the first word
abbrev pub on_first : ℕ → List (List ℕ) → List (List ℕ)
on_first b [] = (b ∷ []) ∷ []
on_first b (w ∷ ws) = (b ∷ w) ∷ ws

-- the parts of a text between the bytes that are the mark
unfoldable pub parts_of : ℕ → List ℕ → List (List ℕ)
parts_of mark [] = [] ∷ []
parts_of mark (b ∷ l) = cond (eqb b mark) ([] ∷ parts_of mark l) (on_first b (parts_of mark l))

-- the length of the first part
unfoldable pub length_to : ℕ → List ℕ → ℕ
length_to mark [] = zero
length_to mark (b ∷ l) = cond (eqb b mark) zero (suc (length_to mark l))

-- the mark is a space
abbrev pub words_of : List ℕ → List (List ℕ)
words_of l = parts_of 32 l

abbrev pub word_length : List ℕ → ℕ
word_length l = length_to 32 l
