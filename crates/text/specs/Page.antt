-- Document 01, "the job program": an answer is text. Text is laid on a lent page byte after byte, and a byte behind the page's end is left out.
use Rattle.std.specs.Prelude.{cond, List, [], ◌∷◌, ℕ, ◌+◌, ltb, length, set}

-- the place behind a byte; a place behind the page's end stays
abbrev pub behind : ℕ → List ℕ → ℕ
behind at page = cond (ltb at (length page)) (at + 1) at

-- the page with a text from a place on (`set` leaves a page alone behind its end)
unfoldable pub laid : List ℕ → ℕ → List ℕ → List ℕ
laid [] at page = page
laid (b ∷ s) at page = laid s (behind at page) (set page at b)

-- the place behind the text
unfoldable pub after : List ℕ → ℕ → List ℕ → ℕ
after [] at page = at
after (b ∷ s) at page = after s (behind at page) (set page at b)
