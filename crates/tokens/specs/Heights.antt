-- Document 01, module 7 and "order": 5 for the first bad token in the text's order, then 4 for over 16 values before any `?`.
use Rattle.std.specs.Prelude.{Bool, true, false, cond, List, [], ◌∷◌, ℕ, ◌+◌, ◌-◌, ltb, eqb, length, Err}
use Rattle.ratio.specs.Refusal.{Outcome, no_refusal}
use Rattle.ratio.specs.declared.Reason.TheVariants as R
use Rattle.tokens.specs.declared.Height.{Height}
use Rattle.tokens.specs.declared.Token.{Token}
use Rattle.tokens.specs.declared.Token.TheVariants.{Const, Var, Add, Sub, Mul, Neg, Pow, Other, Malformed}
use Rattle.tokens.specs.Spelling.{token_of}
use Rattle.tokens.specs.Words.{words_of}

-- how many values a token takes off the stack
abbrev pub takes : Token → ℕ
takes (Const x) = 0
takes (Var i) = 0
takes Add = 2
takes Sub = 2
takes Mul = 2
takes Neg = 1
takes (Pow x) = 1
takes Other = 0
takes Malformed = 0

abbrev pub is_other : Token → Bool
is_other (Const x) = false
is_other (Var i) = false
is_other Add = false
is_other Sub = false
is_other Mul = false
is_other Neg = false
is_other (Pow x) = false
is_other Other = true
is_other Malformed = false

abbrev pub is_malformed : Token → Bool
is_malformed (Const x) = false
is_malformed (Var i) = false
is_malformed Add = false
is_malformed Sub = false
is_malformed Mul = false
is_malformed Neg = false
is_malformed (Pow x) = false
is_malformed Other = false
is_malformed Malformed = true

-- a bad token: one that is misspelled or, before any `?`, takes more values than there are
abbrev pub is_bad : Token → Height → Bool
is_bad t h = cond (is_malformed t) true (cond h.past false (ltb h.values (takes t)))

-- a token puts one value in the place of those that it takes; from a `?` on values aren't counted
abbrev pub after : Token → Height → Height
after t h =
    cond h.past h
    (cond (is_other t) (record { values = h.values; deep = h.deep; past = true })
    (record { values = h.values - takes t + 1; deep = cond h.deep true (ltb 16 (h.values - takes t + 1)); past = false }))

-- over 16 values is 4
abbrev pub room_of : Height → Outcome
room_of h = cond h.deep (Err R.TooLong) no_refusal

-- at the text's end one value is left, or a token is missing
abbrev pub finish : ℕ → Height → Outcome
finish end h = cond h.past (room_of h) (cond (eqb h.values 1) (room_of h) (Err (R.Malformed end)))

-- the rest of the words, of which the first starts at a place
unfoldable pub check_from : ℕ → ℕ → Height → List (List ℕ) → Outcome
check_from end at h [] = finish end h
check_from end at h (w ∷ ws) =
    cond (is_bad (token_of w) h) (Err (R.Malformed at))
    (check_from end (at + length w + 1) (after (token_of w) h) ws)

abbrev pub bare : Height
bare = record { values = 0; deep = false; past = false }

-- whether a text is an expression of at most 16 values
unfoldable pub check_of : List ℕ → Outcome
check_of s = check_from (length s) 0 bare (words_of s)
