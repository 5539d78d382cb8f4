-- Document 01, module 7: how a token is spelled: `c` and 16 hex digits, `v` and 0 to 255, `+`, `-`, `*`, `~`, `^` and 16 hex digits, `?`.
use Rattle.std.specs.Prelude.{cond, List, [], ◌∷◌, ℕ, ◌+◌, ◌*◌, ◌-◌, ltb, eqb, length, Option, Some, None}
use Rattle.std.specs.Float.{binary64}
use Rattle.std.specs.Float.Ieee.{of_bits}
use Rattle.tokens.specs.declared.Token.{Token}
use Rattle.tokens.specs.declared.Token.TheVariants.{Const, Var, Add, Sub, Mul, Neg, Pow, Other, Malformed}

-- the value of a digit, `0` to `9` and `a` to `f`; 16 of any other byte
unfoldable pub digit_of : ℕ → ℕ
digit_of b =
    cond (ltb b 48) 16
    (cond (ltb b 58) (b - 48)
    (cond (ltb b 97) 16
    (cond (ltb b 103) (b - 87) 16)))

-- the number that these digits spell, after those that came to n
unfoldable pub number_of : ℕ → ℕ → List ℕ → Option ℕ
number_of base n [] = Some n
number_of base n (b ∷ l) = cond (ltb (digit_of b) base) (number_of base (n * base + digit_of b) l) None

unfoldable pub bits_of : List ℕ → Option ℕ
bits_of l = cond (eqb (length l) 16) (number_of 16 0 l) None

abbrev pub const_of : Option ℕ → Token
const_of (Some n) = Const (of_bits binary64 n)
const_of None = Malformed

abbrev pub pow_of : Option ℕ → Token
pow_of (Some n) = Pow (of_bits binary64 n)
pow_of None = Malformed

abbrev pub index_of : Option ℕ → Token
index_of (Some n) = cond (ltb 255 n) Malformed (Var n)
index_of None = Malformed

-- a number of at most 19 digits, without leading zeros
unfoldable pub natural_of : List ℕ → Option ℕ
natural_of [] = None
natural_of (a ∷ []) = number_of 10 0 (a ∷ [])
natural_of (a ∷ b ∷ l) = cond (ltb 17 (length l)) None (cond (eqb a 48) None (number_of 10 0 (a ∷ b ∷ l)))

-- 0 to 255
unfoldable pub var_of : List ℕ → Token
var_of l = index_of (natural_of l)

-- a token of one byte
unfoldable pub mark_of : ℕ → Token
mark_of b =
    cond (eqb b 43) Add
    (cond (eqb b 45) Sub
    (cond (eqb b 42) Mul
    (cond (eqb b 126) Neg
    (cond (eqb b 63) Other Malformed))))

-- the token that a whole word spells
unfoldable pub token_of : List ℕ → Token
token_of [] = Malformed
token_of (b ∷ []) = mark_of b
token_of (b ∷ d ∷ l) =
    cond (eqb b 99) (const_of (bits_of (d ∷ l)))
    (cond (eqb b 94) (pow_of (bits_of (d ∷ l)))
    (cond (eqb b 118) (var_of (d ∷ l)) Malformed))
