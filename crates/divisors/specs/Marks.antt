-- A listing as a bit set: bit j % 64 of word j / 64 is set exactly if j + 1 is a divisor up to the root. What `integer_factors` hands back.
use Rattle.ratio.specs.Refusal.{no_refusal}
use Rattle.std.specs.Prelude.{Bool, true, false, List, [], ◌∷◌, ℕ, zero, suc, ◌+◌, ◌*◌, ◌/◌, ◌%◌, ◌^◌, leb, ltb, eqb, ℤ, nat_abs, get_or, replicate, Err}
use Rattle.ratio.specs.declared.Reason.{Reason}
use Rattle.ratio.specs.declared.Reason.TheVariants.{BadInput, Budget}
use Rattle.divisors.specs.declared.Listing.{Listing}
use Rattle.divisors.specs.Listing.{is_small}

abbrev pub digit : Bool → ℕ
digit true = 1
digit false = 0

-- the word for k numbers from i on, the first in the lowest bit
unfoldable pub word_from : ℕ → ℕ → ℕ → ℕ
word_from n zero i = 0
word_from n (suc k) i = word_from n k (suc i) * 2 + digit (is_small n i)

-- k words from word w on
unfoldable pub words_from : ℕ → ℕ → ℕ → List ℕ
words_from n zero w = []
words_from n (suc k) w = word_from n 64 (w * 64 + 1) ∷ words_from n k (suc w)

unfoldable pub marks_of : ℕ → List ℕ
marks_of n = words_from n 1024 0

abbrev pub bit_at : List ℕ → ℕ → Bool
bit_at marks j = eqb (get_or marks (j / 64) 0 / 2 ^ (j % 64) % 2) 1

-- no entry: the number 1 with no divisor marked
unfoldable pub refused_by : Reason → Listing
refused_by why = record { outcome = Err why; size = 1; marks = replicate 1024 0 }

abbrev pub unless : Bool → Reason → Listing → Listing
unless true why l = refused_by why
unless false why l = l

-- 5 for a number outside the range or a budget outside 1 to 65,536; then 6 where the root is above the budget: (budget + 1)² ≤ N
unfoldable pub listing_of : ℤ → ℕ → Listing
listing_of n budget =
    unless (ltb 9223372036854775807 (nat_abs n)) BadInput
    (unless (eqb budget 0) BadInput
    (unless (ltb 65536 budget) BadInput
    (unless (leb ((budget + 1) * (budget + 1)) (nat_abs n)) Budget
    (record { outcome = no_refusal; size = nat_abs n; marks = marks_of (nat_abs n) }))))
