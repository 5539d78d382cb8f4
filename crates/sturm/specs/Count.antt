-- Document 01, module 6 and "order": the count of real roots. Ends that are not within ±1e15 are 5, before a length over 32 (4); then the square-free part, the chain, and the changes at the left end less those at the right, at least 0.
use Rattle.ratio.specs.Refusal.{no_refusal}
use Rattle.std.specs.Prelude.{Bool, ◌&&◌, List, ℕ, ◌-◌, Float, Err}
use Rattle.std.specs.Float.{binary64}
use Rattle.std.specs.Float.Ieee.{of_bits, neg, le}
use Rattle.ratio.specs.declared.Ratio.{Ratio}
use Rattle.ratio.specs.declared.Reason.{Reason}
use Rattle.terms.specs.declared.Poly.{Poly}
use Rattle.terms.specs.Machine.{plain}
use Rattle.terms.specs.Poly.{terms_of}
use Rattle.poly.specs.declared.Gate.{Gate}
use Rattle.poly.specs.Door.{door_of, open_if, both, entered}
use Rattle.remainders.specs.Gcd.{square_free}
use Rattle.yun.specs.Got.{Got, got, none, then_got, list_from}
use Rattle.chain.specs.declared.Chain.{Chain}
use Rattle.chain.specs.Answer.{refused_for, chain_of}
use Rattle.chain.specs.Sequence.{sequence_of}
use Rattle.sturm.specs.declared.Count.{Count}
use Rattle.sturm.specs.Changes.{changes}
use Rattle.sturm.specs.Along.{rows_of, signs_at}

-- the chain of what came through the door
abbrev pub sequence_for : Poly → Chain
sequence_for p = entered refused_for (door_of p) (chain_of (sequence_of (terms_of p)))

-- 1e15
abbrev pub farthest : Float
farthest = of_bits binary64 0x430c_6bf5_2634_0000

-- a NaN and the infinities are not within ±1e15
abbrev pub inside : Float → Bool
inside x = le (neg farthest) x && le x farthest

abbrev pub ends_of : Float → Float → Gate
ends_of lo hi = open_if (inside lo && inside hi)

unfoldable pub count_from : List Ratio → Float → Float → Got ℕ
count_from p lo hi = then_got (list_from (square_free plain p 0)) (λ f. then_got (sequence_of f) (λ c. got (changes (signs_at (rows_of c) lo) - changes (signs_at (rows_of c) hi))))

abbrev pub no_count : Reason → Count
no_count why = record { outcome = Err why; count = 0 }

abbrev pub count_of : Got ℕ → Count
count_of (got n) = record { outcome = no_refusal; count = n }
count_of (none why) = no_count why

abbrev pub count_for : Poly → Float → Float → Count
count_for p lo hi = entered no_count (both (ends_of lo hi) (door_of p)) (count_of (count_from (terms_of p) lo hi))
