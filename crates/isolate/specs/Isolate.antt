-- Document 01, module 6 and "order": the isolation of real roots. An end that is not within ±1e15, a tolerance that is not finite or not above 0, and what isn't canonical is 5, before a length over 32 (4); then the square-free part (2), the chain (2), the brackets (4 and 7 as they are met), their roots, sorted, and those that are too close dropped.
use Rattle.std.specs.Prelude.{Bool, ◌&&◌, List, [], Float}
use Rattle.std.specs.Float.{binary64}
use Rattle.std.specs.Float.Ieee.{of_bits, lt}
use Rattle.std.specs.Float.Ieee.Scale.{finite}
use Rattle.ratio.specs.declared.Ratio.{Ratio}
use Rattle.terms.specs.declared.Poly.{Poly}
use Rattle.terms.specs.Machine.{plain}
use Rattle.terms.specs.Poly.{terms_of}
use Rattle.poly.specs.declared.Gate.{Gate}
use Rattle.poly.specs.Door.{door_of, open_if, both, entered}
use Rattle.remainders.specs.Gcd.{square_free}
use Rattle.yun.specs.Got.{Got, got, then_got, list_from}
use Rattle.chain.specs.Sequence.{sequence_of}
use Rattle.sturm.specs.Value.{floats_of}
use Rattle.sturm.specs.Along.{rows_of}
use Rattle.sturm.specs.Count.{inside}
use Rattle.bisect.specs.Bisect.{bisect_of}
use Rattle.isolate.specs.declared.Isolation.{Isolation}
use Rattle.isolate.specs.Answer.{refused_for, isolation_of}
use Rattle.isolate.specs.Sorted.{roots_onto}
use Rattle.isolate.specs.Apart.{apart_onto}

-- what is let in
abbrev pub within : Float → Float → Float → Bool
within lo hi tol = finite tol && lt (of_bits binary64 0) tol && inside lo && inside hi

abbrev pub limits_of : Float → Float → Float → Gate
limits_of lo hi tol = open_if (within lo hi tol)

unfoldable pub isolate_from : List Ratio → Float → Float → Float → Got (List Float)
isolate_from p lo hi tol =
    then_got (list_from (square_free plain p 0)) (λ f.
    then_got (sequence_of f) (λ c.
    then_got (bisect_of (rows_of c) lo hi tol) (λ b.
    got (apart_onto tol (roots_onto (floats_of f) tol b []) []))))

abbrev pub isolate_for : Poly → Float → Float → Float → Isolation
isolate_for p lo hi tol = entered refused_for (both (limits_of lo hi tol) (door_of p)) (isolation_of (isolate_from (terms_of p) lo hi tol))
