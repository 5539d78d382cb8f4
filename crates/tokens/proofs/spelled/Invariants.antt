-- `tokens::spelled` meets its contract. The loop's invariant: the digits from here on, spelled after the number so far, come to the whole.
use Rattle.std.proofs.Common.{◌≡◌, ◌<◌}
use Prim.Native.Nat.{◌^◌}
use lib.ListN.{drop}
use Rattle.tokens.specs.Spelling.{number_of}
use Rattle.tokens.proofs.spelled.Given as goal

abbrev pub invariant-loop-i : goal.invariant-loop-i
invariant-loop-i l = (l.n < l.base ^ l.i) × (number_of l.base l.n (drop l.i l.digits) ≡ number_of l.base 0 l.digits)
