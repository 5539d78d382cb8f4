-- The ends and the count: each way it can go.
use Rattle.ratio.specs.Refusal.{no_refusal}
use Rattle.std.specs.Prelude.{Err}
use mathlib.Core.Path.{◌≡◌}
use mathlib.Core.List.{List}
use Prim.Native.Nat.{ℕ, ◌-◌}
use lib.Ieee.{Float}
use Rattle.ratio.specs.declared.Ratio.{Ratio}
use Rattle.ratio.specs.declared.Reason.{Reason}
use Rattle.terms.specs.declared.Answer.{Answer}
use Rattle.terms.specs.Machine.{plain}
use Rattle.terms.specs.Poly.{terms_of}
use Rattle.terms.specs.Answer.{answer_of}
use Rattle.remainders.specs.Gcd.{square_free}
use Rattle.yun.proofs.CodeGot.{list-got, list-none}
use Rattle.chain.specs.declared.Chain.{Chain}
use Rattle.chain.specs.Answer.{entries_of, chain_of}
use Rattle.chain.specs.Sequence.{sequence_of}
use Rattle.chain.proofs.CodeChain.{chain-got, chain-none}
use Rattle.sturm.specs.declared.Count.{Count}
use Rattle.sturm.specs.Changes.{changes}
use Rattle.sturm.specs.Along.{rows_of, signs_at}
use Rattle.sturm.specs.Count.{no_count, count_of, count_from}

module _ (p : List Ratio) (lo hi : Float) (f : Answer) (e : f ≡ answer_of (square_free plain p 0)) where
  pub free-refused : (why : Reason) → f.outcome ≡ Err why → no_count why ≡ count_of (count_from p lo hi)
  unfolding count_from
  free-refused why o = rw (list-none f (square_free plain p 0) why e o)

  module _ (o : f.outcome ≡ no_refusal) (c : Chain) (ec : c ≡ chain_of (sequence_of (terms_of f.poly))) where
    pub chain-refused : (why : Reason) → c.outcome ≡ Err why → no_count why ≡ count_of (count_from p lo hi)
    unfolding count_from
    chain-refused why oc = rw (list-got f (square_free plain p 0) e o, chain-none c (sequence_of (terms_of f.poly)) why ec oc)

    pub count-done : c.outcome ≡ no_refusal → (n : ℕ) → n ≡ changes (signs_at (rows_of (entries_of c)) lo) - changes (signs_at (rows_of (entries_of c)) hi) → ◌≡◌ {A = Count} (record { outcome = no_refusal; count = n }) (count_of (count_from p lo hi))
    unfolding count_from
    count-done oc n h = rw (list-got f (square_free plain p 0) e o, chain-got c (sequence_of (terms_of f.poly)) ec oc, h)
