-- The isolation: each way it can go.
use Rattle.ratio.specs.Refusal.{no_refusal}
use Rattle.std.specs.Prelude.{Err}
use mathlib.Core.Path.{◌≡◌}
use mathlib.Core.List.{List, []}
use lib.Ieee.{Float}
use Rattle.ratio.specs.declared.Ratio.{Ratio}
use Rattle.ratio.specs.declared.Reason.{Reason}
use Rattle.terms.specs.declared.Answer.{Answer}
use Rattle.terms.specs.Machine.{plain}
use Rattle.terms.specs.Poly.{terms_of}
use Rattle.terms.specs.Answer.{answer_of}
use Rattle.remainders.specs.Gcd.{square_free}
use Rattle.yun.proofs.CodeGot.{list-got, list-none}
use Rattle.chain.specs.declared.Chain.{Chain}
use Rattle.chain.specs.Answer.{entries_of, chain_of}
use Rattle.chain.specs.Sequence.{sequence_of}
use Rattle.chain.proofs.CodeChain.{chain-got, chain-none}
use Rattle.sturm.specs.Value.{floats_of}
use Rattle.sturm.specs.Along.{rows_of}
use Rattle.bisect.specs.declared.Brackets.{Brackets}
use Rattle.bisect.specs.Bracket.{items_of, brackets_of}
use Rattle.bisect.specs.Bisect.{bisect_of}
use Rattle.bisect.proofs.Hold.{brackets-got, brackets-none}
use Rattle.isolate.specs.Answer.{holding, refused_for, isolation_of}
use Rattle.isolate.specs.Sorted.{roots_onto}
use Rattle.isolate.specs.Apart.{apart_onto}
use Rattle.isolate.specs.Isolate.{isolate_from}

module _ (p : List Ratio) (lo hi tol : Float) (f : Answer) (e : f ≡ answer_of (square_free plain p 0)) where
  pub free-refused : (why : Reason) → f.outcome ≡ Err why → refused_for why ≡ isolation_of (isolate_from p lo hi tol)
  unfolding isolate_from
  free-refused why o = rw (list-none f (square_free plain p 0) why e o)

  module _ (o : f.outcome ≡ no_refusal) (c : Chain) (ec : c ≡ chain_of (sequence_of (terms_of f.poly))) where
    pub chain-refused : (why : Reason) → c.outcome ≡ Err why → refused_for why ≡ isolation_of (isolate_from p lo hi tol)
    unfolding isolate_from
    chain-refused why oc = rw (list-got f (square_free plain p 0) e o, chain-none c (sequence_of (terms_of f.poly)) why ec oc)

    module _ (oc : c.outcome ≡ no_refusal) (b : Brackets) (eb : b ≡ brackets_of (bisect_of (rows_of (entries_of c)) lo hi tol)) where
      pub brackets-refused : (why : Reason) → b.outcome ≡ Err why → refused_for why ≡ isolation_of (isolate_from p lo hi tol)
      unfolding isolate_from
      brackets-refused why ob = rw (list-got f (square_free plain p 0) e o, chain-got c (sequence_of (terms_of f.poly)) ec oc, brackets-none b (bisect_of (rows_of (entries_of c)) lo hi tol) why eb ob)

      pub isolated : b.outcome ≡ no_refusal → holding (apart_onto tol (roots_onto (floats_of (terms_of f.poly)) tol (items_of b) []) []) ≡ isolation_of (isolate_from p lo hi tol)
      unfolding isolate_from
      isolated ob = rw (list-got f (square_free plain p 0) e o, chain-got c (sequence_of (terms_of f.poly)) ec oc, brackets-got b (bisect_of (rows_of (entries_of c)) lo hi tol) eb ob)
