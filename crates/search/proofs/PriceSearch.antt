-- What a search costs, refused or not: by the budget and the number of coefficients, or by the lengths of its two listings.
use mathlib.Core.Path.{◌≡◌, refl, sym, ap, subst, ◌∙◌}
use mathlib.Core.List.{List}
use Prim.Native.Nat.{ℕ, ◌*◌, ◌<◌, ◌≤◌, zero-le}
use native.Mathlib.Decide.{dec_lt}
use native.Mathlib.Nat.{mul-le-mul, mul-le-mul_right}
use native.Mathlib.Omega.{arith}
use lib.Dec.{ltb}
use lib.IntN.{nat_abs}
use lib.ListN.{length, length-drop}
use Rattle.ratio.specs.declared.Ratio.{Ratio}
use Rattle.terms.specs.Machine.{Ran, fine, over}
use Rattle.terms.specs.Poly.{trim}
use Rattle.terms.proofs.Lists.{trim-short}
use Rattle.divisors.specs.Listing.{factors_of}
use Rattle.search.specs.declared.Roots.{Roots}
use Rattle.search.specs.Clear.{cleared_by}
use Rattle.search.specs.Strip.{zeros}
use Rattle.search.specs.Try.{Count}
use Rattle.search.specs.Answer.{answered, nothing, started, roots_for, roots_of}
use Rattle.search.proofs.PriceTry.{count_in, all-few}
use Rattle.search.proofs.PriceListing.{listing-few}
use Rattle.search.proofs.MeaningClear.{multiple-is, cleared-length}
use Rattle.search.proofs.MeaningAnswer.{stripped, first_of, last_of, run_of, Ended, early, ran, ended, empty_of, roots-none}

-- at most 4 b entries a listing, and three steps a coefficient for each candidate
pub record Priced (n budget : ℕ) (r : Roots) : Type 0 where
  pub tried : r.tried ≤ 4 * budget * (4 * budget)
  pub steps : r.steps ≤ 3 * n * r.tried

counted : (r : Ran Count (List Ratio)) → ((answered r).tried ≡ (count_in r).tried) × ((answered r).steps ≡ (count_in r).steps)
counted (fine c l) = (refl, refl)
counted (over c) = (refl, refl)

priced-more : (n m budget : ℕ) (r : Roots) → n ≤ m → Priced n budget r → Priced m budget r
priced-more n m budget r h p =
    let k : 3 * n * r.tried ≤ 3 * m * r.tried = mul-le-mul_right r.tried (omega arith) in
    record { tried = p.tried; steps = omega (arith, p.steps) }

ended-priced : (l : List Ratio) (budget : ℕ) (r : Roots) → Ended l budget r → Priced (length l) budget r
ended-priced l budget r (early why) = record { tried = zero-le; steps = zero-le }
ended-priced l budget r (ran m k c e f g i) =
    let few = all-few (stripped c) (factors_of (nat_abs (first_of c))) (factors_of (nat_abs (last_of c))) nothing (started (ltb 0 (zeros c))) in
    let M = multiple-is l 1 m (omega arith) e in
    let long : length c ≡ length l = cleared-length l M.number M.some M.all k c (ap (λ r. cleared_by r l) (sym M.is) ∙ f) in
    let pair : length (factors_of (nat_abs (first_of c))) * length (factors_of (nat_abs (last_of c))) ≤ 4 * budget * (4 * budget) = mul-le-mul (listing-few (first_of c) budget g) (listing-few (last_of c) budget i) in
    let (t, s) = counted (run_of c) in
    let short : length (stripped c) ≤ length l = omega (arith, length-drop (zeros c) c) in
    priced-more (length (stripped c)) (length l) budget (answered (run_of c)) short
    (record { tried = omega (arith, few.tried); steps = subst (λ q. (answered (run_of c)).steps ≤ 3 * length (stripped c) * q) (sym t) (omega (arith, few.steps)) })

pub roots-priced : (l : List Ratio) (budget : ℕ) → Priced (length l) budget (roots_of l budget)
roots-priced l budget = go (dec_lt 0 (length (trim l)))
  where
    go : Dec (0 < length (trim l)) → Priced (length l) budget (roots_of l budget)
    go (yes h) = priced-more (length (trim l)) (length l) budget (roots_of l budget) (trim-short l) (ended-priced (trim l) budget (roots_for (trim l) budget) (ended (trim l) budget h))
    go (no h) = subst (Priced (length l) budget) (sym (roots-none l budget (empty_of (trim l) h))) (record { tried = zero-le; steps = zero-le })
