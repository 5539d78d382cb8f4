-- Laws of the content: the loop over the coefficients, its turn and its end.
use mathlib.Core.Path.{◌≡◌, refl, sym, subst}
use mathlib.Core.Bool.{false}
use mathlib.Core.List.{List, [], ◌∷◌}
use Prim.Native.Nat.{ℕ, zero, suc, ◌+◌, ◌<◌, ◌≤◌}
use native.Mathlib.Numerals.{add-one}
use native.Mathlib.Nat.{le_trans}
use native.Mathlib.Omega.{arith}
use lib.IntN.{pos, nat_abs}
use lib.ListN.{length, drop, get_or, drop_of_length-le}
use lib.Seq.{drop-cons}
use Rattle.ratio.specs.Gcd.{gcd_of}
use Rattle.ratio.specs.Range.{limit}
use Rattle.ratio.specs.Refusal.{zero_r, ratio_of}
use Rattle.ratio.specs.Step.{new_of}
use Rattle.ratio.specs.declared.Ratio.{Ratio}
use Rattle.ratio.proofs.Euclid.{gcd-zero, gcd-most}
use Rattle.terms.specs.Machine.{whole_r}
use Rattle.roots.specs.Content.{denominator_of, content_from, content_of, is_below}

pub gcd-within : (a b : ℕ) → a ≤ limit → b ≤ limit → gcd_of a b ≤ limit
gcd-within a zero h k = subst (λ g. g ≤ limit) (sym (gcd-zero a)) h
gcd-within a (suc b) h k = le_trans (gcd-most a (suc b) (omega arith)) k

module _ (l : List Ratio) where
  -- what is left gives the whole content
  pub record Gathering (i num : ℕ) (den : Ratio) : Type 0 where
    pub whole : content_from (drop i l) num den ≡ content_of l
    pub within : num ≤ limit

  pub gathering-none : Gathering 0 0 (whole_r (pos 1))
  gathering-none = record { whole = refl; within = omega arith }

  pub gathering-more : (i num : ℕ) (den : Ratio) → i < length l → nat_abs (get_or l i zero_r).num ≤ limit → Gathering i num den
      → (num' : ℕ) (den' : Ratio) → num' ≡ gcd_of num (nat_abs (get_or l i zero_r).num) → den' ≡ denominator_of den (get_or l i zero_r).den → Gathering (i + 1) num' den'
  unfolding content_from
  gathering-more i num den h w g num' den' e f = record {
    whole = rw (add-one i, e, f) (rw (drop-cons l i zero_r h) at g.whole);
    within = subst (λ m. m ≤ limit) (sym e) (gcd-within num (nat_abs (get_or l i zero_r).num) g.within w);
  }

  pub gathering-all : (i num : ℕ) (den : Ratio) → length l ≤ i → Gathering i num den → ratio_of (new_of (pos num) den.num) ≡ content_of l
  unfolding content_from
  gathering-all i num den h g =
      let e : drop i l ≡ [] = drop_of_length-le l h in
      rw e at g.whole

pub below_none : (l : List Ratio) → length l ≡ 0 → false ≡ is_below l
below_none [] e = refl
below_none (a ∷ l) e = absurd (omega arith)
