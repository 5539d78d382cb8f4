-- What an answered search means: the roots found are those of the polynomial, all of them, rising, in lowest terms.
use mathlib.Core.Path.{◌≡◌, refl, sym, ap, ap₂, subst, ◌∙◌}
use mathlib.Core.Logic.{◌⊎◌, inl, inr, ∥∥₁_elim}
use mathlib.Core.Bool.{Bool, true, false}
use mathlib.Core.List.{List, [], ◌∷◌, ◌++◌, map}
use Prim.Native.Nat.{ℕ, zero, suc, ◌-◌, ◌<◌, ◌≤◌}
use native.Mathlib.Nat.{le_of_dvd, le_trans}
use native.Mathlib.Omega.{arith}
use borrow.Author.Tests.{ltb-true, lt-ltb, ne_eqb}
use lib.Dec.{ltb}
use lib.IntN.{ℤ, pos, nat_abs}
use lib.ListN.{length, take, drop, get_or, length-map}
use lib.Seq.{take-suc, take_all}
use Rattle.algebra.specs.Rational.{Rat, Same, whole, over}
use Rattle.algebra.specs.Textbook.{IsRoot, HasDegree}
use Rattle.algebra.proofs.Whole.{ℤ-ring}
use Rattle.algebra.proofs.WholeDivides.{Dvdℤ}
use Rattle.algebra.proofs.Rational.{ℚ-ring, 0ℚ, val, val_same, same-val, val-fr, val-over, den-ne}
use Rattle.algebra.proofs.Lowest.{LowestTerms, reduce}
use Rattle.algebra.proofs.Evaluation.{ev}
use Rattle.algebra.proofs.Lists.{poly}
use Rattle.algebra.proofs.ListWords.{degree-from, root-to, root-from}
use Rattle.algebra.proofs.Theorems.{few-roots, root-numerator, root-denominator}
use Rattle.ratio.specs.Promise.{rat, Lowest, Fraction}
use Rattle.ratio.specs.Range.{Within}
use Rattle.ratio.specs.Refusal.{zero_r, status_of, no_refusal}
use Rattle.ratio.specs.Step.{is_nil}
use Rattle.ratio.specs.declared.Ratio.{Ratio}
use Rattle.ratio.proofs.Fractions.{nil-some}
use Rattle.ratio.proofs.Words.{size_above}
use Rattle.ratio.proofs.Steps.{zero-lowest, zero-value, new_is, new-done}
use Rattle.terms.specs.Machine.{fine, whole_r}
use Rattle.terms.specs.Meaning.{rats}
use Rattle.terms.proofs.MeaningTop.{top-degree}
use Rattle.divisors.specs.Listing.{factors_of}
use Rattle.divisors.specs.Marks.{listing_of}
use Rattle.divisors.specs.Promise.{count_of, count_more, same_z}
use Rattle.divisors.proofs.Count.{same-eq}
use Rattle.divisors.proofs.Lists.{lists, divisor-size}
use Rattle.search.specs.Strip.{zeros}
use Rattle.search.specs.Try.{Count, try_all}
use Rattle.search.specs.Answer.{nothing, started}
use Rattle.search.proofs.Kept.{All, none, each, Has, here, there, nothing as nothing-sorted, first, sorted-different, member, all-at}
use Rattle.search.proofs.MeaningTry.{Good, Grows, all-grows, all-gets}
use Rattle.search.proofs.MeaningStrip.{strip-sound, strip-zero, strip-complete, strip-some, strip-top}

-- ---- an entry of a listing

count-has : (z : ℤ) (l : List ℤ) → 0 < count_of z l → Has (λ y. z ≡ y) l
unfolding count_of
count-has z [] h = absurd (omega arith)
count-has z (a ∷ l) h = go (same_z z a) refl h (count-has z l)
  where
    go : (t : Bool) → same_z z a ≡ t → 0 < count_more t (count_of z l) → (0 < count_of z l → Has (λ y. z ≡ y) l) → Has (λ y. z ≡ y) (a ∷ l)
    go true e h again = here (same-eq z a e)
    go false e h again = there (again h)

listed_has : (n : ℤ) (budget : ℕ) (z : ℤ) → (listing_of n budget).outcome ≡ no_refusal → is_nil n ≡ false → Dvdℤ z n → Has (λ y. z ≡ y) (factors_of (nat_abs n))
listed_has n budget z d e (k, f) =
    let s : status_of (listing_of n budget).outcome ≡ 0 = ap status_of d in
    let c = (lists n budget).divisors s (nil-some n e) z (record { quotient = k; is = f }) in
    let o = (lists n budget).order s in
    let m : count_of z (factors_of (nat_abs n)) ≡ 1 = ap (count_of z) (sym o) ∙ c in
    count-has z (factors_of (nat_abs n)) (omega arith)

divisor-within : (z n : ℤ) → is_nil n ≡ false → Within n → Dvdℤ z n → Within z
divisor-within z n e h (k, f) = le_trans (le_of_dvd (size_above n (nil-some n e)) (divisor-size n z (record { quotient = k; is = f }))) h

-- ---- rationals that are the same

root-same : (l : List Ratio) (x y : Rat) → val x ≡ val y → IsRoot (rats l) x → IsRoot (rats l) y
root-same l x y e r = root-from (rats l) y (subst (λ v. ev ℚ-ring (poly (rats l)) v ≡ 0ℚ) e (root-to (rats l) x r))

over-val : (y : Rat) → val (over y.num (pos y.den)) ≡ val y
over-val y = val-over y.num (pos y.den) (den-ne y) ∙ sym (val-fr y)

-- ---- whole coefficients

-- a whole number in lowest terms
pub record Entire (r : Ratio) : Type 0 where
  pub lowest : Lowest r
  pub is : r ≡ whole_r r.num

abbrev nums : List Ratio → List ℤ
nums l = map (λ r. r.num) l

rats-nums : (l : List Ratio) → All Entire l → rats l ≡ map whole (nums l)
rats-nums [] none = refl
rats-nums (a ∷ l) (each e h) = ap₂ ◌∷◌ (ap rat e.is) (rats-nums l h)

snoc : (l : List Ratio) → 0 < length l → l ≡ take (length l - 1) l ++ (get_or l (length l - 1) zero_r ∷ [])
snoc l h =
    let n : suc (length l - 1) ≡ length l = omega arith in
    sym (take_all (length l) l (omega arith)) ∙ ap (λ k. take k l) (sym n) ∙ take-suc l (length l - 1) zero_r (omega arith)

nums-snoc : (l : List Ratio) (a : Ratio) → nums (l ++ (a ∷ [])) ≡ nums l ++ (a.num ∷ [])
nums-snoc [] a = refl
nums-snoc (b ∷ l) a = ap (λ t. b.num ∷ t) (nums-snoc l a)

-- numerator and denominator of a root divide the ends
module _ (l : List Ratio) (h : All Entire l) (p : 0 < length l) (y : Rat) (low : LowestTerms y) (r : IsRoot (rats l) y) where
  pub divides-first : Dvdℤ y.num (get_or l 0 zero_r).num
  divides-first = go l h p r
    where
      go : (l : List Ratio) → All Entire l → 0 < length l → IsRoot (rats l) y → Dvdℤ y.num (get_or l 0 zero_r).num
      go [] h p r = absurd (omega arith)
      go (a ∷ l) h p r = root-numerator a.num (nums l) y low (subst (λ t. IsRoot t y) (rats-nums (a ∷ l) h) r)

  pub divides-last : Dvdℤ (pos y.den) (get_or l (length l - 1) zero_r).num
  divides-last =
      root-denominator (nums (take (length l - 1) l)) (get_or l (length l - 1) zero_r).num y low
      (subst (λ t. IsRoot t y) (rats-nums l h ∙ ap (λ t. map whole (nums t)) (snoc l p) ∙ ap (map whole) (nums-snoc (take (length l - 1) l) (get_or l (length l - 1) zero_r))) r)

-- ---- the search in whole coefficients without a zero at the top

all_drop : {W : Type 0} {P : W → Type 0} (k : ℕ) (l : List W) → All P l → All P (drop k l)
all_drop zero l h = h
all_drop (suc k) [] none = none
all_drop (suc k) (a ∷ l) (each p h) = all_drop k l h

module _ (c : List Ratio) (h : All Entire c) (some : 0 < length c) (few : length c ≤ 32) (top : is_nil (get_or c (length c - 1) zero_r).num ≡ false) where
  abbrev Root : Ratio → Type 0
  Root x = IsRoot (rats c) (rat x)

  abbrev left : List Ratio
  left = drop (zeros c) c

  abbrev begun : List Ratio
  begun = started (ltb 0 (zeros c))

  degree : HasDegree (rats c) (length c - 1)
  degree = degree-from (rats c) (length c - 1) (top-degree c (length c - 1) (omega arith) (all-at c zero_r h (length c - 1) (omega arith)).lowest.fraction top)

  -- no list of roots is full
  room : (kept : List Ratio) → Good Root kept → length kept < 32
  room kept g =
      let n : length (map rat kept) ≤ length c - 1 =
      few-roots (rats c) (length c - 1) degree (map rat kept) (sorted-different kept g.sorted)
      (λ x m. ∥∥₁_elim m (ℤ-ring.is_set _ _) (λ d. member (λ y. IsRoot (rats c) y) kept g.roots x d)) in
      omega (arith, length-map kept rat)

  good-begun : Good Root begun
  good-begun = go (ltb 0 (zeros c)) refl
    where
      go : (t : Bool) → ltb 0 (zeros c) ≡ t → Good Root (started t)
      go true e = record { sorted = first none nothing-sorted; lowest = each zero-lowest none; roots = each (strip-zero c (ltb-true 0 (zeros c) e)) none }
      go false e = record { sorted = nothing-sorted; lowest = none; roots = none }

  module _ (budget : ℕ) (first-listed : (listing_of (get_or left 0 zero_r).num budget).outcome ≡ no_refusal) (last-listed : (listing_of (get_or left (length left - 1) zero_r).num budget).outcome ≡ no_refusal)
      (d : Count) (kept : List Ratio) (e : try_all left (factors_of (nat_abs (get_or left 0 zero_r).num)) (factors_of (nat_abs (get_or left (length left - 1) zero_r).num)) nothing begun ≡ fine d kept) where
    grown : Grows Root begun kept
    grown = all-grows left Root (λ x. strip-sound c (rat x)) room _ _ nothing d begun kept good-begun e

    pub kept-good : Good Root kept
    kept-good = grown.good

    ends : (0 < length left) × (is_nil (get_or left 0 zero_r).num ≡ false)
    ends = strip-some c some top

    whole-left : All Entire left
    whole-left = all_drop (zeros c) c h

    -- a root that isn't stripped is a candidate
    tried : (x : Rat) → IsRoot (rats left) x → Has (λ b. Same (rat b) x) kept
    tried x r =
        let (y, low, s) = reduce x in
        let v : val y ≡ val x = val_same y x s in
        let ry : IsRoot (rats left) y = root-same left x y (sym v) r in
        let n : ℕ = length left - 1 in
        let t : is_nil (get_or left n zero_r).num ≡ false = ap (λ z. is_nil z.num) (strip-top (zeros c) c ends.0) ∙ top in
        let p = divides-first left whole-left ends.0 y low ry in
        let q = divides-last left whole-left ends.0 y low ry in
        let f : Fraction (record { num = y.num; den = pos y.den }) = record {
          num-within = divisor-within y.num (get_or left 0 zero_r).num ends.1 (all-at left zero_r whole-left 0 ends.0).lowest.fraction.num-within p;
          den-within = divisor-within (pos y.den) (get_or left n zero_r).num t (all-at left zero_r whole-left n (omega (arith, ends.0))).lowest.fraction.num-within q;
          den-some = den-ne y;
        } in
        let k = new_is y.num (pos y.den) f in
        let z = (new-done y.num (pos y.den) _ k).0 in
        let vz = val_same _ _ z ∙ over-val y ∙ v in
        all-gets left Root (λ x. strip-sound c (rat x)) room y.num (pos y.den) _ (ne_eqb y.den 0 (λ o. omega (arith, y.above_zero))) k (root-same left x _ (sym vz) r) (λ b. Same (rat b) x) (same-val _ x vz)
        _ _ (listed_has (get_or left 0 zero_r).num budget y.num first-listed ends.1 p) (listed_has (get_or left n zero_r).num budget (pos y.den) last-listed t q) nothing d begun kept good-begun e

    begun-zero : (x : Rat) → 0 < zeros c → val x ≡ 0ℚ → Has (λ b. Same (rat b) x) begun
    begun-zero x z v = subst (λ t. Has (λ b. Same (rat b) x) (started t)) (sym (lt-ltb 0 (zeros c) z)) (here (same-val (rat zero_r) x (zero-value ∙ sym v)))

    pub kept-complete : (x : Rat) → IsRoot (rats c) x → Has (λ b. Same (rat b) x) kept
    kept-complete x r = go (strip-complete c x r)
      where
        go : ((0 < zeros c) × (val x ≡ 0ℚ)) ⊎ IsRoot (rats left) x → Has (λ b. Same (rat b) x) kept
        go (inl (z, v)) = grown.has (λ b. Same (rat b) x) (begun-zero x z v)
        go (inr s) = tried x s
