-- What a factor that was found is: it has degree at least 1, whole coefficients and no zero at the top, and dividing by it leaves no rest.
use Rattle.std.specs.Prelude.{Ok, Err}
use mathlib.Core.Path.{◌≡◌, refl, sym, ap, subst, ◌∙◌}
use mathlib.Core.Bool.{Bool, true, false, not, cond}
use mathlib.Core.List.{List, [], ◌∷◌}
use Prim.Native.Nat.{ℕ, zero, suc, ◌+◌, ◌≤◌}
use native.Mathlib.Omega.{arith}
use borrow.Author.Tests.{ltb-false}
use lib.Dec.{ltb}
use lib.ListN.{length, get_or}
use Rattle.ratio.specs.Refusal.{zero_r, Outcome, no_refusal}
use Rattle.ratio.specs.declared.Ratio.{Ratio}
use Rattle.terms.specs.declared.Answer.{Answer}
use Rattle.terms.specs.Poly.{drop_top, terms_of, poly_of, trim}
use Rattle.terms.specs.Machine.{plus, Ran, fine, over, plain}
use Rattle.terms.specs.Work.{zipped}
use Rattle.terms.specs.Answer.{answer_of}
use Rattle.terms.proofs.Lists.{terms-of-poly, trim-trim}
use Rattle.terms.proofs.MeaningLowest.{AllLowest, none-lowest, trim-lowest, zipped-lowest}
use Rattle.remainders.specs.Answer.{divided_of}
use Rattle.kronecker.specs.declared.Split.{Split}
use Rattle.kronecker.specs.declared.Values.{Values}
use Rattle.kronecker.specs.declared.Values.TheVariants.{Whole, Broken, Over}
use Rattle.kronecker.specs.declared.Verdict.{Verdict}
use Rattle.kronecker.specs.declared.Verdict.TheVariants.{Found, Next, NoSplit, Refused}
use Rattle.kronecker.specs.Points.{all_whole, surveyed}
use Rattle.kronecker.specs.Combinations.{Gathering, stopped, made, gathered}
use Rattle.kronecker.specs.Interpolation.{skip, on_outcome, repeated, part_of, added_part, interpolated_of}
use Rattle.kronecker.specs.Split.{without, found_with, is_over, judged_by, judged, tried_of, tried_from, tried_gathered, on_values, tried_at, tried_degrees, most_of, try_split_of}

-- the factor found, and the division that shows it
pub record Cut (f : List Ratio) (s : Split) : Type 0 where
  pub candidate : List Ratio
  pub is : s.factor ≡ poly_of candidate
  pub trimmed : trim candidate ≡ candidate
  pub lowest : AllLowest candidate
  pub long : 2 ≤ length candidate
  pub whole : all_whole candidate ≡ true
  pub answered : (divided_of f candidate).outcome ≡ no_refusal
  pub no-rest : length (terms_of (divided_of f candidate).rest) ≤ 0

module _ (f : List Ratio) where
  Sound : Split → Type 0
  Sound s = s.verdict ≡ Found → Cut f s

  sound-next : Sound (without Next)
  unfolding Sound
  sound-next e = absurd (let z : ◌≡◌ {A = ℕ} 0 1 = cc in omega arith)

  sound_none : Sound (without NoSplit)
  unfolding Sound
  sound_none e = absurd (let z : ◌≡◌ {A = ℕ} 0 1 = cc in omega arith)

  sound-if : (b : Bool) (s t : Split) → Sound s → Sound t → Sound (cond b s t)
  sound-if true s t p q = p
  sound-if false s t p q = q

  -- ---- one candidate, without zeros at the top
  module _ (c : List Ratio) (top : trim c ≡ c) (low : AllLowest c) where
    rest-sound : (k : 2 ≤ length c) (w : all_whole c ≡ true) (o : (divided_of f c).outcome ≡ no_refusal) (b : Bool) → ltb 0 (length (terms_of (divided_of f c).rest)) ≡ b → Sound (cond b (without Next) (found_with c))
    unfolding Sound
    rest-sound k w o true e = sound-next
    rest-sound k w o false e = λ p. record { candidate = c; is = ap poly_of top; trimmed = top; lowest = low; long = k; whole = w; answered = o; no-rest = ltb-false 0 (length (terms_of (divided_of f c).rest)) e }

    division-sound : (k : 2 ≤ length c) (w : all_whole c ≡ true) (o : Outcome) → (divided_of f c).outcome ≡ o → Sound (on_outcome o (without NoSplit) (cond (ltb 0 (length (terms_of (divided_of f c).rest))) (without Next) (found_with c)))
    division-sound k w (Ok _) e = rest-sound k w e (ltb 0 (length (terms_of (divided_of f c).rest))) refl
    division-sound k w (Err why) e = sound_none

    whole-sound : (k : 2 ≤ length c) (b : Bool) → all_whole c ≡ b → Sound (cond (not b) (without Next) (judged_by (divided_of f c) c))
    whole-sound k true e = division-sound k e (divided_of f c).outcome refl
    whole-sound k false e = sound-next

    long-sound : (b : Bool) → ltb (length c) 2 ≡ b → Sound (cond b (without Next) (cond (not (all_whole c)) (without Next) (judged_by (divided_of f c) c)))
    long-sound true e = sound-next
    long-sound false e = whole-sound (ltb-false (length c) 2 e) (all_whole c) refl

    judged-sound : Sound (judged f c)
    unfolding judged
    judged-sound = long-sound (ltb (length c) 2) refl

  -- ---- what is interpolated has no zeros at the top, and is in lowest terms
  record Clean (a : Answer) : Type 0 where
    topless : trim (terms_of a.poly) ≡ terms_of a.poly
    lowest : AllLowest (terms_of a.poly)

  clean-trim : (l : List Ratio) → AllLowest l → Clean (answer_of (fine 0 l))
  clean-trim l h = record {
    topless = ap trim (terms-of-poly (trim l)) ∙ trim-trim l ∙ sym (terms-of-poly (trim l));
    lowest = subst AllLowest (sym (terms-of-poly (trim l))) (trim-lowest l h);
  }

  clean-skip : Clean skip
  unfolding drop_top
  clean-skip = record { topless = refl; lowest = none-lowest }

  clean-outcome : (o : Outcome) (a : Answer) → (o ≡ no_refusal → Clean a) → Clean (on_outcome o skip a)
  clean-outcome (Ok _) a t = t refl
  clean-outcome (Err why) a t = clean-skip

  clean-repeated : (step : ℕ → List Ratio → Answer) → ((j : ℕ) (acc : List Ratio) → AllLowest (terms_of (step j acc).poly)) → (n j : ℕ) (acc : List Ratio) → AllLowest acc → Clean (repeated step n j acc)
  unfolding repeated
  clean-repeated step low zero j acc h = clean-trim acc h
  clean-repeated step low (suc n) j acc h = clean-outcome (step j acc).outcome (repeated step n (suc j) (terms_of (step j acc).poly)) (λ o. clean-repeated step low n (suc j) (terms_of (step j acc).poly) (low j acc))

  lowest-answer : (r : Ran ℕ (List Ratio)) → ((k : ℕ) (l : List Ratio) → r ≡ fine k l → AllLowest l) → AllLowest (terms_of (answer_of r).poly)
  lowest-answer (fine k l) h = subst AllLowest (sym (terms-of-poly (trim l))) (trim-lowest l (h k l refl))
  lowest-answer (over k) h = none-lowest

  lowest-outcome : (o : Outcome) (a b : Answer) → AllLowest (terms_of a.poly) → AllLowest (terms_of b.poly) → AllLowest (terms_of (on_outcome o a b).poly)
  lowest-outcome (Ok _) a b p q = q
  lowest-outcome (Err why) a b p q = p

  added-lowest : (acc : List Ratio) (i n : ℕ) (y : Ratio) → AllLowest (terms_of (added_part acc i n y).poly)
  unfolding added_part
  added-lowest acc i n y =
      lowest-outcome (part_of i n y).outcome skip _ none-lowest (lowest-answer (zipped plain plus acc (terms_of (part_of i n y).poly) 0) (λ k l e. zipped-lowest plus acc (terms_of (part_of i n y).poly) 0 k l e))

  interpolated-clean : (ys : List Ratio) (n : ℕ) → Clean (interpolated_of ys n)
  unfolding interpolated_of
  interpolated-clean ys n = clean-repeated _ (λ i acc. added-lowest acc i n (get_or ys i zero_r)) n 0 [] none-lowest

  outcome-sound : (o : Outcome) (s : Split) → Sound s → Sound (on_outcome o (without Next) s)
  outcome-sound (Ok _) s p = p
  outcome-sound (Err why) s p = sound-next

  tried-sound : (n : ℕ) (ys : List Ratio) → Sound (tried_of f n ys)
  unfolding tried_of
  tried-sound n ys =
      outcome-sound (interpolated_of ys n).outcome (judged f (terms_of (interpolated_of ys n).poly)) (judged-sound (terms_of (interpolated_of ys n).poly) (interpolated-clean ys n).topless (interpolated-clean ys n).lowest)

  -- ---- the search
  from-sound : (n : ℕ) (all : List (List Ratio)) → Sound (tried_from f n all)
  unfolding tried_from
  from-sound n [] = sound-next
  from-sound n (ys ∷ all) = sound-if (is_over (tried_of f n ys).verdict) (tried_of f n ys) (tried_from f n all) (tried-sound n ys) (from-sound n all)

  gathered-sound : (n : ℕ) (g : Gathering) → Sound (tried_gathered f n g)
  unfolding Sound
  gathered-sound n (stopped why) = λ e. absurd (let z : ◌≡◌ {A = ℕ} 0 1 = cc in omega arith)
  gathered-sound n (made l) = from-sound n l

  values-sound : (v : Values) (s : Split) → Sound s → Sound (on_values v s)
  values-sound Whole s p = p
  values-sound Broken s p = sound-next
  values-sound Over s p = sound_none

  at-sound : (budget n : ℕ) → Sound (tried_at f budget n)
  unfolding tried_at
  at-sound budget n = values-sound (surveyed f n 0 true) _ (gathered-sound n (gathered f budget n 0 ([] ∷ [])))

  degrees-sound : (budget n k : ℕ) → Sound (tried_degrees f budget n k)
  unfolding tried_degrees
  degrees-sound budget zero k = sound_none
  degrees-sound budget (suc n) k = sound-if (is_over (tried_at f budget (k + 1)).verdict) (tried_at f budget (k + 1)) (tried_degrees f budget n (suc k)) (at-sound budget (k + 1)) (degrees-sound budget n (suc k))

  pub found-cut : (budget : ℕ) → (try_split_of f budget).verdict ≡ Found → Cut f (try_split_of f budget)
  unfolding Sound try_split_of
  found-cut budget = degrees-sound budget (most_of f) 1

-- ---- what is handed back has its unused places at 0/1

Made : Split → Type 0
Made s = s.factor ≡ poly_of (terms_of s.factor)

made-without : (v : Verdict) → Made (without v)
unfolding Made
made-without v = refl

made_found : (c : List Ratio) → Made (found_with c)
unfolding Made
made_found c = ap poly_of (sym (terms-of-poly (trim c)))

made-if : (b : Bool) (s t : Split) → Made s → Made t → Made (cond b s t)
made-if true s t p q = p
made-if false s t p q = q

made-outcome : (o : Outcome) (s t : Split) → Made s → Made t → Made (on_outcome o s t)
made-outcome (Ok _) s t p q = q
made-outcome (Err why) s t p q = p

module _ (f : List Ratio) where
  made-judged : (c : List Ratio) → Made (judged f c)
  unfolding judged
  made-judged c =
      made-if (ltb (length c) 2) (without Next) _ (made-without Next)
      (made-if (not (all_whole c)) (without Next) _ (made-without Next)
      (made-outcome (divided_of f c).outcome (without NoSplit) _ (made-without NoSplit)
      (made-if (ltb 0 (length (terms_of (divided_of f c).rest))) (without Next) (found_with c) (made-without Next) (made_found c))))

  made-from : (n : ℕ) (all : List (List Ratio)) → Made (tried_from f n all)
  unfolding tried_from tried_of
  made-from n [] = made-without Next
  made-from n (ys ∷ all) =
      made-if (is_over (tried_of f n ys).verdict) (tried_of f n ys) (tried_from f n all)
      (made-outcome (interpolated_of ys n).outcome (without Next) _ (made-without Next) (made-judged (terms_of (interpolated_of ys n).poly)))
      (made-from n all)

  made-gathered : (n : ℕ) (g : Gathering) → Made (tried_gathered f n g)
  made-gathered n (stopped why) = made-without (Refused why)
  made-gathered n (made l) = made-from n l

  made-values : (v : Values) (s : Split) → Made s → Made (on_values v s)
  made-values Whole s p = p
  made-values Broken s p = made-without Next
  made-values Over s p = made-without NoSplit

  made-degrees : (budget n k : ℕ) → Made (tried_degrees f budget n k)
  unfolding tried_degrees tried_at
  made-degrees budget zero k = made-without NoSplit
  made-degrees budget (suc n) k =
      made-if (is_over (tried_at f budget (k + 1)).verdict) (tried_at f budget (k + 1)) (tried_degrees f budget n (suc k))
      (made-values (surveyed f (k + 1) 0 true) _ (made-gathered (k + 1) (gathered f budget (k + 1) 0 ([] ∷ []))))
      (made-degrees budget n (suc k))

  pub factor-made : (budget : ℕ) → (try_split_of f budget).factor ≡ poly_of (terms_of (try_split_of f budget).factor)
  unfolding Made try_split_of
  factor-made budget = made-degrees budget (most_of f) 1
