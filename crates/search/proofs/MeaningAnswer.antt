-- The whole search: how it can end, and what an answered one means for the polynomial that was handed in.
use Rattle.std.specs.Prelude.{Result, Ok, Err}
use mathlib.Core.Path.{◌≡◌, refl, sym, ap, subst, ◌∙◌}
use mathlib.Core.Bool.{false}
use mathlib.Core.List.{List, [], ◌∷◌}
use Prim.Native.Nat.{ℕ, ◌-◌, ◌<◌, ◌≤◌}
use native.Mathlib.Omega.{arith}
use lib.Dec.{ltb}
use lib.IntN.{ℤ, pos, nat_abs}
use lib.ListN.{length, drop, get_or}
use Rattle.algebra.specs.Rational.{Rat, Same}
use Rattle.algebra.specs.Textbook.{IsRoot}
use Rattle.algebra.proofs.ListWords.{root-to, root-from}
use Rattle.algebra.proofs.Rational.{ℚ-ring, 0ℚ, val}
use Rattle.algebra.proofs.Evaluation.{ev}
use Rattle.ratio.specs.Promise.{rat}
use Rattle.ratio.specs.Refusal.{zero_r, Outcome, no_refusal}
use Rattle.ratio.specs.Step.{is_nil}
use Rattle.ratio.specs.declared.Ratio.{Ratio}
use Rattle.ratio.specs.declared.Reason.{Reason}
use Rattle.ratio.specs.declared.Reason.TheVariants.{CoeffOverflow}
use Rattle.terms.specs.Machine.{Ran, fine, over, whole_r}
use Rattle.terms.specs.Meaning.{rats}
use Rattle.terms.specs.Poly.{trim}
use Rattle.terms.proofs.Lists.{trim-short}
use Rattle.terms.proofs.Meaning.{poly_r-trim}
use Rattle.terms.proofs.MeaningTop.{trim-lead}
use Rattle.divisors.specs.Listing.{factors_of}
use Rattle.divisors.specs.Marks.{listing_of}
use Rattle.search.specs.declared.Roots.{Roots}
use Rattle.search.specs.Clear.{multiple_from, cleared_by}
use Rattle.search.specs.Strip.{zeros}
use Rattle.search.specs.Tally.{filled}
use Rattle.search.specs.Try.{Count, try_all}
use Rattle.search.specs.Answer.{no_roots, answered, nothing, started, when_listed, searched_in, searched_whole, cleared_then, roots_for, roots_of}
use Rattle.search.proofs.Kept.{All, all_weaker, all_from, Has}
use Rattle.search.proofs.MeaningTry.{Good}
use Rattle.search.proofs.MeaningClear.{Multiple, multiple-is, cleared-length, cleared_at, cleared-lowest, cleared-sound, cleared-complete, times-nil}
use Rattle.search.proofs.MeaningRoots.{Entire, kept-good, kept-complete}

-- ---- how a search ends

-- what is left of whole coefficients, its ends, and the run over their listings
abbrev pub stripped : List Ratio → List Ratio
stripped c = drop (zeros c) c

abbrev pub first_of : List Ratio → ℤ
first_of c = (get_or (stripped c) 0 zero_r).num

abbrev pub last_of : List Ratio → ℤ
last_of c = (get_or (stripped c) (length (stripped c) - 1) zero_r).num

abbrev pub run_of : List Ratio → Ran Count (List Ratio)
run_of c = try_all (stripped c) (factors_of (nat_abs (first_of c))) (factors_of (nat_abs (last_of c))) nothing (started (ltb 0 (zeros c)))

-- refused before a candidate is tried, or all candidates are tried until one is refused
pub data Ended (l : List Ratio) (budget : ℕ) : Roots → Type 0 where
  early : (why : Reason) → Ended l budget (no_roots why 0 0)
  ran : (m : Ratio) (k : ℕ) (c : List Ratio) → multiple_from l (whole_r (pos 1)) ≡ Ok m → cleared_by m l ≡ fine k c
      → (listing_of (first_of c) budget).outcome ≡ no_refusal → (listing_of (last_of c) budget).outcome ≡ no_refusal → Ended l budget (answered (run_of c))

pub ended : (l : List Ratio) (budget : ℕ) → 0 < length l → Ended l budget (roots_for l budget)
unfolding roots_for searched_in
ended [] budget h = absurd (omega arith)
ended (a ∷ l) budget h = multiples (multiple_from (a ∷ l) (whole_r (pos 1))) refl
  where
    listings : (m : Ratio) (k : ℕ) (c : List Ratio) → multiple_from (a ∷ l) (whole_r (pos 1)) ≡ Ok m → cleared_by m (a ∷ l) ≡ fine k c
        → (o p : Outcome) → (listing_of (first_of c) budget).outcome ≡ o → (listing_of (last_of c) budget).outcome ≡ p → Ended (a ∷ l) budget (when_listed o (when_listed p (answered (run_of c))))
    listings m k c e f (Ok _) (Ok _) g i = ran m k c e f g i
    listings m k c e f (Ok _) (Err why) g i = early why
    listings m k c e f (Err why) p g i = early why

    clearings : (m : Ratio) → multiple_from (a ∷ l) (whole_r (pos 1)) ≡ Ok m → (r : Ran ℕ (List Ratio)) → cleared_by m (a ∷ l) ≡ r → Ended (a ∷ l) budget (searched_whole budget r)
    clearings m e (fine k c) f = listings m k c e f (listing_of (first_of c) budget).outcome (listing_of (last_of c) budget).outcome refl refl
    clearings m e (over k) f = early CoeffOverflow

    multiples : (s : Result Ratio Reason) → multiple_from (a ∷ l) (whole_r (pos 1)) ≡ s → Ended (a ∷ l) budget (cleared_then (a ∷ l) budget s)
    multiples (Ok m) e = clearings m e (cleared_by m (a ∷ l)) refl
    multiples (Err why) e = early CoeffOverflow

-- ---- what an answered one means

-- the roots of l, in an array
pub record Found (l : List Ratio) (r : Roots) : Type 0 where
  pub kept : List Ratio
  pub array : r.values ≡ filled kept
  pub size : r.len ≡ length kept
  pub good : Good (λ x. IsRoot (rats l) (rat x)) kept
  pub complete : (x : Rat) → IsRoot (rats l) x → Has (λ b. Same (rat b) x) kept

module _ (l : List Ratio) (budget : ℕ) (some : 0 < length l) (few : length l ≤ 32) (top : is_nil (get_or l (length l - 1) zero_r).num ≡ false)
    (k : ℕ) (c : List Ratio) (n : ℕ) (m : Ratio) (M : Multiple l 1 m) (f : cleared_by m l ≡ fine k c) (g : (listing_of (first_of c) budget).outcome ≡ no_refusal) (i : (listing_of (last_of c) budget).outcome ≡ no_refusal) where
  cleared : cleared_by (whole_r (pos M.number)) l ≡ fine k c
  cleared = ap (λ r. cleared_by r l) (sym M.is) ∙ f

  pub long : length c ≡ length l
  long = cleared-length l M.number M.some M.all k c cleared

  entire : All Entire c
  entire = all_from c zero_r (λ j h.
      let (t, p, e) = cleared_at l M.number M.some M.all k c cleared j (omega (arith, long)) in
      record { lowest = cleared-lowest l M.number M.some M.all k c cleared j (omega (arith, long)); is = e ∙ ap whole_r (sym (ap (λ (r : Ratio). r.num) e)) })

  lead : is_nil (get_or c (length c - 1) zero_r).num ≡ false
  lead =
      let j : length c - 1 ≡ length l - 1 = omega (arith, long) in
      let (t, p, e) = cleared_at l M.number M.some M.all k c cleared (length l - 1) (omega arith) in
      ap (λ q. is_nil (get_or c q zero_r).num) j ∙ ap (λ (r : Ratio). is_nil r.num) e ∙ times-nil (get_or l (length l - 1) zero_r).num t p top

  run-found : (r : Ran Count (List Ratio)) → run_of c ≡ r → (answered r).outcome ≡ no_refusal → Found l (answered r)
  run-found (fine d kept) e o =
      let q = kept-good c entire (omega (arith, long)) (omega (arith, long)) lead budget g i d kept e in
      record {
        kept = kept;
        array = refl;
        size = refl;
        good = record {
          sorted = q.sorted;
          lowest = q.lowest;
          roots = all_weaker (λ x r. cleared-sound l M.number M.some M.all k c cleared (rat x) r) kept q.roots;
        };
        complete = λ x r. kept-complete c entire (omega (arith, long)) (omega (arith, long)) lead budget g i d kept e x (cleared-complete l M.number M.some M.all k c cleared x r);
      }
  run-found (over d) e o = let z : ◌≡◌ {A = ℕ} 0 1 = cc in absurd (omega arith)

found-for : (l : List Ratio) (budget : ℕ) → 0 < length l → length l ≤ 32 → is_nil (get_or l (length l - 1) zero_r).num ≡ false → (r : Roots) → Ended l budget r → r.outcome ≡ no_refusal → Found l r
found-for l budget some few top r (early why) o = let z : ◌≡◌ {A = ℕ} 0 1 = cc in absurd (omega arith)
found-for l budget some few top r (ran m k c e f g i) o = run-found l budget some few top k c 0 m (multiple-is l 1 m (omega arith) e) f g i (run_of c) refl o

-- zeros at the top change nothing
trim-root : (l : List Ratio) (x : Rat) → IsRoot (rats (trim l)) x → IsRoot (rats l) x
trim-root l x r = root-from (rats l) x (subst (λ p. ev ℚ-ring p (val x) ≡ 0ℚ) (poly_r-trim l) (root-to (rats (trim l)) x r))

root-trim : (l : List Ratio) (x : Rat) → IsRoot (rats l) x → IsRoot (rats (trim l)) x
root-trim l x r = root-from (rats (trim l)) x (subst (λ p. ev ℚ-ring p (val x) ≡ 0ℚ) (sym (poly_r-trim l)) (root-to (rats l) x r))

pub roots-found : (l : List Ratio) (budget : ℕ) → length l ≤ 32 → 0 < length (trim l) → (roots_of l budget).outcome ≡ no_refusal → Found l (roots_of l budget)
roots-found l budget few some o =
    let f = found-for (trim l) budget some (omega (arith, trim-short l)) (trim-lead l some) (roots_for (trim l) budget) (ended (trim l) budget some) o in
    record {
      kept = f.kept;
      array = f.array;
      size = f.size;
      good = record { sorted = f.good.sorted; lowest = f.good.lowest; roots = all_weaker (λ x r. trim-root l (rat x) r) f.kept f.good.roots };
      complete = λ x r. f.complete x (root-trim l x r);
    }

-- ---- zero

pub empty_of : (t : List Ratio) → (0 < length t → ⊥) → t ≡ []
empty_of [] h = refl
empty_of (a ∷ t) h = absurd (h (omega arith))

pub roots-none : (l : List Ratio) (budget : ℕ) → trim l ≡ [] → roots_of l budget ≡ answered (fine nothing [])
unfolding roots_for
roots-none l budget e = ap (λ t. roots_for t budget) e
