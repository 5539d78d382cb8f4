-- Demand 2 and demand 3 for rational roots: the search behind the door keeps the promise, and so does a refusal at the door.
use Rattle.std.specs.Prelude.{Ok, Err}
use mathlib.Core.Path.{◌≡◌, refl, sym, ap, ap₂, subst, ◌∙◌}
use mathlib.Core.Logic.{◌⊎◌, inl, inr, ∥∥₁_elim}
use mathlib.Core.List.{List, [], map}
use Prim.Native.Nat.{ℕ, suc, ◌+◌, ◌-◌, ◌*◌, ◌<◌, ◌≤◌, zero-le}
use native.Mathlib.Decide.{dec_lt}
use native.Mathlib.Omega.{arith}
use lib.ListN.{length, get_or, replicate, length-map, get_or-append}
use Rattle.algebra.specs.Rational.{Rat, Same, Less}
use Rattle.algebra.specs.Textbook.{HasDegree, IsZero, IsRoot}
use Rattle.algebra.proofs.Theorems.{few-roots}
use Rattle.algebra.proofs.Whole.{ℤ-ring}
use Rattle.ratio.specs.Promise.{rat, Lowest}
use Rattle.ratio.specs.Refusal.{zero_r, Outcome, status_of}
use Rattle.ratio.specs.declared.Ratio.{Ratio}
use Rattle.ratio.specs.declared.Reason.{Reason}
use Rattle.terms.specs.Machine.{Ran, fine, over}
use Rattle.terms.specs.declared.Poly.{Poly}
use Rattle.terms.specs.Poly.{terms_of, trim}
use Rattle.terms.specs.Meaning.{rats}
use Rattle.poly.specs.declared.Gate.TheVariants.{Open}
use Rattle.poly.specs.Door.{door_of, both}
use Rattle.poly.specs.Promise.{reading}
use Rattle.poly.proofs.Canonical.{Opened, opened, both-open}
use Rattle.poly.proofs.Gives.{outcome-done}
use Rattle.euclid.proofs.Doors.{never_done, entered-keeps, nil-zero, zero-nil, degree-length}
use Rattle.search.specs.declared.Roots.{Roots}
use Rattle.search.specs.Answer.{no_roots, answered, nothing, roots_for, roots_of}
use Rattle.search.specs.Try.{Count}
use Rattle.search.proofs.Kept.{has-at, all-at, sorted-at, sorted-different, member}
use Rattle.search.proofs.MeaningAnswer.{run_of, Ended, early, ran, ended, Found, roots-found, empty_of, roots-none}
use Rattle.search.proofs.PriceSearch.{roots-priced}
use Rattle.roots.specs.Answer.{budget_door, rational_roots_of}
use Rattle.roots.specs.Promise.{entry, Stands, RootsPromise}

-- ---- a refusal has no entry

refused-run : (r : Ran Count (List Ratio)) (why : Reason) → (answered r).outcome ≡ Err why → (answered r).len ≡ 0
refused-run (fine c l) why e = let z : ◌≡◌ {A = ℕ} 0 1 = cc in absurd (omega arith)
refused-run (over c) why e = refl

refused-ended : (l : List Ratio) (budget : ℕ) (r : Roots) → Ended l budget r → (why : Reason) → r.outcome ≡ Err why → r.len ≡ 0
refused-ended l budget r (early w) why e = refl
refused-ended l budget r (ran m k c p q g i) why e = refused-run (run_of c) why e

-- the roots are found, or there is no entry
cases : (l : List Ratio) (budget : ℕ) → length l ≤ 32 → Found l (roots_of l budget) ⊎ ((roots_of l budget).len ≡ 0)
cases l budget few = go (dec_lt 0 (length (trim l)))
  where
    by : 0 < length (trim l) → (o : Outcome) → (roots_of l budget).outcome ≡ o → Found l (roots_of l budget) ⊎ ((roots_of l budget).len ≡ 0)
    by h (Ok _) e = inl (roots-found l budget few h e)
    by h (Err why) e = inr (refused-ended (trim l) budget (roots_for (trim l) budget) (ended (trim l) budget h) why e)

    go : Dec (0 < length (trim l)) → Found l (roots_of l budget) ⊎ ((roots_of l budget).len ≡ 0)
    go (yes h) = by h (roots_of l budget).outcome refl
    go (no h) = inr (ap (λ (r : Roots). r.len) (roots-none l budget (empty_of (trim l) h)))

-- ---- by places

module _ (l : List Ratio) (r : Roots) (f : Found l r) where
  place : (i : ℕ) → i < r.len → get_or f.kept i zero_r ≡ entry r i
  place i h = sym (ap (λ v. get_or v i zero_r) f.array ∙ get_or-append f.kept (replicate (32 - length f.kept) zero_r) zero_r i (omega (arith, f.size)))

  found-sound : (i : ℕ) → i < r.len → IsRoot (rats l) (rat (entry r i))
  found-sound i h = subst (λ a. IsRoot (rats l) (rat a)) (place i h) (all-at f.kept zero_r f.good.roots i (omega (arith, f.size)))

  found-lowest : (i : ℕ) → i < r.len → Lowest (entry r i)
  found-lowest i h = subst Lowest (place i h) (all-at f.kept zero_r f.good.lowest i (omega (arith, f.size)))

  found-rising : (i : ℕ) → suc i < r.len → Less (rat (entry r i)) (rat (entry r (suc i)))
  found-rising i h =
      subst (λ a. Less (rat a) (rat (entry r (suc i)))) (place i (omega arith))
      (subst (λ a. Less (rat (get_or f.kept i zero_r)) (rat a)) (place (suc i) h) (sorted-at f.kept f.good.sorted i (omega (arith, f.size))))

  found-complete : (x : Rat) → IsRoot (rats l) x → Stands x r
  found-complete x e =
      let (i, h, s) = has-at f.kept zero_r (f.complete x e) in
      let k : i < r.len = omega (arith, f.size) in
      record { place = i; inside = k; is = subst (λ a. Same (rat a) x) (place i k) s }

  found-few : (n : ℕ) → HasDegree (rats l) n → r.len ≤ n
  found-few n d =
      let h : length (map rat f.kept) ≤ n =
      few-roots (rats l) n d (map rat f.kept) (sorted-different f.kept f.good.sorted)
      (λ x m. ∥∥₁_elim m (ℤ-ring.is_set _ _) (λ g. member (λ y. IsRoot (rats l) y) f.kept f.good.roots x g)) in
      omega (arith, length-map f.kept rat, f.size)

-- ---- behind the door

module _ (p : Poly) (budget : ℕ) where
  abbrev F : List Ratio
  F = terms_of p

  refused-roots : (both (door_of p) (budget_door budget) ≡ Open → ⊥) → (why : Reason) → RootsPromise p budget (no_roots why 0 0)
  refused-roots shut why = record {
    sound = λ h s. absurd (never_done why s);
    complete = λ h s. absurd (never_done why s);
    rising = λ i h. absurd (omega arith);
    lowest = λ i h. absurd (omega arith);
    refused = λ s. refl;
    of_zero = λ d b z. absurd (shut (ap₂ both d b));
    few = λ n d. zero-le;
    candidates = zero-le;
    price = λ n d. zero-le;
  }

  module _ (o : Opened p) where
    abbrev R : Roots
    R = roots_of F budget

    some : (IsZero (reading p) → ⊥) → 0 < length (trim F)
    some h = go (dec_lt 0 (length (trim F)))
      where
        go : Dec (0 < length (trim F)) → 0 < length (trim F)
        go (yes k) = k
        go (no k) = absurd (h (nil-zero F (sym o.canonical.trimmed ∙ empty_of (trim F) k)))

    found : (IsZero (reading p) → ⊥) → status_of R.outcome ≡ 0 → Found F R
    found h s = roots-found F budget o.few (some h) (outcome-done R.outcome s)

    by_cases : (P : Type 0) → (Found F R → P) → (R.len ≡ 0 → P) → P
    by_cases P f g = go (cases F budget o.few)
      where
        go : Found F R ⊎ (R.len ≡ 0) → P
        go (inl x) = f x
        go (inr x) = g x

    none_of : (status_of R.outcome ≡ 0 → ⊥) → R.len ≡ 0
    none_of h = go R.outcome refl (dec_lt 0 (length (trim F)))
      where
        go : (q : Outcome) → R.outcome ≡ q → Dec (0 < length (trim F)) → R.len ≡ 0
        go (Ok _) e d = absurd (h (ap status_of e))
        go (Err why) e (yes k) = refused-ended (trim F) budget (roots_for (trim F) budget) (ended (trim F) budget k) why e
        go (Err why) e (no k) = ap (λ (r : Roots). r.len) (roots-none F budget (empty_of (trim F) k))

    zero_is : IsZero (reading p) → R ≡ answered (fine nothing [])
    zero_is z = roots-none F budget (o.canonical.trimmed ∙ zero-nil F o.canonical z)

    open-roots : RootsPromise p budget R
    open-roots = record {
      sound = λ h s. found-sound F R (found h s);
      complete = λ h s. found-complete F R (found h s);
      rising = λ i k. by_cases _ (λ f. found-rising F R f i k) (λ e. absurd (omega arith));
      lowest = λ i k. by_cases _ (λ f. found-lowest F R f i k) (λ e. absurd (omega arith));
      refused = none_of;
      of_zero = λ d b z. let e = zero_is z in (ap (λ (r : Roots). status_of r.outcome) e, ap (λ (r : Roots). r.len) e, ap (λ (r : Roots). r.tried) e);
      few = λ n d. by_cases _ (λ f. found-few F R f n d) (λ e. omega arith);
      candidates = (roots-priced F budget).tried;
      price = λ n d.
          let s = degree-length F n o.canonical d in
          let k : length F ≡ n + 1 = omega arith in
          subst (λ m. R.steps ≤ 3 * m * R.tried) k (roots-priced F budget).steps;
    }

pub roots-promise : (p : Poly) (budget : ℕ) → RootsPromise p budget (rational_roots_of p budget)
roots-promise p budget = entered-keeps (λ why. no_roots why 0 0) (RootsPromise p budget) (both (door_of p) (budget_door budget)) (roots_of (terms_of p) budget)
    (λ e. open-roots p budget (opened p (both-open (door_of p) (budget_door budget) e).0)) (refused-roots p budget)
