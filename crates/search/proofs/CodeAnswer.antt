-- Laws of the search's answer: two listings, the tally that the work starts from, and the zero polynomial.
use Rattle.std.specs.Prelude.{Ok, Err}
use mathlib.Core.Path.{◌≡◌, refl, sym, ap, ◌∙◌}
use mathlib.Core.Bool.{true, false}
use mathlib.Core.List.{List, [], ◌∷◌}
use Prim.Native.Nat.{ℕ, ◌<◌}
use native.Mathlib.Omega.{arith}
use lib.IntN.{ℤ, pos, nat_abs}
use lib.ListN.{length, drop}
use lib.Dec.{ltb}
use Rattle.ratio.specs.Refusal.{Outcome, status_of, no_refusal}
use Rattle.ratio.specs.declared.Ratio.{Ratio}
use Rattle.ratio.specs.declared.Reason.{Reason}
use Rattle.ratio.specs.declared.Reason.TheVariants.{CoeffOverflow}
use Rattle.terms.specs.Machine.{Ran, fine, over, whole_r}
use Rattle.terms.specs.Poly.{terms_of}
use Rattle.terms.proofs.Lists.{terms-of-poly}
use Rattle.divisors.specs.declared.Listing.{Listing}
use Rattle.divisors.specs.Listing.{factors_of}
use Rattle.divisors.specs.Marks.{listing_of}
use Rattle.divisors.specs.Promise.{Lists, listed}
use Rattle.search.specs.declared.Cleared.{Cleared}
use Rattle.search.specs.declared.Roots.{Roots}
use Rattle.search.specs.Clear.{multiple_from, cleared_by}
use Rattle.search.specs.Strip.{zeros}
use Rattle.search.specs.Tally.{clear_of}
use Rattle.search.specs.Answer.{no_roots, answered, nothing, when_listed, listed_then, searched_in, searched_whole, cleared_then, roots_for}

-- ---- a listing

module _ (n : ℤ) (budget : ℕ) (k : List ℤ → Roots) (l : Listing) (e : l ≡ listing_of n budget) where
  pub listed-done : Lists n budget l → l.outcome ≡ no_refusal → k (listed l) ≡ listed_then n budget k
  listed-done p d =
      ap k (p.order (ap status_of d)) ∙ ap (λ (o : Outcome). when_listed o (k (factors_of (nat_abs n)))) (sym d ∙ ap (λ (x : Listing). x.outcome) e)

  pub listed-refused : (why : Reason) → l.outcome ≡ Err why → no_roots why 0 0 ≡ listed_then n budget k
  listed-refused why d = ap (λ (o : Outcome). when_listed o (k (factors_of (nat_abs n)))) (sym d ∙ ap (λ (x : Listing). x.outcome) e)

-- ---- the whole

pub none-roots : (l : List Ratio) (budget : ℕ) → length l ≡ 0 → answered (fine nothing []) ≡ roots_for l budget
unfolding roots_for
none-roots [] budget e = refl
none-roots (a ∷ l) budget e = absurd (omega arith)

some-roots : (l : List Ratio) (budget : ℕ) → 0 < length l → cleared_then l budget (multiple_from l (whole_r (pos 1))) ≡ roots_for l budget
unfolding roots_for
some-roots [] budget h = absurd (omega arith)
some-roots (a ∷ l) budget h = refl

module _ (l : List Ratio) (budget : ℕ) (h : 0 < length l) where
  pub multiple-over : (why : Reason) → multiple_from l (whole_r (pos 1)) ≡ Err why → no_roots CoeffOverflow 0 0 ≡ roots_for l budget
  multiple-over why e = ap (cleared_then l budget) (sym e) ∙ some-roots l budget h

  module _ (m : Ratio) (e : multiple_from l (whole_r (pos 1)) ≡ Ok m) (c : Cleared) (f : c ≡ clear_of (cleared_by m l)) where
    by-multiple : searched_whole budget (cleared_by m l) ≡ roots_for l budget
    by-multiple = ap (cleared_then l budget) (sym e) ∙ some-roots l budget h

    pub clear-over : c.fine ≡ false → no_roots CoeffOverflow 0 0 ≡ roots_for l budget
    clear-over g = go (cleared_by m l) c f g ∙ by-multiple
      where
        go : (r : Ran ℕ (List Ratio)) (c : Cleared) → c ≡ clear_of r → c.fine ≡ false → no_roots CoeffOverflow 0 0 ≡ searched_whole budget r
        go (fine k s) c f g = let t : c.fine ≡ true = ap (λ (x : Cleared). x.fine) f in let z : ◌≡◌ {A = ℕ} 0 1 = cc in absurd (omega arith)
        go (over k) c f g = refl

    pub clear-done : c.fine ≡ true → searched_in (drop (zeros (terms_of c.poly)) (terms_of c.poly)) (ltb 0 (zeros (terms_of c.poly))) budget ≡ roots_for l budget
    clear-done g = go (cleared_by m l) c f g ∙ by-multiple
      where
        go : (r : Ran ℕ (List Ratio)) (c : Cleared) → c ≡ clear_of r → c.fine ≡ true → searched_in (drop (zeros (terms_of c.poly)) (terms_of c.poly)) (ltb 0 (zeros (terms_of c.poly))) budget ≡ searched_whole budget r
        go (fine k s) c f g = ap (λ (a : List Ratio). searched_in (drop (zeros a) a) (ltb 0 (zeros a)) budget) (ap (λ (x : Cleared). terms_of x.poly) f ∙ terms-of-poly s)
        go (over k) c f g = let t : c.fine ≡ false = ap (λ (x : Cleared). x.fine) f in let z : ◌≡◌ {A = ℕ} 0 1 = cc in absurd (omega arith)
