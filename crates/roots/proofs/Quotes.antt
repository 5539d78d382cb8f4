-- Demand 3 for rational roots: no search costs more than the quote from the degree and the budget alone, and what came through the door has a quote.
use Rattle.std.specs.Prelude.{Result, Ok, Err}
use Rattle.ratio.specs.Refusal.{status_of}
use mathlib.Core.Path.{◌≡◌, sym, subst, ◌∙◌}
use mathlib.Core.Bool.{Bool, true, false}
use Prim.Native.Nat.{ℕ, ◌+◌, ◌*◌, ◌≤◌}
use native.Mathlib.Nat.{mul-le-mul, mul-le-mul_left, le_trans}
use native.Mathlib.Decide.{dec_le}
use native.Mathlib.Omega.{arith}
use borrow.Author.Tests.{le-leb}
use lib.Dec.{leb}
use lib.IntN.{ℤ, nat_abs}
use Rattle.ratio.specs.declared.Reason.{Reason}
use Rattle.poly.proofs.Canonical.{open-if}
use Rattle.poly.proofs.Gives.{outcome-done}
use Rattle.divisors.specs.Marks.{listing_of}
use Rattle.divisors.specs.Promise.{Root}
use Rattle.divisors.proofs.Words.{square_le}
use Rattle.search.proofs.PriceListing.{answered-within}
use Rattle.euclid.proofs.Doors.{degree-few}
use Rattle.roots.specs.declared.Quote.{Quote}
use Rattle.roots.specs.Answer.{is_budget, rational_roots_of}
use Rattle.roots.specs.Promise.{QuotesRoots}
use Rattle.roots.specs.Quote.{trials_price, candidates_price, steps_price, quote_if, roots_quote}
use Rattle.roots.proofs.Promises.{roots-promise}

-- ---- the quote

quote-is : (s t : Bool) (w x y : ℕ) (m : Quote) → quote_if s t w x y ≡ Ok m → (w ≡ m.trials) × (x ≡ m.candidates) × (y ≡ m.steps)
quote-is true true w x y m e = (cc, cc, cc)
quote-is true false w x y m e = let z : ◌≡◌ {A = ℕ} 0 1 = cc in absurd (omega arith)
quote-is false t w x y m e = let z : ◌≡◌ {A = ℕ} 0 1 = cc in absurd (omega arith)

quote-given : (s t : Bool) (w x y : ℕ) (why : Reason) → s ≡ true → t ≡ true → quote_if s t w x y ≡ Err why → ⊥
quote-given true true w x y why p q e = let z : ◌≡◌ {A = ℕ} 0 1 = cc in omega arith
quote-given true false w x y why p q e = let z : ◌≡◌ {A = ℕ} 0 1 = cc in omega arith
quote-given false t w x y why p q e = let z : ◌≡◌ {A = ℕ} 0 1 = cc in omega arith

-- the root of what is listed is within the budget
root-within : (a : ℤ) (budget x : ℕ) → status_of (listing_of a budget).outcome ≡ 0 → Root (nat_abs a) x → x ≤ budget
root-within a budget x s r = go (dec_le x budget)
  where
    go : Dec (x ≤ budget) → x ≤ budget
    go (yes h) = h
    go (no h) =
        let w = (answered-within a budget (outcome-done (listing_of a budget).outcome s)).1 in
        absurd (omega (arith, r.reached, square_le (budget + 1) x (omega arith)))

pub roots-quotes : (n budget : ℕ) (q : Result Quote Reason) → q ≡ roots_quote n budget → QuotesRoots n budget q
roots-quotes n budget q e = record {
  bounds = λ p d m h.
      let (w, x, y) = quote-is (is_budget budget) (leb n 31) (trials_price budget) (candidates_price budget) (steps_price n budget) m (sym e ∙ h) in
      let r = roots-promise p budget in
      let k : 3 * (n + 1) * (rational_roots_of p budget).tried ≤ steps_price n budget = mul-le-mul_left (3 * (n + 1)) r.candidates in
      (subst (λ z. (rational_roots_of p budget).tried ≤ z) x r.candidates, subst (λ z. (rational_roots_of p budget).steps ≤ z) y (le_trans (r.price n d) k));
  trials = λ a b i j x y f g m h.
      let (w, u, v) = quote-is (is_budget budget) (leb n 31) (trials_price budget) (candidates_price budget) (steps_price n budget) m (sym e ∙ h) in
      let k : x ≤ budget = root-within a budget x i f in
      let l : y ≤ budget = root-within b budget y j g in
      omega arith;
  quoted = λ p o b d why h. quote-given (is_budget budget) (leb n 31) (trials_price budget) (candidates_price budget) (steps_price n budget) why (open-if (is_budget budget) b) (le-leb n 31 (degree-few p n o d)) (sym e ∙ h);
}

-- ---- the products fit

pub candidates-small : (b : ℕ) → b ≤ 65536 → 4 * b * (4 * b) ≤ 68719476736
candidates-small b h = mul-le-mul {n₁ = 4 * b} {m₁ = 4 * b} {n₂ = 262144} {m₂ = 262144} (omega arith) (omega arith)

pub steps-small : (n c : ℕ) → n ≤ 31 → c ≤ 68719476736 → 3 * (n + 1) * c ≤ 6597069766656
steps-small n c h k = mul-le-mul {n₁ = 3 * (n + 1)} {m₁ = c} {n₂ = 96} {m₂ = 68719476736} (omega arith) k
