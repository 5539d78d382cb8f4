-- `listing_of` keeps its promise: it refuses exactly where it should, and an answered listing holds each divisor once.
use mathlib.Core.Path.{◌≡◌, refl, sym, ap, ◌∙◌, subst}
use mathlib.Core.List.{[]}
use Prim.Native.Nat.{ℕ, ◌+◌, ◌*◌, ◌<◌, ◌≤◌, ◌∣◌}
use native.Mathlib.Decide.{dec_le, dec_lt, ℕ_discrete}
use native.Mathlib.Omega.{arith}
use lib.IntN.{ℤ, nat_abs}
use Rattle.ratio.specs.Range.{limit}
use Rattle.ratio.specs.Refusal.{number_of, status_of, no_refusal}
use Rattle.ratio.specs.declared.Reason.{Reason}
use Rattle.ratio.specs.declared.Reason.TheVariants.{BadInput, Budget}
use Rattle.algebra.proofs.Whole.{abs-above}
use Rattle.algebra.proofs.WholeDivides.{dvd-abs, abs-dvd}
use Rattle.divisors.specs.declared.Listing.{Listing}
use Rattle.divisors.specs.Listing.{factors_of}
use Rattle.divisors.specs.Marks.{marks_of, listing_of, refused_by}
use Rattle.divisors.specs.Promise.{count_of, DivisorOf, Root, Allowed, listed, Lists}
use Rattle.divisors.proofs.Words.{square_le}
use Rattle.divisors.proofs.Next.{listing-large, listing_none, listing-over, listing-budget, listing-done}
use Rattle.divisors.proofs.Order.{rest-factors, rest-blank}
use Rattle.divisors.proofs.Once.{divisor-once, other-never}

-- a divisor, by the sizes
pub divisor-size : (n z : ℤ) → DivisorOf n z → nat_abs z ∣ nat_abs n
divisor-size n z d = dvd-abs z n (d.quotient, d.is)

pub size-divisor : (n z : ℤ) → nat_abs z ∣ nat_abs n → DivisorOf n z
size-divisor n z d = let k = abs-dvd z n d in record { quotient = k.0; is = k.1 }

refused-nothing : (why : Reason) → listed (refused_by why) ≡ []
unfolding refused_by
refused-nothing why = rest-blank 0 1024 (omega arith)

refused-status : (why : Reason) → status_of (refused_by why).outcome ≡ number_of why
unfolding refused_by
refused-status why = refl

module _ (n : ℤ) (budget : ℕ) where
  bad-input : (Allowed n budget → ⊥) → Lists n budget (refused_by BadInput)
  bad-input h = record {
    bad = λ a. refused-status BadInput;
    over = λ a. absurd (h a);
    answered = λ a. absurd (h a);
    order = λ e. absurd (omega (arith, refused-status BadInput));
    divisors = λ e. absurd (omega (arith, refused-status BadInput));
    others = λ e. absurd (omega (arith, refused-status BadInput));
    refused = λ e. refused-nothing BadInput;
  }

  -- the budget is below the root exactly if the square above it is no more than the number
  root-most : (r : ℕ) → Root (nat_abs n) r → (budget + 1) * (budget + 1) ≤ nat_abs n → budget < r
  root-most r q h = by (dec_lt budget r)
    where
      by : Dec (budget < r) → budget < r
      by (yes a) = a
      by (no a) = absurd (omega (arith, q.passed, square_le (r + 1) (budget + 1) (omega arith)))

  root-least : (r : ℕ) → Root (nat_abs n) r → nat_abs n < (budget + 1) * (budget + 1) → r ≤ budget
  root-least r q h = by (dec_le r budget)
    where
      by : Dec (r ≤ budget) → r ≤ budget
      by (yes a) = a
      by (no a) = absurd (omega (arith, q.reached, square_le (budget + 1) r (omega arith)))

  over-budget : Allowed n budget → (budget + 1) * (budget + 1) ≤ nat_abs n → Lists n budget (refused_by Budget)
  over-budget a h = record {
    bad = λ b. absurd (b a);
    over = λ b r q l. refused-status Budget;
    answered = λ b r q l. absurd (omega (arith, root-most r q h));
    order = λ e. absurd (omega (arith, refused-status Budget));
    divisors = λ e. absurd (omega (arith, refused-status Budget));
    others = λ e. absurd (omega (arith, refused-status Budget));
    refused = λ e. refused-nothing Budget;
  }

  done : Allowed n budget → nat_abs n < (budget + 1) * (budget + 1) → Lists n budget (record { outcome = no_refusal; size = nat_abs n; marks = marks_of (nat_abs n) })
  done a h = record {
    bad = λ b. absurd (b a);
    over = λ b r q l. absurd (omega (arith, root-least r q h));
    answered = λ b r q l. refl;
    order = λ e. in_order;
    divisors = λ e f z d. ap (count_of z) in_order ∙ divisor-once (nat_abs n) z (abs-above n f) small (divisor-size n z d);
    others = λ e f z d. ap (count_of z) in_order ∙ other-never (nat_abs n) z (abs-above n f) (λ k. d (size-divisor n z k));
    refused = λ e. absurd (e refl);
  }
    where
      in_order : listed (record { outcome = no_refusal; size = nat_abs n; marks = marks_of (nat_abs n) }) ≡ factors_of (nat_abs n)
      in_order = rest-factors (nat_abs n) a.number

      small : nat_abs n < 65537 * 65537
      small = omega (arith, square_le (budget + 1) 65537 (omega arith))

  pub lists : Lists n budget (listing_of n budget)
  lists = by (dec_le (nat_abs n) limit) (ℕ_discrete budget 0) (dec_le budget 65536) (dec_le ((budget + 1) * (budget + 1)) (nat_abs n))
    where
      by : Dec (nat_abs n ≤ limit) → Dec (budget ≡ 0) → Dec (budget ≤ 65536) → Dec ((budget + 1) * (budget + 1) ≤ nat_abs n) → Lists n budget (listing_of n budget)
      by (no a) b d e = subst (Lists n budget) (sym (listing-large n budget (omega arith))) (bad-input (λ q. a q.number))
      by (yes a) (yes b) d e = subst (Lists n budget) (sym (listing_none n budget a b)) (bad-input (λ q. omega arith))
      by (yes a) (no b) (no d) e = subst (Lists n budget) (sym (listing-over n budget a b (omega arith))) (bad-input (λ q. d q.most))
      by (yes a) (no b) (yes d) (yes e) = subst (Lists n budget) (sym (listing-budget n budget a b d e)) (over-budget (record { number = a; some = omega arith; most = d }) e)
      by (yes a) (no b) (yes d) (no e) = subst (Lists n budget) (sym (listing-done n budget a b d (omega arith))) (done (record { number = a; some = omega arith; most = d }) (omega arith))

-- a listing that is the model's keeps its promise too
pub listed_is : {n : ℤ} {budget : ℕ} {l : Listing} → l ≡ listing_of n budget → Lists n budget l
listed_is {n} {budget} e = subst (Lists n budget) (sym e) (lists n budget)

pub ruleset listing_steps = (listed_is, square_le, listing-large, listing_none, listing-over, listing-budget, listing-done)
