-- For callers that walk a listing: what an answered one lists divides n, is within the range and is not zero, and what holds for all that is listed holds for each divisor.
use mathlib.Core.Path.{◌≡◌, refl, sym, ap, ◌∙◌, subst}
use mathlib.Core.Bool.{Bool, true, false}
use mathlib.Core.List.{List, [], ◌∷◌}
use Prim.Native.Nat.{ℕ, ◌<◌, ◌≤◌, ◌∣◌}
use native.Mathlib.Nat.{le_of_dvd, pos_of_dvd_of_pos, le_trans}
use native.Mathlib.Decide.{dec_le, dec_dvd}
use native.Mathlib.Omega.{arith}
use lib.IntN.{ℤ, pos, nat_abs}
use Rattle.std.specs.Prelude.{Option, Some}
use Rattle.ratio.specs.Range.{limit, Within}
use Rattle.ratio.specs.Refusal.{status_of}
use Rattle.algebra.proofs.Whole.{abs-above}
use Rattle.divisors.specs.declared.Factor.{Factor}
use Rattle.divisors.specs.declared.Listing.{Listing}
use Rattle.divisors.specs.Listing.{factors_of}
use Rattle.divisors.specs.Promise.{same_z, count_more, count_of, DivisorOf, Allowed, listed, Lists, Walks}
use Rattle.divisors.specs.Walk.{rest}
use Rattle.divisors.proofs.Count.{count-met, count-more, same-eq}
use Rattle.divisors.proofs.Lists.{divisor-size, size-divisor}

-- P holds for all that a list holds; what is left behind an entry is the tail's part
abbrev pub Each : (ℤ → Type 0) → List ℤ → Type 0
Each P [] = Unit {0}
Each P (z ∷ l) = P z × Each P l

module _ (P : ℤ → Type 0) where
  -- what holds for all that is counted holds for all, and the other way round
  pub each-counted : (l : List ℤ) → ((z : ℤ) → 0 < count_of z l → P z) → Each P l
  each-counted [] f = tt
  each-counted (x ∷ l) f = (f x (count-met x [] l), each-counted l (λ z h. f z (omega (arith, count-more z x l))))

  pub counted-each : (l : List ℤ) → Each P l → (z : ℤ) → 0 < count_of z l → P z
  unfolding count_of
  counted-each [] e z h = absurd (omega arith)
  counted-each (x ∷ l) e z h = by (same_z z x) refl h (counted-each l e.1 z)
    where
      by : (t : Bool) → same_z z x ≡ t → 0 < count_more t (count_of z l) → (0 < count_of z l → P z) → P z
      by true q k f = subst P (sym (same-eq z x q)) e.0
      by false q k f = f k

-- along a walk: it holds for the entry found, and for all that is left behind it
pub each_next : (P : ℤ → Type 0) {size : ℕ} {marks : List ℕ} {at : ℕ} {f : Option Factor} → Walks size marks at f → (x : Factor) → f ≡ Some x → Each P (rest size marks at) → P x.value × Each P (rest size marks x.next)
each_next P w x e h = subst (Each P) (w.found x e) h

-- an entry of the listing of n
pub record Listed (n z : ℤ) : Type 0 where
  pub within : Within z
  pub some : z ≡ pos 0 → ⊥
  pub divides : DivisorOf n z

module _ (n : ℤ) (budget : ℕ) (l : Listing) (promise : Lists n budget l) (done : status_of l.outcome ≡ 0) where
  -- only what is allowed is answered
  pub answered-allowed : Allowed n budget
  answered-allowed = by (dec_le (nat_abs n) limit) (dec_le 1 budget) (dec_le budget 65536)
    where
      refuse : (Allowed n budget → ⊥) → Allowed n budget
      refuse h = absurd (omega (arith, promise.bad h))

      by : Dec (nat_abs n ≤ limit) → Dec (1 ≤ budget) → Dec (budget ≤ 65536) → Allowed n budget
      by (yes a) (yes b) (yes d) = record { number = a; some = b; most = d }
      by (no a) b d = refuse (λ q. a q.number)
      by (yes a) (no b) d = refuse (λ q. b q.some)
      by (yes a) (yes b) (no d) = refuse (λ q. d q.most)

  -- 0 is listed for 0 alone
  pub zero-listed : n ≡ pos 0 → listed l ≡ pos 0 ∷ []
  unfolding factors_of
  zero-listed e = promise.order done ∙ ap (λ m. factors_of (nat_abs m)) e

  module _ (nonzero : n ≡ pos 0 → ⊥) where
    divisor-listed : (z : ℤ) → nat_abs z ∣ nat_abs n → Listed n z
    divisor-listed z d = record {
      within = le_trans (le_of_dvd (abs-above n nonzero) d) answered-allowed.number;
      some = λ e. omega (arith, pos_of_dvd_of_pos d (abs-above n nonzero), ap nat_abs e);
      divides = size-divisor n z d;
    }

    pub counted-listed : (z : ℤ) → 0 < count_of z (listed l) → Listed n z
    counted-listed z h = by (dec_dvd (nat_abs z) (nat_abs n))
      where
        by : Dec (nat_abs z ∣ nat_abs n) → Listed n z
        by (yes d) = divisor-listed z d
        by (no d) = absurd (omega (arith, promise.others done nonzero z (λ q. d (divisor-size n z q))))

    -- all that is listed is within the range, is not zero and divides n
    pub each-listed : Each (Listed n) (listed l)
    each-listed = each-counted (Listed n) (listed l) counted-listed

    -- what holds for all that is listed holds for each divisor
    pub each-divisor : (P : ℤ → Type 0) → Each P (listed l) → (z : ℤ) → DivisorOf n z → P z
    each-divisor P e z d = counted-each P (listed l) e z (omega (arith, promise.divisors done nonzero z d))
