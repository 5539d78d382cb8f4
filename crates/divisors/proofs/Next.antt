-- What `next_of` and `listing_of` are, by the cases in which the code goes.
use Rattle.ratio.specs.Refusal.{no_refusal}
use Rattle.std.specs.Prelude.{Option, Some, None}
use mathlib.Core.Path.{◌≡◌, refl, sym, ap, ◌∙◌}
use mathlib.Core.Bool.{Bool, true, false, ◌&&◌}
use mathlib.Core.List.{List}
use Prim.Native.Nat.{ℕ, zero, suc, ◌+◌, ◌*◌, ◌-◌, ◌/◌, ◌<◌, ◌≤◌}
use native.Mathlib.Omega.{arith}
use borrow.Author.Tests.{lt-ltb, le-ltb, le-leb, lt-leb, eq-eqb, ne_eqb}
use lib.Dec.{leb}
use lib.IntN.{ℤ, pos, nat_abs}
use Rattle.ratio.specs.Range.{limit}
use Rattle.ratio.specs.declared.Reason.TheVariants.{BadInput, Budget}
use Rattle.divisors.specs.declared.Factor.{Factor}
use Rattle.divisors.specs.Marks.{listing_of, refused_by, marks_of}
use Rattle.divisors.specs.Walk.{is_place, found_at, found_if, or_else, here_of, first_of, mark_from, next_of}

pub inside : (size at : ℕ) → size ≤ limit → at < 262144 → is_place size at ≡ true
inside size at h g = rw (le-leb size limit h, lt-ltb at 262144 g)

module _ (marks : List ℕ) where
  pub next-zero : (size at : ℕ) → size ≡ 0 → at ≡ 0 → found_at (pos 0) 1 ≡ next_of size marks at
  unfolding next_of
  next-zero zero zero e f = refl
  next-zero zero (suc at) e f = absurd (omega arith)
  next-zero (suc n) at e f = absurd (omega arith)

  pub next-zero-end : (size at : ℕ) → size ≡ 0 → (at ≡ 0 → ⊥) → None ≡ next_of size marks at
  unfolding next_of
  next-zero-end zero zero e f = absurd (f refl)
  next-zero-end zero (suc at) e f = refl
  next-zero-end (suc n) at e f = absurd (omega arith)

  pub next-large : (size at : ℕ) → limit < size → None ≡ next_of size marks at
  unfolding next_of
  next-large zero at h = absurd (omega arith)
  next-large (suc n) at h = rw (lt-leb (suc n) limit h)

  out : (t : Bool) (f : Option Factor) → None ≡ found_if (t && false) f
  out true f = refl
  out false f = refl

  pub next-out : (size at : ℕ) → (size ≡ 0 → ⊥) → 262144 ≤ at → None ≡ next_of size marks at
  unfolding next_of
  next-out zero at e h = absurd (e refl)
  next-out (suc n) at e h = rw (le-ltb at 262144 h) (out (leb (suc n) limit) _)

  go : (size at : ℕ) → (size ≡ 0 → ⊥) → size ≤ limit → at < 262144 → next_of size marks at ≡ or_else (here_of size marks at) (at + 1) (first_of (mark_from size marks (65535 - at / 4) (at / 4 + 1)))
  unfolding next_of
  go zero at e h g = absurd (e refl)
  go (suc n) at e h g = ap (λ t. found_if t (or_else (here_of (suc n) marks at) (at + 1) (first_of (mark_from (suc n) marks (65535 - at / 4) (at / 4 + 1))))) (inside (suc n) at h g)

  pub next_here : (size at : ℕ) (z : ℤ) → (size ≡ 0 → ⊥) → size ≤ limit → at < 262144 → here_of size marks at ≡ Some z → found_at z (at + 1) ≡ next_of size marks at
  next_here size at z e h g p = sym (go size at e h g ∙ ap (λ x. or_else x (at + 1) (first_of (mark_from size marks (65535 - at / 4) (at / 4 + 1)))) p)

  pub next-after : (size at j : ℕ) → (size ≡ 0 → ⊥) → size ≤ limit → at < 262144 → here_of size marks at ≡ None → j ≡ mark_from size marks (65536 - (at / 4 + 1)) (at / 4 + 1) → first_of j ≡ next_of size marks at
  next-after size at j e h g p q =
      sym
      (go size at e h g
      ∙ ap (λ x. or_else x (at + 1) (first_of (mark_from size marks (65535 - at / 4) (at / 4 + 1)))) p
      ∙ ap first_of (ap (λ k. mark_from size marks k (at / 4 + 1)) (let k : 65535 - at / 4 ≡ 65536 - (at / 4 + 1) = omega arith in k) ∙ sym q))

module _ (n : ℤ) (budget : ℕ) where
  pub listing-large : limit < nat_abs n → listing_of n budget ≡ refused_by BadInput
  unfolding listing_of
  listing-large h = rw (lt-ltb limit (nat_abs n) h)

  pub listing_none : nat_abs n ≤ limit → budget ≡ 0 → listing_of n budget ≡ refused_by BadInput
  unfolding listing_of
  listing_none h e = rw (le-ltb limit (nat_abs n) h, eq-eqb budget 0 e)

  pub listing-over : nat_abs n ≤ limit → (budget ≡ 0 → ⊥) → 65536 < budget → listing_of n budget ≡ refused_by BadInput
  unfolding listing_of
  listing-over h e g = rw (le-ltb limit (nat_abs n) h, ne_eqb budget 0 e, lt-ltb 65536 budget g)

  pub listing-budget : nat_abs n ≤ limit → (budget ≡ 0 → ⊥) → budget ≤ 65536 → (budget + 1) * (budget + 1) ≤ nat_abs n → listing_of n budget ≡ refused_by Budget
  unfolding listing_of
  listing-budget h e g l = rw (le-ltb limit (nat_abs n) h, ne_eqb budget 0 e, le-ltb 65536 budget g, le-leb ((budget + 1) * (budget + 1)) (nat_abs n) l)

  pub listing-done : nat_abs n ≤ limit → (budget ≡ 0 → ⊥) → budget ≤ 65536 → nat_abs n < (budget + 1) * (budget + 1) → listing_of n budget ≡ record { outcome = no_refusal; size = nat_abs n; marks = marks_of (nat_abs n) }
  unfolding listing_of
  listing-done h e g l = rw (le-ltb limit (nat_abs n) h, ne_eqb budget 0 e, le-ltb 65536 budget g, lt-leb ((budget + 1) * (budget + 1)) (nat_abs n) l)
