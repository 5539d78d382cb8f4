-- `next_of` walks: what it finds is the first of what is left, and it goes on behind that.
use Rattle.std.specs.Prelude.{Option, Some, None}
use mathlib.Core.Path.{◌≡◌, refl, sym, ap, ap₂, ◌∙◌, subst}
use mathlib.Core.Bool.{true}
use mathlib.Core.List.{List, [], ◌∷◌, ◌++◌}
use Prim.Native.Nat.{ℕ, zero, suc, ◌+◌, ◌*◌, ◌-◌, ◌/◌, ◌%◌, ◌<◌, ◌≤◌}
use native.Mathlib.Decide.{dec_le, dec_lt}
use native.Mathlib.Omega.{arith}
use borrow.Author.Tests.{lt-ltb, le-ltb}
use lib.IntN.{ℤ, pos}
use lib.ListN.{drop}
use mir.Facts.{to_z-of_z}
use Rattle.ratio.specs.Range.{limit}
use Rattle.divisors.specs.declared.Factor.{Factor}
use Rattle.divisors.specs.Listing.{entries, keep}
use Rattle.divisors.specs.Walk.{marked, rest, rest_after, mark_from, found_at, found_if, first_of, here_of, next_of}
use Rattle.divisors.specs.Promise.{Walks}
use Rattle.divisors.proofs.Next.{next-zero, next-zero-end, next-large, next-out, next_here, next-after}
use Rattle.divisors.proofs.Skip.{mark-le, mark-ge, mark_set}
use Rattle.divisors.proofs.Rest.{left, left-entry, left-nothing, left-four, left-first, from-none, from_end, from-mark, rest-inside, rest-large, rest_out}

module _ (size : ℕ) (marks : List ℕ) (at : ℕ) where
  walks-end : rest size marks at ≡ [] → Walks size marks at None
  walks-end e = record {
    found = λ x f. absurd (let g : ◌≡◌ {A = ℕ} 0 1 = cc in omega arith);
    forward = λ x f. absurd (let g : ◌≡◌ {A = ℕ} 0 1 = cc in omega arith);
    ended = λ f. e;
  }

  walks_at : (z : ℤ) (next : ℕ) → rest size marks at ≡ z ∷ rest size marks next → at < next → next ≤ 262144 → Walks size marks at (found_at z next)
  walks_at z next e h g = record {
    found = λ x f. cc;
    forward = λ x f. let q : next ≡ x.next = cc in (omega arith, omega arith);
    ended = λ f. absurd (let g : ◌≡◌ {A = ℕ} 0 1 = cc in omega arith);
  }

module _ (n : ℕ) (marks : List ℕ) (at : ℕ) (h : suc n ≤ limit) (g : at < 262144) where
  -- the next place: of the same number, or the first of the next number, or behind the last
  behind : left (suc n) marks (at / 4) (suc (at % 4)) ≡ rest (suc n) marks (at + 1)
  behind = same (dec_lt (at % 4) 3) (dec_lt (at / 4) 65535)
    where
      same : Dec (at % 4 < 3) → Dec (at / 4 < 65535) → left (suc n) marks (at / 4) (suc (at % 4)) ≡ rest (suc n) marks (at + 1)
      same (yes p) q = ap₂ (left (suc n) marks) (let e : at / 4 ≡ (at + 1) / 4 = omega arith in e) (let e : suc (at % 4) ≡ (at + 1) % 4 = omega arith in e) ∙ sym (rest-inside n marks (at + 1) h (omega arith))
      same (no p) (yes q) =
          ap (left (suc n) marks (at / 4)) (let e : suc (at % 4) ≡ 4 = omega arith in e)
          ∙ left-four (suc n) marks (at / 4)
          ∙ sym (left-first (suc n) marks (at / 4) q)
          ∙ ap₂ (left (suc n) marks) (let e : at / 4 + 1 ≡ (at + 1) / 4 = omega arith in e) (let e : 0 ≡ (at + 1) % 4 = omega arith in e)
          ∙ sym (rest-inside n marks (at + 1) h (omega arith))
      same (no p) (no q) =
          ap (left (suc n) marks (at / 4)) (let e : suc (at % 4) ≡ 4 = omega arith in e)
          ∙ left-four (suc n) marks (at / 4)
          ∙ ap (λ k. rest_after (suc n) marks k (at / 4 + 1)) (let e : 65535 - at / 4 ≡ 0 = omega arith in e)
          ∙ from-none (suc n) marks (at / 4 + 1)
          ∙ sym (rest_out n marks (at + 1) (omega arith))

  rest-here : (z : ℤ) → here_of (suc n) marks at ≡ Some z → rest (suc n) marks at ≡ z ∷ rest (suc n) marks (at + 1)
  rest-here z e = rest-inside n marks at h g ∙ left-entry (suc n) marks (at / 4) (at % 4) z e ∙ ap (λ l. z ∷ l) behind

  -- the place behind the first entry of the number m + 1
  rest-second : (m : ℕ) → m < 65536 → marked (suc n) marks m ≡ true → rest (suc n) marks (m * 4 + 1) ≡ drop 1 (entries (suc n) (m + 1)) ++ rest_after (suc n) marks (65535 - m) (m + 1)
  unfolding left
  rest-second m p e =
      rest-inside n marks (m * 4 + 1) h (omega arith)
      ∙ ap₂ (left (suc n) marks) (let f : (m * 4 + 1) / 4 ≡ m = omega arith in f) (let f : (m * 4 + 1) % 4 ≡ 1 = omega arith in f)
      ∙ ap (λ t. keep t (drop 1 (entries (suc n) (m + 1))) ++ rest_after (suc n) marks (65535 - m) (m + 1)) e

  module _ (e : here_of (suc n) marks at ≡ None) where
    rest_from : rest (suc n) marks at ≡ rest_after (suc n) marks (65535 - at / 4) (at / 4 + 1)
    rest_from = rest-inside n marks at h g ∙ left-nothing (suc n) marks (at / 4) (at % 4) e

    after : (m : ℕ) → mark_from (suc n) marks (65535 - at / 4) (at / 4 + 1) ≡ m → Dec (m < 65536) → Walks (suc n) marks at (first_of m)
    after m f (yes p) =
        let k = 65535 - at / 4 in
        let j = at / 4 + 1 in
        let lt : mark_from (suc n) marks k j < j + k = omega arith in
        subst (Walks (suc n) marks at) (sym (ap (λ t. found_if t (found_at (pos (m + 1)) (m * 4 + 1))) (lt-ltb m 65536 p)))
        (walks_at (suc n) marks at (pos (m + 1)) (m * 4 + 1)
        (rest_from
        ∙ from-mark (suc n) marks k j lt
        ∙ ap (λ x. entries (suc n) (x + 1) ++ rest_after (suc n) marks (j + k - (x + 1)) (x + 1)) f
        ∙ ap (λ x. entries (suc n) (m + 1) ++ rest_after (suc n) marks x (m + 1)) (let q : j + k - (m + 1) ≡ 65535 - m = omega arith in q)
        ∙ ap (λ l. pos (m + 1) ∷ l) (sym (rest-second m p (subst (λ x. marked (suc n) marks x ≡ true) f (mark_set (suc n) marks k j lt)))))
        (omega (arith, mark-ge (suc n) marks k j))
        (omega arith))
    after m f (no p) =
        let k = 65535 - at / 4 in
        let j = at / 4 + 1 in
        subst (Walks (suc n) marks at) (sym (ap (λ t. found_if t (found_at (pos (m + 1)) (m * 4 + 1))) (le-ltb m 65536 (omega arith))))
        (walks-end (suc n) marks at (rest_from ∙ from_end (suc n) marks k j (omega (arith, mark-le (suc n) marks k j))))

  walks-inside : (e : Option ℤ) → here_of (suc n) marks at ≡ e → Walks (suc n) marks at (next_of (suc n) marks at)
  walks-inside (Some z) e = subst (Walks (suc n) marks at) (next_here marks (suc n) at z (omega arith) h g e) (walks_at (suc n) marks at z (at + 1) (rest-here z e) (omega arith) (omega arith))
  walks-inside None e = subst (Walks (suc n) marks at) (next-after marks (suc n) at _ (omega arith) h g e (ap (λ k. mark_from (suc n) marks k (at / 4 + 1)) (let k : 65535 - at / 4 ≡ 65536 - (at / 4 + 1) = omega arith in k))) (after e _ refl (dec_lt _ 65536))

pub walks : (size : ℕ) (marks : List ℕ) (at : ℕ) → Walks size marks at (next_of size marks at)
unfolding rest
walks zero marks zero = subst (Walks 0 marks 0) (next-zero marks 0 0 refl refl) (walks_at 0 marks 0 (pos 0) 1 refl (omega arith) (omega arith))
walks zero marks (suc at) = subst (Walks 0 marks (suc at)) (next-zero-end marks 0 (suc at) refl (omega arith)) (walks-end 0 marks (suc at) refl)
walks (suc n) marks at = by (dec_le (suc n) limit) (dec_lt at 262144)
  where
    by : Dec (suc n ≤ limit) → Dec (at < 262144) → Walks (suc n) marks at (next_of (suc n) marks at)
    by (yes h) (yes g) = walks-inside n marks at h g _ refl
    by (no h) g = subst (Walks (suc n) marks at) (next-large marks (suc n) at (omega arith)) (walks-end (suc n) marks at (rest-large n marks at (omega arith)))
    by (yes h) (no g) = subst (Walks (suc n) marks at) (next-out marks (suc n) at (omega arith) (omega arith)) (walks-end (suc n) marks at (rest_out n marks at (omega arith)))

-- what is found as the model finds it walks too
pub walks_is : {size : ℕ} {marks : List ℕ} {at : ℕ} {f : Option Factor} → f ≡ next_of size marks at → Walks size marks at f
walks_is {size} {marks} {at} e = subst (Walks size marks at) (sym e) (walks size marks at)

pub ruleset walk_steps = (walks_is, to_z-of_z, mark-le, next-zero, next-zero-end, next-large, next-out, next_here, next-after)
