-- Signs and their changes: one walk with the last sign that is not zero counts what differs among the neighbours that are kept.
use mathlib.Core.Path.{◌≡◌, refl, sym, ap, ◌∙◌}
use mathlib.Core.List.{List, [], ◌∷◌}
use Prim.Native.Nat.{ℕ, zero, suc, ◌+◌, ◌-◌, ◌<◌, ◌≤◌}
use native.Mathlib.Numerals.{add-one}
use native.Mathlib.Omega.{arith}
use lib.Ieee.{Float}
use lib.ListN.{length, take, drop, get_or}
use lib.Seq.{drop-cons}
use Rattle.sturm.specs.declared.Sign.{Sign}
use Rattle.sturm.specs.declared.Sign.TheVariants.{Zero, Plus, Minus, Nan}
use Rattle.sturm.specs.Value.{horner}
use Rattle.sturm.specs.Sign.{sign_of}
use Rattle.sturm.specs.Changes.{differ, newer, keep, kept, neighbours, changes}
use Rattle.sturm.specs.Along.{signs_at}
use Rattle.sturm.specs.Rows.{rows_in}

-- ---- the walk

unfoldable pub walk : Sign → List Sign → ℕ
walk last [] = 0
walk last (s ∷ l) = differ last s + walk (newer last s) l

-- the last sign before the others; a zero is none
walk-keeps : (l : List Sign) (last : Sign) → walk last l ≡ neighbours (keep last (kept l))
unfolding walk neighbours kept
walk-keeps [] Zero = refl
walk-keeps [] Plus = refl
walk-keeps [] Minus = refl
walk-keeps [] Nan = refl
walk-keeps (Zero ∷ l) Zero = omega (arith, walk-keeps l Zero)
walk-keeps (Plus ∷ l) Zero = omega (arith, walk-keeps l Plus)
walk-keeps (Minus ∷ l) Zero = omega (arith, walk-keeps l Minus)
walk-keeps (Nan ∷ l) Zero = omega (arith, walk-keeps l Nan)
walk-keeps (Zero ∷ l) Plus = omega (arith, walk-keeps l Plus)
walk-keeps (Plus ∷ l) Plus = omega (arith, walk-keeps l Plus)
walk-keeps (Minus ∷ l) Plus = omega (arith, walk-keeps l Minus)
walk-keeps (Nan ∷ l) Plus = omega (arith, walk-keeps l Nan)
walk-keeps (Zero ∷ l) Minus = omega (arith, walk-keeps l Minus)
walk-keeps (Plus ∷ l) Minus = omega (arith, walk-keeps l Plus)
walk-keeps (Minus ∷ l) Minus = omega (arith, walk-keeps l Minus)
walk-keeps (Nan ∷ l) Minus = omega (arith, walk-keeps l Nan)
walk-keeps (Zero ∷ l) Nan = omega (arith, walk-keeps l Nan)
walk-keeps (Plus ∷ l) Nan = omega (arith, walk-keeps l Plus)
walk-keeps (Minus ∷ l) Nan = omega (arith, walk-keeps l Minus)
walk-keeps (Nan ∷ l) Nan = omega (arith, walk-keeps l Nan)

pub walk-changes : (l : List Sign) → walk Zero l ≡ changes l
unfolding changes
walk-changes l = walk-keeps l Zero

pub differ-few : (s t : Sign) → differ s t ≤ 1
differ-few Zero t = omega arith
differ-few Plus Zero = omega arith
differ-few Plus Plus = omega arith
differ-few Plus Minus = omega arith
differ-few Plus Nan = omega arith
differ-few Minus Zero = omega arith
differ-few Minus Plus = omega arith
differ-few Minus Minus = omega arith
differ-few Minus Nan = omega arith
differ-few Nan Zero = omega arith
differ-few Nan Plus = omega arith
differ-few Nan Minus = omega arith
differ-few Nan Nan = omega arith

-- ---- the signs of the rows

-- i rows are passed, and values from place `at` on are left
module _ (v : List Float) (sizes : List ℕ) (x : Float) where
  pub record Walking (i at : ℕ) (last : Sign) (count : ℕ) : Type 0 where
    pub few : count ≤ i
    pub whole : count + walk last (signs_at (rows_in (drop at v) (drop i sizes)) x) ≡ changes (signs_at (rows_in v sizes) x)

  pub walking-none : Walking 0 0 Zero 0
  walking-none = record { few = omega arith; whole = omega (arith, walk-changes (signs_at (rows_in v sizes) x)) }

  rows_next : (l : List ℕ) (w : List Float) (i : ℕ) (d : ℕ) → i < length l → rows_in w (drop i l) ≡ take (get_or l i d) w ∷ rows_in (drop (get_or l i d) w) (drop (i + 1) l)
  unfolding rows_in
  rows_next l w i d h = rw (drop-cons l i d h, add-one i)

  rows_end : (w : List Float) (l : List ℕ) (i : ℕ) → length l ≤ i → rows_in w (drop i l) ≡ []
  unfolding rows_in
  rows_end w [] zero h = refl
  rows_end w [] (suc i) h = refl
  rows_end w (n ∷ l) zero h = absurd (omega arith)
  rows_end w (n ∷ l) (suc i) h = rows_end w l i (omega arith)

  module _ (i at : ℕ) (last : Sign) (count : ℕ) (w : Walking i at last count) where
    pub walking-more : (d to : ℕ) (s : Sign) (y : Float) → i < length sizes
        → take (to - at) (drop at v) ≡ take (get_or sizes i d) (drop at v) → drop to v ≡ drop (get_or sizes i d) (drop at v)
        → y ≡ horner (take (to - at) (drop at v)) x → s ≡ sign_of y
        → (k : ℕ) (t : Sign) → k ≡ differ last s → t ≡ newer last s → Walking (i + 1) to t (count + k)
    unfolding walk
    walking-more d to s y h et ed ey es k t ek en =
        let n = get_or sizes i d in
        let a : sign_of (horner (take n (drop at v)) x) ≡ s = ap (λ (l : List Float). sign_of (horner l x)) (sym et) ∙ ap sign_of (sym ey) ∙ sym es in
        let r = rows_next sizes (drop at v) i d h in
        let m : walk last (signs_at (rows_in (drop at v) (drop i sizes)) x) ≡ differ last s + walk (newer last s) (signs_at (rows_in (drop to v) (drop (i + 1) sizes)) x) = rw (r, ed, sym a) in
        record {
          few = omega (arith, ek, differ-few last s, w.few);
          whole = rw (ek, en) (omega (arith, m, w.whole));
        }

    pub walking-end : length sizes ≤ i → count ≡ changes (signs_at (rows_in v sizes) x)
    unfolding walk
    walking-end h =
        let m : walk last (signs_at (rows_in (drop at v) (drop i sizes)) x) ≡ 0 = rw (rows_end (drop at v) sizes i h) in
        omega (arith, m, w.whole)
