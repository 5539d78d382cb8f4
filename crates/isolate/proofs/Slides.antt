-- Insertion by a walk that moves up what stands behind the place.
use Rattle.std.specs.Prelude.{Option, Some, None}
use mathlib.Core.Path.{◌≡◌, refl, sym, ap, ◌∙◌}
use mathlib.Core.Bool.{Bool, true, false, cond}
use mathlib.Core.List.{List, [], ◌∷◌, ◌++◌, append_assoc}
use Prim.Native.Nat.{ℕ, suc, ◌+◌, ◌≤◌}
use native.Mathlib.Omega.{arith}
use lib.Ieee.{Float, lt}
use lib.ListN.{length, drop, length-append}
use Rattle.isolate.specs.declared.Isolation.{Isolation}
use Rattle.isolate.specs.declared.Slide.{Slide}
use Rattle.isolate.specs.Answer.{roots_in, holding}
use Rattle.isolate.specs.Sorted.{inserted, placed, slide_if, slide_of}
use Rattle.isolate.proofs.Hold.{roots-of, kept_of}

-- the walk
unfoldable pub slid : Bool → Float → List Float → List Float
slid m x [] = x ∷ []
slid m x (y ∷ l) = (slide_of m x y).stays ∷ slid (slide_of m x y).moving (slide_of m x y).carried l

slid-moving : (x : Float) (l : List Float) → slid true x l ≡ x ∷ l
unfolding slid
slid-moving x [] = refl
slid-moving x (y ∷ l) = ap (λ (t : List Float). x ∷ t) (slid-moving y l)

one-slide : (t : Bool) (x y : Float) (l : List Float) → slid false x l ≡ inserted x l → (slide_if t x y).stays ∷ slid (slide_if t x y).moving (slide_if t x y).carried l ≡ cond t (x ∷ y ∷ l) (y ∷ inserted x l)
one-slide true x y l h = ap (λ (t : List Float). x ∷ t) (slid-moving y l)
one-slide false x y l h = ap (λ (t : List Float). y ∷ t) h

slid-inserted : (x : Float) (l : List Float) → slid false x l ≡ inserted x l
unfolding slid inserted
slid-inserted x [] = refl
slid-inserted x (y ∷ l) = one-slide (lt x y) x y l (slid-inserted x l)

one-longer : (t : Bool) (x y : Float) (l k : List Float) → length k ≡ suc (length l) → length (cond t (x ∷ y ∷ l) (y ∷ k)) ≡ suc (suc (length l))
one-longer true x y l k h = refl
one-longer false x y l k h = ap suc h

inserted-length : (x : Float) (l : List Float) → length (inserted x l) ≡ suc (length l)
unfolding inserted
inserted-length x [] = refl
inserted-length x (y ∷ l) = one-longer (lt x y) x y l (inserted x l) (inserted-length x l)

pub placed-length : (r : Option Float) (l : List Float) → length (placed r l) ≤ length l + 1
placed-length (Some x) l = omega (arith, inserted-length x l)
placed-length None l = omega arith

-- ---- the loop: what is put down and what is left of the walk give the whole

pub record Sliding (l : List Float) (x : Float) (i : ℕ) (out : Isolation) (m : Bool) (c : Float) : Type 0 where
  pub is : out ≡ holding (roots_in out)
  pub long : length (roots_in out) ≡ i
  pub whole : roots_in out ++ slid m c (drop i l) ≡ inserted x l

pub sliding-none : (l : List Float) (x : Float) (out : Isolation) → out ≡ holding [] → Sliding l x 0 out false x
sliding-none l x out e =
    let r : roots_in out ≡ [] = roots-of out [] e in
    record {
      is = kept_of out [] e;
      long = ap length r;
      whole = ap (λ (t : List Float). t ++ slid false x l) r ∙ slid-inserted x l;
    }

module _ (l : List Float) (x : Float) (i : ℕ) (out : Isolation) (m : Bool) (c : Float) (g : Sliding l x i out m c) where
  pub sliding-more : (y : Float) → drop i l ≡ y ∷ drop (i + 1) l → (s : Slide) → s ≡ slide_of m c y → (next : Isolation) → next ≡ holding (roots_in out ++ (s.stays ∷ [])) → Sliding l x (i + 1) next s.moving s.carried
  unfolding slid
  sliding-more y d s e next n =
      let r : roots_in next ≡ roots_in out ++ (s.stays ∷ []) = roots-of next (roots_in out ++ (s.stays ∷ [])) n in
      record {
        is = kept_of next (roots_in out ++ (s.stays ∷ [])) n;
        long = ap length r ∙ length-append (roots_in out) (s.stays ∷ []) ∙ ap (λ (k : ℕ). k + 1) g.long;
        whole =
            ap (λ (t : List Float). t ++ slid s.moving s.carried (drop (i + 1) l)) r
            ∙ append_assoc (roots_in out) (s.stays ∷ []) (slid s.moving s.carried (drop (i + 1) l))
            ∙ ap (λ (s : Slide). roots_in out ++ (s.stays ∷ slid s.moving s.carried (drop (i + 1) l))) e
            ∙ ap (λ (t : List Float). roots_in out ++ slid m c t) (sym d)
            ∙ g.whole;
      }

  none_left : (t : List Float) → length t ≡ 0 → slid m c t ≡ c ∷ []
  unfolding slid
  none_left [] h = refl
  none_left (y ∷ t) h = absurd (omega arith)

  pub sliding-end : length (drop i l) ≡ 0 → (r : Isolation) → r ≡ holding (roots_in out ++ (c ∷ [])) → r ≡ holding (inserted x l)
  sliding-end h r e = e ∙ ap holding (ap (λ (t : List Float). roots_in out ++ t) (sym (none_left (drop i l) h)) ∙ g.whole)
