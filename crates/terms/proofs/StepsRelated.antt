-- The work is written over any machine: two machines that keep a relation between their numbers and between what they note keep it through all the work.
use mathlib.Core.Path.{◌≡◌, refl, ap}
use mathlib.Core.Bool.{Bool, true, false}
use mathlib.Core.List.{List, [], ◌∷◌, ◌++◌}
use Prim.Native.Nat.{ℕ, zero, suc, ◌+◌, ◌-◌, ◌≤◌, ◌<◌}
use native.Mathlib.Omega.{arith}
use lib.IntN.{ℤ, pos, nat_abs}
use lib.ListN.{length, get_or, set, take}
use Rattle.terms.specs.Machine.{Op, times, Ran, fine, over, and_then, Machine}
use Rattle.terms.specs.Poly.{on_top, drop_top}
use Rattle.terms.specs.Work.{nil, each, scaled, derived, rowed}

-- ---- lists, item by item

pub data Pairwise {A B : Type 0} (P : A → B → Type 0) : List A → List B → Type 0 where
  none : Pairwise P [] []
  more : {x : A} {y : B} {xs : List A} {ys : List B} → P x y → Pairwise P xs ys → Pairwise P (x ∷ xs) (y ∷ ys)

module _ {A B : Type 0} {P : A → B → Type 0} where
  pub same_length : {xs : List A} {ys : List B} → Pairwise P xs ys → length xs ≡ length ys
  same_length none = refl
  same_length (more p h) = ap suc (same_length h)

  pub pair-get_or : {xs : List A} {ys : List B} {d : A} {e : B} → Pairwise P xs ys → (i : ℕ) → P d e → P (get_or xs i d) (get_or ys i e)
  pair-get_or none i q = q
  pair-get_or (more p h) zero q = p
  pair-get_or (more p h) (suc i) q = pair-get_or h i q

  pub pair_set : {xs : List A} {ys : List B} {d : A} {e : B} → Pairwise P xs ys → (i : ℕ) → P d e → Pairwise P (set xs i d) (set ys i e)
  pair_set none i q = none
  pair_set (more p h) zero q = more q h
  pair_set (more p h) (suc i) q = more p (pair_set h i q)

  pub pair-append : {xs xs' : List A} {ys ys' : List B} → Pairwise P xs ys → Pairwise P xs' ys' → Pairwise P (xs ++ xs') (ys ++ ys')
  pair-append none g = g
  pair-append (more p h) g = more p (pair-append h g)

  pub pair-take : {xs : List A} {ys : List B} → (i : ℕ) → Pairwise P xs ys → Pairwise P (take i xs) (take i ys)
  pair-take zero h = none
  pair-take (suc i) none = none
  pair-take (suc i) (more {x = x} {y = y} {xs = xs} {ys = ys} p h) = more p (pair-take {xs = xs} i h)

  pair-on_top : {xs : List A} {ys : List B} {x : A} {y : B} → (t : Bool) → Pairwise P xs ys → P x y → Pairwise P (on_top t x xs) (on_top t y ys)
  pair-on_top true none p = none
  pair-on_top false none p = more p none
  pair-on_top true (more q h) p = more p (more q h)
  pair-on_top false (more q h) p = more p (more q h)

  pub pair-drop_top : (f : A → Bool) (g : B → Bool) → ((x : A) (y : B) → P x y → f x ≡ g y) → {xs : List A} {ys : List B} → Pairwise P xs ys → Pairwise P (drop_top f xs) (drop_top g ys)
  unfolding drop_top
  pair-drop_top f g e none = none
  pair-drop_top f g e (more {x = x} {y = y} p h) = rw (e x y p) (pair-on_top (g y) (pair-drop_top f g e h) p)

pub pair-map : {A B : Type 0} {P Q : A → B → Type 0} → ((x : A) (y : B) → P x y → Q x y) → {xs : List A} {ys : List B} → Pairwise P xs ys → Pairwise Q xs ys
pair-map f none = none
pair-map f (more {x = x} {y = y} p h) = more (f x y p) (pair-map f h)

-- ---- what two machines have in common

-- what is known so far grows; numbers are related by what is known, what is noted by all that is known, and what a refusal leaves noted
pub record Relation (W W' Log Log' : Type 0) : Type 1 where
  pub Known : Type 0
  pub Later : Known → Known → Type 0
  pub Logs : Known → Log → Log' → Type 0
  pub Ends : Log → Log' → Type 0
  pub Wires : Known → W → W' → Type 0
  -- the whole numbers that the work may name
  pub Wholes : ℤ → Type 0

module _ {W W' Log Log' : Type 0} (R : Relation W W' Log Log') where
  -- both answered, with related results, or both refused
  pub data Outcome {X Y : Type 0} (P : R.Known → X → Y → Type 0) (w : R.Known) : Ran Log X → Ran Log' Y → Type 0 where
    answered : {l : Log} {n : Log'} {x : X} {y : Y} → (w' : R.Known) → R.Later w w' → R.Logs w' l n → P w' x y → Outcome P w (fine l x) (fine n y)
    refused : {l : Log} {n : Log'} → R.Ends l n → Outcome P w (over l) (over n)

  -- each step keeps the relation
  pub record Kept (M : Machine W Log) (N : Machine W' Log') : Type 0 where
    pub later_refl : (w : R.Known) → R.Later w w
    pub later_trans : {w w' w'' : R.Known} → R.Later w w' → R.Later w' w'' → R.Later w w''
    pub still : {w w' : R.Known} {x : W} {y : W'} → R.Later w w' → R.Wires w x y → R.Wires w' x y
    pub same-value : {w : R.Known} {x : W} {y : W'} → R.Wires w x y → M.value x ≡ N.value y
    pub small : (z : ℤ) → nat_abs z ≤ 1 → R.Wholes z
    pub whole : (w : R.Known) (z : ℤ) → R.Wholes z → R.Wires w (M.whole z) (N.whole z)
    pub inverse : {w : R.Known} {x : W} {y : W'} → R.Wires w x y → R.Wires w (M.inverse x) (N.inverse y)
    pub make : (op : Op) {w : R.Known} {l : Log} {n : Log'} {x u : W} {y v : W'} → R.Logs w l n → R.Wires w x y → R.Wires w u v → Outcome R.Wires w (M.make op x u l) (N.make op y v n)

-- ---- the work keeps it

module _ {W W' Log Log' : Type 0} (R : Relation W W' Log Log') {M : Machine W Log} {N : Machine W' Log'} (K : Kept R M N) where
  abbrev pub Lists : R.Known → List W → List W' → Type 0
  Lists w xs ys = Pairwise (R.Wires w) xs ys

  pub lists-still : {w w' : R.Known} {xs : List W} {ys : List W'} → R.Later w w' → Lists w xs ys → Lists w' xs ys
  lists-still p h = pair-map (λ x y q. K.still p q) h

  earlier : {X Y : Type 0} {P : R.Known → X → Y → Type 0} {w w' : R.Known} {r : Ran Log X} {s : Ran Log' Y} → R.Later w w' → Outcome R P w' r s → Outcome R P w r s
  earlier p (answered w'' q l h) = answered w'' (K.later_trans p q) l h
  earlier p (refused e) = refused e

  pub outcome-then : {X Y X' Y' : Type 0} {P : R.Known → X → Y → Type 0} {Q : R.Known → X' → Y' → Type 0} {w : R.Known} {r : Ran Log X} {s : Ran Log' Y} {f : Log → X → Ran Log X'} {g : Log' → Y → Ran Log' Y'} → Outcome R P w r s → ((w' : R.Known) (l : Log) (n : Log') (x : X) (y : Y) → R.Later w w' → R.Logs w' l n → P w' x y → Outcome R Q w' (f l x) (g n y)) → Outcome R Q w (and_then r f) (and_then s g)
  outcome-then (answered w' p q h) k = earlier p (k w' _ _ _ _ p q h)
  outcome-then (refused e) k = refused e

  pub outcome-fine : {X Y : Type 0} {P : R.Known → X → Y → Type 0} {w : R.Known} {l : Log} {n : Log'} {x : X} {y : Y} → R.Logs w l n → P w x y → Outcome R P w (fine l x) (fine n y)
  outcome-fine {w = w} q h = answered w (K.later_refl w) q h

  pub nil-related : (w : R.Known) → R.Wires w (nil M) (nil N)
  nil-related w = K.whole w (pos 0) (K.small (pos 0) (omega arith))

  -- t items at most
  pub each-related : (f : ℕ → Log → Ran Log W) (g : ℕ → Log' → Ran Log' W') (t : ℕ) (w : R.Known) → ((i : ℕ) → i < t → (w' : R.Known) (l : Log) (n : Log') → R.Later w w' → R.Logs w' l n → Outcome R R.Wires w' (f i l) (g i n)) → (k i : ℕ) → i + k ≤ t → (l : Log) (n : Log') → R.Logs w l n → Outcome R Lists w (each f k i l) (each g k i n)
  unfolding each
  each-related f g t w h zero i b l n q = outcome-fine q none
  each-related f g t w h (suc k) i b l n q =
      outcome-then (h i (omega arith) w l n (K.later_refl w) q) (λ w₁ l₁ n₁ x y p₁ q₁ a.
      outcome-then (each-related f g t w₁ (λ i c w₂ l n p q. h i c w₂ l n (K.later_trans p₁ p) q) k (suc i) (omega arith) l₁ n₁ q₁) (λ w₂ l₂ n₂ xs ys p₂ q₂ bs.
      outcome-fine q₂ (more (K.still p₂ a) bs)))

  module _ {w : R.Known} {l : Log} {n : Log'} (q : R.Logs w l n) where
    pub scaled-related : {a : List W} {b : List W'} {c : W} {d : W'} → Lists w a b → R.Wires w c d → Outcome R Lists w (scaled M a c l) (scaled N b d n)
    unfolding scaled
    scaled-related {b = b} h c =
        rw (same_length h) (each-related _ _ (length b) w (λ i t w' l n p q. K.make times q (K.still p (pair-get_or h i (nil-related w))) (K.still p c)) (length b) 0 (omega arith) l n q)

    pub derived-related : {a : List W} {b : List W'} → ((i : ℕ) → i < length b - 1 → R.Wholes (pos (i + 1))) → Lists w a b → Outcome R Lists w (derived M a l) (derived N b n)
    unfolding derived
    derived-related {b = b} z h =
        rw (same_length h) (each-related _ _ (length b - 1) w (λ i t w' l n p q. K.make times q (K.still p (pair-get_or h (i + 1) (nil-related w))) (K.whole w' (pos (i + 1)) (z i t))) (length b - 1) 0 (omega arith) l n q)

  -- the row's list is known from the start
  rowed-later : (op : Op) {w₀ w : R.Known} {l : Log} {n : Log'} (k : ℕ) {acc : List W} {acc' : List W'} {x : W} {y : W'} {b : List W} {b' : List W'} → Lists w₀ b b' → R.Later w₀ w → R.Logs w l n → Lists w acc acc' → R.Wires w x y → Outcome R Lists w (rowed M op acc k x b l) (rowed N op acc' k y b' n)
  unfolding rowed
  rowed-later op k none p q h c = outcome-fine q h
  rowed-later op {w₀ = w₀} {w = w} {l = l} {n = n} k {acc = acc} {acc' = acc'} {x = x'} {y = y'} (more {x = x} {y = y} {xs = xs} {ys = ys} v b) p q h c =
      outcome-then (K.make times q c (K.still p v)) (λ w₁ l₁ n₁ t t' p₁ q₁ e.
      outcome-then (K.make op q₁ (pair-get_or (lists-still p₁ h) k (nil-related w₁)) e) (λ w₂ l₂ n₂ s s' p₂ q₂ f.
      let r = K.later_trans p₁ p₂ in
      rowed-later op {w = w₂} (k + 1) b (K.later_trans p r) q₂ (pair_set (lists-still r h) k f) (K.still r c)))

  pub rowed-related : (op : Op) {w : R.Known} {l : Log} {n : Log'} (k : ℕ) {acc : List W} {acc' : List W'} {x : W} {y : W'} {b : List W} {b' : List W'} → R.Logs w l n → Lists w acc acc' → R.Wires w x y → Lists w b b' → Outcome R Lists w (rowed M op acc k x b l) (rowed N op acc' k y b' n)
  rowed-related op {w = w} k q h c b = rowed-later op k b (K.later_refl w) q h c
