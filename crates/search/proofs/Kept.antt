-- Laws of the rising list: a fraction put into it comes to stand in it once, nothing is lost, and it rises still.
use Rattle.ratio.specs.declared.Reason.{Reason}
use Rattle.std.specs.Prelude.{Result}
use mathlib.Core.Path.{◌≡◌, refl, sym, ap, subst, ◌∙◌}
use mathlib.Core.Logic.{◌⊎◌, inl, inr, ∥∥₁_elim}
use mathlib.Core.HLevel.{¬_prop}
use mathlib.Core.List.Memᴰ
use mathlib.Core.List.{List, [], ◌∷◌, map, Memᴰ, Pairwise}
use Prim.Native.Nat.{ℕ, zero, suc, ◌<◌}
use native.Mathlib.Omega.{arith}
use lib.ListN.{length, get_or}
use Rattle.algebra.specs.Rational.{Rat, Same}
use Rattle.algebra.specs.Rational as Q
use Rattle.algebra.proofs.RationalOrder.{less-irrefl, less-trans, compare_q}
use Rattle.algebra.proofs.WholeOrder.{Three, less, same, more}
use Rattle.ratio.specs.Promise.{rat, Fraction, Lowest}
use Rattle.ratio.specs.Refusal.{zero_r}
use Rattle.std.specs.declared.cmp.Ordering.{Ordering}
use Rattle.ratio.specs.declared.Ratio.{Ratio}
use Rattle.ratio.proofs.Steps.{lowest-equal, cmp-less, cmp-equal, cmp-greater}
use Rattle.search.specs.Keep.{turned_by, carry, placed}

-- ---- all of a list, and one of it

pub data All {W : Type 0} (P : W → Type 0) : List W → Type 0 where
  none : All P []
  each : {a : W} {l : List W} → P a → All P l → All P (a ∷ l)

pub data Has {W : Type 0} (P : W → Type 0) : List W → Type 0 where
  here : {a : W} {l : List W} → P a → Has P (a ∷ l)
  there : {a : W} {l : List W} → Has P l → Has P (a ∷ l)

module _ {W : Type 0} {P Q : W → Type 0} (f : (a : W) → P a → Q a) where
  pub all_weaker : (l : List W) → All P l → All Q l
  all_weaker [] none = none
  all_weaker (a ∷ l) (each p h) = each (f a p) (all_weaker l h)

-- by places
pub all-at : {W : Type 0} {P : W → Type 0} (l : List W) (d : W) → All P l → (i : ℕ) → i < length l → P (get_or l i d)
all-at [] d none i h = absurd (omega arith)
all-at (a ∷ l) d (each p r) zero h = p
all-at (a ∷ l) d (each p r) (suc i) h = all-at l d r i (omega arith)

pub all_from : {W : Type 0} {P : W → Type 0} (l : List W) (d : W) → ((i : ℕ) → i < length l → P (get_or l i d)) → All P l
all_from [] d h = none
all_from (a ∷ l) d h = each (h 0 (omega arith)) (all_from l d (λ i k. h (suc i) (omega arith)))

pub has-at : {W : Type 0} {P : W → Type 0} (l : List W) (d : W) → Has P l → (i : ℕ) × (i < length l) × P (get_or l i d)
has-at {W = W} {P = P} [] d x' = elim x' [ ]
has-at (a ∷ l) d (here p) = (0, omega arith, p)
has-at (a ∷ l) d (there h) = let (i, k, p) = has-at l d h in (suc i, omega arith, p)

-- ---- rising lists

-- each is less than all behind it
pub data Sorted : List Ratio → Type 0 where
  nothing : Sorted []
  first : {a : Ratio} {l : List Ratio} → All (λ b. Q.Less (rat a) (rat b)) l → Sorted l → Sorted (a ∷ l)

pub sorted-at : (l : List Ratio) → Sorted l → (i : ℕ) → suc i < length l → Q.Less (rat (get_or l i zero_r)) (rat (get_or l (suc i) zero_r))
sorted-at [] nothing i h = absurd (omega arith)
sorted-at (a ∷ []) (first r s) i h = absurd (omega arith)
sorted-at (a ∷ b ∷ l) (first (each p r) s) zero h = p
sorted-at (a ∷ b ∷ l) (first r s) (suc i) h = sorted-at (b ∷ l) s i (omega arith)

-- ---- as a list of different rationals

module _ (P : Rat → Type 0) where
  pub member : (l : List Ratio) → All (λ b. P (rat b)) l → (y : Rat) → Memᴰ y (map rat l) → P y
  member [] none y m = absurd (Memᴰ.not-nil m)
  member (a ∷ l) (each p h) y m = pick (Memᴰ.cases_cons m) (member l h y)
    where
      pick : (y ≡ rat a) ⊎ Memᴰ y (map rat l) → (Memᴰ y (map rat l) → P y) → P y
      pick (inl e) again = subst P (sym e) p
      pick (inr n) again = again n

pub sorted-different : (l : List Ratio) → Sorted l → Pairwise (λ x y. Same x y → ⊥) (map rat l)
sorted-different [] nothing = Pairwise.nil
sorted-different (a ∷ l) (first h s) =
    Pairwise.cons (λ y m. ∥∥₁_elim m ¬_prop (λ d. member (λ y. Same (rat a) y → ⊥) l (all_weaker (λ b k e. less-irrefl (rat a) (rat b) e k) l h) y d)) (sorted-different l s)

-- ---- one put in its place

pub placed-front : (x : Ratio) (l : List Ratio) → Fraction x → All Lowest l → All (λ b. Q.Less (rat x) (rat b)) l → Sorted l → placed x l ≡ x ∷ l
unfolding placed
placed-front x [] f none none nothing = refl
placed-front x (a ∷ l) f (each p ps) (each h hs) (first b s) =
    ap (λ (o : Result Ordering Reason). carry (turned_by o x a) (a ∷ l) (λ y. placed y l)) (cmp-less x a f p.fraction h) ∙ ap (λ t. x ∷ t) (placed-front a l p.fraction ps b s)

-- what is put in is all that is new; nothing is lost
pub record Placed (x : Ratio) (l r : List Ratio) : Type 1 where
  pub sorted : Sorted r
  pub all : (P : Ratio → Type 0) → P x → All P l → All P r
  pub has : (P : Ratio → Type 0) → Has P l → Has P r
  pub gets : (P : Ratio → Type 0) → P x → Has P r

placed_less : (x a : Ratio) (l : List Ratio) → Q.Less (rat x) (rat a) → Sorted (a ∷ l) → Placed x (a ∷ l) (x ∷ a ∷ l)
placed_less x a l h (first b s) = record {
  sorted = first (each h (all_weaker (λ y k. less-trans (rat x) (rat a) (rat y) h k) l b)) (first b s);
  all = λ P p r. each p r;
  has = λ P k. there k;
  gets = λ P p. here p;
}

placed_same : (x a : Ratio) (l : List Ratio) → x ≡ a → Sorted (a ∷ l) → Placed x (a ∷ l) (a ∷ l)
placed_same x a l e s = record { sorted = s; all = λ P p r. r; has = λ P k. k; gets = λ P p. here (subst P e p) }

has_more : (P : Ratio → Type 0) (a : Ratio) (l r : List Ratio) → (Has P l → Has P r) → Has P (a ∷ l) → Has P (a ∷ r)
has_more P a l r f (here p) = here p
has_more P a l r f (there h) = there (f h)

all_more : (P : Ratio → Type 0) (a : Ratio) (l r : List Ratio) → (All P l → All P r) → All P (a ∷ l) → All P (a ∷ r)
all_more P a l r f (each p h) = each p (f h)

placed-more : (x a : Ratio) (l r : List Ratio) → Q.Less (rat a) (rat x) → Sorted (a ∷ l) → Placed x l r → Placed x (a ∷ l) (a ∷ r)
placed-more x a l r h (first b s) d = record {
  sorted = first (d.all (λ y. Q.Less (rat a) (rat y)) h b) d.sorted;
  all = λ P p. all_more P a l r (d.all P p);
  has = λ P. has_more P a l r (d.has P);
  gets = λ P p. there (d.gets P p);
}

pub placed-is : (x : Ratio) (l : List Ratio) → Lowest x → All Lowest l → Sorted l → Placed x l (placed x l)
unfolding placed
placed-is x [] f none nothing = record { sorted = first none nothing; all = λ P p r. each p r; has = λ P k. there k; gets = λ P p. here p }
placed-is x (a ∷ l) f (each p ps) (first b s) = go (compare_q (rat x) (rat a)) (placed-is x l f ps s)
  where
    go : Three (Q.Less (rat x) (rat a)) (Same (rat x) (rat a)) (Q.Less (rat a) (rat x)) → Placed x l (placed x l) → Placed x (a ∷ l) (placed x (a ∷ l))
    go (less h) again =
        subst (Placed x (a ∷ l)) (sym (placed-front x (a ∷ l) f.fraction (each p ps) (each h (all_weaker (λ y k. less-trans (rat x) (rat a) (rat y) h k) l b)) (first b s))) (placed_less x a l h (first b s))
    go (same e) again =
        subst (Placed x (a ∷ l)) (sym (ap (λ (o : Result Ordering Reason). carry (turned_by o x a) (a ∷ l) (λ y. placed y l)) (cmp-equal x a f.fraction p.fraction e))) (placed_same x a l (lowest-equal x a f p e) (first b s))
    go (more h) again =
        subst (Placed x (a ∷ l)) (sym (ap (λ (o : Result Ordering Reason). carry (turned_by o x a) (a ∷ l) (λ y. placed y l)) (cmp-greater x a f.fraction p.fraction h))) (placed-more x a l (placed x l) h (first b s) again)
