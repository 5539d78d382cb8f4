-- The values of an array of 16 from a place on, as a stack: what one token's work leaves of it.
use Rattle.ratio.specs.Refusal.{no_refusal}
use Rattle.std.specs.Prelude.{Err}
use mathlib.Core.Path.{◌≡◌, refl, sym, ap, ◌∙◌}
use mathlib.Core.List.{List, [], ◌∷◌}
use Prim.Native.Nat.{ℕ, zero, suc, ◌+◌, ◌-◌, ◌≤◌, ◌<◌}
use native.Mathlib.Omega.{arith}
use native.Mathlib.Numerals.{add-one}
use borrow.Author.Tests.{lt-ltb, le-ltb}
use lib.Ieee.{Float}
use lib.ListN.{length, drop, get_or, set, length-drop, length-set, drop_of_length-le}
use lib.Seq.{drop-cons}
use Rattle.ratio.specs.declared.Reason.{Reason}
use Rattle.ratio.specs.declared.Reason.TheVariants.{TooLong, BadInput}
use Rattle.terms.specs.declared.Poly.{Poly}
use Rattle.terms.specs.declared.Answer.{Answer}
use Rattle.terms.specs.Answer.{done_with, refused_with}
use Rattle.poly.specs.declared.Gate.TheVariants.{Open}
use Rattle.poly.specs.Door.{door_of}
use Rattle.lower.specs.declared.Binary.{Binary}
use Rattle.lower.specs.declared.Unary.{Unary}
use Rattle.lower.specs.declared.Work.{Work}
use Rattle.lower.specs.declared.Work.TheVariants.{Constant, Variable, Change, Combine, Stop}
use Rattle.lower.specs.Stack.{fine, stopped, constant_from, variable_if, combined, changed, pushed_by, pushed, one, two}
use Rattle.lower.specs.Work.{takes_of}
use Rattle.lower.specs.Room.{bounded, alone}
use Rattle.lower.proofs.Works.{worked, constant-open, variable-open, combined-open, changed-open, refused-open}

-- the values are canonical
pub record Opens (free : ℕ) (l : List Poly) : Type 0 where
  pub at : (i : ℕ) (d : Poly) → free ≤ i → i < length l → door_of (get_or l i d) ≡ Open

-- r is what the work comes to, on the values from a place on
pub record Made (wrt : ℕ) (w : Work) (l : List Poly) (free : ℕ) (r : Answer) : Type 0 where
  pub is : pushed r (drop (free + takes_of w) l) ≡ worked wrt w (drop free l)
  pub canonical : door_of r.poly ≡ Open

few : (op : Binary) (m : List Poly) → length m ≤ 1 → two op m ≡ stopped BadInput
few op [] h = refl
few op (b ∷ []) h = refl
few op (b ∷ a ∷ m) h = absurd (omega arith)

-- ---- the work

module _ (wrt : ℕ) (l : List Poly) (free : ℕ) (h : length l ≡ 16) where
  -- more values are taken than there are
  pub too_few : (w : Work) → free ≤ 16 → 16 < free + takes_of w → worked wrt w (drop free l) ≡ stopped BadInput
  too_few (Constant x) f k = absurd (omega arith)
  too_few (Variable i) f k = absurd (omega arith)
  too_few (Change op) f k = rw (drop_of_length-le l {i = free} (omega arith))
  too_few (Combine op) f k = few op (drop free l) (omega (arith, length-drop free l))
  too_few (Stop why) f k = absurd (omega arith)

  none-taken : drop (free + 0) l ≡ drop free l
  none-taken = let e : free + 0 ≡ free = omega arith in rw e

  one-some : (op : Unary) (d : Poly) → free ≤ 15 → pushed (changed op (get_or l free d)) (drop (free + 1) l) ≡ one op (drop free l)
  one-some op d k = rw (add-one, drop-cons l free d (omega arith))

  two-some : (op : Binary) (d e : Poly) → free ≤ 14 → pushed (combined op (get_or l (free + 1) d) (get_or l free e)) (drop (free + 2) l) ≡ two op (drop free l)
  two-some op d e k =
      let z : free + 2 ≡ suc (suc free) = omega arith in
      rw (z, drop-cons l free e (omega arith), drop-cons l (suc free) d (omega arith), add-one)

  module _ (w : Work) (r : Answer) where
    pub constant-made : (x : Float) → w ≡ Constant x → r ≡ constant_from x → Made wrt w l free r
    constant-made x e f = rw (e, f) (record { is = ap (pushed (constant_from x)) none-taken; canonical = constant-open x })

    pub variable-made : (i : ℕ) → w ≡ Variable i → r ≡ variable_if i wrt → Made wrt w l free r
    variable-made i e f = rw (e, f) (record { is = ap (pushed (variable_if i wrt)) none-taken; canonical = variable-open i wrt })

    pub change-made : (op : Unary) (d : Poly) → w ≡ Change op → free + takes_of w ≤ 16 → r ≡ changed op (get_or l free d) → Made wrt w l free r
    change-made op d e k f = rw (e, f) (record { is = one-some op d (omega (arith, ap takes_of e)); canonical = changed-open op _ })

    pub combine-made : (op : Binary) (d b : Poly) → w ≡ Combine op → free + takes_of w ≤ 16 → r ≡ combined op (get_or l (free + 1) d) (get_or l free b) → Made wrt w l free r
    combine-made op d b e k f = rw (e, f) (record { is = two-some op d b (omega (arith, ap takes_of e)); canonical = combined-open op _ _ })

    pub stop-made : (why : Reason) → w ≡ Stop why → r ≡ refused_with why 0 → Made wrt w l free r
    stop-made why e f = rw (e, f) (record { is = refl; canonical = refused-open why })

-- ---- what is left

set-top : (l : List Poly) (j : ℕ) (p : Poly) → j < length l → drop j (set l j p) ≡ p ∷ drop (suc j) l
set-top [] j p h = absurd (omega arith)
set-top (x ∷ l) zero p h = refl
set-top (x ∷ l) (suc j) p h = set-top l j p (omega arith)

placed : (l : List Poly) (j : ℕ) (p : Poly) → length l ≡ 16 → j ≤ 15 → bounded (fine (p ∷ drop (suc j) l)) ≡ fine (drop j (set l j p))
placed l j p h k = rw (le-ltb 16 (length (p ∷ drop (suc j) l)) (omega (arith, length-drop (suc j) l)), set-top l j p (omega arith))

put : (l : List Poly) (n : ℕ) (p : Poly) → length l ≡ 16 → n ≤ 16 → (n ≡ 0 → ⊥) → bounded (fine (p ∷ drop n l)) ≡ fine (drop (n - 1) (set l (n - 1) p))
put l zero p h k z = absurd (z refl)
put l (suc j) p h k z = let e : suc j - 1 ≡ j = omega arith in rw e (placed l j p h (omega arith))

full : (l : List Poly) (n : ℕ) (p : Poly) → length l ≡ 16 → n ≡ 0 → bounded (fine (p ∷ drop n l)) ≡ stopped TooLong
full l n p h z = rw (lt-ltb 16 (length (p ∷ drop n l)) (omega (arith, length-drop n l)))

module _ (wrt : ℕ) (w : Work) (l : List Poly) (free : ℕ) (r : Answer) (h : length l ≡ 16) (m : Made wrt w l free r) where
  pub made-stop : (why : Reason) → r.outcome ≡ Err why → bounded (worked wrt w (drop free l)) ≡ stopped why
  made-stop why e = ap bounded (sym m.is ∙ ap (λ o. pushed_by o r.poly (drop (free + takes_of w) l)) e)

  made-fine : r.outcome ≡ no_refusal → bounded (worked wrt w (drop free l)) ≡ bounded (fine (r.poly ∷ drop (free + takes_of w) l))
  made-fine e = ap bounded (sym m.is ∙ ap (λ o. pushed_by o r.poly (drop (free + takes_of w) l)) e)

  module _ (n : ℕ) (k : n ≡ free + takes_of w) (e : r.outcome ≡ no_refusal) where
    pub made-full : n ≡ 0 → bounded (worked wrt w (drop free l)) ≡ stopped TooLong
    made-full z = made-fine e ∙ full l (free + takes_of w) r.poly h (sym k ∙ z)

    pub made-put : n ≤ 16 → (n ≡ 0 → ⊥) → bounded (worked wrt w (drop free l)) ≡ fine (drop (n - 1) (set l (n - 1) r.poly))
    made-put a b = made-fine e ∙ ap (λ i. bounded (fine (r.poly ∷ drop i l))) (sym k) ∙ put l n r.poly h a b

-- ---- canonical values

set-opens : (l : List Poly) (j i : ℕ) (p d : Poly) → door_of p ≡ Open → (suc j ≤ i → door_of (get_or l i d) ≡ Open) → j ≤ i → i < length l → door_of (get_or (set l j p) i d) ≡ Open
set-opens [] j i p d o f a b = absurd (omega arith)
set-opens (x ∷ l) zero zero p d o f a b = o
set-opens (x ∷ l) zero (suc i) p d o f a b = f (omega arith)
set-opens (x ∷ l) (suc j) zero p d o f a b = absurd (omega arith)
set-opens (x ∷ l) (suc j) (suc i) p d o f a b = set-opens l j i p d o (λ z. f (omega arith)) (omega arith) (omega arith)

pub opens-put : (l : List Poly) (free n : ℕ) (p : Poly) → Opens free l → door_of p ≡ Open → free ≤ n → Opens (n - 1) (set l (n - 1) p)
opens-put l free n p o h k = record { at = λ i d a b. set-opens l (n - 1) i p d h (λ z. o.at i d (omega arith) (omega (arith, length-set l (n - 1) p))) a (omega (arith, length-set l (n - 1) p)) }

-- ---- the end

pub alone-one : (l : List Poly) (d : Poly) → length l ≡ 16 → (free : ℕ) → free ≡ 15 → done_with (get_or l free d) 0 ≡ alone (fine (drop free l))
alone-one l d h free e = rw (drop-cons l free d (omega arith), drop_of_length-le l {i = suc free} (omega arith))

not-one : (m : List Poly) → (length m ≡ 1 → ⊥) → refused_with BadInput 0 ≡ alone (fine m)
not-one [] h = refl
not-one (p ∷ []) h = absurd (h refl)
not-one (p ∷ q ∷ m) h = refl

pub alone-none : (l : List Poly) (free : ℕ) → length l ≡ 16 → (free ≡ 15 → ⊥) → refused_with BadInput 0 ≡ alone (fine (drop free l))
alone-none l free h k = not-one (drop free l) (λ e. k (omega (arith, length-drop free l)))
