-- Laws of the brackets in their array: what is in use, and one more.
use Rattle.std.specs.Prelude.{Err}
use mathlib.Core.Path.{◌≡◌, refl, sym, ap, ◌∙◌}
use mathlib.Core.List.{List, [], ◌∷◌, ◌++◌, append_assoc}
use Prim.Native.Nat.{ℕ, suc, ◌+◌, ◌-◌, ◌<◌, ◌≤◌}
use native.Mathlib.Omega.{arith}
use borrow.Author.Tests.{lt-ltb, le-ltb}
use lib.Dec.{ltb}
use lib.Ieee.{Float}
use lib.ListN.{length, set, replicate, length-append}
use lib.Seq.{take-append_seam, set-append_seam}
use Rattle.ratio.specs.Refusal.{Outcome, no_refusal}
use Rattle.ratio.specs.declared.Reason.{Reason}
use Rattle.ratio.specs.declared.Reason.TheVariants.{TooLong}
use Rattle.yun.specs.Got.{got, none, then_got}
use Rattle.bisect.specs.declared.Bracket.{Bracket}
use Rattle.bisect.specs.declared.Brackets.{Brackets}
use Rattle.bisect.specs.Bracket.{Found, unused, holding, refused_for, brackets_of, items_of, found_from, found_in, Kept, pushed, push_if}

found_back : (g : Found) → found_in (brackets_of g) ≡ g
found_back (got l) = ap got (take-append_seam l (replicate (64 - length l) unused))
found_back (none why) = refl

-- what is held can be read again
pub read_of : (r : Brackets) (g : Found) → r ≡ brackets_of g → found_in r ≡ g
read_of r g e = ap found_in e ∙ found_back g

pub kept_of : (r : Brackets) (g : Found) → r ≡ brackets_of g → Kept r
kept_of r g e = e ∙ ap brackets_of (sym (read_of r g e))

-- one more
filled : (l : List Bracket) (x : Bracket) (k m : ℕ) → k ≡ suc m → set (l ++ replicate k unused) (length l) x ≡ (l ++ (x ∷ [])) ++ replicate m unused
filled l x k m e = rw (e, append_assoc) (set-append_seam l unused (replicate m unused) x)

one_more : (l : List Bracket) (x : Bracket) → length l < 64 → ◌≡◌ {A = Brackets} (record { outcome = no_refusal; items = set (holding l).items (length l) x; len = length l + 1 }) (holding (l ++ (x ∷ [])))
one_more l x h =
    let n : length (l ++ (x ∷ [])) ≡ length l + 1 = length-append l (x ∷ []) in
    rw (filled l x (64 - length l) (64 - (length l + 1)) (omega arith), n)

module _ (r : Brackets) (k : Kept r) where
  pub kept-refused : (why : Reason) (f : List Bracket → Found) → r.outcome ≡ Err why → r ≡ brackets_of (then_got (found_in r) f)
  kept-refused why f o =
      let q : found_in r ≡ none why = ap (λ (o : Outcome). found_from o (items_of r)) o in
      k ∙ ap brackets_of (q ∙ sym (ap (λ (g : Found). then_got g f) q))

  pub found-done : r.outcome ≡ no_refusal → found_in r ≡ got (items_of r)
  found-done o = ap (λ (o : Outcome). found_from o (items_of r)) o

  module _ (o : r.outcome ≡ no_refusal) where
    held : r ≡ holding (items_of r)
    held = k ∙ ap brackets_of (found-done o)

    pub kept-len : r.len ≡ length (items_of r)
    kept-len = ap (λ (x : Brackets). x.len) held

    pub push-full : (a b : Float) → 64 ≤ r.len → refused_for TooLong ≡ brackets_of (then_got (found_in r) (λ l. pushed a b l))
    unfolding pushed
    push-full a b h = rw (found-done o, le-ltb (length (items_of r)) 64 (omega (arith, kept-len)))

    pub push-done : (a b : Float) → r.len < 64 → ◌≡◌ {A = Brackets} (record { outcome = r.outcome; items = set r.items r.len (record { left = a; right = b }); len = r.len + 1 }) (brackets_of (then_got (found_in r) (λ l. pushed a b l)))
    unfolding pushed
    push-done a b h =
        let x : Bracket = record { left = a; right = b } in
        let l : length (items_of r) < 64 = omega (arith, kept-len) in
        let q : brackets_of (then_got (found_in r) (λ l. push_if (ltb (length l) 64) (l ++ (x ∷ [])))) ≡ holding (items_of r ++ (x ∷ [])) = rw (found-done o, lt-ltb (length (items_of r)) 64 l) in
        ap {B = Brackets} (λ (d : Brackets). record { outcome = d.outcome; items = set d.items d.len x; len = d.len + 1 }) held
        ∙ one_more (items_of r) x l
        ∙ sym q

-- ---- what brackets in memory say of the work behind them

module _ (r : Brackets) where
  pub brackets-got : (g : Found) → r ≡ brackets_of g → r.outcome ≡ no_refusal → g ≡ got (items_of r)
  brackets-got g e o = sym (read_of r g e) ∙ ap (λ (o : Outcome). found_from o (items_of r)) o

  pub brackets-none : (g : Found) (why : Reason) → r ≡ brackets_of g → r.outcome ≡ Err why → g ≡ none why
  brackets-none g why e o = sym (read_of r g e) ∙ ap (λ (o : Outcome). found_from o (items_of r)) o
