-- What the candidates tried come to: all that is kept is a root, in lowest terms, the list rises, nothing kept is lost, and each candidate that is a root is kept.
use Rattle.ratio.specs.declared.Reason.{Reason}
use Rattle.std.specs.Prelude.{Result, Ok, Err}
use mathlib.Core.Path.{◌≡◌, refl, sym, ap, subst, ◌∙◌}
use mathlib.Core.Bool.{Bool, true, false}
use mathlib.Core.List.{List, [], ◌∷◌}
use Prim.Native.Nat.{ℕ, ◌+◌, ◌<◌}
use lib.IntN.{ℤ, pos}
use lib.ListN.{length}
use Rattle.algebra.specs.Rational.{zero_q}
use Rattle.algebra.specs.Polynomial as P
use Rattle.algebra.specs.Textbook.{IsRoot}
use Rattle.algebra.proofs.Rational.{val_same, same-val, val-zero}
use Rattle.ratio.specs.Promise.{rat, Lowest}
use Rattle.ratio.specs.Refusal.{zero_r}
use Rattle.ratio.specs.Step.{is_nil, new_of}
use Rattle.ratio.specs.declared.Ratio.{Ratio}
use Rattle.ratio.proofs.Steps.{new-done, zero-lowest, some-value}
use Rattle.terms.specs.Machine.{Ran, fine, over, and_then, whole_r, plain}
use Rattle.terms.specs.Meaning.{rats}
use Rattle.terms.specs.Work.{valued}
use Rattle.terms.proofs.Meaning.{nil-num}
use Rattle.terms.proofs.MeaningLowest.{valued-lowest}
use Rattle.terms.proofs.MeaningStep.{fine-or-over, same_answer, both-answered}
use Rattle.terms.proofs.MeaningValue.{valued-means}
use Rattle.search.specs.Keep.{inserted}
use Rattle.search.specs.Try.{Count, noted, kept_if, try_at, unless_zero, try_one, try_row, try_all}
use Rattle.search.proofs.CodeInsert.{inserted-room}
use Rattle.search.proofs.Kept.{All, Has, here, there, Sorted, Placed, placed-is}

-- a list of roots, rising, in lowest terms
pub record Good (Root : Ratio → Type 0) (kept : List Ratio) : Type 0 where
  pub sorted : Sorted kept
  pub lowest : All Lowest kept
  pub roots : All Root kept

-- the list grew, and is as good as before
pub record Grows (Root : Ratio → Type 0) (kept more : List Ratio) : Type 1 where
  pub good : Good Root more
  pub has : (P : Ratio → Type 0) → Has P kept → Has P more

grows_none : {Root : Ratio → Type 0} {kept : List Ratio} → Good Root kept → Grows Root kept kept
grows_none g = record { good = g; has = λ P h. h }

grows-both : {Root : Ratio → Type 0} {a b c : List Ratio} → Grows Root a b → Grows Root b c → Grows Root a c
grows-both f g = record { good = g.good; has = λ P h. g.has P (f.has P h) }

-- the list that is answered
same-list : (c d : Count) (k l : List Ratio) → fine c k ≡ fine d l → k ≡ l
same-list c d k l e = same_answer c d k l e

-- a value of zero is a root's
value-root : (l : List Ratio) (x v : Ratio) (k k' : ℕ) → valued plain l x (whole_r (pos 1)) zero_r k ≡ fine k' v → is_nil v.num ≡ true → IsRoot (rats l) (rat x)
value-root l x v k k' e z =
    same-val (P.value (rats l) (rat x)) zero_q (sym (val_same (rat v) (P.value (rats l) (rat x)) (valued-means l x k k' v e)) ∙ nil-num v z ∙ sym val-zero)

-- a root's value is zero
root-value : (l : List Ratio) (x v : Ratio) (k k' : ℕ) → valued plain l x (whole_r (pos 1)) zero_r k ≡ fine k' v → IsRoot (rats l) (rat x) → is_nil v.num ≡ true
root-value l x v k k' e r = go (is_nil v.num) refl
  where
    go : (t : Bool) → is_nil v.num ≡ t → t ≡ true
    go true z = refl
    go false z = absurd (some-value v (valued-lowest l x (whole_r (pos 1)) zero_r k k' v zero-lowest e).fraction z
        (val_same (rat v) (P.value (rats l) (rat x)) (valued-means l x k k' v e) ∙ val_same (P.value (rats l) (rat x)) zero_q r ∙ val-zero))

module _ (l : List Ratio) (Root : Ratio → Type 0) (sound : (x : Ratio) → IsRoot (rats l) (rat x) → Root x) (room : (kept : List Ratio) → Good Root kept → length kept < 32) where
  inserted-placed : (x : Ratio) (kept : List Ratio) → Lowest x → Good Root kept → Placed x kept (inserted x kept)
  inserted-placed x kept f g = subst (Placed x kept) (sym (inserted-room x kept (room kept g))) (placed-is x kept f g.lowest g.sorted)

  inserted-grows : (x : Ratio) (kept : List Ratio) → Lowest x → Root x → Good Root kept → Grows Root kept (inserted x kept)
  inserted-grows x kept f r g =
      let p = inserted-placed x kept f g in
      record { good = record { sorted = p.sorted; lowest = p.all Lowest f g.lowest; roots = p.all Root r g.roots }; has = p.has }

  kept-grows : (t : Bool) (x : Ratio) (kept : List Ratio) → Lowest x → (t ≡ true → Root x) → Good Root kept → Grows Root kept (kept_if t x kept)
  kept-grows true x kept f r g = inserted-grows x kept f (r refl) g
  kept-grows false x kept f r g = grows_none g

  -- ---- one candidate

  noted-fine : (n : ℕ) (r : Ran ℕ Ratio) (c : Count) (v : Ratio) → noted n r ≡ fine c v → r ≡ fine c.steps v
  noted-fine n (fine k y) c v e =
      let f : k ≡ c.steps = let g : ◌≡◌ {A = Count} (record { tried = n + 1; steps = k }) c = cc in ap (λ (d : Count). d.steps) g in
      let h : y ≡ v = cc in
      ap (λ z. fine z y) f ∙ ap (fine c.steps) h
  noted-fine n (over k) c v e = absurd (fine-or-over _ _ v e)

  module _ (c c' : Count) (kept kept' : List Ratio) (g : Good Root kept) where
    at-grows : (p q : ℤ) (s : Result Ratio Reason) → new_of p q ≡ s → try_at l s c kept ≡ fine c' kept' → Grows Root kept kept'
    at-grows p q (Ok x) n e =
        let a = both-answered (noted c.tried (valued plain l x (whole_r (pos 1)) zero_r c.steps)) _ c' kept' e in
        let v = noted-fine c.tried (valued plain l x (whole_r (pos 1)) zero_r c.steps) a.log a.got a.first in
        subst (Grows Root kept) (same-list _ _ _ _ a.then)
        (kept-grows (is_nil a.got.num) x kept (new-done p q x n).1 (λ z. sound x (value-root l x a.got c.steps a.log.steps v z)) g)
    at-grows p q (Err why) n e = absurd (fine-or-over _ _ kept' e)

    one_grows : (p q : ℤ) → try_one l p q c kept ≡ fine c' kept' → Grows Root kept kept'
    unfolding try_one
    one_grows p q e = go (is_nil q) e
      where
        go : (t : Bool) → unless_zero t c kept (try_at l (new_of p q) c kept) ≡ fine c' kept' → Grows Root kept kept'
        go true e = subst (Grows Root kept) (same-list _ _ _ _ e) (grows_none g)
        go false e = at-grows p q (new_of p q) refl e

    at-gets : (s : Result Ratio Reason) (x : Ratio) → s ≡ Ok x → Lowest x → IsRoot (rats l) (rat x) → try_at l s c kept ≡ fine c' kept' → (P : Ratio → Type 0) → P x → Has P kept'
    at-gets s x d f r e P p =
        let e' : try_at l (Ok x) c kept ≡ fine c' kept' = ap (λ s. try_at l s c kept) (sym d) ∙ e in
        let a = both-answered (noted c.tried (valued plain l x (whole_r (pos 1)) zero_r c.steps)) _ c' kept' e' in
        let v = noted-fine c.tried (valued plain l x (whole_r (pos 1)) zero_r c.steps) a.log a.got a.first in
        let z : is_nil a.got.num ≡ true = root-value l x a.got c.steps a.log.steps v r in
        subst (Has P) (ap (λ t. kept_if t x kept) (sym z) ∙ same-list _ _ _ _ a.then) ((inserted-placed x kept f g).gets P p)

    one-gets : (p q : ℤ) (x : Ratio) → is_nil q ≡ false → new_of p q ≡ Ok x → IsRoot (rats l) (rat x) → try_one l p q c kept ≡ fine c' kept' → (P : Ratio → Type 0) → P x → Has P kept'
    unfolding try_one
    one-gets p q x z d r e = at-gets (new_of p q) x d (new-done p q x d).1 r (ap (λ t. unless_zero t c kept (try_at l (new_of p q) c kept)) (sym z) ∙ e)

  -- ---- a row, and all rows

  row-grows : (p : ℤ) (qs : List ℤ) (c c' : Count) (kept kept' : List Ratio) → Good Root kept → try_row l p qs c kept ≡ fine c' kept' → Grows Root kept kept'
  unfolding try_row
  row-grows p [] c c' kept kept' g e = subst (Grows Root kept) (same-list _ _ _ _ e) (grows_none g)
  row-grows p (q ∷ qs) c c' kept kept' g e =
      let a = both-answered (try_one l p q c kept) _ c' kept' e in
      let f = one_grows c a.log kept a.got g p q a.first in
      grows-both f (row-grows p qs a.log c' a.got kept' f.good a.then)

  pub all-grows : (ps qs : List ℤ) (c c' : Count) (kept kept' : List Ratio) → Good Root kept → try_all l ps qs c kept ≡ fine c' kept' → Grows Root kept kept'
  unfolding try_all
  all-grows [] qs c c' kept kept' g e = subst (Grows Root kept) (same-list _ _ _ _ e) (grows_none g)
  all-grows (p ∷ ps) qs c c' kept kept' g e =
      let a = both-answered (try_row l p qs c kept) _ c' kept' e in
      let f = row-grows p qs c a.log kept a.got g a.first in
      grows-both f (all-grows ps qs a.log c' a.got kept' f.good a.then)

  module _ (p q : ℤ) (x : Ratio) (z : is_nil q ≡ false) (d : new_of p q ≡ Ok x) (r : IsRoot (rats l) (rat x)) (P : Ratio → Type 0) (h : P x) where
    row-gets : (qs : List ℤ) → Has (λ y. q ≡ y) qs → (c c' : Count) (kept kept' : List Ratio) → Good Root kept → try_row l p qs c kept ≡ fine c' kept' → Has P kept'
    unfolding try_row
    row-gets [] x4 c c' kept kept' g e = elim x4 [ ]
    row-gets (y ∷ qs) (here i) c c' kept kept' g e =
        let e' : and_then (try_one l p q c kept) (λ c kept. try_row l p qs c kept) ≡ fine c' kept' = ap (λ y. and_then (try_one l p y c kept) (λ c kept. try_row l p qs c kept)) i ∙ e in
        let a = both-answered (try_one l p q c kept) _ c' kept' e' in
        let f = one_grows c a.log kept a.got g p q a.first in
        (row-grows p qs a.log c' a.got kept' f.good a.then).has P (one-gets c a.log kept a.got g p q x z d r a.first P h)
    row-gets (y ∷ qs) (there i) c c' kept kept' g e =
        let a = both-answered (try_one l p y c kept) _ c' kept' e in
        let f = one_grows c a.log kept a.got g p y a.first in
        row-gets qs i a.log c' a.got kept' f.good a.then

    pub all-gets : (ps qs : List ℤ) → Has (λ y. p ≡ y) ps → Has (λ y. q ≡ y) qs → (c c' : Count) (kept kept' : List Ratio) → Good Root kept → try_all l ps qs c kept ≡ fine c' kept' → Has P kept'
    unfolding try_all
    all-gets [] qs x5 j c c' kept kept' g e = elim x5 [ ]
    all-gets (y ∷ ps) qs (here i) j c c' kept kept' g e =
        let e' : and_then (try_row l p qs c kept) (λ c kept. try_all l ps qs c kept) ≡ fine c' kept' = ap (λ y. and_then (try_row l y qs c kept) (λ c kept. try_all l ps qs c kept)) i ∙ e in
        let a = both-answered (try_row l p qs c kept) _ c' kept' e' in
        let f = row-grows p qs c a.log kept a.got g a.first in
        (all-grows ps qs a.log c' a.got kept' f.good a.then).has P (row-gets qs j c a.log kept a.got g a.first)
    all-gets (y ∷ ps) qs (there i) j c c' kept kept' g e =
        let a = both-answered (try_row l y qs c kept) _ c' kept' e in
        let f = row-grows y qs c a.log kept a.got g a.first in
        all-gets ps qs i j a.log c' a.got kept' f.good a.then
