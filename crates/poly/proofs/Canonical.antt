-- The door: what it lets in is canonical, and the polynomial of a canonical list is let in.
use mathlib.Core.Path.{◌≡◌, refl, sym, ap, ap₂, ◌∙◌}
use mathlib.Core.Bool.{Bool, true, false, not, ◌&&◌}
use mathlib.Core.List.{List, [], ◌∷◌, ◌++◌}
use Prim.Native.Nat.{ℕ, zero, suc, ◌+◌, ◌-◌, ◌^◌, ◌<◌, ◌≤◌}
use native.Mathlib.Numerals.{add-one}
use native.Mathlib.Omega.{arith}
use borrow.Author.Tests.{ltb-false, le-ltb, eqb-true, eq-eqb, ne_eqb, not-true}
use lib.Dec.{ltb, eqb}
use lib.IntN.{ℤ, pos, negsuc, nat_abs}
use lib.Signed.{lt_z}
use mir.Syntax.{w64}
use mir.Val.{SFits, of_z}
use lib.ListN.{length, take, drop, get_or, replicate, length-take, length-drop, drop_of_length-le, take-append-drop}
use lib.Seq.{drop-cons, take-length, take-append_seam, drop-append_seam}
use Rattle.algebra.specs.Polynomial.{Equal}
use Rattle.algebra.proofs.Lists.{equal-poly}
use Rattle.ratio.specs.Refusal.{zero_r}
use Rattle.ratio.specs.Step.{is_lowest, is_nil}
use Rattle.ratio.specs.declared.Ratio.{Ratio}
use Rattle.ratio.proofs.Answers.{lowest-tells}
use Rattle.ratio.proofs.Fractions.{and-true, no_size}
use Rattle.ratio.proofs.Words.{pos-neg, nil-bits, some_bits}
use Rattle.terms.specs.declared.Poly.{Poly}
use Rattle.terms.specs.Meaning.{rats}
use Rattle.terms.specs.Poly.{terms_of, poly_of, trim}
use Rattle.terms.proofs.Lists.{trim-take}
use Rattle.terms.proofs.MeaningLowest.{AllLowest, none-lowest, cons-lowest}
use Rattle.terms.proofs.MeaningCanonical.{Canonical, empty-canonical, canonical-unique}
use Rattle.poly.specs.declared.Gate.{Gate}
use Rattle.poly.specs.declared.Gate.TheVariants.{Open, Long, Bad}
use Rattle.poly.specs.Door.{all_lowest, is_unused, all_unused, top_is_some, is_canonical, open_if, long_if, door_of, both}

-- ---- a test of one after the other: a turn, a failure, the end

module _ (l : List Ratio) (i : ℕ) (d : Ratio) where
  pub lowest-more : i < length l → is_lowest (get_or l i d) ≡ true → all_lowest (drop (i + 1) l) ≡ all_lowest (drop i l)
  unfolding all_lowest
  lowest-more h e = rw (add-one i, drop-cons l i d h, e)

  pub lowest-fails : i < length l → is_lowest (get_or l i d) ≡ false → false ≡ all_lowest (drop i l)
  unfolding all_lowest
  lowest-fails h e = rw (drop-cons l i d h, e)

  pub unused-more : i < length l → is_unused (get_or l i d) ≡ true → all_unused (drop (i + 1) l) ≡ all_unused (drop i l)
  unfolding all_unused
  unused-more h e = rw (add-one i, drop-cons l i d h, e)

  pub unused-fails : i < length l → is_unused (get_or l i d) ≡ false → false ≡ all_unused (drop i l)
  unfolding all_unused
  unused-fails h e = rw (drop-cons l i d h, e)

module _ (l : List Ratio) (i : ℕ) (h : length l ≤ i) where
  pub lowest-end : true ≡ all_lowest (drop i l)
  unfolding all_lowest
  lowest-end = let e : drop i l ≡ [] = drop_of_length-le l h in rw e

  pub unused-end : true ≡ all_unused (drop i l)
  unfolding all_unused
  unused-end = let e : drop i l ≡ [] = drop_of_length-le l h in rw e

-- ---- what the tests tell

pub lowest-from : (l : List Ratio) → all_lowest l ≡ true → AllLowest l
unfolding all_lowest
lowest-from [] e = none-lowest
lowest-from (a ∷ l) e =
    let p = and-true (is_lowest a) (all_lowest l) e in
    cons-lowest a l ((lowest-tells a).holds p.0) (lowest-from l p.1)

pub lowest-to : (l : List Ratio) → AllLowest l → all_lowest l ≡ true
unfolding all_lowest
lowest-to [] h = refl
lowest-to (a ∷ l) h = rw ((lowest-tells a).tells (h 0)) (lowest-to l (λ i. h (suc i)))

pub top_from : (l : List Ratio) → top_is_some l ≡ true → trim l ≡ l
top_from l e = trim-take l ∙ ap (λ (n : ℕ). take n l) (eqb-true (length (trim l)) (length l) e) ∙ take-length l

pub top_to : (l : List Ratio) → trim l ≡ l → top_is_some l ≡ true
top_to l e = eq-eqb (length (trim l)) (length l) (ap length e)

-- 0/1 is what is unused
one-den : (z : ℤ) → lt_z z (pos 0) ≡ false → nat_abs z ≡ 1 → z ≡ pos 1
one-den (pos n) e f = ap pos f
one-den (negsuc n) e f = let z : ◌≡◌ {A = ℕ} 0 1 = cc in absurd (omega arith)

pub unused-is : (r : Ratio) → is_unused r ≡ true → r ≡ zero_r
unused-is r e =
    let p = and-true (is_nil r.num) _ e in
    let q = and-true (not (lt_z r.den (pos 0))) _ p.1 in
    let n : r.num ≡ pos 0 = no_size r.num (eqb-true (nat_abs r.num) 0 p.0) in
    let d : r.den ≡ pos 1 = one-den r.den (not-true _ q.0) (eqb-true (nat_abs r.den) 1 q.1) in
    ap₂ {C = Ratio} (λ (n d : ℤ). record { num = n; den = d }) n d

pub unused-all : (l : List Ratio) → all_unused l ≡ true → l ≡ replicate (length l) zero_r
unfolding all_unused
unused-all [] e = refl
unused-all (a ∷ l) e =
    let p = and-true (is_unused a) (all_unused l) e in
    ap₂ ◌∷◌ (unused-is a p.0) (unused-all l p.1)

pub unused-zeros : (n : ℕ) → all_unused (replicate n zero_r) ≡ true
unfolding all_unused
unused-zeros zero = refl
unused-zeros (suc n) = unused-zeros n

-- the same of a word's bits
one-bits : (x : ℤ) → SFits w64 x → eqb (of_z w64 x) 1 ≡ (not (lt_z x (pos 0)) && eqb (nat_abs x) 1)
one-bits (pos n) f = rw (pos-neg n)
one-bits (negsuc n) f = let h : n < 2 ^ 63 = f.sfits in ne_eqb (2 ^ 64 - suc n) 1 (λ e. omega arith)

pub unused-bits : (r : Ratio) → SFits w64 r.num → SFits w64 r.den → of_z w64 r.num ≡ 0 → eqb (of_z w64 r.den) 1 ≡ is_unused r
unused-bits r f g e = one-bits r.den g ∙ sym (ap (λ (t : Bool). t && (not (lt_z r.den (pos 0)) && eqb (nat_abs r.den) 1)) (nil-bits r.num f e))

pub used-bits : (r : Ratio) → SFits w64 r.num → (of_z w64 r.num ≡ 0 → ⊥) → false ≡ is_unused r
used-bits r f e = sym (ap (λ (t : Bool). t && (not (lt_z r.den (pos 0)) && eqb (nat_abs r.den) 1)) (some_bits r.num f e))

-- ---- the door's answers

pub open-if : (t : Bool) → open_if t ≡ Open → t ≡ true
open-if true e = refl
open-if false e = let z : ◌≡◌ {A = ℕ} 0 1 = cc in absurd (omega arith)

pub long-if : (t : Bool) (d : Gate) → long_if t d ≡ Open → (t ≡ false) × (d ≡ Open)
long-if true d e = let z : ◌≡◌ {A = ℕ} 0 1 = cc in absurd (omega arith)
long-if false d e = (refl, e)

pub both-open : (d e : Gate) → both d e ≡ Open → (d ≡ Open) × (e ≡ Open)
both-open Open e p = (refl, p)
both-open Long Open p = let z : ◌≡◌ {A = ℕ} 0 1 = cc in absurd (omega arith)
both-open Long Long p = let z : ◌≡◌ {A = ℕ} 0 1 = cc in absurd (omega arith)
both-open Long Bad p = let z : ◌≡◌ {A = ℕ} 0 1 = cc in absurd (omega arith)
both-open Bad e p = let z : ◌≡◌ {A = ℕ} 0 1 = cc in absurd (omega arith)

-- ---- what is let in

pub record Opened (p : Poly) : Type 0 where
  pub canonical : Canonical (terms_of p)
  pub short : p.len ≤ 32
  pub few : length (terms_of p) ≤ 32
  pub unused : drop p.len p.coeffs ≡ replicate (length (drop p.len p.coeffs)) zero_r

pub opened-lowest : (p : Poly) → door_of p ≡ Open → all_lowest (terms_of p) ≡ true
opened-lowest p e = (and-true (all_lowest (terms_of p)) _ (open-if (is_canonical p) (long-if (ltb 32 p.len) (open_if (is_canonical p)) e).1)).0

pub opened : (p : Poly) → door_of p ≡ Open → Opened p
opened p e =
    let f = long-if (ltb 32 p.len) (open_if (is_canonical p)) e in
    let g = and-true (all_lowest (terms_of p)) _ (open-if (is_canonical p) f.1) in
    let h = and-true (top_is_some (terms_of p)) _ g.1 in
    let s : p.len ≤ 32 = ltb-false 32 p.len f.0 in
    record {
      canonical = record { lowest = lowest-from (terms_of p) g.0; trimmed = top_from (terms_of p) h.0 };
      short = s;
      few = rw length-take (omega arith);
      unused = unused-all _ h.1;
    }

-- the polynomial is the one of its coefficients in use
pub opened-is : (p : Poly) → length p.coeffs ≡ 32 → Opened p → p ≡ poly_of (terms_of p)
opened-is p n o =
    let s : p.len ≤ 32 = o.short in
    let m : length (terms_of p) ≡ p.len = rw length-take (omega arith) in
    let k : length (drop p.len p.coeffs) ≡ 32 - length (terms_of p) = rw (length-drop, m, n) in
    ap₂ {C = Poly} (λ (l : List Ratio) (n : ℕ). record { coeffs = l; len = n })
    (sym (take-append-drop p.len p.coeffs) ∙ ap (λ (l : List Ratio). terms_of p ++ l) (o.unused ∙ ap (λ (i : ℕ). replicate i zero_r) k))
    (sym m)

-- and the polynomial of a canonical list is let in
pub open-poly : (l : List Ratio) → length l ≤ 32 → Canonical l → door_of (poly_of l) ≡ Open
open-poly l h c =
    rw (le-ltb 32 (length l) h, take-append_seam l (replicate (32 - length l) zero_r), drop-append_seam l (replicate (32 - length l) zero_r), lowest-to l c.lowest, top_to l c.trimmed, unused-zeros (32 - length l))

pub open-nil : door_of (poly_of []) ≡ Open
open-nil = open-poly [] (omega arith) empty-canonical

pub open-from : (p : Poly) → p ≡ poly_of (terms_of p) → length (terms_of p) ≤ 32 → Canonical (terms_of p) → door_of p ≡ Open
open-from p e h c = ap door_of e ∙ open-poly (terms_of p) h c

-- what is let in is told apart by the polynomial that it is
pub open-unique : (p q : Poly) → length p.coeffs ≡ 32 → length q.coeffs ≡ 32 → Opened p → Opened q → Equal (rats (terms_of p)) (rats (terms_of q)) → p ≡ q
open-unique p q m n o u e =
    opened-is p m o
    ∙ ap poly_of (canonical-unique (terms_of p) (terms_of q) o.canonical u.canonical (equal-poly (rats (terms_of p)) (rats (terms_of q)) e))
    ∙ sym (opened-is q n u)
