-- Laws of lists: an array's places, the coefficients in use, and the zeros at the top dropped.
use mathlib.Core.Path.{◌≡◌, refl, sym, ap, ◌∙◌}
use mathlib.Core.Bool.{Bool, true, false}
use mathlib.Core.List.{List, [], ◌∷◌, ◌++◌, map, append_assoc, append-nil}
use Prim.Native.Nat.{ℕ, zero, suc, ◌+◌, ◌-◌, ◌<◌, ◌≤◌, min}
use native.Mathlib.Numerals.{add-one}
use native.Mathlib.Omega.{arith}
use borrow.Author.Tests.{ltb-true, ltb-false}
use lib.Dec.{ltb}
use lib.IntN.{pos}
use lib.ListN.{length, take, get_or, set, replicate, length-take, length-map, replicate-append-replicate, get_or-eq_default}
use lib.Seq.{take-append_seam, take-nil, take-suc, take-suc-set, take_all, take-take, get_or-take, length-take-le}
use Rattle.ratio.specs.Refusal.{zero_r}
use Rattle.ratio.specs.Step.{is_nil}
use Rattle.ratio.specs.declared.Ratio.{Ratio}
use Rattle.terms.specs.declared.Poly.{Poly}
use Rattle.terms.specs.Poly.{drop_top, terms_of, poly_of, on_top, trim}

-- ---- an array's places

-- the length of a list of structs, from that of the list of their fields
pub long : {X Y : Type 0} (f : X → Y) (l : List X) (n : ℕ) → length (map f l) ≡ n → length l ≡ n
long f l n p = sym (length-map l f) ∙ p

-- what an array of fractions has past its end
abbrev pub past : Ratio
past = record { num = pos 0; den = pos 0 }

-- within a list it doesn't matter what stands past the end
pub get_d_any : {X : Type 0} (l : List X) (i : ℕ) (d e : X) → i < length l → get_or l i d ≡ get_or l i e
get_d_any [] i d e h = absurd (omega arith)
get_d_any (x ∷ l) zero d e h = refl
get_d_any (x ∷ l) (suc i) d e h = get_d_any l i d e (omega arith)

pub within-32 : {X : Type 0} (n : ℕ) (l : List X) → length l ≡ 32 → length (take n l) ≤ 32
within-32 n l e = rw length-take (omega arith)

-- a read of a coefficient in use is one of the array
pub read-terms : {X : Type 0} (n : ℕ) (l : List X) (i : ℕ) (d e : X) → i < length (take n l) → get_or l i d ≡ get_or (take n l) i e
read-terms n l i d e h =
    let k : i < min n (length l) = rw length-take at h in
    get_d_any l i d e (omega arith) ∙ sym (get_or-take n l i e (omega arith))

-- a coefficient that is read where it is in use, and zero past the end
module _ {X : Type 0} (n : ℕ) (l : List X) (i a : ℕ) (d e r : X) (h : a ≡ length (take n l)) (p : i < a → r ≡ get_or l i d) (q : a ≤ i → r ≡ e) where
  used-by : (t : Bool) → ltb i a ≡ t → r ≡ get_or (take n l) i e
  used-by true f =
      let k : i < a = ltb-true i a f in
      p k ∙ read-terms n l i d e (omega arith)
  used-by false f =
      let k : a ≤ i = ltb-false i a f in
      let m : length (take n l) ≤ i = omega arith in
      q k ∙ sym (get_or-eq_default (take n l) e m)
  -- the coefficients in use are as many as their number says

pub take-terms : {X : Type 0} (n : ℕ) (l : List X) (k : ℕ) → k ≡ length (take n l) → take k l ≡ take n l
take-terms n [] k e = take-nil k ∙ sym (take-nil n)
take-terms zero (x ∷ l) k e = rw e
take-terms (suc n) (x ∷ l) k e = rw e (ap (λ (s : List _). x ∷ s) (take-terms n l (length (take n l)) refl))

pub fill_none : {X : Type 0} (k : ℕ) (l : List X) (z : X) → take k l ≡ take k l ++ replicate (k - k) z
fill_none k l z = let e : k - k ≡ 0 = omega arith in rw (e, append-nil)

-- one turn of a loop that fills up with zeros
pub fill_more : {X : Type 0} (l : List X) (k i : ℕ) (a : List X) (z : X) → k ≤ i → i < length a → take i a ≡ l ++ replicate (i - k) z → take (i + 1) (set a i z) ≡ l ++ replicate (i + 1 - k) z
fill_more l k i a z h j e =
    let s : i + 1 - k ≡ i - k + 1 = omega arith in
    rw (s, ← replicate-append-replicate (i - k) 1 z, ← append_assoc, ← e, add-one i) (take-suc-set a i z j)

-- ---- the zeros at the top

trim-nil : (l : List Ratio) (a : Ratio) → is_nil a.num ≡ true → trim (l ++ (a ∷ [])) ≡ trim l
unfolding drop_top
trim-nil [] a e = rw e
trim-nil (b ∷ l) a e = ap (on_top (is_nil b.num) b) (trim-nil l a e)

on_some : (t : Bool) (b : Ratio) (l : List Ratio) (a : Ratio) → on_top t b (l ++ (a ∷ [])) ≡ b ∷ l ++ (a ∷ [])
on_some t b [] a = refl
on_some t b (x ∷ l) a = refl

trim-some : (l : List Ratio) (a : Ratio) → is_nil a.num ≡ false → trim (l ++ (a ∷ [])) ≡ l ++ (a ∷ [])
unfolding drop_top
trim-some [] a e = rw e
trim-some (b ∷ l) a e = ap (on_top (is_nil b.num) b) (trim-some l a e) ∙ on_some (is_nil b.num) b l a

on-take : (t : Bool) (a : Ratio) (l m : List Ratio) → m ≡ take (length m) l → on_top t a m ≡ take (length (on_top t a m)) (a ∷ l)
on-take true a l [] e = refl
on-take false a l [] e = refl
on-take t a l (b ∷ m) e = ap (λ (s : List Ratio). a ∷ s) e

-- what is left is a first part
pub trim-take : (l : List Ratio) → trim l ≡ take (length (trim l)) l
unfolding drop_top
trim-take [] = refl
trim-take (a ∷ l) = on-take (is_nil a.num) a l (trim l) (trim-take l)

pub trim-short : (l : List Ratio) → length (trim l) ≤ length l
trim-short l =
    let e : length (trim l) ≡ min (length (trim l)) (length l) = ap length (trim-take l) ∙ length-take (length (trim l)) l in
    omega arith

on-trim : (t : Bool) (a : Ratio) (m : List Ratio) → is_nil a.num ≡ t → trim m ≡ m → trim (on_top t a m) ≡ on_top t a m
unfolding drop_top
on-trim true a [] e h = refl
on-trim false a [] e h = rw e
on-trim t a (b ∷ m) e h = ap (on_top (is_nil a.num) a) h

-- nothing more is dropped the second time
pub trim-trim : (l : List Ratio) → trim (trim l) ≡ trim l
unfolding drop_top
trim-trim [] = refl
trim-trim (a ∷ l) = on-trim (is_nil a.num) a (trim l) refl (trim-trim l)

-- the coefficients in use of the polynomial of l are l
pub terms-of-poly : (l : List Ratio) → terms_of (poly_of l) ≡ l
terms-of-poly l = take-append_seam l (replicate (32 - length l) zero_r)

-- one turn of a search from the top down
pub top-less : (l : List Ratio) (n : ℕ) (d : Ratio) → 0 < n → n ≤ length l → is_nil (get_or l (n - 1) d).num ≡ true → trim (take n l) ≡ trim (take (n - 1) l)
top-less l n d h k e =
    let s : n ≡ suc (n - 1) = omega arith in
    ap (λ (m : ℕ). trim (take m l)) s ∙ ap trim (take-suc l (n - 1) d (omega arith)) ∙ trim-nil (take (n - 1) l) (get_or l (n - 1) d) e

pub top-here : (l : List Ratio) (n : ℕ) (d : Ratio) → 0 < n → n ≤ length l → is_nil (get_or l (n - 1) d).num ≡ false → length (trim (take n l)) ≡ n
top-here l n d h k e =
    let s : n ≡ suc (n - 1) = omega arith in
    let t : take n l ≡ take (n - 1) l ++ (get_or l (n - 1) d ∷ []) = ap (λ (m : ℕ). take m l) s ∙ take-suc l (n - 1) d (omega arith) in
    ap length (ap trim t ∙ trim-some (take (n - 1) l) (get_or l (n - 1) d) e ∙ sym t) ∙ length-take-le n l k

pub top-none : (l : List Ratio) (n : ℕ) → n ≤ 0 → n ≡ length (trim (take n l))
unfolding drop_top
top-none l n h = let e : n ≡ 0 = omega arith in rw e

-- an array filled up with zeros behind what is left is the polynomial
pub normalised : (len : ℕ) (l : List Ratio) (n : ℕ) (a : List Ratio) → length a ≡ 32 → n ≡ length (trim (take len l)) → take 32 a ≡ take n l ++ replicate (32 - n) zero_r → ◌≡◌ {A = Poly} (record { coeffs = a; len = n }) (poly_of (trim (take len l)))
normalised len l n a h e p =
    let k : length (take len l) ≡ min len (length l) = length-take len l in
    let s : take n l ≡ trim (take len l) = sym (take-take n len l (omega (arith, trim-short (take len l)))) ∙ ap (λ (m : ℕ). take m (take len l)) e ∙ sym (trim-take (take len l)) in
    let q : a ≡ trim (take len l) ++ replicate (32 - n) zero_r = sym (take_all 32 a (omega arith)) ∙ p ∙ ap (λ (t : List Ratio). t ++ replicate (32 - n) zero_r) s in
    rw (q, e)
