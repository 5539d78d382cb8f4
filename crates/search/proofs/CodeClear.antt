-- Laws of clearing denominators: a denominator above zero, and the loops over the coefficients, their turns, ends and refusals.
use Rattle.std.specs.Prelude.{Result, Ok, Err}
use mathlib.Core.Path.{◌≡◌, refl, sym, ap, ◌∙◌}
use mathlib.Core.Bool.{Bool, true, false}
use mathlib.Core.List.{List, [], ◌∷◌}
use Prim.Native.Nat.{ℕ, ◌+◌, ◌<◌, ◌≤◌, ◌^◌, zero-le}
use native.Mathlib.Numerals.{add-one}
use native.Mathlib.Omega.{arith}
use borrow.Author.Tests.{leb-true, leb-false, lt-ltb, le-ltb}
use lib.Dec.{T}
use lib.IntN.{ℤ, pos, negsuc, nat_abs}
use lib.ListN.{length, take, drop, get_or, set, drop_of_length-le}
use lib.Seq.{drop-cons}
use lib.Signed.{lt_z, le_z, non_neg}
use mir.Facts.{to_z-of_z}
use mir.Syntax.{w64}
use mir.Val.{SFits, Fits, to_z, of_z}
use Rattle.ratio.specs.Range.{Within, need}
use Rattle.ratio.specs.Refusal.{zero_r}
use Rattle.ratio.specs.declared.Ratio.{Ratio}
use Rattle.ratio.specs.declared.Reason.{Reason}
use Rattle.ratio.specs.declared.Reason.TheVariants.{CoeffOverflow}
use Rattle.ratio.proofs.Steps.{mul-done}
use Rattle.ratio.proofs.Words.{cast-pos}
use Rattle.terms.specs.Machine.{whole_r, fine, over}
use Rattle.terms.specs.Answer.{uncounted}
use Rattle.terms.proofs.Each.{Made, made_none, made_more, made-over, made_all}
use Rattle.search.specs.Clear.{above, widened, go_on, multiple_from, cleared_one, cleared_by}

-- ---- a denominator

at_most : (d : ℤ) → le_z d (pos 0) ≡ true → lt_z (pos 0) d ≡ false
at_most (pos n) e = le-ltb 0 n (leb-true n 0 e)
at_most (negsuc n) e = refl

some-above : (d : ℤ) → le_z d (pos 0) ≡ false → lt_z (pos 0) d ≡ true
some-above (pos n) e = lt-ltb 0 n (leb-false n 0 e)
some-above (negsuc n) e = let z : ◌≡◌ {A = ℕ} 0 1 = cc in absurd (omega arith)

some_size : (d : ℤ) → le_z d (pos 0) ≡ false → 0 < nat_abs d
some_size (pos n) e = leb-false n 0 e
some_size (negsuc n) e = let z : ◌≡◌ {A = ℕ} 0 1 = cc in absurd (omega arith)

not-below : (d : ℤ) → le_z d (pos 0) ≡ false → lt_z d (pos 0) ≡ false
not-below (pos n) e = le-ltb n 0 zero-le
not-below (negsuc n) e = let z : ◌≡◌ {A = ℕ} 0 1 = cc in absurd (omega arith)

some-within : (d : ℤ) → SFits w64 d → le_z d (pos 0) ≡ false → Within d
some-within (pos n) f e = let h : n < 2 ^ 63 = f.sfits in omega arith
some-within (negsuc n) f e = let z : ◌≡◌ {A = ℕ} 0 1 = cc in absurd (omega arith)

module _ (d : ℤ) (f : SFits w64 d) where
  pub read-within : le_z (to_z w64 (of_z w64 d)) (pos 0) ≡ false → Within d
  read-within e = some-within d f (ap (λ z. le_z z (pos 0)) (sym (to_z-of_z {z = d} f)) ∙ e)

  pub above-no : (s : Result Ratio Reason) → le_z (to_z w64 (of_z w64 d)) (pos 0) ≡ true → Err CoeffOverflow ≡ above d s
  above-no s e = ap (λ t. need t CoeffOverflow s) (sym (at_most d (ap (λ z. le_z z (pos 0)) (sym (to_z-of_z {z = d} f)) ∙ e)))

  pub read_some : le_z (to_z w64 (of_z w64 d)) (pos 0) ≡ false → 0 < nat_abs d
  read_some e = some_size d (ap (λ z. le_z z (pos 0)) (sym (to_z-of_z {z = d} f)) ∙ e)

  pub above-yes : (s : Result Ratio Reason) → le_z (to_z w64 (of_z w64 d)) (pos 0) ≡ false → s ≡ above d s
  above-yes s e = ap (λ t. need t CoeffOverflow s) (sym (some-above d (ap (λ z. le_z z (pos 0)) (sym (to_z-of_z {z = d} f)) ∙ e)))

  pub above-cast : le_z (to_z w64 (of_z w64 d)) (pos 0) ≡ false → T (non_neg (to_z w64 (of_z w64 d))) × Fits w64 (nat_abs (to_z w64 (of_z w64 d)))
  above-cast e = cast-pos d f (not-below (to_z w64 (of_z w64 d)) e)

-- ---- the common multiple

need-done : (t : Bool) (s : Result Ratio Reason) (r : Ratio) → need t CoeffOverflow s ≡ Ok r → s ≡ Ok r
need-done true s r e = e
need-done false s r e = let z : ◌≡◌ {A = ℕ} 0 1 = cc in absurd (omega arith)

pub widened-within : (m : Ratio) (d : ℤ) (r : Ratio) → widened m d ≡ Ok r → Within r.num
unfolding widened
widened-within m d r e = (mul-done m _ r (need-done (lt_z (pos 0) d) _ r e)).1.fraction.num-within

module _ (l : List Ratio) where
  -- what is left of the denominators gives the whole multiple
  pub record Widened (i : ℕ) (m : Ratio) : Type 0 where
    pub whole : multiple_from (drop i l) m ≡ multiple_from l (whole_r (pos 1))

  pub widened_none : Widened 0 (whole_r (pos 1))
  widened_none = record { whole = refl }

  module _ (i : ℕ) (m : Ratio) (h : i < length l) (w : Widened i m) where
    pub widened_more : (r : Ratio) → widened m (get_or l i zero_r).den ≡ Ok r → Widened (i + 1) r
    unfolding multiple_from
    widened_more r e = record { whole = rw (add-one i) (rw (drop-cons l i zero_r h, e) at w.whole) }

    pub widened-over : (why : Reason) → widened m (get_or l i zero_r).den ≡ Err why → Err CoeffOverflow ≡ multiple_from l (whole_r (pos 1))
    unfolding multiple_from
    widened-over why e = rw (drop-cons l i zero_r h, e) at w.whole

  pub widened-all : (i : ℕ) (m : Ratio) → length l ≤ i → Widened i m → Ok m ≡ multiple_from l (whole_r (pos 1))
  unfolding multiple_from
  widened-all i m h w =
      let e : drop i l ≡ [] = drop_of_length-le l h in
      rw e at w.whole

-- the multiple lies within the range
pub multiple-within : (l : List Ratio) (m r : Ratio) → Within m.num → multiple_from l m ≡ Ok r → Within r.num
unfolding multiple_from
multiple-within [] m r h e = let f : m ≡ r = cc in rw (sym f) h
multiple-within (a ∷ l) m r h e = go (widened m a.den) refl e (multiple-within l)
  where
    go : (s : Result Ratio Reason) → widened m a.den ≡ s → go_on s (λ m. multiple_from l m) ≡ Ok r → ((m r : Ratio) → Within m.num → multiple_from l m ≡ Ok r → Within r.num) → Within r.num
    go (Ok n) p q again = again n r (widened-within m a.den n p) q
    go (Err why) p q again = let z : ◌≡◌ {A = ℕ} 0 1 = cc in absurd (omega arith)

-- ---- the coefficients

module _ (m : Ratio) (l : List Ratio) where
  -- the first i coefficients are cleared
  abbrev pub Clearing : ℕ → List Ratio → Type 0
  Clearing i out = Made (λ i n. uncounted n (cleared_one m (get_or l i zero_r))) (length l) 0 i 0 out

  pub clearing-none : (out : List Ratio) → Clearing 0 out
  clearing-none out = made_none _ (length l) 0 out

  pub clearing-more : (i : ℕ) (out : List Ratio) (y : Ratio) → i < length l → i < length out → cleared_one m (get_or l i zero_r) ≡ Ok y → Clearing i out → Clearing (i + 1) (set out i y)
  clearing-more i out y h k e w = made_more _ (length l) 0 i 0 0 out y h k (rw e) w

  pub clearing-over : (i : ℕ) (out : List Ratio) (why : Reason) → i < length l → cleared_one m (get_or l i zero_r) ≡ Err why → Clearing i out → over 0 ≡ cleared_by m l
  unfolding cleared_by
  clearing-over i out why h e w = made-over _ (length l) 0 i 0 0 out h (rw e) w

  pub clearing-all : (i : ℕ) (out : List Ratio) → length l ≤ i → Clearing i out → fine 0 (take i out) ≡ cleared_by m l
  unfolding cleared_by
  clearing-all i out h w = made_all _ (length l) 0 i 0 out h w
