-- Two lists of whole numbers as fractions: the test of the pairs, and the array that is filled with them.
use mathlib.Core.Path.{◌≡◌, refl, sym, ap, ap₂, ◌∙◌}
use mathlib.Core.Bool.{Bool, true, false, not, ◌&&◌}
use mathlib.Core.List.{List, [], ◌∷◌, ◌++◌, append_assoc}
use Prim.Native.Nat.{ℕ, zero, suc, ◌+◌, ◌-◌, ◌<◌, ◌≤◌}
use native.Mathlib.Numerals.{add-one}
use native.Mathlib.Omega.{arith}
use borrow.Author.Tests.{eqb-true, eq-eqb, ne_eqb, ltb-false}
use mir.Syntax.{w64}
use mir.Val.{SFits, of_z, to_z}
use mir.Facts.{to_z-of_z}
use lib.Dec.{ltb, eqb}
use lib.IntN.{ℤ, pos}
use lib.ListN.{length, take, get_or, set, replicate}
use lib.Seq.{take-suc, take_all, set_at, length-take-le}
use Rattle.ratio.specs.Refusal.{zero_r}
use Rattle.ratio.specs.Step.{is_nil}
use Rattle.ratio.specs.declared.Ratio.{Ratio}
use Rattle.ratio.proofs.Words.{nil-test}
use Rattle.terms.specs.declared.Poly.{Poly}
use Rattle.terms.specs.Poly.{poly_of, trim, drop_top}
use Rattle.terms.proofs.Lists.{top-less, trim-short}
use Rattle.terms.proofs.MeaningTop.{trim-nothing}
use Rattle.poly.specs.declared.Gate.{Gate}
use Rattle.poly.specs.declared.Gate.TheVariants.{Open}
use Rattle.poly.specs.Door.{all_lowest, top_is_some}
use Rattle.poly.specs.Parts.{paired, parts_lowest, bad_unless, parts_door}
use Rattle.poly.proofs.Canonical.{long-if}

-- ---- the pairs

pub paired-short : (ns ds : List ℤ) → length (paired ns ds) ≤ length ns
unfolding paired
paired-short [] ds = omega arith
paired-short (n ∷ ns) [] = omega arith
paired-short (n ∷ ns) (d ∷ ds) = omega (arith, paired-short ns ds)

pub paired-length : (ns ds : List ℤ) → length ns ≡ length ds → length (paired ns ds) ≡ length ns
unfolding paired
paired-length [] ds e = refl
paired-length (n ∷ ns) [] e = absurd (omega arith)
paired-length (n ∷ ns) (d ∷ ds) e = ap suc (paired-length ns ds (omega arith))

pub paired_at : (ns ds : List ℤ) (i : ℕ) → length ns ≡ length ds → i < length ns → get_or (paired ns ds) i zero_r ≡ record { num = get_or ns i (pos 0); den = get_or ds i (pos 0) }
unfolding paired
paired_at [] ds i e h = absurd (omega arith)
paired_at (n ∷ ns) [] i e h = absurd (omega arith)
paired_at (n ∷ ns) (d ∷ ds) zero e h = refl
paired_at (n ∷ ns) (d ∷ ds) (suc i) e h = paired_at ns ds i (omega arith) (omega arith)

-- the pair of two numbers as they are read from a lent list
pub paired-read : (ns ds : List ℤ) (i : ℕ) → length ns ≡ length ds → i < length ns → SFits w64 (get_or ns i (pos 0)) → SFits w64 (get_or ds i (pos 0))
    → ◌≡◌ {A = Ratio} (record { num = to_z w64 (of_z w64 (get_or ns i (pos 0))); den = to_z w64 (of_z w64 (get_or ds i (pos 0))) }) (get_or (paired ns ds) i zero_r)
paired-read ns ds i e h f g = ap₂ {C = Ratio} (λ (n d : ℤ). record { num = n; den = d }) (to_z-of_z f) (to_z-of_z g) ∙ sym (paired_at ns ds i e h)

-- ---- the test

-- the last one is not zero
top-by : (l : List Ratio) (n : ℕ) (t : Bool) → length l ≡ suc n → is_nil (get_or l n zero_r).num ≡ t → top_is_some l ≡ not t
top-by l n false e f = eq-eqb (length (trim l)) (length l) (ap length (trim-nothing l n e f))
top-by l n true e f =
    let a : suc n - 1 ≡ n = omega arith in
    let s : trim (take (suc n) l) ≡ trim (take (suc n - 1) l) = top-less l (suc n) zero_r (omega arith) (omega arith) (rw a f) in
    let u : trim l ≡ trim (take n l) = ap trim (sym (take_all (suc n) l (omega arith))) ∙ s ∙ ap (λ (k : ℕ). trim (take k l)) a in
    ne_eqb (length (trim l)) (length l) (λ g. omega (arith, ap length u, trim-short (take n l), length-take-le n l (omega arith)))

pub parts_none : (ns ds : List ℤ) → length ns ≡ 0 → true ≡ parts_lowest ns ds
unfolding paired all_lowest drop_top
parts_none [] ds h = refl
parts_none (n ∷ ns) ds h = absurd (omega arith)

module _ (ns ds : List ℤ) where
  pub parts-bad : false ≡ all_lowest (paired ns ds) → false ≡ parts_lowest ns ds
  parts-bad e = ap (λ (t : Bool). t && top_is_some (paired ns ds)) e

  pub parts-some : length ns ≡ length ds → (length ns ≡ 0 → ⊥) → true ≡ all_lowest (paired ns ds) → SFits w64 (get_or ns (length ns - 1) (pos 0)) → not (eqb (of_z w64 (get_or ns (length ns - 1) (pos 0))) 0) ≡ parts_lowest ns ds
  parts-some e h a f =
      let s : length (paired ns ds) ≡ suc (length ns - 1) = omega (arith, paired-length ns ds e) in
      ap not (nil-test (get_or ns (length ns - 1) (pos 0)) f)
      ∙ ap (λ (r : Ratio). not (is_nil r.num)) (sym (paired_at ns ds (length ns - 1) e (omega arith)))
      ∙ sym (top-by (paired ns ds) (length ns - 1) _ s refl)
      ∙ ap (λ (t : Bool). t && top_is_some (paired ns ds)) a

-- ---- the door

pub bad-unless : (t : Bool) (d : Gate) → bad_unless t d ≡ Open → (t ≡ true) × (d ≡ Open)
bad-unless true d e = (refl, e)
bad-unless false d e = let z : ◌≡◌ {A = ℕ} 0 1 = cc in absurd (omega arith)

-- what an open door told
pub record Fitting (ns ds : List ℤ) : Type 0 where
  pub even : length ns ≡ length ds
  pub lowest : parts_lowest ns ds ≡ true
  pub few : length ns ≤ 32

pub fitting : (ns ds : List ℤ) → parts_door ns ds ≡ Open → Fitting ns ds
fitting ns ds e =
    let f = bad-unless (eqb (length ns) (length ds)) _ e in
    let g = bad-unless (parts_lowest ns ds) _ f.1 in
    record {
      even = eqb-true (length ns) (length ds) f.0;
      lowest = g.0;
      few = ltb-false 32 (length ns) (long-if (ltb 32 (length ns)) Open g.1).0;
    }

-- ---- the array

module _ (l : List Ratio) where
  -- the first i of l stand in a, and zeros behind them
  abbrev pub Filled : ℕ → List Ratio → Type 0
  Filled i a = a ≡ take i l ++ replicate (32 - i) zero_r

  pub filled_more : (i : ℕ) (a : List Ratio) → i < length l → length l ≤ 32 → Filled i a → Filled (i + 1) (set a i (get_or l i zero_r))
  filled_more i a h k f =
      let s : 32 - i ≡ suc (32 - (i + 1)) = omega arith in
      ap (λ (b : List Ratio). set b i (get_or l i zero_r)) (f ∙ ap (λ (m : ℕ). take i l ++ replicate m zero_r) s)
      ∙ set_at (take i l) zero_r (replicate (32 - (i + 1)) zero_r) (get_or l i zero_r) i (length-take-le i l (omega arith))
      ∙ sym (append_assoc (take i l) (get_or l i zero_r ∷ []) (replicate (32 - (i + 1)) zero_r))
      ∙ ap (λ (b : List Ratio). b ++ replicate (32 - (i + 1)) zero_r) (sym (ap (λ (m : ℕ). take m l) (add-one i) ∙ take-suc l i zero_r h))

  pub filled-all : (i n : ℕ) (a : List Ratio) → n ≡ length l → i ≡ n → Filled i a → ◌≡◌ {A = Poly} (record { coeffs = a; len = n }) (poly_of l)
  filled-all i n a e g f =
      let s : i ≡ length l = omega arith in
      ap₂ {C = Poly} (λ (b : List Ratio) (m : ℕ). record { coeffs = b; len = m })
      (f ∙ ap (λ (m : ℕ). take m l ++ replicate (32 - m) zero_r) s ∙ ap (λ (b : List Ratio). b ++ replicate (32 - length l) zero_r) (take_all (length l) l (omega arith)))
      e
