-- Laws of numerators and denominators that are kept apart: one place read or written, the zeros at the top, and the polynomial they are joined to.
use mathlib.Core.Path.{◌≡◌, refl, sym, ap, ap₂, subst, ◌∙◌}
use mathlib.Core.List.{List, [], ◌∷◌, ◌++◌, append_assoc}
use mathlib.Core.Bool.{true, false}
use Prim.Native.Nat.{ℕ, zero, suc, ◌+◌, ◌-◌, ◌<◌, ◌≤◌}
use native.Mathlib.Numerals.{add-one}
use native.Mathlib.Omega.{arith}
use mir.Syntax.{w64}
use mir.Val.{SFits, of_z, to_z}
use mir.Facts.{to_z-of_z}
use lib.IntN.{ℤ, pos}
use lib.ListN.{length, take, get_or, set, replicate, length-take}
use lib.Seq.{take-suc, take_all, set_at, length-take-le}
use Rattle.ratio.specs.Refusal.{zero_r}
use Rattle.ratio.specs.Step.{is_nil}
use Rattle.ratio.specs.declared.Ratio.{Ratio}
use Rattle.terms.specs.declared.Poly.{Poly}
use Rattle.terms.specs.Poly.{poly_of, trim}
use Rattle.terms.specs.Pairs.{pairs}
use Rattle.terms.proofs.Lists.{read-terms, trim-take, trim-short, top-less, top-here, top-none}

-- ---- the pairs

pub pairs-length : (ns ds : List ℤ) → length ds ≡ length ns → length (pairs ns ds) ≡ length ns
unfolding pairs
pairs-length [] ds e = refl
pairs-length (n ∷ ns) [] e = absurd (omega arith)
pairs-length (n ∷ ns) (d ∷ ds) e = ap suc (pairs-length ns ds (omega arith))

pub pairs-at : (ns ds : List ℤ) (i : ℕ) → length ds ≡ length ns → i < length ns → get_or (pairs ns ds) i zero_r ≡ record { num = get_or ns i (pos 0); den = get_or ds i (pos 0) }
unfolding pairs
pairs-at [] ds i e h = absurd (omega arith)
pairs-at (n ∷ ns) [] i e h = absurd (omega arith)
pairs-at (n ∷ ns) (d ∷ ds) zero e h = refl
pairs-at (n ∷ ns) (d ∷ ds) (suc i) e h = pairs-at ns ds i (omega arith) (omega arith)

-- a fraction whose numbers go through words
abbrev pub words : Ratio → Ratio
words r = record { num = to_z w64 (of_z w64 r.num); den = to_z w64 (of_z w64 r.den) }

pub through-words : (r : Ratio) → SFits w64 r.num → SFits w64 r.den → words r ≡ r
through-words r f g = ap₂ {C = Ratio} (λ (n d : ℤ). record { num = n; den = d }) (to_z-of_z f) (to_z-of_z g)

-- the pair of two numbers as they are read
pub pairs-read : (ns ds : List ℤ) (i : ℕ) → length ds ≡ length ns → i < length ns → SFits w64 (get_or ns i (pos 0)) → SFits w64 (get_or ds i (pos 0)) → words (record { num = get_or ns i (pos 0); den = get_or ds i (pos 0) }) ≡ get_or (pairs ns ds) i zero_r
pairs-read ns ds i e h f g = through-words (record { num = get_or ns i (pos 0); den = get_or ds i (pos 0) }) f g ∙ sym (pairs-at ns ds i e h)

pub pairs_set : (ns ds : List ℤ) (i : ℕ) (n d : ℤ) → length ds ≡ length ns → pairs (set ns i n) (set ds i d) ≡ set (pairs ns ds) i (record { num = n; den = d })
unfolding pairs
pairs_set [] [] i n d e = refl
pairs_set [] (y ∷ ds) i n d e = absurd (omega arith)
pairs_set (x ∷ ns) [] i n d e = absurd (omega arith)
pairs_set (x ∷ ns) (y ∷ ds) zero n d e = refl
pairs_set (x ∷ ns) (y ∷ ds) (suc i) n d e = ap (λ (l : List Ratio). record { num = x; den = y } ∷ l) (pairs_set ns ds i n d (omega arith))

module _ (ns ds : List ℤ) (e : length ns ≡ 32) (f : length ds ≡ 32) where
  pub pairs-32 : length (pairs ns ds) ≡ 32
  pairs-32 = pairs-length ns ds (f ∙ sym e) ∙ e

  -- what holds once a fraction is set holds once its numbers are written, in two pieces
  pub pairs-write : (P : List Ratio → Type 0) (i : ℕ) (r : Ratio) → SFits w64 r.num → SFits w64 r.den → P (set (pairs ns ds) i r) → P (pairs (set ns i (words r).num) (set ds i (words r).den))
  pairs-write P i r g h = subst P (sym (pairs_set ns ds i _ _ (f ∙ sym e) ∙ ap (set (pairs ns ds) i) (through-words r g h)))

pub pairs-zero : (n : ℕ) → pairs (replicate n (pos 0)) (replicate n (pos 1)) ≡ replicate n zero_r
unfolding pairs
pairs-zero zero = refl
pairs-zero (suc n) = ap (λ (l : List Ratio). zero_r ∷ l) (pairs-zero n)

-- ---- the zeros at the top, whatever the denominators are

module _ (ns : List ℤ) (n : ℕ) where
  -- what lies above top is zero
  pub record Dropped (top : ℕ) : Type 0 where
    pub same : (ds : List ℤ) → length ds ≡ length ns → length (trim (take top (pairs ns ds))) ≡ length (trim (take n (pairs ns ds)))

  pub dropped-none : Dropped n
  dropped-none = record { same = λ ds e. refl }

  module _ (top : ℕ) (h : 0 < top) (k : top ≤ length ns) (m : Dropped top) where
    pub dropped-more : is_nil (get_or ns (top - 1) (pos 0)) ≡ true → Dropped (top - 1)
    dropped-more e =
        record { same = λ ds f. ap length (sym (top-less (pairs ns ds) top zero_r h (rw (pairs-length ns ds f) k) (rw (pairs-at ns ds (top - 1) f (omega arith)) e))) ∙ m.same ds f }

    pub dropped-here : is_nil (get_or ns (top - 1) (pos 0)) ≡ false → (ds : List ℤ) → length ds ≡ length ns → top ≡ length (trim (take n (pairs ns ds)))
    dropped-here e ds f =
        sym (top-here (pairs ns ds) top zero_r h (rw (pairs-length ns ds f) k) (rw (pairs-at ns ds (top - 1) f (omega arith)) e)) ∙ m.same ds f

  pub dropped-all : (top : ℕ) → top ≤ 0 → Dropped top → (ds : List ℤ) → length ds ≡ length ns → top ≡ length (trim (take n (pairs ns ds)))
  dropped-all top h m ds f = top-none (pairs ns ds) top h ∙ m.same ds f

-- what is left once they are dropped stands where it stood
trim-read : (n : ℕ) (l : List Ratio) (i : ℕ) → i < length (trim (take n l)) → get_or (trim (take n l)) i zero_r ≡ get_or l i zero_r
trim-read n l i h =
    let m = take n l in
    ap (λ (s : List Ratio). get_or s i zero_r) (trim-take m)
    ∙ sym (read-terms (length (trim m)) m i zero_r zero_r (omega (arith, ap length (trim-take m))))
    ∙ sym (read-terms n l i zero_r zero_r (omega (arith, trim-short m)))

-- ---- the array that is filled

module _ (l : List Ratio) where
  -- the first i of l stand in a, and zeros behind them
  pub record Laid (i : ℕ) (a : List Ratio) : Type 0 where
    pub is : a ≡ take i l ++ replicate (32 - i) zero_r

  pub laid_none : (a : List Ratio) → a ≡ replicate 32 zero_r → Laid 0 a
  laid_none a e = record { is = e }

  laid_more : (i : ℕ) (a : List Ratio) → i < length l → length l ≤ 32 → Laid i a → Laid (i + 1) (set a i (get_or l i zero_r))
  laid_more i a h k f =
      let s : 32 - i ≡ suc (32 - (i + 1)) = omega arith in
      record {
        is =
            ap (λ (b : List Ratio). set b i (get_or l i zero_r)) (f.is ∙ ap (λ (m : ℕ). take i l ++ replicate m zero_r) s)
            ∙ set_at (take i l) zero_r (replicate (32 - (i + 1)) zero_r) (get_or l i zero_r) i (length-take-le i l (omega arith))
            ∙ sym (append_assoc (take i l) (get_or l i zero_r ∷ []) (replicate (32 - (i + 1)) zero_r))
            ∙ ap (λ (b : List Ratio). b ++ replicate (32 - (i + 1)) zero_r) (sym (ap (λ (m : ℕ). take m l) (add-one i) ∙ take-suc l i zero_r h));
      }

  pub laid-all : (i n : ℕ) (a : List Ratio) → n ≡ length l → i ≡ n → Laid i a → ◌≡◌ {A = Poly} (record { coeffs = a; len = n }) (poly_of l)
  laid-all i n a e g f =
      let s : i ≡ length l = omega arith in
      ap₂ {C = Poly} (λ (b : List Ratio) (m : ℕ). record { coeffs = b; len = m })
      (f.is ∙ ap (λ (m : ℕ). take m l ++ replicate (32 - m) zero_r) s ∙ ap (λ (b : List Ratio). b ++ replicate (32 - length l) zero_r) (take_all (length l) l (omega arith)))
      e

pub dropped-short : (n : ℕ) (l : List Ratio) → length (trim (take n l)) ≤ n
dropped-short n l = omega (arith, trim-short (take n l), length-take n l)

-- one turn, of two numbers as they are read
pub laid-pair : (ns ds : List ℤ) (n i : ℕ) (a : List Ratio) → length ns ≡ 32 → length ds ≡ 32 → i < length (trim (take n (pairs ns ds))) → SFits w64 (get_or ns i (pos 0)) → SFits w64 (get_or ds i (pos 0)) → Laid (trim (take n (pairs ns ds))) i a
    → Laid (trim (take n (pairs ns ds))) (i + 1) (set a i (words (record { num = get_or ns i (pos 0); den = get_or ds i (pos 0) })))
laid-pair ns ds n i a e e' h f g m =
    let l = trim (take n (pairs ns ds)) in
    let p : length (pairs ns ds) ≡ 32 = pairs-32 ns ds e e' in
    let q : length l ≤ 32 = omega (arith, trim-short (take n (pairs ns ds)), length-take n (pairs ns ds)) in
    subst (λ (r : Ratio). Laid l (i + 1) (set a i r)) (trim-read n (pairs ns ds) i h ∙ sym (pairs-read ns ds i (e' ∙ sym e) (omega arith) f g)) (laid_more l i a h q m)
