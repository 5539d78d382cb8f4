-- Coefficients that are read, kept while they are few.
use mathlib.Core.Path.{◌≡◌, refl, ap, ◌∙◌}
use mathlib.Core.Bool.{true, false}
use mathlib.Core.List.{List, [], ◌∷◌, ◌++◌, append_assoc}
use Prim.Native.Nat.{ℕ, suc, ◌+◌, ◌-◌, ◌<◌, ◌≤◌}
use native.Mathlib.Omega.{arith}
use borrow.Author.Tests.{lt-ltb, le-ltb}
use lib.ListN.{length, set, replicate, length-append}
use lib.Seq.{set-append_seam}
use Rattle.ratio.specs.Refusal.{zero_r}
use Rattle.ratio.specs.Step.{is_nil}
use Rattle.ratio.specs.declared.Reason.TheVariants.{TooLong}
use Rattle.ratio.specs.declared.Ratio.{Ratio}
use Rattle.terms.specs.declared.Poly.{Poly}
use Rattle.terms.specs.Poly.{poly_of}
use Rattle.terms.specs.Answer.{done_with, refused_with}
use Rattle.reading.specs.Coefficients.{bad_at, alone, top_of}
use Rattle.reading.specs.Held.{Holds}

pub holds-none : Holds [] (poly_of [])
holds-none = record { count = refl; kept = λ h. refl }

filled : (l : List Ratio) (x : Ratio) (k m : ℕ) → k ≡ suc m → set (l ++ replicate k zero_r) (length l) x ≡ (l ++ (x ∷ [])) ++ replicate m zero_r
filled l x k m e = rw (e, append_assoc) (set-append_seam l zero_r (replicate m zero_r) x)

one_more : (l : List Ratio) (x : Ratio) → length l < 32 → ◌≡◌ {A = Poly} (record { coeffs = set (poly_of l).coeffs (length l) x; len = length l + 1 }) (poly_of (l ++ (x ∷ [])))
one_more l x h =
    let n : length (l ++ (x ∷ [])) ≡ length l + 1 = length-append l (x ∷ []) in
    rw (filled l x (32 - length l) (32 - (length l + 1)) (omega arith), n)

empty : (l : List Ratio) → length l ≡ 0 → l ≡ []
empty [] h = refl
empty (a ∷ l) h = absurd (omega arith)

some : (at : ℕ) (l : List Ratio) → (length l ≡ 0 → ⊥) → bad_at at ≡ alone at l
some at [] h = absurd (h refl)
some at (a ∷ l) h = refl

module _ (l : List Ratio) (p : Poly) (x : Ratio) (h : Holds l p) where
  pub holds-few : p.len ≤ 31 → Holds (l ++ (x ∷ [])) (record { coeffs = set p.coeffs p.len x; len = p.len + 1 })
  holds-few f =
      let n : length (l ++ (x ∷ [])) ≡ length l + 1 = length-append l (x ∷ []) in
      let k : length l ≤ 32 = omega (arith, h.count) in
      record {
        count = omega (arith, h.count);
        kept = λ _. ap {B = Poly} (λ (q : Poly). record { coeffs = set q.coeffs q.len x; len = q.len + 1 }) (h.kept k) ∙ one_more l x (omega (arith, h.count));
      }

  pub holds-many : 31 < p.len → Holds (l ++ (x ∷ [])) (record { coeffs = p.coeffs; len = p.len + 1 })
  holds-many f =
      let n : length (l ++ (x ∷ [])) ≡ length l + 1 = length-append l (x ∷ []) in
      record { count = omega (arith, h.count); kept = λ k. absurd (omega (arith, h.count)) }

  -- the last coefficient
  module _ (at : ℕ) where
    pub top-alone : is_nil x.num ≡ true → p.len ≡ 0 → done_with (poly_of []) 0 ≡ top_of at l x
    top-alone t n = rw (t, empty l (omega (arith, h.count)))

    pub top-zero : is_nil x.num ≡ true → (p.len ≡ 0 → ⊥) → bad_at at ≡ top_of at l x
    top-zero t n = rw t (some at l (λ z. n (omega (arith, h.count))))

    pub top-long : is_nil x.num ≡ false → 31 < p.len → refused_with TooLong 0 ≡ top_of at l x
    top-long t n = rw (t, lt-ltb 31 (length l) (omega (arith, h.count)))

    pub top-done : is_nil x.num ≡ false → p.len ≤ 31 → (q : Poly) → Holds (l ++ (x ∷ [])) q → done_with q 0 ≡ top_of at l x
    top-done t n q k =
        let m : length (l ++ (x ∷ [])) ≡ length l + 1 = length-append l (x ∷ []) in
        rw (t, le-ltb 31 (length l) (omega (arith, h.count)), k.kept (omega (arith, h.count)))
