-- Laws of an array of 32 fractions that is filled from the bottom: what is not filled yet is 0/1.
use mathlib.Core.Path.{◌≡◌, refl, sym, ap, ap₂, ◌∙◌}
use mathlib.Core.List.{List, ◌∷◌, ◌++◌}
use Prim.Native.Nat.{ℕ, suc, ◌+◌, ◌-◌, ◌<◌}
use native.Mathlib.Omega.{arith}
use lib.ListN.{length, take, drop, set, replicate, take-append-drop}
use lib.Seq.{drop-set-lt, drop-drop}
use Rattle.ratio.specs.Refusal.{zero_r}
use Rattle.ratio.specs.declared.Ratio.{Ratio}
use Rattle.terms.specs.declared.Poly.{Poly}
use Rattle.terms.specs.Poly.{poly_of}

-- the places from i on
pub record Unfilled (i : ℕ) (out : List Ratio) : Type 0 where
  pub is : drop i out ≡ replicate (32 - i) zero_r

pub unfilled-none : Unfilled 0 (replicate 32 zero_r)
unfilled-none = record { is = refl }

pub unfilled-more : (i : ℕ) (out : List Ratio) (y : Ratio) → i < 32 → Unfilled i out → Unfilled (i + 1) (set out i y)
unfilled-more i out y h u =
    let n : 32 - i ≡ suc (32 - (i + 1)) = omega arith in
    let e : drop i out ≡ zero_r ∷ replicate (32 - (i + 1)) zero_r = u.is ∙ ap (λ k. replicate k zero_r) n in
    record { is = drop-set-lt (i + 1) out i y (omega arith) ∙ sym (drop-drop 1 i out) ∙ ap (drop 1) e }

-- all places by those filled
pub filled-up : (i : ℕ) (out l : List Ratio) → take i out ≡ l → length l ≡ i → Unfilled i out → out ≡ l ++ replicate (32 - length l) zero_r
filled-up i out l e n u =
    sym (take-append-drop i out) ∙ ap₂ ◌++◌ e (u.is ∙ ap (λ k. replicate (32 - k) zero_r) (sym n))

pub filled-poly : (i n : ℕ) (out l : List Ratio) → take i out ≡ l → length l ≡ i → n ≡ i → Unfilled i out → ◌≡◌ {A = Poly} (record { coeffs = out; len = n }) (poly_of l)
filled-poly i n out l e k f u = ap₂ {C = Poly} (λ a m. record { coeffs = a; len = m }) (filled-up i out l e k u) (f ∙ sym k)
