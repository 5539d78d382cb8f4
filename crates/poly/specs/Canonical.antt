-- Document 01, module 3, in words: coefficients in lowest terms and rising, no zero at the top, unused places 0/1. A length over 32 is 4, anything else that isn't canonical 5.
use Rattle.std.specs.Prelude.{◌≡◌, ℕ, suc, ◌≤◌, ◌<◌, pos, length, get_or}
use Rattle.ratio.specs.Promise.{Lowest}
use Rattle.ratio.specs.Refusal.{zero_r}
use Rattle.terms.specs.declared.Poly.{Poly}
use Rattle.terms.specs.Poly.{terms_of}

pub record IsCanonical (p : Poly) : Type 0 where
  pub short : p.len ≤ 32
  pub lowest : (i : ℕ) → i < length (terms_of p) → Lowest (get_or (terms_of p) i zero_r)
  pub top : (n : ℕ) → length (terms_of p) ≡ suc n → (get_or (terms_of p) n zero_r).num ≡ pos 0 → ⊥
  pub unused : (i : ℕ) → p.len ≤ i → get_or p.coeffs i zero_r ≡ zero_r

abbrev pub IsLong : Poly → Type 0
IsLong p = 32 < p.len

pub record IsBad (p : Poly) : Type 0 where
  pub short : p.len ≤ 32
  pub not-canonical : IsCanonical p → ⊥
