-- The polynomial of n zeros and then 1: an array of zeros with 1 in place n.
use mathlib.Core.Path.{◌≡◌, sym, ap, ap₂, ◌∙◌}
use mathlib.Core.List.{List, [], ◌∷◌, ◌++◌, append_assoc}
use Prim.Native.Nat.{ℕ, suc, ◌+◌, ◌-◌, ◌<◌, ◌≤◌}
use native.Mathlib.Omega.{arith}
use borrow.Author.Tests.{lt-ltb, le-ltb}
use lib.IntN.{pos}
use lib.ListN.{length, set, replicate, length-append, length-replicate, replicate-append-replicate}
use lib.Seq.{set_at}
use Rattle.ratio.specs.Refusal.{zero_r}
use Rattle.ratio.specs.declared.Ratio.{Ratio}
use Rattle.ratio.specs.declared.Reason.TheVariants.{TooLong}
use Rattle.terms.specs.declared.Poly.{Poly}
use Rattle.terms.specs.Poly.{poly_of}
use Rattle.terms.specs.Machine.{whole_r}
use Rattle.terms.specs.Answer.{done_with, refused_with}
use Rattle.poly.specs.Operations.{monomial_of}

abbrev pub unit : ℕ → List Ratio
unit n = replicate n zero_r ++ (whole_r (pos 1) ∷ [])

pub unit-length : (n : ℕ) → length (unit n) ≡ suc n
unit-length n = rw (length-append, length-replicate) (omega arith)

set-zeros : (n m : ℕ) (z a : Ratio) → set (replicate (n + suc m) z) n a ≡ (replicate n z ++ (a ∷ [])) ++ replicate m z
set-zeros n m z a =
    ap (λ (l : List Ratio). set l n a) (sym (replicate-append-replicate n (suc m) z))
    ∙ set_at (replicate n z) z (replicate m z) a n (length-replicate n z)
    ∙ sym (append_assoc (replicate n z) (a ∷ []) (replicate m z))

pub unit-poly : (n : ℕ) → n ≤ 31 → ◌≡◌ {A = Poly} (record { coeffs = set (replicate 32 zero_r) n (whole_r (pos 1)); len = n + 1 }) (poly_of (unit n))
unit-poly n h =
    let s : n + suc (32 - length (unit n)) ≡ 32 = omega (arith, unit-length n) in
    let t : n + 1 ≡ length (unit n) = omega (arith, unit-length n) in
    ap₂ {C = Poly} (λ (l : List Ratio) (k : ℕ). record { coeffs = l; len = k })
    (ap (λ (k : ℕ). set (replicate k zero_r) n (whole_r (pos 1))) (sym s) ∙ set-zeros n (32 - length (unit n)) zero_r (whole_r (pos 1)))
    t

pub monomial-long : (n : ℕ) → 31 < n → refused_with TooLong 0 ≡ monomial_of n
monomial-long n h = rw (lt-ltb 31 n h)

pub monomial-done : (n : ℕ) → n ≤ 31 → done_with (record { coeffs = set (replicate 32 zero_r) n (whole_r (pos 1)); len = n + 1 }) 0 ≡ monomial_of n
monomial-done n h = rw (le-ltb 31 n h) (ap (λ (p : Poly). done_with p 0) (unit-poly n h))
