-- The door of a power, and the loop of products.
use Rattle.ratio.specs.Refusal.{no_refusal}
use Rattle.std.specs.Prelude.{Err}
use mathlib.Core.Path.{◌≡◌, ap}
use mathlib.Core.List.{List, [], ◌∷◌}
use Prim.Native.Nat.{ℕ, suc, ◌+◌, ◌-◌, ◌*◌, ◌<◌, ◌≤◌}
use native.Mathlib.Omega.{arith}
use native.Mathlib.Nat.{mul-le-mul}
use borrow.Author.Tests.{ltb-false}
use lib.Dec.{ltb}
use lib.IntN.{pos}
use lib.ListN.{length}
use Rattle.ratio.specs.declared.Ratio.{Ratio}
use Rattle.ratio.specs.declared.Reason.{Reason}
use Rattle.terms.specs.declared.Poly.{Poly}
use Rattle.terms.specs.declared.Answer.{Answer}
use Rattle.terms.specs.Poly.{terms_of, poly_of}
use Rattle.terms.specs.Machine.{whole_r}
use Rattle.terms.specs.Answer.{done_with, refused_with, product_of}
use Rattle.terms.proofs.Few.{product-few}
use Rattle.poly.specs.declared.Gate.TheVariants.{Open}
use Rattle.poly.specs.Operations.{power_door, powered, power_from}
use Rattle.poly.proofs.Canonical.{long-if}

-- ---- the door

pub power-few : (a : List Ratio) (n : ℕ) → power_door a n ≡ Open → n ≤ 200
power-few a n e = ltb-false 200 n (long-if (ltb 200 n) _ e).0

-- ---- the loop

pub steps-few : (a b : List Ratio) (r : Answer) → r ≡ product_of a b → length a ≤ 32 → length b ≤ 32 → r.steps ≤ 2048
steps-few a b r e h k =
    let m : length a * length b ≤ 1024 = mul-le-mul h k in
    let f : r.steps ≡ (product_of a b).steps = ap (λ (t : Answer). t.steps) e in
    omega (arith, product-few a b)

module _ (a : List Ratio) (n : ℕ) where
  -- what is left of the factors gives the whole power
  pub record Raised (i steps : ℕ) (acc : Poly) : Type 0 where
    pub whole : powered a (n - i) acc steps ≡ power_from a n

  pub raised-none : Raised 0 0 (poly_of (whole_r (pos 1) ∷ []))
  raised-none = let s : n - 0 ≡ n = omega arith in record { whole = rw s }

  module _ (i steps : ℕ) (acc : Poly) (h : i < n) (s : Raised i steps acc) (r : Answer) (e : r ≡ product_of (terms_of acc) a) where
    pub raised-more : r.outcome ≡ no_refusal → Raised (i + 1) (steps + r.steps) r.poly
    unfolding powered
    raised-more d =
        let k : n - i ≡ suc (n - (i + 1)) = omega arith in
        record { whole = rw (k, ← e, d) at s.whole }

    pub raised-over : (why : Reason) → r.outcome ≡ Err why → refused_with why (steps + r.steps) ≡ power_from a n
    unfolding powered
    raised-over why d =
        let k : n - i ≡ suc (n - (i + 1)) = omega arith in
        rw (k, ← e, d) at s.whole

  pub raised_all : (i steps : ℕ) (acc : Poly) → n ≤ i → Raised i steps acc → done_with acc steps ≡ power_from a n
  unfolding powered
  raised_all i steps acc h s = let k : n - i ≡ 0 = omega arith in rw k at s.whole
