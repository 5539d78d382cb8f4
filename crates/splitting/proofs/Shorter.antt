-- What two halves that were found are: the first is Kronecker's factor, the second its quotient, and both are shorter than the whole.
use mathlib.Core.Path.{◌≡◌, refl, sym, ap, subst, ◌∙◌}
use mathlib.Core.Bool.{Bool, true, false, cond}
use mathlib.Core.List.{List, [], ◌∷◌}
use Prim.Native.Nat.{ℕ, ◌+◌, ◌-◌, ◌<◌, ◌≤◌}
use native.Mathlib.Omega.{arith}
use borrow.Author.Tests.{ltb-false}
use lib.Dec.{ltb}
use lib.ListN.{length}
use Rattle.ratio.specs.declared.Ratio.{Ratio}
use Rattle.terms.specs.Machine.{Ran, fine, over, plain}
use Rattle.terms.specs.Poly.{terms_of}
use Rattle.terms.proofs.Lists.{terms-of-poly}
use Rattle.terms.proofs.StepsCount.{Takes}
use Rattle.remainders.specs.Divide.{Split, split, divided}
use Rattle.remainders.specs.Price.{division_price}
use Rattle.remainders.proofs.PriceDivide.{Below, divided-takes}
use Rattle.yun.specs.Got.{Got, got, none, split_from, parts_of}
use Rattle.kronecker.specs.declared.Split as K
use Rattle.kronecker.specs.declared.Verdict.{Verdict}
use Rattle.kronecker.specs.declared.Verdict.TheVariants.{Found, Next, NoSplit, Refused}
use Rattle.kronecker.specs.Split.{try_split_of}
use Rattle.kronecker.proofs.Found.{Cut, found-cut, factor-made}
use Rattle.splitting.specs.Pair.{Padded, Halves, whole, both, halves_if, paired_by, on_verdict, pair_of}

-- ---- a division that was answered

from-below : (a b : List Ratio) (n : ℕ) (r : Ran ℕ (Split Ratio)) → Takes (Below a b) 0 n r → (s : Split Ratio) → split_from r ≡ got s → Below a b s
from-below a b n (fine k t) u s e = let q : t ≡ s = cc in subst (Below a b) q u.1
from-below a b n (over k) u s e = absurd (let z : ◌≡◌ {A = ℕ} 0 1 = cc in omega arith)

pub parts_below : (a b : List Ratio) (s : Split Ratio) → 1 ≤ length a → 1 ≤ length b → parts_of a b ≡ got s → Below a b s
unfolding parts_of
parts_below a [] s h k e = absurd (omega arith)
parts_below a (y ∷ b) s h k e = from-below a (y ∷ b) (division_price (length a - 1) (length (y ∷ b) - 1)) (divided plain a (y ∷ b) 0) (divided-takes a (y ∷ b) k h 0) s e

-- ---- two halves

-- g divides f, and q is the quotient
pub record Halved (f g q : List Ratio) : Type 0 where
  pub parts : parts_of f g ≡ got (split q [])
  pub long : 2 ≤ length q

halves-from : (g₀ g q : List Ratio) (s : Split Ratio) (l : List Ratio) → s.rest ≡ l → halves_if l g₀ s.quotient ≡ both g q → (b : Bool) → ltb (length s.quotient) 2 ≡ b → (g₀ ≡ g) × (s ≡ split q []) × (2 ≤ length q)
halves-from g₀ g q s (x ∷ l) r e b t = absurd (let z : ◌≡◌ {A = ℕ} 0 1 = cc in omega arith)
halves-from g₀ g q s [] r e true t =
    let w : whole ≡ both g q = rw t at e in
    absurd (let z : ◌≡◌ {A = ℕ} 0 1 = cc in omega arith)
halves-from g₀ g q s [] r e false t =
    let w : both g₀ s.quotient ≡ both g q = rw t at e in
    let u : g₀ ≡ g = cc in
    let v : s.quotient ≡ q = cc in
    (u, ap (λ (x : List Ratio). split x s.rest) v ∙ ap (split q) r, subst (λ (x : List Ratio). 2 ≤ length x) v (ltb-false (length s.quotient) 2 t))

paired-from : (f g₀ g q : List Ratio) (p : Got (Split Ratio)) → parts_of f g₀ ≡ p → paired_by f g₀ ≡ got (both g q) → (g₀ ≡ g) × Halved f g₀ q
unfolding paired_by
paired-from f g₀ g q (none why) e h =
    let w : none why ≡ got (both g q) = rw e at h in
    absurd (let z : ◌≡◌ {A = ℕ} 0 1 = cc in omega arith)
paired-from f g₀ g q (got s) e h =
    let w : got (halves_if s.rest g₀ s.quotient) ≡ got (both g q) = rw e at h in
    let u : halves_if s.rest g₀ s.quotient ≡ both g q = cc in
    let k = halves-from g₀ g q s s.rest refl u (ltb (length s.quotient) 2) refl in
    (k.0, record { parts = e ∙ ap got k.1; long = k.2 })

verdict-from : (v : Verdict) (f g₀ g q : List Ratio) → on_verdict v f g₀ ≡ got (both g q) → (v ≡ Found) × (g₀ ≡ g) × Halved f g₀ q
verdict-from Found f g₀ g q e =
    let p = paired-from f g₀ g q (parts_of f g₀) refl e in
    (refl, p.0, p.1)
verdict-from Next f g₀ g q e = absurd (let z : ◌≡◌ {A = ℕ} 0 1 = cc in omega arith)
verdict-from NoSplit f g₀ g q e = absurd (let z : ◌≡◌ {A = ℕ} 0 1 = cc in omega arith)
verdict-from (Refused why) f g₀ g q e = absurd (let z : ◌≡◌ {A = ℕ} 0 1 = cc in omega arith)

whole_from : (b : Bool) (r : Got Halves) (g q : List Ratio) → cond b (got whole) r ≡ got (both g q) → r ≡ got (both g q)
whole_from true r g q e = absurd (let z : ◌≡◌ {A = ℕ} 0 1 = cc in omega arith)
whole_from false r g q e = e

module _ (f : List Ratio) (budget : ℕ) (g q : List Ratio) (e : pair_of f budget ≡ got (both g q)) where
  from-verdict : on_verdict (try_split_of f budget).verdict f (terms_of (try_split_of f budget).factor) ≡ got (both g q)
  unfolding pair_of
  from-verdict = whole_from (ltb 7 (length f)) _ g q (whole_from (ltb (length f) 4) _ g q e)

  told : ((try_split_of f budget).verdict ≡ Found) × (terms_of (try_split_of f budget).factor ≡ g) × Halved f (terms_of (try_split_of f budget).factor) q
  told = verdict-from (try_split_of f budget).verdict f (terms_of (try_split_of f budget).factor) g q from-verdict

  pub halved : Halved f g q
  halved = subst (λ (x : List Ratio). Halved f x q) told.1 told.2

  pub cut : Cut f (try_split_of f budget)
  cut = found-cut f budget told.0

  pub factor-is : cut.candidate ≡ g
  factor-is = sym (terms-of-poly cut.candidate) ∙ sym (ap terms_of cut.is) ∙ told.1

  pub factor-long : 2 ≤ length g
  factor-long = subst (λ (x : List Ratio). 2 ≤ length x) factor-is cut.long

  quotient-short : 1 ≤ length f → length q ≤ length f + 1 - length g
  quotient-short h = (parts_below f g (split q []) h (omega (arith, factor-long)) halved.parts).few-terms

  pub factor-shorter : 1 ≤ length f → length g < length f
  factor-shorter h = omega (arith, quotient-short h, halved.long, factor-long)

  pub quotient-shorter : 1 ≤ length f → length q < length f
  quotient-shorter h = omega (arith, quotient-short h, factor-long)

-- a factor in memory has its unused places at 0/1
pub split-padded : (f : List Ratio) (budget : ℕ) (s : K.Split) → s ≡ try_split_of f budget → Padded s.factor
split-padded f budget s e = record { is = rw e (factor-made f budget) }
