-- The float of a negative whole number is that of its size, negated.
use Rattle.std.proofs.Common.{◌≡◌, ℕ, zero, suc, ◌+◌, ◌*◌, ◌^◌, Bool, true, false, cond, ltb, ℤ, pos, negsuc, nat_abs, sym, refl, ap, ◌∙◌, true≢false}
use mathlib.Core.Bool.{false≢true}
use lib.Signed.{lt_z}
use lib.Ieee.{inf, Format, prec, emax, low, odd, units, neg, of_int}
use lib.Ieee.Fits.{round_is}
use Rattle.ratio.proofs.Words.{pos-neg}

neg-odd : (d q k l : ℕ) → neg (odd d false q k l) ≡ odd d true q k l
unfolding neg odd
neg-odd d zero k l = refl
neg-odd d (suc q) k l = refl

pub neg-units : (f : Format) (q k : ℕ) → neg (units f false q k) ≡ units f true q k
unfolding units neg
neg-units f q k = go (ltb (q * 2 ^ k) (2 ^ (low f + suc (emax f))))
  where
    go : (b : Bool) → neg (cond b (odd (suc (prec f)) false q k (low f)) (inf false)) ≡ cond b (odd (suc (prec f)) true q k (low f)) (inf true)
    go true = neg-odd (suc (prec f)) q k (low f)
    go false = refl

negated : (f : Format) (n : ℕ) → neg (of_int f (pos (suc n))) ≡ of_int f (negsuc n)
unfolding of_int
negated f n = ap neg (round_is f false (suc n) 1) ∙ neg-units f _ _ ∙ sym (round_is f true (suc n) 1)

pub below : (f : Format) (n : ℤ) → lt_z n (pos 0) ≡ true → neg (of_int f (pos (nat_abs n))) ≡ of_int f n
below f (pos n) h = absurd (false≢true (sym (pos-neg n) ∙ h))
below f (negsuc n) h = negated f n

pub above : (f : Format) (n : ℤ) → lt_z n (pos 0) ≡ false → of_int f (pos (nat_abs n)) ≡ of_int f n
above f (pos n) h = refl
above f (negsuc n) h = absurd (true≢false h)
