-- Where the denominators have a common multiple within the range, each coefficient is a whole number of times the content.
use Rattle.ratio.specs.declared.Reason.{Reason}
use Rattle.std.specs.Prelude.{Result, Ok, Err}
use mathlib.Core.Path.{◌≡◌, refl, sym, ap, ap₂, subst, ◌∙◌}
use mathlib.Core.Logic.{◌⊎◌, inl, inr}
use mathlib.Core.List.{List, [], ◌∷◌}
use Prim.Native.Nat.{ℕ, zero, suc, ◌*◌, ◌/◌, ◌<◌, ◌≤◌, ◌∣◌}
use native.Mathlib.Nat.{dvd_trans, dvd_refl, dvd-mul_right, dvd-mul_left, div-mul_cancel, div-le_self, le_of_dvd, le_trans, pos_of_dvd_of_pos, eq_of_mul-eq-mul_right}
use native.Mathlib.Omega.{arith}
use borrow.Author.Tests.{lt-ltb}
use lib.IntN.{ℤ, pos, nat_abs, ◌*ℤ◌}
use lib.ListN.{length, get_or}
use Rattle.algebra.specs.Rational.{Same, whole, mul_q, over}
use Rattle.algebra.proofs.Ring.{CRing, by2}
use Rattle.algebra.proofs.Reflect.{ring!, reify}
use Rattle.algebra.proofs.Divides.{coprime-dvd}
use Rattle.algebra.proofs.NaturalGcd.{greatest-quotients}
use Rattle.algebra.proofs.Whole.{ℤ-ring}
use Rattle.algebra.proofs.WholeDivides.{Dvdℤ, dvd-abs, abs-dvd, only-one-coprime}
use Rattle.ratio.specs.Gcd.{gcd_of}
use Rattle.ratio.specs.Range.{limit, Within}
use Rattle.ratio.specs.Refusal.{zero_r, status_of, ratio_of}
use Rattle.ratio.specs.Step.{mul_of, new_of}
use Rattle.ratio.specs.declared.Ratio.{Ratio}
use Rattle.ratio.specs.declared.Reason.TheVariants.{CoeffOverflow}
use Rattle.ratio.proofs.Answers.{mul-answers}
use Rattle.ratio.proofs.Euclid.{is-gcd, gcd-above}
use Rattle.ratio.proofs.Steps.{mul-either}
use Rattle.terms.specs.Machine.{whole_r}
use Rattle.search.specs.Clear.{widened}
use Rattle.search.proofs.MeaningClear.{whole-lowest, whole-product, Divided, next-right}
use Rattle.roots.specs.Content.{or_stay, content_from}
use Rattle.roots.proofs.CodeContent.{gcd-within}

-- ---- the least common multiple divides every other

regroup : (u x y z : ℕ) → u * x * (y * z) ≡ u * (x * z * y)
regroup u x y z = omega arith

pub lcm-divides : (k e m : ℕ) → 0 < k → 0 < e → k ∣ m → e ∣ m → k * (e / gcd_of k e) ∣ m
lcm-divides k e m p q h j =
    let g : ℕ = gcd_of k e in
    let G = is-gcd k e in
    let gp : 0 < g = gcd-above k e q in
    let a : k / g * g ≡ k = div-mul_cancel g G.divides-a in
    let b : e / g * g ≡ e = div-mul_cancel g G.divides-b in
    let s : m / k * k ≡ m = div-mul_cancel k h in
    let t : m / e * e ≡ m = div-mul_cancel e j in
    let one = greatest-quotients k e g gp (record { left = G.divides-a; right = G.divides-b; greatest = G.greatest }) in
    let c : m / e * (e / g) * g ≡ m / k * (k / g) * g = assoc (m / e) (e / g) g ∙ ap (λ x. m / e * x) b ∙ t ∙ sym s ∙ ap (λ x. m / k * x) (sym a) ∙ sym (assoc (m / k) (k / g) g) in
    let d : m / e * (e / g) ≡ m / k * (k / g) = eq_of_mul-eq-mul_right g gp (m / e * (e / g)) (m / k * (k / g)) c in
    let f : Dvdℤ (pos (k / g)) (pos (e / g) *ℤ pos (m / e)) = (pos (m / k), ap pos (comm (e / g) (m / e) ∙ d)) in
    let u : k / g ∣ m / e = dvd-abs (pos (k / g)) (pos (m / e)) (coprime-dvd ℤ-ring (pos (k / g)) (pos (e / g)) (pos (m / e)) (only-one-coprime (pos (k / g)) (pos (e / g)) one) f) in
    let v : m / e / (k / g) * (k / g) ≡ m / e = div-mul_cancel (k / g) u in
    let w : m / e / (k / g) * (k * (e / g)) ≡ m =
    ap (λ x. m / e / (k / g) * (x * (e / g))) (sym a) ∙ sym (regroup (m / e / (k / g)) (k / g) (e / g) g) ∙ ap₂ ◌*◌ v b ∙ t in
    subst (λ x. k * (e / g) ∣ x) w (dvd-mul_left (k * (e / g)) (m / e / (k / g)))
  where
    assoc : (x y z : ℕ) → x * y * z ≡ x * (y * z)
    assoc x y z = omega arith

    comm : (x y : ℕ) → x * y ≡ y * x
    comm x y = omega arith

-- ---- a common multiple within the range is made

pub widened-done : (k e : ℕ) → 0 < e → k ≤ limit → e ≤ limit → k * (e / gcd_of k e) ≤ limit → widened (whole_r (pos k)) (pos e) ≡ Ok (whole_r (pos (k * (e / gcd_of k e))))
unfolding widened
widened-done k e q h j w = rw (lt-ltb 0 e q) (go (mul-either (whole_r (pos k)) (whole_r (pos (e / gcd_of k e))) (whole-lowest (pos k) h).fraction (whole-lowest (pos (e / gcd_of k e)) s).fraction))
  where
    s : e / gcd_of k e ≤ limit
    s = le_trans (div-le_self e (gcd_of k e)) j

    go : ((r : Ratio) × (mul_of (whole_r (pos k)) (whole_r (pos (e / gcd_of k e))) ≡ Ok r)) ⊎ (mul_of (whole_r (pos k)) (whole_r (pos (e / gcd_of k e))) ≡ Err CoeffOverflow)
        → mul_of (whole_r (pos k)) (whole_r (pos (e / gcd_of k e))) ≡ Ok (whole_r (pos (k * (e / gcd_of k e))))
    go (inl (r, f)) = f ∙ ap Ok (whole-product (pos k) (pos (e / gcd_of k e)) r f)
    go (inr f) =
        let a = (mul-answers (whole_r (pos k)) (whole_r (pos (e / gcd_of k e)))).answered
        (record { a-fraction = (whole-lowest (pos k) h).fraction; b-fraction = (whole-lowest (pos (e / gcd_of k e)) s).fraction; upper = w; lower = omega arith }) in
        let b : status_of (mul_of (whole_r (pos k)) (whole_r (pos (e / gcd_of k e)))) ≡ 2 = ap status_of f in
        absurd (omega arith)

-- ---- the content of a list whose denominators divide m

-- the content is num / den; num divides every numerator, and every denominator divides den
pub record Covered (l : List Ratio) (n k : ℕ) (r : Ratio) : Type 0 where
  pub num : ℕ
  pub den : ℕ
  pub is : r ≡ ratio_of (new_of (pos num) (pos den))
  pub some : 0 < den
  pub num-within : num ≤ limit
  pub den-within : den ≤ limit
  pub start : num ∣ n
  pub grows : k ∣ den
  pub numerators : (i : ℕ) → i < length l → num ∣ nat_abs (get_or l i zero_r).num
  pub denominators : (i : ℕ) → i < length l → nat_abs (get_or l i zero_r).den ∣ den

module _ (m : ℕ) (some : 0 < m) (h : m ≤ limit) where
  small : (k : ℕ) → k ∣ m → k ≤ limit
  small k d = le_trans (le_of_dvd some d) h

  pub covered : (l : List Ratio) (n k : ℕ) → n ≤ limit → 0 < k → k ∣ m → ((i : ℕ) → i < length l → Within (get_or l i zero_r).num) → ((i : ℕ) → i < length l → Divided m (get_or l i zero_r)) → Covered l n k (content_from l n (whole_r (pos k)))
  unfolding content_from
  covered [] n k b p d w u = record {
    num = n;
    den = k;
    is = refl;
    some = p;
    num-within = b;
    den-within = small k d;
    start = dvd_refl n;
    grows = dvd_refl k;
    numerators = λ i j. absurd (omega arith);
    denominators = λ i j. absurd (omega arith);
  }
  covered (a ∷ l) n k b p d w u =
      let v = u 0 (omega arith) in
      let e : ℕ = v.den in
      let t : ℕ = k * (e / gcd_of k e) in
      let td : t ∣ m = lcm-divides k e m p v.some d v.divides in
      let tp : 0 < t = pos_of_dvd_of_pos td some in
      let f : widened (whole_r (pos k)) a.den ≡ Ok (whole_r (pos t)) = ap (widened (whole_r (pos k))) v.is ∙ widened-done k e v.some (small k d) (small e v.divides) (small t td) in
      let c = covered l (gcd_of n (nat_abs a.num)) t (gcd-within n (nat_abs a.num) b (w 0 (omega arith))) tp td (λ i j. w (suc i) (omega arith)) (λ i j. u (suc i) (omega arith)) in
      let g = is-gcd n (nat_abs a.num) in
      record {
        num = c.num;
        den = c.den;
        is = ap (λ (s : Result Ratio Reason). content_from l (gcd_of n (nat_abs a.num)) (or_stay s (whole_r (pos k)))) f ∙ c.is;
        some = c.some;
        num-within = c.num-within;
        den-within = c.den-within;
        start = dvd_trans c.num c.start g.divides-a;
        grows = dvd_trans k (dvd-mul_right k (e / gcd_of k e)) c.grows;
        numerators = nums c.num (dvd_trans c.num c.start g.divides-b) c.numerators;
        denominators = dens c.den (subst (λ x. nat_abs x ∣ c.den) (sym v.is) (dvd_trans e (next-right k e p v.some) c.grows)) c.denominators;
      }
    where
      nums : (x : ℕ) → x ∣ nat_abs a.num → ((i : ℕ) → i < length l → x ∣ nat_abs (get_or l i zero_r).num) → (i : ℕ) → i < suc (length l) → x ∣ nat_abs (get_or (a ∷ l) i zero_r).num
      nums x y z zero j = y
      nums x y z (suc i) j = z i (omega arith)

      dens : (x : ℕ) → nat_abs a.den ∣ x → ((i : ℕ) → i < length l → nat_abs (get_or l i zero_r).den ∣ x) → (i : ℕ) → i < suc (length l) → nat_abs (get_or (a ∷ l) i zero_r).den ∣ x
      dens x y z zero j = y
      dens x y z (suc i) j = z i (omega arith)

-- ---- a whole number of times

module _ {A : Type 0} (R : CRing A) where
  open R use {mul as ◌·◌, neg as -◌}

  infixl 70 ◌·◌
  infix 75 -◌
  cross : (a n x d D y : A) → a ≡ x · n → D ≡ y · d → a · D ≡ x · y · n · d
  cross a n x d D y e f = by2 R D e (x · n) f (ring! R (a ∷ n ∷ x ∷ d ∷ D ∷ y ∷ []) (search reify depth 30 fits 20000) tt)

-- a / d is a whole number of times n / D, where n divides a and d divides D
pub times-of : (a : ℤ) (d n D : ℕ) → 0 < d → 0 < D → n ∣ nat_abs a → d ∣ D → (z : ℤ) × Same (over a (pos d)) (mul_q (whole z) (over (pos n) (pos D)))
times-of a zero n D p q h k = absurd (omega arith)
times-of a (suc d) n zero p q h k = absurd (omega arith)
times-of a (suc d) n (suc D) p q h k =
    let (x, e) = abs-dvd (pos n) a h in
    let y : ℕ = suc D / suc d in
    let f : pos (suc D) ≡ pos y *ℤ pos (suc d) = ap pos (sym (div-mul_cancel (suc d) k)) in
    let o : 1 * suc D ≡ suc D = omega arith in
    (x *ℤ pos y, ap (λ t. a *ℤ pos t) o ∙ cross ℤ-ring a (pos n) x (pos (suc d)) (pos (suc D)) (pos y) e f)
