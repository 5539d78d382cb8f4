-- What clearing denominators means: whole coefficients, each the input's times one whole number above zero, so that the roots are the same.
use Rattle.ratio.specs.declared.Reason.{Reason}
use Rattle.std.specs.Prelude.{Result, Ok, Err}
use mathlib.Core.Path.{◌≡◌, refl, sym, ap, subst, ◌∙◌}
use mathlib.Core.Logic.{◌≢◌}
use mathlib.Core.Bool.{Bool, true, false}
use mathlib.Core.List.{List, [], ◌∷◌}
use Prim.Native.Nat.{ℕ, zero, suc, ◌*◌, ◌/◌, ◌<◌, ◌∣◌}
use native.Mathlib.Decide.{dec_lt}
use native.Mathlib.Nat.{dvd_refl, dvd_trans, dvd-mul_right, dvd-mul_left, mul-pos, div-mul_cancel, eq-one_of_dvd-one, pos_of_dvd_of_pos}
use native.Mathlib.Omega.{arith}
use borrow.Author.Tests.{ltb-true, ne_eqb}
use lib.IntN.{ℤ, pos, negsuc, nat_abs, ◌*ℤ◌}
use lib.ListN.{length, get_or, get_or-eq_default}
use lib.Signed.{lt_z}
use Rattle.algebra.specs.Rational.{Rat, Same, whole, mul_q, over}
use Rattle.algebra.specs.Textbook.{IsRoot}
use Rattle.algebra.proofs.Ring.{CRing, by1, mul-nil, nil-right}
use Rattle.algebra.proofs.Reflect.{ring!, reify}
use Rattle.algebra.proofs.Whole.{ℤ-ring, abs-mul}
use Rattle.algebra.proofs.Rational.{ℚ-ring, ℚ-domain, 0ℚ, ◌*ℚ◌, val, val_same, val-mul, val-nil}
use Rattle.algebra.proofs.Poly.{con_p}
use Rattle.algebra.proofs.Constants.{con-mul-at}
use Rattle.algebra.proofs.Evaluation.{ev, ev-mul, ev-con}
use Rattle.algebra.proofs.Lists.{◌*P◌}
use Rattle.algebra.proofs.ListWords.{root-to, root-from}
use Rattle.ratio.specs.Gcd.{gcd_of, IsGcd}
use Rattle.ratio.specs.Promise.{Lowest}
use Rattle.ratio.specs.Range.{Within, need}
use Rattle.ratio.specs.Refusal.{zero_r}
use Rattle.ratio.specs.Step.{is_nil, mul_of}
use Rattle.ratio.specs.declared.Ratio.{Ratio}
use Rattle.ratio.specs.declared.Reason.TheVariants.{CoeffOverflow}
use Rattle.ratio.proofs.Fractions.{nil-some}
use Rattle.ratio.proofs.Words.{size_above}
use Rattle.ratio.proofs.Euclid.{is-gcd}
use Rattle.ratio.proofs.Steps.{value, one-lowest, lowest-equal, mul-done, mul-fits}
use Rattle.terms.specs.Machine.{fine, whole_r}
use Rattle.terms.specs.Meaning.{rats}
use Rattle.terms.specs.Answer.{uncounted}
use Rattle.terms.proofs.Meaning.{poly_r, poly_r-at, poly_r-below}
use Rattle.terms.proofs.MeaningEach.{AnsweredAt, each-length, each_at, each-means}
use Rattle.terms.proofs.MeaningStep.{uncounted-done}
use Rattle.search.specs.Clear.{above, widened, go_on, multiple_from, cleared_one, cleared_by}
use Rattle.search.proofs.Kept.{All, none, each, all-at}

-- ---- whole numbers

pub whole-lowest : (z : ℤ) → Within z → Lowest (whole_r z)
whole-lowest z h = record {
  fraction = record { num-within = h; den-within = one-lowest.fraction.den-within; den-some = one-lowest.fraction.den-some };
  above = one-lowest.above;
  coprime = λ k x y. eq-one_of_dvd-one y;
}

pub whole-product : (x y : ℤ) (r : Ratio) → mul_of (whole_r x) (whole_r y) ≡ Ok r → r ≡ whole_r (x *ℤ y)
whole-product x y r e =
    lowest-equal r (whole_r (x *ℤ y)) (mul-done (whole_r x) (whole_r y) r e).1 (whole-lowest (x *ℤ y) (mul-fits (whole_r x) (whole_r y) r e).upper) (mul-done (whole_r x) (whole_r y) r e).0

-- ---- a denominator

above-done : (d : ℤ) (s : Result Ratio Reason) (r : Ratio) → above d s ≡ Ok r → (lt_z (pos 0) d ≡ true) × (s ≡ Ok r)
above-done d s r e = go (lt_z (pos 0) d) refl e
  where
    go : (t : Bool) → lt_z (pos 0) d ≡ t → need t CoeffOverflow s ≡ Ok r → (lt_z (pos 0) d ≡ true) × (s ≡ Ok r)
    go true p q = (p, q)
    go false p q = let z : ◌≡◌ {A = ℕ} 0 1 = cc in absurd (omega arith)

-- the denominator of a divides n
pub record Divided (n : ℕ) (a : Ratio) : Type 0 where
  pub den : ℕ
  pub is : a.den ≡ pos den
  pub some : 0 < den
  pub divides : den ∣ n

divided-zero : (n : ℕ) → Divided n zero_r
divided-zero n = record { den = 1; is = refl; some = omega arith; divides = subst (λ m. 1 ∣ m) (omega arith) (dvd-mul_right 1 n) }

divided-at : (n : ℕ) (l : List Ratio) → All (Divided n) l → (i : ℕ) → Divided n (get_or l i zero_r)
divided-at n l h i = pick (dec_lt i (length l))
  where
    pick : Dec (i < length l) → Divided n (get_or l i zero_r)
    pick (yes k) = all-at l zero_r h i k
    pick (no k) = subst (Divided n) (sym (get_or-eq_default l zero_r (omega arith))) (divided-zero n)

-- ---- the common multiple

-- r is a whole number above zero that k and all denominators divide
pub record Multiple (l : List Ratio) (k : ℕ) (r : Ratio) : Type 0 where
  pub number : ℕ
  pub is : r ≡ whole_r (pos number)
  pub some : 0 < number
  pub grows : k ∣ number
  pub all : All (Divided number) l

-- k (e / g) is a multiple of k and of e
module _ (k e : ℕ) (p : 0 < k) (q : 0 < e) where
  abbrev next : ℕ
  next = k * (e / gcd_of k e)

  divisor : IsGcd k e (gcd_of k e)
  divisor = is-gcd k e

  next-some : 0 < next
  next-some = mul-pos p (pos_of_dvd_of_pos (subst (λ t. e / gcd_of k e ∣ t) (div-mul_cancel (gcd_of k e) divisor.divides-b) (dvd-mul_right (e / gcd_of k e) (gcd_of k e))) q)

  next-left : k ∣ next
  next-left = dvd-mul_right k (e / gcd_of k e)

  pub next-right : e ∣ k * (e / gcd_of k e)
  next-right =
      let g : ℕ = gcd_of k e in
      let a : k / g * g ≡ k = div-mul_cancel g divisor.divides-a in
      let b : e / g * g ≡ e = div-mul_cancel g divisor.divides-b in
      let c : k / g * e ≡ next = ap (λ t. k / g * t) (sym b) ∙ regroup (k / g) g (e / g) ∙ ap (λ t. t * (e / g)) a in
      subst (λ t. e ∣ t) c (dvd-mul_left e (k / g))
    where
      regroup : (x g y : ℕ) → x * (y * g) ≡ x * g * y
      regroup x g y = omega arith

widened_is : (k : ℕ) (d : ℤ) (m : Ratio) → widened (whole_r (pos k)) d ≡ Ok m → (e : ℕ) × (d ≡ pos e) × (0 < e) × (m ≡ whole_r (pos (k * (e / gcd_of k e))))
unfolding widened
widened_is k (pos e) m w =
    let a = above-done (pos e) _ m w in
    (e, refl, ltb-true 0 e a.0, whole-product (pos k) (pos (e / gcd_of k e)) m a.1)
widened_is k (negsuc e) m w = let z : ◌≡◌ {A = ℕ} 0 1 = cc in absurd (omega arith)

pub multiple-is : (l : List Ratio) (k : ℕ) (r : Ratio) → 0 < k → multiple_from l (whole_r (pos k)) ≡ Ok r → Multiple l k r
unfolding multiple_from
multiple-is [] k r p w = let e : whole_r (pos k) ≡ r = cc in record { number = k; is = sym e; some = p; grows = dvd_refl k; all = none }
multiple-is (a ∷ l) k r p w = go (widened (whole_r (pos k)) a.den) refl w (multiple-is l)
  where
    go : (s : Result Ratio Reason) → widened (whole_r (pos k)) a.den ≡ s → go_on s (λ m. multiple_from l m) ≡ Ok r
        → ((k : ℕ) (r : Ratio) → 0 < k → multiple_from l (whole_r (pos k)) ≡ Ok r → Multiple l k r) → Multiple (a ∷ l) k r
    go (Ok m) u v again =
        let (e, d, q, i) = widened_is k a.den m u in
        let n = again (next k e p q) r (next-some k e p q) (ap (multiple_from l) (sym i) ∙ v) in
        record {
          number = n.number;
          is = n.is;
          some = n.some;
          grows = dvd_trans k (next-left k e p q) n.grows;
          all = each (record { den = e; is = d; some = q; divides = dvd_trans e (next-right k e p q) n.grows }) n.all;
        }
    go (Err why) u v again = let z : ◌≡◌ {A = ℕ} 0 1 = cc in absurd (omega arith)

-- ---- the coefficients

module _ {A : Type 0} (R : CRing A) where
  open R use {mul as ◌·◌, neg as -◌, one as 𝟙}

  infixl 70 ◌·◌
  infix 75 -◌
  cross : (a q d n : A) → n ≡ q · d → a · q · d ≡ n · a · 𝟙
  cross a q d n e = by1 R (- a) e (ring! R (a ∷ q ∷ d ∷ n ∷ []) (search reify depth 30 fits 20000) tt)

-- the number of times that a denominator goes into n
abbrev pub times : {n : ℕ} {a : Ratio} → Divided n a → ℕ
times {n} d = n / d.den

module _ (n : ℕ) (a y : Ratio) (p : 0 < n) (d : Divided n a) (e : cleared_one (whole_r (pos n)) a ≡ Ok y) where
  pub cleared-is : y ≡ whole_r (a.num *ℤ pos (times d))
  unfolding cleared_one
  cleared-is =
      let s : nat_abs a.den ≡ d.den = ap nat_abs d.is in
      whole-product a.num (pos (times d)) y (ap (λ t. mul_of (whole_r a.num) (whole_r (pos (n / t)))) (sym s) ∙ (above-done a.den _ y e).1)

  scaled-same : (k : ℕ) → 0 < k → k ∣ n → Same (whole (a.num *ℤ pos (n / k))) (mul_q (whole (pos n)) (over a.num (pos k)))
  scaled-same zero q t = absurd (omega arith)
  scaled-same (suc k) q t =
      let o : 1 * suc k ≡ suc k = omega arith in
      ap (λ m. a.num *ℤ pos (n / suc k) *ℤ pos m) o ∙ cross ℤ-ring a.num (pos (n / suc k)) (pos (suc k)) (pos n) (ap pos (sym (div-mul_cancel (suc k) t)))

  pub cleared-value : value y ≡ val (whole (pos n)) *ℚ value a
  cleared-value =
      ap value cleared-is ∙ val_same _ _ (scaled-same d.den d.some d.divides) ∙ val-mul (whole (pos n)) (over a.num (pos d.den))
      ∙ ap (λ z. val (whole (pos n)) *ℚ val (over a.num z)) (sym d.is)

  times-some : 0 < times d
  times-some = pos_of_dvd_of_pos (subst (λ t. times d ∣ t) (div-mul_cancel d.den d.divides) (dvd-mul_right (times d) d.den)) p

-- ---- the whole list

module _ (l : List Ratio) (n : ℕ) (p : 0 < n) (h : All (Divided n) l) (k : ℕ) (c : List Ratio) (e : cleared_by (whole_r (pos n)) l ≡ fine k c) where
  answered-at : (i : ℕ) (y : Ratio) → AnsweredAt (λ i n'. uncounted n' (cleared_one (whole_r (pos n)) (get_or l i zero_r))) i y → cleared_one (whole_r (pos n)) (get_or l i zero_r) ≡ Ok y
  answered-at i y a = uncounted-done a.before a.after (cleared_one (whole_r (pos n)) (get_or l i zero_r)) y a.is

  pub cleared-length : length c ≡ length l
  unfolding cleared_by
  cleared-length = each-length _ (length l) 0 0 k c e

  -- entry i is a whole number, zero only where the input's is
  pub cleared_at : (i : ℕ) → i < length l → (t : ℕ) × (0 < t) × (get_or c i zero_r ≡ whole_r ((get_or l i zero_r).num *ℤ pos t))
  unfolding cleared_by
  cleared_at i j =
      let a = answered-at i (get_or c i zero_r) (each_at _ (length l) 0 k c e zero_r i j) in
      let d = divided-at n l h i in
      (times d, times-some n (get_or l i zero_r) (get_or c i zero_r) p d a, cleared-is n (get_or l i zero_r) (get_or c i zero_r) p d a)

  pub cleared-lowest : (i : ℕ) → i < length l → Lowest (get_or c i zero_r)
  unfolding cleared_by cleared_one
  cleared-lowest i j =
      let a = answered-at i (get_or c i zero_r) (each_at _ (length l) 0 k c e zero_r i j) in
      (mul-done _ _ (get_or c i zero_r) (above-done (get_or l i zero_r).den _ (get_or c i zero_r) a).1).1

  pub cleared-poly : poly_r c ≡ con_p ℚ-ring (val (whole (pos n))) *P poly_r l
  unfolding cleared_by
  cleared-poly = each-means _ (length l) 0 k c (con_p ℚ-ring (val (whole (pos n))) *P poly_r l) e
      (λ i y a. cleared-value n (get_or l i zero_r) y p (divided-at n l h i) (answered-at i y a) ∙ ap (λ z. val (whole (pos n)) *ℚ z) (sym (poly_r-at l i)) ∙ sym (con-mul-at ℚ-ring (val (whole (pos n))) (poly_r l) i))
      (λ i j. con-mul-at ℚ-ring (val (whole (pos n))) (poly_r l) i ∙ ap (λ z. val (whole (pos n)) *ℚ z) (poly_r-below l i j) ∙ mul-nil ℚ-ring (val (whole (pos n))))

  some-multiple : val (whole (pos n)) ≢ 0ℚ
  some-multiple z = let f : n ≡ 0 = ap nat_abs (val-nil (whole (pos n)) z) in absurd (omega arith)

  value-at : (x : Rat) → ev ℚ-ring (poly_r c) (val x) ≡ val (whole (pos n)) *ℚ ev ℚ-ring (poly_r l) (val x)
  value-at x = ap (λ q. ev ℚ-ring q (val x)) cleared-poly ∙ ev-mul ℚ-ring (con_p ℚ-ring (val (whole (pos n)))) (poly_r l) (val x) ∙ ap (λ z. z *ℚ ev ℚ-ring (poly_r l) (val x)) (ev-con ℚ-ring (val (whole (pos n))) (val x))

  -- the roots are the same
  pub cleared-sound : (x : Rat) → IsRoot (rats c) x → IsRoot (rats l) x
  cleared-sound x r = root-from (rats l) x (nil-right ℚ-domain (val (whole (pos n))) (ev ℚ-ring (poly_r l) (val x)) some-multiple (sym (value-at x) ∙ root-to (rats c) x r))

  pub cleared-complete : (x : Rat) → IsRoot (rats l) x → IsRoot (rats c) x
  cleared-complete x r = root-from (rats c) x (value-at x ∙ ap (λ z. val (whole (pos n)) *ℚ z) (root-to (rats l) x r) ∙ mul-nil ℚ-ring (val (whole (pos n))))

-- a whole number times a number above zero is zero only where it is
pub times-nil : (z : ℤ) (t : ℕ) → 0 < t → is_nil z ≡ false → is_nil (z *ℤ pos t) ≡ false
times-nil z t p e =
    let m : 0 < nat_abs z * t = mul-pos (size_above z (nil-some z e)) p in
    ne_eqb (nat_abs (z *ℤ pos t)) 0 (λ q. let r : nat_abs z * t ≡ 0 = sym (abs-mul z (pos t)) ∙ q in omega arith)
