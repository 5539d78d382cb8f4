-- What the content is: a fraction in lowest terms, not below zero, zero exactly for the zero polynomial.
use Rattle.std.specs.Prelude.{Result, Ok, Err}
use mathlib.Core.Path.{◌≡◌, refl, sym, ap, subst, ◌∙◌}
use mathlib.Core.List.{List, [], ◌∷◌}
use Prim.Native.Nat.{ℕ, zero, suc, ◌*◌, ◌<◌, ◌≤◌, ◌∣◌}
use native.Mathlib.Decide.{dec_lt}
use native.Mathlib.Nat.{dvd_trans, dvd_refl, dvd-zero, dvd-mul_right, eq-zero_of_zero-dvd}
use native.Mathlib.Omega.{arith}
use borrow.Author.Tests.{eqb-false}
use lib.Dec.{ltb→lt}
use lib.IntN.{ℤ, pos, negsuc, nat_abs}
use lib.ListN.{length, get_or, get_or-eq_default}
use lib.Signed.{◌<ℤ◌}
use Rattle.algebra.specs.Rational.{Rat, Same, Less, zero_q, whole as whole_q, mul_q, over}
use Rattle.algebra.specs.Polynomial as P
use Rattle.algebra.proofs.Rational.{◌*ℚ◌, val, val_same, same-val, val-zero, val-mul, 0ℚ, over-nil}
use Rattle.algebra.proofs.RationalOrder.{less-same-l}
use Rattle.ratio.specs.Gcd.{gcd_of, IsGcd}
use Rattle.ratio.specs.Promise.{rat, Lowest, Fraction}
use Rattle.ratio.specs.Range.{limit, Within}
use Rattle.ratio.specs.Refusal.{zero_r, ratio_of}
use Rattle.ratio.specs.Step.{new_of}
use Rattle.ratio.specs.declared.Ratio.{Ratio}
use Rattle.ratio.specs.declared.Reason.{Reason}
use Rattle.ratio.proofs.Euclid.{is-gcd}
use Rattle.ratio.proofs.Steps.{new_is, new-done, zero-lowest}
use Rattle.terms.specs.declared.Poly.{Poly}
use Rattle.terms.specs.Machine.{whole_r}
use Rattle.terms.specs.Meaning.{rats}
use Rattle.terms.specs.Poly.{terms_of}
use Rattle.terms.proofs.MeaningCanonical.{Canonical, top-some}
use Rattle.poly.specs.declared.Gate.TheVariants.{Open}
use Rattle.poly.specs.Door.{door_of}
use Rattle.poly.proofs.Canonical.{Opened, opened}
use Rattle.euclid.proofs.Doors.{never_done, entered-keeps, nil-zero, zero-nil}
use Rattle.search.specs.Clear.{widened, multiple_from}
use Rattle.search.proofs.CodeClear.{widened-within}
use Rattle.search.proofs.MeaningClear.{Divided, Multiple, multiple-is}
use Rattle.roots.specs.Content.{or_stay, denominator_of, content_from, content_of, content_for}
use Rattle.roots.specs.ContentPromise.{WholeTimes, ContentPromise}
use Rattle.roots.proofs.CodeContent.{gcd-within}
use Rattle.roots.proofs.ContentWhole.{Covered, covered, times-of}

-- the coefficients of a list of fractions
pub coeff-rats : (l : List Ratio) (i : ℕ) → P.coeff (rats l) i ≡ rat (get_or l i zero_r)
unfolding P.coeff
coeff-rats [] i = refl
coeff-rats (a ∷ l) zero = refl
coeff-rats (a ∷ l) (suc i) = coeff-rats l i

-- ---- the two parts of a content

-- a whole denominator above zero, within the range
record Den (d : Ratio) : Type 0 where
  number : ℕ
  is : d ≡ whole_r (pos number)
  some : 0 < number
  within : number ≤ limit

den-one : Den (whole_r (pos 1))
den-one = record { number = 1; is = refl; some = omega arith; within = omega arith }

-- the next one is the multiple of one denominator more
one-multiple : (d a m : Ratio) (D : Den d) → widened d a.den ≡ Ok m → Multiple (a ∷ []) D.number m
unfolding multiple_from
one-multiple d a m D e =
    let f : widened (whole_r (pos D.number)) a.den ≡ Ok m = ap (λ t. widened t a.den) (sym D.is) ∙ e in
    multiple-is (a ∷ []) D.number m D.some (rw f)

den-next : (d a : Ratio) → Den d → Den (denominator_of d a.den)
den-next d a D = go (widened d a.den) refl
  where
    go : (s : Result Ratio Reason) → widened d a.den ≡ s → Den (or_stay s d)
    go (Ok m) e =
        let M = one-multiple d a m D e in
        record { number = M.number; is = M.is; some = M.some; within = subst (λ z. nat_abs z ≤ limit) (ap (λ (r : Ratio). r.num) M.is) (widened-within d a.den m e) }
    go (Err why) e = D

-- the content of l is num / den; num divides n and each numerator
record Gathered (l : List Ratio) (n : ℕ) (r : Ratio) : Type 0 where
  num : ℕ
  den : ℕ
  is : r ≡ ratio_of (new_of (pos num) (pos den))
  some : 0 < den
  fraction : Fraction (record { num = pos num; den = pos den })
  start : num ∣ n
  divides : (i : ℕ) → i < length l → num ∣ nat_abs (get_or l i zero_r).num

gathered : (l : List Ratio) (n : ℕ) (d : Ratio) → n ≤ limit → Den d → ((i : ℕ) → i < length l → Within (get_or l i zero_r).num) → Gathered l n (content_from l n d)
unfolding content_from
gathered [] n d h D w = record {
  num = n;
  den = D.number;
  is = ap (λ (r : Ratio). ratio_of (new_of (pos n) r.num)) D.is;
  some = D.some;
  fraction = record { num-within = h; den-within = D.within; den-some = λ e. let z : D.number ≡ 0 = ap nat_abs e in absurd (omega (arith, D.some)) };
  start = dvd_refl n;
  divides = λ i k. absurd (omega arith);
}
gathered (a ∷ l) n d h D w =
    let b : ℕ = nat_abs a.num in
    let g = gathered l (gcd_of n b) (denominator_of d a.den) (gcd-within n b h (w 0 (omega arith))) (den-next d a D) (λ i k. w (suc i) (omega arith)) in
    let c = is-gcd n b in
    record {
      num = g.num;
      den = g.den;
      is = g.is;
      some = g.some;
      fraction = g.fraction;
      start = dvd_trans g.num g.start c.divides-a;
      divides = each g c;
    }
  where
    each : (g : Gathered l (gcd_of n (nat_abs a.num)) (content_from l (gcd_of n (nat_abs a.num)) (denominator_of d a.den))) → IsGcd n (nat_abs a.num) (gcd_of n (nat_abs a.num))
        → (i : ℕ) → i < suc (length l) → g.num ∣ nat_abs (get_or (a ∷ l) i zero_r).num
    each g c zero k = dvd_trans g.num g.start c.divides-b
    each g c (suc i) k = g.divides i (omega arith)

-- ---- the content of a canonical list

module _ (l : List Ratio) (c : Canonical l) where
  whole : Gathered l 0 (content_of l)
  whole = gathered l 0 (whole_r (pos 1)) (omega arith) den-one (λ i k. (c.lowest i).fraction.num-within)

  made : new_of (pos whole.num) (pos whole.den) ≡ Ok (content_of l)
  made = let e = new_is (pos whole.num) (pos whole.den) whole.fraction in e ∙ ap Ok (sym (whole.is ∙ ap ratio_of e))

  pub content-lowest : Lowest (content_of l)
  content-lowest = (new-done (pos whole.num) (pos whole.den) (content_of l) made).1

  content-same : Same (rat (content_of l)) (over (pos whole.num) (pos whole.den))
  content-same = (new-done (pos whole.num) (pos whole.den) (content_of l) made).0

  pub content-not-below : Less (rat (content_of l)) zero_q → ⊥
  content-not-below h = go whole.num whole.den (less-same-l (rat (content_of l)) (over (pos whole.num) (pos whole.den)) zero_q content-same h)
    where
      go : (n d : ℕ) → Less (over (pos n) (pos d)) zero_q → ⊥
      go n zero k = let q : 0 * 1 < 0 * 1 = ltb→lt (0 * 1) (0 * 1) k.lt in omega arith
      go n (suc d) k = let q : n * 1 < 0 * suc d = ltb→lt (n * 1) (0 * suc d) k.lt in omega arith

  pub content-zero : val (rat (content_of l)) ≡ 0ℚ → l ≡ []
  content-zero e =
      let z : pos whole.num ≡ pos 0 = over-nil (pos whole.num) (pos whole.den) whole.fraction.den-some (sym (val_same (rat (content_of l)) (over (pos whole.num) (pos whole.den)) content-same) ∙ e) in
      go l c whole.num (ap nat_abs z) whole.divides
    where
      go : (l : List Ratio) → Canonical l → (n : ℕ) → n ≡ 0 → ((i : ℕ) → i < length l → n ∣ nat_abs (get_or l i zero_r).num) → l ≡ []
      go [] c n e h = refl
      go (a ∷ l) c n e h =
          absurd (eqb-false (nat_abs (get_or (a ∷ l) (length l) zero_r).num) 0 (top-some a l c) (eq-zero_of_zero-dvd (subst (λ m. m ∣ nat_abs (get_or (a ∷ l) (length l) zero_r).num) e (h (length l) (omega arith)))))

-- the zero polynomial has content 0
pub content-nil : Same (rat (content_of [])) zero_q
unfolding content_from
content-nil = (new-done (pos 0) (pos 1) (ratio_of (new_of (pos 0) (pos 1))) (let e = new_is (pos 0) (pos 1) zero-lowest.fraction in e ∙ ap (λ s. Ok (ratio_of s)) (sym e))).0

-- ---- it divides the coefficients, where no common multiple left the range

above-den : (d : ℤ) → pos 0 <ℤ d → (n : ℕ) × (d ≡ pos n) × (0 < n)
above-den (pos n) h = (n, refl, ltb→lt 0 n h.lt)
above-den (negsuc n) h = absurd h.lt

den-over : (a : ℤ) (n : ℕ) → 0 < n → (over a (pos n)).den ≡ n
den-over a zero h = absurd (omega arith)
den-over a (suc n) h = refl

module _ (l : List Ratio) (c : Canonical l) (m : ℕ) (some : 0 < m) (h : m ≤ limit) (d : (i : ℕ) → (P.coeff (rats l) i).den ∣ m) where
  under : (i : ℕ) → Divided m (get_or l i zero_r)
  under i =
      let a : Ratio = get_or l i zero_r in
      let (n, e, k) = above-den a.den (c.lowest i).above in
      record { den = n; is = e; some = k; divides = subst (λ t. t ∣ m) (ap (λ (q : Rat). q.den) (coeff-rats l i) ∙ ap (λ z. (over a.num z).den) e ∙ den-over a.num n k) (d i) }

  cover : Covered l 0 1 (content_of l)
  cover = covered m some h l 0 1 (omega arith) (omega arith) (subst (λ t. 1 ∣ t) (omega arith) (dvd-mul_right 1 m)) (λ i j. (c.lowest i).fraction.num-within) (λ i j. under i)

  cover-same : Same (rat (content_of l)) (over (pos cover.num) (pos cover.den))
  cover-same =
      let f : Fraction (record { num = pos cover.num; den = pos cover.den }) = record { num-within = cover.num-within; den-within = cover.den-within; den-some = λ e. let z : cover.den ≡ 0 = ap nat_abs e in absurd (omega (arith, cover.some)) } in
      let e = new_is (pos cover.num) (pos cover.den) f in
      (new-done (pos cover.num) (pos cover.den) (content_of l) (e ∙ ap Ok (sym (cover.is ∙ ap ratio_of e)))).0

  numerators : (i : ℕ) → cover.num ∣ nat_abs (get_or l i zero_r).num
  numerators i = go (dec_lt i (length l))
    where
      go : Dec (i < length l) → cover.num ∣ nat_abs (get_or l i zero_r).num
      go (yes j) = cover.numerators i j
      go (no j) = subst (λ (a : Ratio). cover.num ∣ nat_abs a.num) (sym (get_or-eq_default l zero_r (omega arith))) (dvd-zero cover.num)

  denominators : (i : ℕ) → nat_abs (get_or l i zero_r).den ∣ cover.den
  denominators i = go (dec_lt i (length l))
    where
      go : Dec (i < length l) → nat_abs (get_or l i zero_r).den ∣ cover.den
      go (yes j) = cover.denominators i j
      go (no j) = subst (λ (a : Ratio). nat_abs a.den ∣ cover.den) (sym (get_or-eq_default l zero_r (omega arith))) cover.grows

  pub content-divides : (i : ℕ) → WholeTimes (rat (content_of l)) (P.coeff (rats l) i)
  content-divides i =
      let a : Ratio = get_or l i zero_r in
      let u = under i in
      let (z, e) = times-of a.num u.den cover.num cover.den u.some cover.some (numerators i) (subst (λ t. t ∣ cover.den) (ap nat_abs u.is) (denominators i)) in
      record {
        times = z;
        is = subst (λ q. Same q (mul_q (whole_q z) (rat (content_of l)))) (sym (coeff-rats l i))
            (subst (λ t. Same (over a.num t) (mul_q (whole_q z) (rat (content_of l)))) (sym u.is)
            (same-val (over a.num (pos u.den)) (mul_q (whole_q z) (rat (content_of l)))
            (val_same (over a.num (pos u.den)) (mul_q (whole_q z) (over (pos cover.num) (pos cover.den))) e ∙ val-mul (whole_q z) (over (pos cover.num) (pos cover.den))
            ∙ ap (λ v. val (whole_q z) *ℚ v) (sym (val_same (rat (content_of l)) (over (pos cover.num) (pos cover.den)) cover-same)) ∙ sym (val-mul (whole_q z) (rat (content_of l))))));
      }

-- ---- the promise

module _ (p : Poly) where
  refused-content : (door_of p ≡ Open → ⊥) → (why : Reason) → ContentPromise p (Err why)
  refused-content shut why = record {
    answered = λ e. absurd (shut e);
    lowest = λ s. absurd (never_done why s);
    not-below = λ s. absurd (never_done why s);
    of_zero = λ s. absurd (never_done why s);
    only_zero = λ s. absurd (never_done why s);
    divides = λ s. absurd (never_done why s);
  }

  open-content : Opened p → ContentPromise p (Ok (content_of (terms_of p)))
  open-content o = record {
    answered = λ e. refl;
    lowest = λ s. content-lowest (terms_of p) o.canonical;
    not-below = λ s. content-not-below (terms_of p) o.canonical;
    of_zero = λ s z. subst (λ l. Same (rat (content_of l)) zero_q) (sym (zero-nil (terms_of p) o.canonical z)) content-nil;
    only_zero = λ s e. nil-zero (terms_of p) (content-zero (terms_of p) o.canonical (val_same (rat (content_of (terms_of p))) zero_q e ∙ val-zero));
    divides = λ s. content-divides (terms_of p) o.canonical;
  }

  pub content-promise : ContentPromise p (content_for p)
  content-promise = entered-keeps Err (ContentPromise p) (door_of p) (Ok (content_of (terms_of p))) (λ e. open-content (opened p e)) refused-content
