-- What the primitive part is: the polynomial times a rational that isn't zero, its lead above zero, canonical.
use Rattle.std.specs.Prelude.{Result, Ok, Err}
use mathlib.Core.Path.{◌≡◌, refl, sym, ap, subst, ◌∙◌}
use mathlib.Core.Logic.{◌≢◌}
use mathlib.Core.Bool.{Bool, true, false}
use mathlib.Core.List.{List, [], ◌∷◌}
use Prim.Native.Nat.{ℕ, zero, suc, ◌*◌, ◌-◌, ◌<◌, ◌≤◌, zero-le}
use native.Mathlib.Omega.{arith}
use borrow.Author.Tests.{le-ltb, ltb-true, eqb-true}
use lib.Dec.{lt→ltb}
use lib.IntN.{ℤ, pos, negsuc, neg_ℤ, nat_abs}
use lib.ListN.{length, get_or}
use lib.Signed.{lt_z, ◌<ℤ◌}
use Rattle.algebra.specs.Rational.{Rat, Same, Less, zero_q, neg_q, over}
use Rattle.algebra.specs.Polynomial as P
use Rattle.algebra.specs.Textbook.{HasDegree, IsZero}
use Rattle.algebra.proofs.Ring.{neg-mul, neg-neg, neg-nil}
use Rattle.algebra.proofs.Rational.{ℚ-ring, 0ℚ, val, val_same, val-zero, val-neg, over-nil}
use Rattle.algebra.proofs.Poly.{Poly-ring, con_p, neg_p}
use Rattle.algebra.proofs.Constants.{con-neg}
use Rattle.algebra.proofs.Lists.{◌*P◌, poly-scaled, poly-equal}
use Rattle.ratio.specs.Promise.{rat}
use Rattle.ratio.specs.Refusal.{zero_r}
use Rattle.ratio.specs.Step.{is_nil, neg_of, inv_of}
use Rattle.ratio.specs.declared.Ratio.{Ratio}
use Rattle.ratio.specs.declared.Reason.{Reason}
use Rattle.ratio.specs.declared.Reason.TheVariants.{CoeffOverflow}
use Rattle.ratio.proofs.Fractions.{no_size, nil-some}
use Rattle.ratio.proofs.Steps.{value, nil-value, inv-done, inv-fits, inv-is, neg-kept}
use Rattle.terms.specs.declared.Poly.{Poly}
use Rattle.terms.specs.Answer.{done_with, refused_with, answer_of, negated_of}
use Rattle.terms.specs.Machine.{Ran, fine, over as ran_over, plain}
use Rattle.terms.specs.Meaning.{rats}
use Rattle.terms.specs.Poly.{terms_of, poly_of}
use Rattle.terms.specs.Work.{scaled}
use Rattle.terms.proofs.Meaning.{poly_r}
use Rattle.terms.proofs.MeaningCanonical.{Canonical, top-some}
use Rattle.terms.proofs.MeaningDegree.{scaled-length, scaled-canonical, negated-length, negated-canonical}
use Rattle.terms.proofs.MeaningEach.{each_at}
use Rattle.terms.proofs.MeaningStep.{uncounted-done}
use Rattle.terms.proofs.MeaningSum.{scaled-poly, scaled-means, negated-poly}
use Rattle.poly.specs.declared.Gate.TheVariants.{Open}
use Rattle.poly.specs.Door.{door_of}
use Rattle.poly.specs.Promise.{reading}
use Rattle.poly.proofs.Canonical.{Opened, opened, open-poly, open-nil}
use Rattle.euclid.proofs.Doors.{never_done, entered-keeps, nil-zero, zero-nil, degree-length, answer-canonical}
use Rattle.roots.specs.Content.{content_of, is_below, counting, turn_if, upright, over_content, primitive_of}
use Rattle.roots.specs.ContentPromise.{PrimitivePromise}
use Rattle.roots.proofs.Contents.{coeff-rats, content-lowest, content-zero, content-nil}

-- ---- the lead

above-over : (n d : ℤ) → pos 0 <ℤ d → is_nil n ≡ false → lt_z n (pos 0) ≡ false → Less zero_q (over n d)
above-over (pos zero) d h e f = let z : ◌≡◌ {A = ℕ} 0 1 = cc in absurd (omega arith)
above-over (pos (suc n)) (pos zero) h e f = absurd h.lt
above-over (pos (suc n)) (pos (suc d)) h e f = record { lt = lt→ltb (0 * suc d) (suc n * 1) (omega arith) }
above-over (pos (suc n)) (negsuc d) h e f = absurd h.lt
above-over (negsuc n) d h e f = let z : ◌≡◌ {A = ℕ} 0 1 = cc in absurd (omega arith)

lead-above : (l : List Ratio) → Canonical l → is_below l ≡ false → (n : ℕ) → HasDegree (rats l) n → Less zero_q (P.coeff (rats l) n)
lead-above [] c b n d = absurd (let e = degree-length [] n c d in omega arith)
lead-above (a ∷ l) c b n d =
    let e : suc (length l) ≡ suc n = degree-length (a ∷ l) n c d in
    let f : length l ≡ n = omega arith in
    let g : suc (length l) - 1 ≡ length l = omega arith in
    let x : Ratio = get_or (a ∷ l) (length l) zero_r in
    subst (λ m. Less zero_q (P.coeff (rats (a ∷ l)) m)) f
    (subst (λ q. Less zero_q q) (sym (coeff-rats (a ∷ l) (length l)))
    (above-over x.num x.den (c.lowest (length l)).above (top-some a l c) (ap (λ m. lt_z (get_or (a ∷ l) m zero_r).num (pos 0)) (sym g) ∙ b)))

negated-sign : (x : ℤ) → lt_z x (pos 0) ≡ true → lt_z (neg_ℤ x) (pos 0) ≡ false
negated-sign (pos n) e = absurd (omega (arith, ltb-true n 0 e))
negated-sign (negsuc n) e = le-ltb (suc n) 0 zero-le

-- the negative of a list whose lead is below zero has its lead above
turned-above : (l : List Ratio) → Canonical l → is_below l ≡ true → (k : ℕ) (m : List Ratio) → negated_of l ≡ fine k m → is_below m ≡ false
unfolding negated_of
turned-above [] c b k m e = let z : ◌≡◌ {A = ℕ} 0 1 = cc in absurd (omega arith)
turned-above (a ∷ l) c b k m e =
    let n : ℕ = suc (length l) - 1 in
    let s : length m ≡ suc (length l) = negated-length (a ∷ l) k m e in
    let h : n < suc (length l) = omega arith in
    let w = each_at _ (suc (length l)) 0 k m e zero_r n h in
    let x : Ratio = get_or (a ∷ l) n zero_r in
    let u : neg_of x ≡ Ok (get_or m n zero_r) = uncounted-done w.before w.after (neg_of x) (get_or m n zero_r) w.is in
    let v : Ok (record { num = neg_ℤ x.num; den = x.den }) ≡ Ok (get_or m n zero_r) = sym (neg-kept x (c.lowest n)) ∙ u in
    let y : neg_ℤ x.num ≡ (get_or m n zero_r).num = ap (λ (t : Result Ratio Reason). pick t) v in
    let q : length m - 1 ≡ n = omega arith in
    ap (λ i. lt_z (get_or m i zero_r).num (pos 0)) q ∙ ap (λ z. lt_z z (pos 0)) (sym y) ∙ negated-sign x.num b
  where
    pick : Result Ratio Reason → ℤ
    pick (Ok r) = r.num
    pick (Err why) = pos 0

-- ---- the content's inverse

module _ (p : Poly) (o : Opened p) where
  abbrev F : List Ratio
  F = terms_of p

  C : Canonical F
  C = o.canonical

  few : length F ≤ 32
  few = o.few

  -- a content of zero is that of zero
  content-none : (content_of F).num ≡ pos 0 → IsZero (reading p)
  content-none e = nil-zero F (content-zero F C (nil-value (content_of F) (content-lowest F C).fraction (ap is_nil e)))

  module _ (c : Ratio) (i : inv_of (content_of F) ≡ Ok c) where
    some-factor : value c ≢ 0ℚ
    some-factor e =
        let f = inv-fits (content_of F) c i in
        f.a-fraction.den-some (over-nil (content_of F).den (content_of F).num f.some (sym (val_same (rat c) (over (content_of F).den (content_of F).num) (inv-done (content_of F) c i).0) ∙ e))

    not-zero : IsZero (reading p) → ⊥
    not-zero z =
        let f = inv-fits (content_of F) c i in
        let s : Same (rat (content_of F)) zero_q = subst (λ l. Same (rat (content_of l)) zero_q) (sym (zero-nil F C z)) content-nil in
        f.some (over-nil (content_of F).num (content_of F).den f.a-fraction.den-some (val_same (rat (content_of F)) zero_q s ∙ val-zero))

    refused-part : (why : Reason) (k : ℕ) → PrimitivePromise p (refused_with why k)
    refused-part why k = record { is = λ h s. absurd (never_done why s); lead = λ h s. absurd (never_done why s); of_zero = λ z s. absurd (never_done why s); canonical = open-nil }

    -- an answered list that is a multiple, with its lead above zero
    done-part : (k j : ℕ) (l : List Ratio) (q : Rat) → val q ≢ 0ℚ → P.Equal (rats l) (P.scaled q (rats F)) → Canonical l → length l ≤ 32 → is_below l ≡ false → PrimitivePromise p (counting k (answer_of (fine j l)))
    done-part k j l q v e c n b =
        let t : terms_of (answer_of (fine j l)).poly ≡ l = answer-canonical j l c in
        record {
          is = λ h s. record { factor = q; some = λ z. v (val_same q zero_q z ∙ val-zero); is = subst (λ m. P.Equal (rats m) (P.scaled q (rats F))) (sym t) e };
          lead = λ h s. subst (λ m. (n : ℕ) → HasDegree (rats m) n → Less zero_q (P.coeff (rats m) n)) (sym t) (lead-above l c b);
          of_zero = λ z s. absurd (not-zero z);
          canonical = subst (λ m. door_of (poly_of m) ≡ Open) (sym c.trimmed) (open-poly l n c);
        }

    module _ (k : ℕ) (l : List Ratio) (e : scaled plain F c 0 ≡ fine k l) where
      L : Canonical l
      L = scaled-canonical F c C some-factor 0 k l e

      short : length l ≤ 32
      short = let s = scaled-length F c 0 k l e in omega (arith, few)

      turned-equal : (j : ℕ) (m : List Ratio) → negated_of l ≡ fine j m → P.Equal (rats m) (P.scaled (neg_q (rat c)) (rats F))
      turned-equal j m f = poly-equal (rats m) (P.scaled (neg_q (rat c)) (rats F))
          (negated-poly l j m f ∙ ap (neg_p ℚ-ring) (scaled-poly F c 0 k l e) ∙ sym (neg-mul (Poly-ring ℚ-ring) (con_p ℚ-ring (value c)) (poly_r F))
          ∙ ap (λ z. z *P poly_r F) (sym (ap (con_p ℚ-ring) (val-neg (rat c)) ∙ con-neg ℚ-ring (value c))) ∙ sym (poly-scaled (neg_q (rat c)) (rats F)))

      negative : val (neg_q (rat c)) ≢ 0ℚ
      negative z = some-factor (sym (neg-neg ℚ-ring (value c)) ∙ ap ℚ-ring.neg (sym (val-neg (rat c)) ∙ z) ∙ neg-nil ℚ-ring)

      turned-part : is_below l ≡ true → (r : Ran ℕ (List Ratio)) → negated_of l ≡ r → PrimitivePromise p (counting k (answer_of r))
      turned-part b (fine j m) f =
          done-part k j m (neg_q (rat c)) negative (turned-equal j m f) (negated-canonical l L j m f) (let s = negated-length l j m f in omega (arith, short)) (turned-above l L b j m f)
      turned-part b (ran_over j) f = refused-part CoeffOverflow k

      fine-part : PrimitivePromise p (upright (answer_of (fine k l)))
      fine-part = subst (λ m. PrimitivePromise p (turn_if (is_below m) (answer_of (fine k l)))) (sym t) (go (is_below l) refl)
        where
          t : terms_of (answer_of (fine k l)).poly ≡ l
          t = answer-canonical k l L

          go : (b : Bool) → is_below l ≡ b → PrimitivePromise p (turn_if b (answer_of (fine k l)))
          go true b = subst (λ m. PrimitivePromise p (counting k (answer_of (negated_of m)))) (sym t) (turned-part b (negated_of l) refl)
          go false b = done-part k k l (rat c) some-factor (scaled-means F c 0 k l e) L short b

    scaled-part : (r : Ran ℕ (List Ratio)) → scaled plain F c 0 ≡ r → PrimitivePromise p (upright (answer_of r))
    scaled-part (fine k l) e = fine-part k l e
    scaled-part (ran_over k) e = refused-part CoeffOverflow k

  -- the polynomial itself, where its content is zero
  same-part : door_of p ≡ Open → (why : Reason) → inv_of (content_of F) ≡ Err why → PrimitivePromise p (done_with p 0)
  same-part d why i = record {
    is = λ h s. absurd (h zero_one);
    lead = λ h s. absurd (h zero_one);
    of_zero = λ z s. z;
    canonical = d;
  }
    where
      zero_one : IsZero (reading p)
      zero_one = go (is_nil (content_of F).num) refl
        where
          go : (t : Bool) → is_nil (content_of F).num ≡ t → IsZero (reading p)
          go true e = content-none (no_size (content_of F).num (eqb-true (nat_abs (content_of F).num) 0 e))
          go false e = let g = inv-is (content_of F) (content-lowest F C).fraction (nil-some (content_of F).num e) in let z : ◌≡◌ {A = ℕ} 0 1 = cc in absurd (omega arith)

  part-open : door_of p ≡ Open → (s : Result Ratio Reason) → inv_of (content_of F) ≡ s → PrimitivePromise p (over_content p s)
  part-open d (Ok c) i = scaled-part c i (scaled plain F c 0) refl
  part-open d (Err why) i = same-part d why i

shut-part : (p : Poly) → (door_of p ≡ Open → ⊥) → (why : Reason) → PrimitivePromise p (refused_with why 0)
shut-part p shut why = record { is = λ h s. absurd (never_done why s); lead = λ h s. absurd (never_done why s); of_zero = λ z s. absurd (never_done why s); canonical = open-nil }

pub primitive-promise : (p : Poly) → PrimitivePromise p (primitive_of p)
primitive-promise p = entered-keeps (λ why. refused_with why 0) (PrimitivePromise p) (door_of p) _ (λ e. part-open p (opened p e) e (inv_of (content_of (terms_of p))) refl) (shut-part p)
