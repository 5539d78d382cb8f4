-- A fraction in lowest terms has one spelling, which is read back.
use Rattle.std.specs.Prelude.{Ok, Err, Option, Some, None}
use mathlib.Core.Path.{◌≡◌, refl, sym, ap, ap₂, ◌∙◌}
use mathlib.Core.Bool.{Bool, true, false, not, cond, ◌&&◌}
use mathlib.Core.List.{List, [], ◌∷◌, ◌++◌, append-nil}
use Prim.Native.Nat.{ℕ, zero, suc, ◌<◌, ◌≤◌}
use native.Mathlib.Omega.{arith}
use borrow.Author.Tests.{le-ltb, le-leb, eq-eqb, ne_eqb, ltb-false, leb-true, eqb-true, eqb-false, not-true}
use lib.Dec.{ltb, leb, eqb}
use lib.IntN.{ℤ, pos, negsuc, nat_abs, neg_ℤ}
use lib.Signed.{lt_z}
use lib.ListN.{length, take, drop, drop_of_length-le, take-append-drop}
use lib.Seq.{take-length, take-append_seam, drop-append_seam}
use Rattle.ratio.specs.Gcd.{gcd_of}
use Rattle.ratio.specs.Range.{limit, Within, within}
use Rattle.ratio.specs.Step.{is_nil, is_fraction, is_lowest, signed}
use Rattle.ratio.specs.declared.Ratio.{Ratio}
use Rattle.ratio.specs.declared.Reason.TheVariants.{BadInput}
use Rattle.ratio.proofs.Binary.{gcd-comm}
use Rattle.ratio.proofs.Euclid.{gcd-one, gcd-zero}
use Rattle.ratio.proofs.Fractions.{and-true, no_size}
use Rattle.ratio.proofs.Words.{pos-neg}
use Rattle.text.specs.Spell.{decimal_of, whole_text, ratio_text}
use Rattle.text.proofs.Decimal.{decimal-one}
use Rattle.tokens.specs.Spelling.{natural_of}
use Rattle.tokens.specs.Words.{length_to}
use Rattle.reading.specs.Numbers.{whole_of, numerator_of, denominator_of, whole_step, fraction_step, ratio_in, ratio_from}
use Rattle.reading.proofs.Parts.{numerator-above}
use Rattle.reading.proofs.Avoids.{Avoids, avoids-head, length-all, length_part, at_mark, decimal-avoids, whole-avoids}
use Rattle.reading.proofs.Naturals.{natural-read, natural-spelt}

-- ---- whole numbers

denominator-read : (n : ℕ) → n ≤ limit → denominator_of (decimal_of n) ≡ Some (pos n)
denominator-read n h = rw (natural-read n (omega arith), le-ltb limit n h)

natural-some : (l : List ℕ) (n : ℕ) → natural_of l ≡ Some n → 0 < length l
unfolding natural_of
natural-some [] n e = let z : ◌≡◌ {A = ℕ} 0 1 = cc in absurd (omega arith)
natural-some (b ∷ l) n e = omega arith

decimal-some : (n : ℕ) → n ≤ limit → 0 < length (decimal_of n)
decimal-some n h = natural-some (decimal_of n) n (natural-read n (omega arith))

numerator-read : (z : ℤ) → Within z → numerator_of (whole_text z) ≡ Some z
unfolding numerator_of whole_text
numerator-read (pos n) h = sym (numerator-above (decimal_of n) (decimal-some n h) (avoids-head 45 (decimal_of n) (decimal-avoids 45 (omega arith) n) (decimal-some n h))) ∙ denominator-read n h
numerator-read (negsuc n) h = rw (natural-read (suc n) (omega arith), le-ltb limit (suc n) h, ne_eqb (suc n) 0 (λ e. omega arith))

-- a whole number that was read
record From (neg : Bool) (x : Option ℕ) (z : ℤ) : Type 0 where
  pub size : ℕ
  pub number : x ≡ Some size
  pub fits : size ≤ limit
  pub some : neg ≡ true → size ≡ 0 → ⊥
  pub is : z ≡ signed neg size

from-chosen : (neg : Bool) (m : ℕ) (z : ℤ) (t u : Bool) → ltb limit m ≡ t → (neg && eqb m 0) ≡ u → cond t None (cond u None (Some (signed neg m))) ≡ Some z → From neg (Some m) z
from-chosen neg m z true u e f h = let y : ◌≡◌ {A = ℕ} 0 1 = cc in absurd (omega arith)
from-chosen neg m z false true e f h = let y : ◌≡◌ {A = ℕ} 0 1 = cc in absurd (omega arith)
from-chosen neg m z false false e f h = record {
  size = m;
  number = refl;
  fits = ltb-false limit m e;
  some = λ n k. let y : ◌≡◌ {A = Bool} true false = sym (rw (n, eq-eqb m 0 k)) ∙ f in let y2 : ◌≡◌ {A = ℕ} 0 1 = cc in omega arith;
  is = cc;
}

from-of : (neg : Bool) (x : Option ℕ) (z : ℤ) → whole_of neg x ≡ Some z → From neg x z
from-of neg (Some m) z h = from-chosen neg m z (ltb limit m) (neg && eqb m 0) refl refl h
from-of neg None z h = let y : ◌≡◌ {A = ℕ} 0 1 = cc in absurd (omega arith)

record Whole-spelt (w : List ℕ) (z : ℤ) : Type 0 where
  pub text : w ≡ whole_text z
  pub fits : Within z

above-spelt : (l : List ℕ) (z : ℤ) → From false (natural_of l) z → Whole-spelt l z
unfolding whole_text
above-spelt l z f = record { text = natural-spelt l f.size f.number ∙ sym (ap whole_text f.is); fits = rw f.is f.fits }

below-spelt : (l : List ℕ) (z : ℤ) (m : ℕ) → natural_of l ≡ Some m → m ≤ limit → (m ≡ 0 → ⊥) → z ≡ neg_ℤ (pos m) → Whole-spelt (45 ∷ l) z
unfolding whole_text
below-spelt l z zero e h s i = absurd (s refl)
below-spelt l z (suc m) e h s i = record { text = ap (λ x. 45 ∷ x) (natural-spelt l (suc m) e) ∙ sym (ap whole_text i); fits = rw i h }

numerator-chosen : (b : ℕ) (l : List ℕ) (z : ℤ) (t : Bool) → eqb b 45 ≡ t → cond t (whole_of true (natural_of l)) (whole_of false (natural_of (b ∷ l))) ≡ Some z → Whole-spelt (b ∷ l) z
numerator-chosen b l z true e h = let f = from-of true (natural_of l) z h in rw (eqb-true b 45 e) (below-spelt l z f.size f.number f.fits (f.some refl) f.is)
numerator-chosen b l z false e h = above-spelt (b ∷ l) z (from-of false (natural_of (b ∷ l)) z h)

numerator-spelt : (w : List ℕ) (z : ℤ) → numerator_of w ≡ Some z → Whole-spelt w z
unfolding numerator_of
numerator-spelt [] z h = let y : ◌≡◌ {A = ℕ} 0 1 = cc in absurd (omega arith)
numerator-spelt (b ∷ l) z h = numerator-chosen b l z (eqb b 45) refl h

-- ---- lowest terms

pub record Low (n d : ℤ) : Type 0 where
  pub under : ℕ
  pub is : d ≡ pos under
  pub upper : Within n
  pub lower : under ≤ limit
  pub some : under ≡ 0 → ⊥
  pub common : gcd_of (nat_abs n) under ≡ 1

pub low_of : (n d : ℤ) → is_lowest (record { num = n; den = d }) ≡ true → Low n d
low_of n (pos m) e =
    let p = and-true (is_fraction (record { num = n; den = pos m })) _ e in
    let q = and-true (within n) _ p.0 in
    let r = and-true (leb m limit) _ q.1 in
    let s = and-true (not (lt_z (pos m) (pos 0))) _ p.1 in
    record {
      under = m;
      is = refl;
      upper = leb-true (nat_abs n) limit q.0;
      lower = leb-true m limit r.0;
      some = eqb-false m 0 (not-true (eqb m 0) r.1);
      common = eqb-true (gcd_of (nat_abs n) m) 1 s.1;
    }
low_of n (negsuc m) e =
    let p = and-true (is_fraction (record { num = n; den = negsuc m })) _ e in
    let s : false ≡ true = p.1 in
    let y : ◌≡◌ {A = ℕ} 0 1 = cc in
    absurd (omega arith)

low-to : (n : ℤ) (m : ℕ) → Within n → m ≤ limit → (m ≡ 0 → ⊥) → gcd_of (nat_abs n) m ≡ 1 → is_lowest (record { num = n; den = pos m }) ≡ true
low-to n m a b c g = rw (le-leb (nat_abs n) limit a, le-leb m limit b, ne_eqb m 0 c, pos-neg m, g)

-- ---- what is written is read

parts_whole : (w : List ℕ) → Avoids 47 w → ratio_from w ≡ whole_step (numerator_of w)
unfolding ratio_from
parts_whole w a = let e : drop (length w) w ≡ [] = drop_of_length-le w {i = length w} (omega arith) in rw (length-all 47 w a, take-length, e)

parts-over : (w d : List ℕ) → Avoids 47 w → ratio_from (w ++ (47 ∷ d)) ≡ fraction_step (numerator_of w) (denominator_of d)
unfolding ratio_from
parts-over w d a = rw (length_part 47 w d a, take-append_seam w (47 ∷ d), drop-append_seam w (47 ∷ d))

module _ (n : ℤ) (m : ℕ) (u : Within n) (v : m ≤ limit) (s : m ≡ 0 → ⊥) (g : gcd_of (nat_abs n) m ≡ 1) where
  whole-reads : m ≡ 1 → ratio_from (whole_text n) ≡ Ok (record { num = n; den = pos m })
  whole-reads e = parts_whole (whole_text n) (whole-avoids 47 (omega arith) (λ z. omega arith) n) ∙ ap whole_step (numerator-read n u) ∙ rw e

  over_reads : (m ≡ 1 → ⊥) → ratio_from (whole_text n ++ (47 ∷ decimal_of m)) ≡ Ok (record { num = n; den = pos m })
  over_reads e =
      parts-over (whole_text n) (decimal_of m) (whole-avoids 47 (omega arith) (λ z. omega arith) n)
      ∙ ap₂ fraction_step (numerator-read n u) (denominator-read m v)
      ∙ rw (le-ltb m 2 (omega (arith, s, e)), g)

  text-reads : (t : Bool) → eqb m 1 ≡ t → ratio_from (cond t (whole_text n) (whole_text n ++ (47 ∷ whole_text (pos m)))) ≡ Ok (record { num = n; den = pos m })
  unfolding whole_text
  text-reads true e = whole-reads (eqb-true m 1 e)
  text-reads false e = over_reads (eqb-false m 1 e)

low_reads : (n d : ℤ) → Low n d → ratio_from (ratio_text (record { num = n; den = d })) ≡ Ok (record { num = n; den = d })
unfolding ratio_text
low_reads n d l = rw l.is (text-reads n l.under l.upper l.lower l.some l.common (eqb l.under 1) refl)

pub ratio-reads : (r : Ratio) → is_lowest r ≡ true → ratio_from (ratio_text r) ≡ Ok r
ratio-reads r e = low_reads r.num r.den (low_of r.num r.den e)

-- ---- what is read was written

record Step-spelt (w : List ℕ) (r : Ratio) : Type 0 where
  pub text : w ≡ ratio_text r
  pub lowest : is_lowest r ≡ true

whole-step : (w : List ℕ) (x : Option ℤ) (r : Ratio) → numerator_of w ≡ x → whole_step x ≡ Ok r → Step-spelt w r
unfolding ratio_text
whole-step w (Some z) r e h =
    let k = numerator-spelt w z e in
    let q : ◌≡◌ {A = Ratio} (record { num = z; den = pos 1 }) r = cc in
    rw (sym q) (record { text = k.text; lowest = low-to z 1 k.fits (omega arith) (λ y. omega arith) (gcd-one (nat_abs z)) })
whole-step w None r e h = let y : ◌≡◌ {A = ℕ} 0 1 = cc in absurd (omega arith)

over-chosen : (n d : List ℕ) (z : ℤ) (m : ℕ) (r : Ratio) → Whole-spelt n z → d ≡ decimal_of m → m ≤ limit → (t u : Bool) → lt_z (pos m) (pos 2) ≡ t → eqb (gcd_of (nat_abs z) m) 1 ≡ u → cond t (Err BadInput) (cond u (Ok (record { num = z; den = pos m })) (Err BadInput)) ≡ Ok r → Step-spelt (n ++ (47 ∷ d)) r
unfolding ratio_text whole_text
over-chosen n d z m r k e b true u f g h = let y : ◌≡◌ {A = ℕ} 0 1 = cc in absurd (omega arith)
over-chosen n d z m r k e b false false f g h = let y : ◌≡◌ {A = ℕ} 0 1 = cc in absurd (omega arith)
over-chosen n d z m r k e b false true f g h =
    let q : ◌≡◌ {A = Ratio} (record { num = z; den = pos m }) r = cc in
    let c : 2 ≤ m = ltb-false m 2 f in
    rw (sym q) (record {
      text = rw (ne_eqb m 1 (λ y. omega arith)) (ap₂ (λ (x y : List ℕ). x ++ (47 ∷ y)) k.text e);
      lowest = low-to z m k.fits b (λ y. omega arith) (eqb-true (gcd_of (nat_abs z) m) 1 g);
    })

over-step : (n d : List ℕ) (x y : Option ℤ) (r : Ratio) → numerator_of n ≡ x → denominator_of d ≡ y → fraction_step x y ≡ Ok r → Step-spelt (n ++ (47 ∷ d)) r
over-step n d (Some z) (Some y) r e f h =
    let k = from-of false (natural_of d) y f in
    over-chosen n d z k.size r (numerator-spelt n z e) (natural-spelt d k.size k.number) k.fits (lt_z (pos k.size) (pos 2)) (eqb (gcd_of (nat_abs z) k.size) 1) refl refl (rw k.is at h)
over-step n d (Some z) None r e f h = let y : ◌≡◌ {A = ℕ} 0 1 = cc in absurd (omega arith)
over-step n d None y r e f h = let y : ◌≡◌ {A = ℕ} 0 1 = cc in absurd (omega arith)

step_from : (w n : List ℕ) (d : List ℕ) (r : Ratio) → n ++ d ≡ w → ((b : ℕ) (t : List ℕ) → d ≡ b ∷ t → b ≡ 47) → ratio_in n d ≡ Ok r → Step-spelt w r
step_from w n [] r e m h = rw (← e, append-nil) (whole-step n (numerator_of n) r refl h)
step_from w n (b ∷ d) r e m h = rw (← e, m b d refl) (over-step n d (numerator_of n) (denominator_of d) r refl refl h)

ratio-step : (w : List ℕ) (r : Ratio) → ratio_from w ≡ Ok r → Step-spelt w r
unfolding ratio_from
ratio-step w r h = step_from w (take (length_to 47 w) w) (drop (length_to 47 w) w) r (take-append-drop (length_to 47 w) w) (at_mark 47 w) h

pub ratio-spelt : (w : List ℕ) (r : Ratio) → ratio_from w ≡ Ok r → (w ≡ ratio_text r) × (is_lowest r ≡ true)
ratio-spelt w r h = let k = ratio-step w r h in (k.text, k.lowest)

-- zero is `0`
nil-low : (n d : ℤ) → Low n d → nat_abs n ≡ 0 → ratio_text (record { num = n; den = d }) ≡ 48 ∷ []
unfolding ratio_text whole_text
nil-low n d l q =
    let c : gcd_of 0 l.under ≡ 1 = ap (λ k. gcd_of k l.under) (sym q) ∙ l.common in
    let m : l.under ≡ 1 = sym (gcd-comm 0 l.under ∙ gcd-zero l.under) ∙ c in
    let e : d ≡ pos 1 = l.is ∙ ap pos m in
    let z : n ≡ pos 0 = no_size n q in
    rw (e, z) (decimal-one 0 (omega arith))

pub nil-text : (r : Ratio) → is_lowest r ≡ true → is_nil r.num ≡ true → ratio_text r ≡ 48 ∷ []
nil-text r e n = nil-low r.num r.den (low_of r.num r.den e) (eqb-true (nat_abs r.num) 0 n)
