-- The promise of the count at the door.
use Rattle.ratio.specs.Refusal.{status_of}
use mathlib.Core.Path.{◌≡◌, refl, sym, ap, subst, ◌∙◌}
use mathlib.Core.Bool.{Bool, true, false, ◌&&◌}
use mathlib.Core.List.{List, [], ◌∷◌}
use Prim.Native.Nat.{ℕ, ◌-◌, ◌≤◌, ◌<◌}
use native.Mathlib.Omega.{arith}
use lib.Ieee.{Float}
use lib.ListN.{length, length-map}
use Rattle.algebra.specs.Textbook.{HasDegree, IsZero}
use Rattle.ratio.specs.declared.Ratio.{Ratio}
use Rattle.ratio.specs.declared.Reason.{Reason}
use Rattle.terms.specs.declared.Poly.{Poly}
use Rattle.terms.specs.Machine.{Ran, fine, over, plain}
use Rattle.terms.specs.Meaning.{rats}
use Rattle.terms.specs.Poly.{terms_of, trim}
use Rattle.terms.proofs.MeaningCanonical.{Canonical, empty-canonical}
use Rattle.terms.proofs.MeaningStep.{same_answer}
use Rattle.poly.specs.declared.Gate.{Gate}
use Rattle.poly.specs.declared.Gate.TheVariants.{Open, Bad}
use Rattle.poly.specs.Door.{door_of, open_if, both, entered}
use Rattle.poly.specs.Promise.{reading}
use Rattle.poly.proofs.Canonical.{Opened, opened, both-open}
use Rattle.poly.proofs.Doors.{door-long}
use Rattle.remainders.specs.Gcd.{square_free}
use Rattle.remainders.proofs.MeaningDivision.{cons-some}
use Rattle.remainders.proofs.MeaningFree.{SquareFreePart, square-free-means}
use Rattle.euclid.proofs.Doors.{never_done, entered-keeps, nil-zero, zero-nil, degree-length, divisor-short}
use Rattle.yun.specs.Got.{Got, got, none, then_got, list_from}
use Rattle.chain.specs.Sequence.{sequence_of}
use Rattle.chain.proofs.MeaningChain.{sequence-means}
use Rattle.chain.proofs.Refusals.{Overflows, list_over, then-over, sequence-over}
use Rattle.sturm.specs.declared.Count.{Count}
use Rattle.sturm.specs.Value.{floats_of}
use Rattle.sturm.specs.Changes.{changes}
use Rattle.sturm.specs.Along.{rows_of, signs_at}
use Rattle.sturm.specs.Count.{inside, ends_of, no_count, count_of, count_from, count_for}
use Rattle.sturm.specs.Promise.{Counts, CountPromise}
use Rattle.sturm.proofs.Few.{changes-few}

-- ---- the square-free part, of zero too

pub record Part (p f : List Ratio) : Type 0 where
  pub is : (p ≡ [] → ⊥) → SquareFreePart p f
  pub canonical : Canonical f
  pub short : length f ≤ length p

pub part-means : (p : List Ratio) → Canonical p → (k : ℕ) (f : List Ratio) → square_free plain p 0 ≡ fine k f → Part p f
unfolding square_free
part-means [] c k f e = subst (Part []) (same_answer 0 k [] f e) (record { is = λ some. absurd (some refl); canonical = empty-canonical; short = omega arith })
part-means (a ∷ p) c k f e =
    let s = square-free-means (a ∷ p) c (cons-some a p) 0 k f e in
    record { is = λ some. s; canonical = s.canonical; short = divisor-short f (a ∷ p) s.canonical c (cons-some a p) s.divides }

-- ---- the count

record Counted (p : List Ratio) (lo hi : Float) (n : ℕ) : Type 0 where
  pub is : Counts (rats p) lo hi n
  pub few : n ≤ length p - 1

module _ (p : List Ratio) (c : Canonical p) (lo hi : Float) (n : ℕ) where
  counted-chain : (f : List Ratio) → Part p f → (s : Got (List (List Ratio))) → sequence_of f ≡ s → then_got s (λ l. got (changes (signs_at (rows_of l) lo) - changes (signs_at (rows_of l) hi))) ≡ got n → Counted p lo hi n
  counted-chain f t (got l) e g =
      let q = sequence-means f t.canonical l e in
      let i : n ≡ changes (signs_at (rows_of l) lo) - changes (signs_at (rows_of l) hi) = cc in
      record {
        is = record {
          part = f;
          chain = l;
          divides = λ h. (t.is (λ z. h (nil-zero p z))).divides;
          roots_kept = λ h x. ((t.is (λ z. h (nil-zero p z))).same-roots x).1;
          roots-only = λ h x. ((t.is (λ z. h (nil-zero p z))).same-roots x).0;
          is-chain = q.is;
          number = i;
        };
        few = omega (arith, i, changes-few (rows_of l) lo, length-map l floats_of, q.few, t.short);
      }
  counted-chain f t (none why) e g = absurd (let z : ◌≡◌ {A = ℕ} 0 1 = cc in omega arith)

  counted-part : (r : Ran ℕ (List Ratio)) → square_free plain p 0 ≡ r → then_got (list_from r) (λ f. then_got (sequence_of f) (λ l. got (changes (signs_at (rows_of l) lo) - changes (signs_at (rows_of l) hi)))) ≡ got n → Counted p lo hi n
  counted-part (fine k f) e g =
      let t = part-means p c k f e in
      counted-chain (trim f) (subst (Part p) (sym t.canonical.trimmed) t) (sequence_of (trim f)) refl g
  counted-part (over k) e g = absurd (let z : ◌≡◌ {A = ℕ} 0 1 = cc in omega arith)

  counted-means : count_from p lo hi ≡ got n → Counted p lo hi n
  unfolding count_from
  counted-means g = counted-part (square_free plain p 0) refl g

count-over : (p : List Ratio) (lo hi : Float) → Overflows (count_from p lo hi)
unfolding count_from
count-over p lo hi = then-over (list_from (square_free plain p 0)) _ (list_over (square_free plain p 0)) (λ f. then-over (sequence_of f) _ (sequence-over f) (λ l. tt))

-- ---- the door

module _ (p : Poly) (lo hi : Float) where
  ends-bad : (inside lo && inside hi) ≡ false → status_of (count_for p lo hi).outcome ≡ 5
  ends-bad h = ap (λ (b : Bool). status_of (entered no_count (both (open_if b) (door_of p)) (count_of (count_from (terms_of p) lo hi))).outcome) h

  not-canonical : door_of p ≡ Bad → status_of (count_for p lo hi).outcome ≡ 5
  not-canonical e = go (inside lo && inside hi)
    where
      go : (b : Bool) → status_of (entered no_count (both (open_if b) (door_of p)) (count_of (count_from (terms_of p) lo hi))).outcome ≡ 5
      go true = ap (λ (d : Gate). status_of (entered no_count d (count_of (count_from (terms_of p) lo hi))).outcome) e
      go false = refl

  too_long : (inside lo && inside hi) ≡ true → 32 < p.len → status_of (count_for p lo hi).outcome ≡ 4
  too_long h k =
      ap (λ (b : Bool). status_of (entered no_count (both (open_if b) (door_of p)) (count_of (count_from (terms_of p) lo hi))).outcome) h
      ∙ ap (λ (d : Gate). status_of (entered no_count d (count_of (count_from (terms_of p) lo hi))).outcome) (sym (door-long p k))

  -- the part of the promise that doesn't ask why the door is shut
  record Kept (r : Count) : Type 0 where
    pub counts : status_of r.outcome ≡ 0 → Counts (reading p) lo hi r.count
    pub few : (n : ℕ) → HasDegree (reading p) n → r.count ≤ n
    pub of_zero : IsZero (reading p) → r.count ≡ 0
    pub refused : (status_of r.outcome ≡ 0 → ⊥) → r.count ≡ 0
    pub over : both (ends_of lo hi) (door_of p) ≡ Open → (status_of r.outcome ≡ 0 → ⊥) → status_of r.outcome ≡ 2

  shut-kept : (both (ends_of lo hi) (door_of p) ≡ Open → ⊥) → (why : Reason) → Kept (no_count why)
  shut-kept shut why = record { counts = λ s. absurd (never_done why s); few = λ n d. omega arith; of_zero = λ z. refl; refused = λ s. refl; over = λ o. absurd (shut o) }

  open_kept : Opened p → (s : Got ℕ) → count_from (terms_of p) lo hi ≡ s → Overflows s → Kept (count_of s)
  open_kept o (got n) e h =
      let t = counted-means (terms_of p) o.canonical lo hi n e in
      record {
        counts = λ s. t.is;
        few = λ m d. omega (arith, t.few, degree-length (terms_of p) m o.canonical d);
        of_zero = λ z. omega (arith, t.few, ap length (zero-nil (terms_of p) o.canonical z));
        refused = λ s. absurd (s refl);
        over = λ d s. absurd (s refl);
      }
  open_kept o (none why) e h = record { counts = λ s. absurd (never_done why s); few = λ n d. omega arith; of_zero = λ z. refl; refused = λ s. refl; over = λ d s. rw h refl }

  kept : Kept (count_for p lo hi)
  kept = entered-keeps no_count Kept (both (ends_of lo hi) (door_of p)) (count_of (count_from (terms_of p) lo hi))
      (λ d. open_kept (opened p (both-open (ends_of lo hi) (door_of p) d).1) (count_from (terms_of p) lo hi) refl (count-over (terms_of p) lo hi)) shut-kept

  count-promise : CountPromise p lo hi (count_for p lo hi)
  count-promise = record {
    counts = kept.counts;
    few = kept.few;
    of_zero = kept.of_zero;
    refused = kept.refused;
    ends = ends-bad;
    bad = not-canonical;
    long = too_long;
    over = λ i o. kept.over (ap (λ (b : Bool). both (open_if b) (door_of p)) i ∙ o);
  }

  pub count-both : (r : Count) → r ≡ count_for p lo hi → (r ≡ count_for p lo hi) × CountPromise p lo hi r
  count-both r e = (e, subst (CountPromise p lo hi) (sym e) count-promise)
