-- The promise of the isolation at the door.
use mathlib.Core.Path.{◌≡◌, refl, sym, ap, subst, ◌∙◌}
use mathlib.Core.Bool.{Bool, true, false}
use mathlib.Core.List.{List, []}
use Prim.Native.Nat.{ℕ, ◌<◌}
use native.Mathlib.Omega.{arith}
use lib.Ieee.{Float}
use Rattle.ratio.specs.Refusal.{number_of, status_of}
use Rattle.ratio.specs.declared.Ratio.{Ratio}
use Rattle.ratio.specs.declared.Reason.{Reason}
use Rattle.terms.specs.declared.Poly.{Poly}
use Rattle.terms.specs.Machine.{Ran, fine, over, plain}
use Rattle.terms.specs.Meaning.{rats}
use Rattle.terms.specs.Poly.{terms_of, trim}
use Rattle.terms.proofs.MeaningCanonical.{Canonical}
use Rattle.poly.specs.declared.Gate.{Gate}
use Rattle.poly.specs.declared.Gate.TheVariants.{Open}
use Rattle.poly.specs.Door.{door_of, open_if, both, entered}
use Rattle.poly.specs.Promise.{reading}
use Rattle.poly.proofs.Canonical.{Opened, opened, both-open}
use Rattle.poly.proofs.Doors.{door-long}
use Rattle.remainders.specs.Gcd.{square_free}
use Rattle.euclid.proofs.Doors.{never_done, entered-keeps, nil-zero}
use Rattle.yun.specs.Got.{Got, got, none, then_got, list_from}
use Rattle.chain.specs.Sequence.{sequence_of}
use Rattle.chain.proofs.MeaningChain.{sequence-means}
use Rattle.chain.proofs.Refusals.{Overflows, list_over, sequence-over}
use Rattle.sturm.specs.Value.{floats_of}
use Rattle.sturm.specs.Along.{rows_of}
use Rattle.sturm.proofs.Promises.{Part, part-means}
use Rattle.bisect.specs.Bracket.{Found}
use Rattle.bisect.proofs.Refusals.{Stops, bisect-stops}
use Rattle.bisect.specs.declared.Bracket.{Bracket}
use Rattle.bisect.specs.Bisect.{bisect_of}
use Rattle.isolate.specs.declared.Isolation.{Isolation}
use Rattle.isolate.specs.Answer.{roots_in, holding, refused_for, isolation_of}
use Rattle.isolate.specs.Sorted.{roots_onto}
use Rattle.isolate.specs.Apart.{apart_onto}
use Rattle.isolate.specs.Isolate.{within, limits_of, isolate_from, isolate_for}
use Rattle.isolate.specs.Promise.{Isolates, IsolationPromise}
use Rattle.isolate.proofs.Hold.{roots-of}

module _ (p : List Ratio) (c : Canonical p) (lo hi tol : Float) (r : List Float) where
  from-brackets : (f : List Ratio) → Part p f → (l : List (List Ratio)) → sequence_of f ≡ got l → (b : Got (List Bracket)) → bisect_of (rows_of l) lo hi tol ≡ b → then_got b (λ b. got (apart_onto tol (roots_onto (floats_of f) tol b []) [])) ≡ got r → Isolates (rats p) lo hi tol r
  from-brackets f t l e (got b) d g =
      let i : r ≡ apart_onto tol (roots_onto (floats_of f) tol b []) [] = cc in
      record {
        part = f;
        chain = l;
        brackets = b;
        divides = λ h. (t.is (λ z. h (nil-zero p z))).divides;
        roots_kept = λ h x. ((t.is (λ z. h (nil-zero p z))).same-roots x).1;
        roots-only = λ h x. ((t.is (λ z. h (nil-zero p z))).same-roots x).0;
        is-chain = (sequence-means f t.canonical l e).is;
        found = d;
        roots = i;
      }
  from-brackets f t l e (none why) d g = absurd (let z : ◌≡◌ {A = ℕ} 0 1 = cc in omega arith)

  from-chain : (f : List Ratio) → Part p f → (s : Got (List (List Ratio))) → sequence_of f ≡ s → then_got s (λ l. then_got (bisect_of (rows_of l) lo hi tol) (λ b. got (apart_onto tol (roots_onto (floats_of f) tol b []) []))) ≡ got r → Isolates (rats p) lo hi tol r
  from-chain f t (got l) e g = from-brackets f t l e (bisect_of (rows_of l) lo hi tol) refl g
  from-chain f t (none why) e g = absurd (let z : ◌≡◌ {A = ℕ} 0 1 = cc in omega arith)

  from-part : (s : Ran ℕ (List Ratio)) → square_free plain p 0 ≡ s → then_got (list_from s) (λ f. then_got (sequence_of f) (λ l. then_got (bisect_of (rows_of l) lo hi tol) (λ b. got (apart_onto tol (roots_onto (floats_of f) tol b []) [])))) ≡ got r → Isolates (rats p) lo hi tol r
  from-part (fine k f) e g =
      let t = part-means p c k f e in
      from-chain (trim f) (subst (Part p) (sym t.canonical.trimmed) t) (sequence_of (trim f)) refl g
  from-part (over k) e g = absurd (let z : ◌≡◌ {A = ℕ} 0 1 = cc in omega arith)

  isolated-means : isolate_from p lo hi tol ≡ got r → Isolates (rats p) lo hi tol r
  unfolding isolate_from
  isolated-means g = from-part (square_free plain p 0) refl g

-- ---- refusals

abbrev Refuses : {X : Type 0} → Got X → Type 0
Refuses (got x) = Unit {0}
Refuses (none why) = (number_of why ≡ 2 → ⊥) → (number_of why ≡ 4 → ⊥) → number_of why ≡ 7

over-refuses : {X : Type 0} (g : Got X) → Overflows g → Refuses g
over-refuses (got x) h = tt
over-refuses (none why) h = λ two four. absurd (two (ap number_of h))

stops-refuses : (g : Found) → Stops g → Refuses g
stops-refuses (got l) h = tt
stops-refuses (none why) h = λ two four. ap number_of (h (λ e. four (ap number_of e)))

then-refuses : {X Y : Type 0} (g : Got X) (f : X → Got Y) → Refuses g → ((x : X) → Refuses (f x)) → Refuses (then_got g f)
then-refuses (got x) f h k = k x
then-refuses (none why) f h k = h

isolate-refuses : (p : List Ratio) (lo hi tol : Float) → Refuses (isolate_from p lo hi tol)
unfolding isolate_from
isolate-refuses p lo hi tol =
    then-refuses (list_from (square_free plain p 0)) _ (over-refuses (list_from (square_free plain p 0)) (list_over (square_free plain p 0))) (λ f.
    then-refuses (sequence_of f) _ (over-refuses (sequence_of f) (sequence-over f)) (λ c.
    then-refuses (bisect_of (rows_of c) lo hi tol) _ (stops-refuses (bisect_of (rows_of c) lo hi tol) (bisect-stops (rows_of c) lo hi tol)) (λ b. tt)))

-- ---- the door

module _ (p : Poly) (lo hi tol : Float) where
  limits-bad : within lo hi tol ≡ false → status_of (isolate_for p lo hi tol).outcome ≡ 5
  limits-bad h = ap (λ (b : Bool). status_of (entered refused_for (both (open_if b) (door_of p)) (isolation_of (isolate_from (terms_of p) lo hi tol))).outcome) h

  too_long : within lo hi tol ≡ true → 32 < p.len → status_of (isolate_for p lo hi tol).outcome ≡ 4
  too_long h k =
      ap (λ (b : Bool). status_of (entered refused_for (both (open_if b) (door_of p)) (isolation_of (isolate_from (terms_of p) lo hi tol))).outcome) h
      ∙ ap (λ (d : Gate). status_of (entered refused_for d (isolation_of (isolate_from (terms_of p) lo hi tol))).outcome) (sym (door-long p k))

  -- the part of the promise that doesn't ask why the door is shut
  record Told (r : Isolation) : Type 0 where
    pub isolates : status_of r.outcome ≡ 0 → Isolates (reading p) lo hi tol (roots_in r)
    pub refused : (status_of r.outcome ≡ 0 → ⊥) → roots_in r ≡ []
    pub over : both (limits_of lo hi tol) (door_of p) ≡ Open → (status_of r.outcome ≡ 0 → ⊥) → (status_of r.outcome ≡ 2 → ⊥) → (status_of r.outcome ≡ 4 → ⊥) → status_of r.outcome ≡ 7

  shut-told : (both (limits_of lo hi tol) (door_of p) ≡ Open → ⊥) → (why : Reason) → Told (refused_for why)
  shut-told shut why = record { isolates = λ s. absurd (never_done why s); refused = λ s. refl; over = λ o. absurd (shut o) }

  open_told : Opened p → (s : Got (List Float)) → isolate_from (terms_of p) lo hi tol ≡ s → Refuses s → Told (isolation_of s)
  open_told o (got l) e h =
      let q : roots_in (holding l) ≡ l = roots-of (holding l) l refl in
      record {
        isolates = λ s. subst (Isolates (reading p) lo hi tol) (sym q) (isolated-means (terms_of p) o.canonical lo hi tol l e);
        refused = λ s. absurd (s refl);
        over = λ d s. absurd (s refl);
      }
  open_told o (none why) e h = record { isolates = λ s. absurd (never_done why s); refused = λ s. refl; over = λ d s. h }

  told : Told (isolate_for p lo hi tol)
  told = entered-keeps refused_for Told (both (limits_of lo hi tol) (door_of p)) (isolation_of (isolate_from (terms_of p) lo hi tol))
      (λ d. open_told (opened p (both-open (limits_of lo hi tol) (door_of p) d).1) (isolate_from (terms_of p) lo hi tol) refl (isolate-refuses (terms_of p) lo hi tol)) shut-told

  promise : IsolationPromise p lo hi tol (isolate_for p lo hi tol)
  promise = record { isolates = told.isolates; refused = told.refused; limits = limits-bad; long = too_long; over = λ i o. told.over (ap (λ (b : Bool). both (open_if b) (door_of p)) i ∙ o) }

  pub isolate-both : (r : Isolation) → r ≡ isolate_for p lo hi tol → (r ≡ isolate_for p lo hi tol) × IsolationPromise p lo hi tol r
  isolate-both r e = (e, subst (IsolationPromise p lo hi tol) (sym e) promise)
