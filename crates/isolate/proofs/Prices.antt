-- No isolation costs more than its quote: a chain has no more entries than the polynomial has coefficients, and there are at most 64 brackets.
use mathlib.Core.Path.{◌≡◌, refl, sym, ap, subst, ◌∙◌}
use mathlib.Core.Bool.{Bool, true, false}
use mathlib.Core.List.{List, [], ◌∷◌}
use Prim.Native.Nat.{ℕ, ◌+◌, ◌*◌, ◌≤◌, ◌<◌}
use native.Mathlib.Omega.{arith}
use borrow.Author.Tests.{le-leb, lt-leb}
use Rattle.std.specs.Prelude.{Result, Ok, Err}
use lib.Dec.{leb}
use lib.Ieee.{Float}
use lib.ListN.{length, length-map}
use Rattle.algebra.specs.Textbook.{HasDegree}
use Rattle.ratio.specs.declared.Ratio.{Ratio}
use Rattle.ratio.specs.declared.Reason.{Reason}
use Rattle.ratio.specs.declared.Reason.TheVariants.{TooLong}
use Rattle.terms.specs.declared.Poly.{Poly}
use Rattle.terms.specs.Machine.{Ran, fine, over, plain}
use Rattle.terms.specs.Poly.{terms_of, trim}
use Rattle.terms.proofs.MeaningCanonical.{Canonical}
use Rattle.poly.specs.Door.{door_of, both}
use Rattle.poly.specs.Promise.{reading}
use Rattle.poly.proofs.Canonical.{opened, both-open}
use Rattle.remainders.specs.Gcd.{square_free}
use Rattle.euclid.proofs.Doors.{entered-keeps, degree-few, degree-length}
use Rattle.yun.specs.Got.{Got, got, none, list_from}
use Rattle.chain.specs.Sequence.{sequence_of}
use Rattle.chain.proofs.MeaningChain.{sequence-means}
use Rattle.sturm.specs.Value.{floats_of}
use Rattle.sturm.specs.Along.{rows_of}
use Rattle.sturm.proofs.Promises.{Part, part-means}
use Rattle.bisect.specs.Bracket.{Found}
use Rattle.bisect.specs.Bisect.{bisect_of}
use Rattle.bisect.specs.declared.Bracket.{Bracket}
use Rattle.bisect.specs.Price.{after, evaluations_for, most_calls}
use Rattle.bisect.proofs.Prices.{Fits, price-bounded, bisect-fits}
use Rattle.refine.specs.Price.{most_of_root}
use Rattle.refine.proofs.Prices.{root-most}
use Rattle.isolate.specs.declared.Most.{Most}
use Rattle.isolate.specs.Isolate.{limits_of}
use Rattle.isolate.specs.Price.{roots_work, calls_from, evaluations_from, calls_in, evaluations_in, evaluations_price, quote_if, isolation_quote, QuotesIsolation}

-- ---- the work behind a chain

roots-most : (p : List Float) (tol : Float) (b : List Bracket) → roots_work p tol b ≤ length b * most_of_root
unfolding roots_work
roots-most p tol [] = omega arith
roots-most p tol (x ∷ b) = omega (arith, root-most p x tol, roots-most p tol b)

brackets-most : (f : List Float) (tol : Float) (g : Found) → Fits g → after g (λ b. roots_work f tol b) ≤ 64 * most_of_root
brackets-most f tol (got b) h = omega (arith, roots-most f tol b, h)
brackets-most f tol (none why) h = omega arith

module _ (p : List Ratio) (lo hi tol : Float) (n : ℕ) (short : length p ≤ n + 1) where
  abbrev work : List Ratio → List (List Ratio) → ℕ
  work f c = evaluations_for (rows_of c) lo hi tol + after (bisect_of (rows_of c) lo hi tol) (λ b. roots_work (floats_of f) tol b)

  work-most : (f : List Ratio) (c : List (List Ratio)) → length c ≤ n + 1 → work f c ≤ evaluations_price n
  work-most f c h = omega (arith, h, length-map c floats_of, price-bounded.evaluations (rows_of c) lo hi tol, brackets-most (floats_of f) tol (bisect_of (rows_of c) lo hi tol) (bisect-fits (rows_of c) lo hi tol))

  chain-most : (f : List Ratio) → Part p f → (s : Got (List (List Ratio))) → sequence_of f ≡ s → after s (λ c. work f c) ≤ evaluations_price n
  chain-most f t (got c) e = work-most f c (omega (arith, (sequence-means f t.canonical c e).few, t.short, short))
  chain-most f t (none why) e = omega arith

  part-most : Canonical p → (r : Ran ℕ (List Ratio)) → square_free plain p 0 ≡ r → after (list_from r) (λ f. after (sequence_of f) (λ c. work f c)) ≤ evaluations_price n
  part-most k (fine s f) e =
      let t = part-means p k s f e in
      chain-most (trim f) (subst (Part p) (sym t.canonical.trimmed) t) (sequence_of (trim f)) refl
  part-most k (over s) e = omega arith

  evaluations-most : Canonical p → evaluations_from p lo hi tol ≤ evaluations_price n
  unfolding evaluations_from
  evaluations-most k = part-most k (square_free plain p 0) refl

after-most : {X : Type 0} (g : Got X) (f : X → ℕ) (m : ℕ) → ((x : X) → f x ≤ m) → after g f ≤ m
after-most (got x) f m h = h x
after-most (none why) f m h = omega arith

calls-most : (p : List Ratio) (lo hi tol : Float) → calls_from p lo hi tol ≤ most_calls
unfolding calls_from
calls-most p lo hi tol = after-most (list_from (square_free plain p 0)) _ most_calls (λ f. after-most (sequence_of f) _ most_calls (λ c. price-bounded.calls (rows_of c) lo hi tol))

-- ---- the door

module _ (p : Poly) (lo hi tol : Float) (n : ℕ) (d : HasDegree (reading p) n) where
  calls-within : calls_in p lo hi tol ≤ most_calls
  calls-within = entered-keeps (λ why. 0) (λ k. k ≤ most_calls) (both (limits_of lo hi tol) (door_of p)) (calls_from (terms_of p) lo hi tol) (λ o. calls-most (terms_of p) lo hi tol) (λ shut why. omega arith)

  evaluations-within : evaluations_in p lo hi tol ≤ evaluations_price n
  evaluations-within =
      entered-keeps (λ why. 0) (λ k. k ≤ evaluations_price n) (both (limits_of lo hi tol) (door_of p)) (evaluations_from (terms_of p) lo hi tol)
      (λ o.
      let q = opened p (both-open (limits_of lo hi tol) (door_of p) o).1 in
      evaluations-most (terms_of p) lo hi tol n (omega (arith, degree-length (terms_of p) n q.canonical d)) q.canonical)
      (λ shut why. omega arith)

-- ---- the quote

abbrev most_in : Result Most Reason → Most
most_in (Ok m) = m
most_in (Err why) = record { calls = 0; evaluations = 0 }

quote-is : (t : Bool) (x y c e : ℕ) → quote_if t x y ≡ Ok (record { calls = c; evaluations = e }) → (x ≡ c) × (y ≡ e)
quote-is true x y c e h = (ap (λ q. (most_in q).calls) h, ap (λ q. (most_in q).evaluations) h)
quote-is false x y c e h = let z : ◌≡◌ {A = ℕ} 0 1 = cc in absurd (omega arith)

quote-given : (t : Bool) (x y : ℕ) (why : Reason) → t ≡ true → quote_if t x y ≡ Err why → ⊥
quote-given true x y why e h = let z : ◌≡◌ {A = ℕ} 0 1 = cc in omega arith
quote-given false x y why e h = let z : ◌≡◌ {A = ℕ} 0 1 = cc in omega arith

quotes : (n : ℕ) → QuotesIsolation n (isolation_quote n)
quotes n = record {
  bounds = λ p lo hi tol d c e h.
      let (x, y) = quote-is (leb n 31) most_calls (evaluations_price n) c e h in
      (subst (λ k. calls_in p lo hi tol ≤ k) x (calls-within p lo hi tol n d), subst (λ k. evaluations_in p lo hi tol ≤ k) y (evaluations-within p lo hi tol n d));
  quoted = λ p o d why h. quote-given (leb n 31) most_calls (evaluations_price n) why (le-leb n 31 (degree-few p n o d)) h;
}

pub quote-both : (n : ℕ) (q : Result Most Reason) → q ≡ isolation_quote n → (q ≡ isolation_quote n) × QuotesIsolation n q
quote-both n q e = (e, subst (QuotesIsolation n) (sym e) (quotes n))

module _ (n : ℕ) where
  pub quote-long : 31 < n → Err TooLong ≡ isolation_quote n
  quote-long h = ap (λ t. quote_if t most_calls (evaluations_price n)) (sym (lt-leb n 31 h))

  -- as the code works it out
  pub quote-most : n ≤ 31 → Ok (record { calls = most_calls; evaluations = 3187 * n + 19237 }) ≡ isolation_quote n
  quote-most h =
      let e : 3187 * n + 19237 ≡ evaluations_price n = omega arith in
      ap {B = Result Most Reason} (λ k. Ok (record { calls = most_calls; evaluations = k })) e ∙ ap (λ t. quote_if t most_calls (evaluations_price n)) (sym (le-leb n 31 h))
