-- Laws of work that makes one result after the other: a loop that has made the first i, its turn, its end and its refusal.
use Rattle.std.specs.Prelude.{Result, Ok, Err}
use mathlib.Core.Path.{◌≡◌, refl, sym, ap, ◌∙◌}
use mathlib.Core.List.{List, [], ◌∷◌, ◌++◌, append_assoc, append-nil}
use Prim.Native.Nat.{ℕ, zero, suc, ◌+◌, ◌-◌, ◌<◌, ◌≤◌}
use native.Mathlib.Numerals.{add-one}
use native.Mathlib.Omega.{arith}
use lib.ListN.{length, take, set}
use lib.Seq.{take-suc-set}
use Rattle.ratio.specs.declared.Ratio.{Ratio}
use Rattle.ratio.specs.declared.Reason.{Reason}
use Rattle.ratio.specs.declared.Reason.TheVariants.{CoeffOverflow}
use Rattle.terms.specs.declared.Answer.{Answer}
use Rattle.terms.specs.Poly.{poly_of, trim}
use Rattle.terms.specs.Machine.{Ran, fine, over, and_then, counted}
use Rattle.terms.specs.Answer.{done_with, refused_with, answer_of, uncounted}
use Rattle.terms.specs.Work.{each}

-- what is made, put before what is left
abbrev pub prepend : {W Log : Type 0} → List W → Ran Log (List W) → Ran Log (List W)
prepend xs (fine log ys) = fine log (xs ++ ys)
prepend xs (over log) = over log

prepend-none : {W Log : Type 0} (r : Ran Log (List W)) → prepend [] r ≡ r
prepend-none (fine log ys) = refl
prepend-none (over log) = refl

prepend-one : {W Log : Type 0} (xs : List W) (y : W) (r : Ran Log (List W)) → prepend xs (and_then r (λ log ys. fine log (y ∷ ys))) ≡ prepend (xs ++ (y ∷ [])) r
prepend-one xs y (fine log ys) = ap (fine log) (sym (append_assoc xs (y ∷ []) ys))
prepend-one xs y (over log) = refl

module _ {W Log : Type 0} (f : ℕ → Log → Ran Log W) (n : ℕ) (start : Log) where
  -- the first i results stand in out
  pub record Made (i : ℕ) (log : Log) (out : List W) : Type 0 where
    pub whole : prepend (take i out) (each f (n - i) i log) ≡ each f n 0 start

  pub made_none : (out : List W) → Made 0 start out
  made_none out =
      let s : n - 0 ≡ n = omega arith in
      record { whole = rw s (prepend-none (each f n 0 start)) }

  pub made_more : (i : ℕ) (log log' : Log) (out : List W) (y : W) → i < n → i < length out → f i log ≡ fine log' y → Made i log out → Made (i + 1) log' (set out i y)
  unfolding each
  made_more i log log' out y h k e m =
      let s : n - i ≡ suc (n - suc i) = omega arith in
      record {
        whole =
            rw (add-one i, take-suc-set out i y k, ← prepend-one (take i out) y (each f (n - suc i) (suc i) log'))
            (rw (s, e) at m.whole);
      }

  pub made-over : (i : ℕ) (log log' : Log) (out : List W) → i < n → f i log ≡ over log' → Made i log out → over log' ≡ each f n 0 start
  unfolding each
  made-over i log log' out h e m =
      let s : n - i ≡ suc (n - suc i) = omega arith in
      rw (s, e) at m.whole

  pub made_all : (i : ℕ) (log : Log) (out : List W) → n ≤ i → Made i log out → fine log (take i out) ≡ each f n 0 start
  unfolding each
  made_all i log out h m =
      let s : n - i ≡ 0 = omega arith in
      ap (fine log) (sym (append-nil (take i out))) ∙ (rw s at m.whole)

-- ---- steps that are counted: as many as results were made
module _ (s : ℕ → Result Ratio Reason) (n : ℕ) where
  abbrev pub Counted : ℕ → List Ratio → Type 0
  Counted i out = Made (λ i k. counted k (s i)) n 0 i i out

  pub counted_none : (out : List Ratio) → Counted 0 out
  counted_none out = made_none (λ i k. counted k (s i)) n 0 out

  pub counted-more : (i : ℕ) (out : List Ratio) (y : Ratio) → i < n → i < length out → s i ≡ Ok y → Counted i out → Counted (i + 1) (set out i y)
  counted-more i out y h k e m =
      made_more (λ i k. counted k (s i)) n 0 i i (i + 1) out y h k (rw (e, add-one i)) m

  pub counted-over : (i : ℕ) (out : List Ratio) (why : Reason) → i < n → s i ≡ Err why → Counted i out → refused_with CoeffOverflow (i + 1) ≡ answer_of (each (λ i k. counted k (s i)) n 0 0)
  counted-over i out why h e m =
      ap answer_of (made-over (λ i k. counted k (s i)) n 0 i i (i + 1) out h (rw (e, add-one i)) m)

  pub counted-all : (i k : ℕ) (out : List Ratio) → k ≡ n → n ≤ i → i ≤ n → Counted i out → done_with (poly_of (trim (take k out))) k ≡ answer_of (each (λ i k. counted k (s i)) n 0 0)
  counted-all i k out e h j m =
      let f : k ≡ i = omega arith in
      rw f (ap answer_of (made_all (λ i k. counted k (s i)) n 0 i i out h m))

-- ---- steps that aren't counted come to the same, with none made

abbrev pub none_made : Answer → Answer
none_made r = record { outcome = r.outcome; poly = r.poly; steps = 0 }

abbrev forget : Ran ℕ (List Ratio) → Ran ℕ (List Ratio)
forget (fine k l) = fine 0 l
forget (over k) = over 0

forget-tail : (y : Ratio) (t : Ran ℕ (List Ratio)) → forget (and_then t (λ log ys. fine log (y ∷ ys))) ≡ and_then (forget t) (λ log ys. fine log (y ∷ ys))
forget-tail y (fine k l) = refl
forget-tail y (over k) = refl

forget-answer : (t : Ran ℕ (List Ratio)) → none_made (answer_of t) ≡ answer_of (forget t)
forget-answer (fine k l) = refl
forget-answer (over k) = refl

module _ (s : ℕ → Result Ratio Reason) where
  forget-turn : (n i k : ℕ) (r : Result Ratio Reason) → ((k : ℕ) → forget (each (λ i k. counted k (s i)) n (suc i) k) ≡ each (λ i k. uncounted k (s i)) n (suc i) 0)
      → forget (and_then (counted k r) (λ log y. and_then (each (λ i k. counted k (s i)) n (suc i) log) (λ log ys. fine log (y ∷ ys))))
      ≡ and_then (uncounted 0 r) (λ log y. and_then (each (λ i k. uncounted k (s i)) n (suc i) log) (λ log ys. fine log (y ∷ ys)))
  forget-turn n i k (Ok y) h = forget-tail y _ ∙ ap (λ (t : Ran ℕ (List Ratio)). and_then t (λ log ys. fine log (y ∷ ys))) (h (suc k))
  forget-turn n i k (Err why) h = refl

  forget-each : (n i k : ℕ) → forget (each (λ i k. counted k (s i)) n i k) ≡ each (λ i k. uncounted k (s i)) n i 0
  unfolding each
  forget-each zero i k = refl
  forget-each (suc n) i k = forget-turn n i k (s i) (forget-each n (suc i))

  pub uncounted-is : (n : ℕ) → none_made (answer_of (each (λ i k. counted k (s i)) n 0 0)) ≡ answer_of (each (λ i k. uncounted k (s i)) n 0 0)
  uncounted-is n = forget-answer _ ∙ ap answer_of (forget-each n 0 0)
