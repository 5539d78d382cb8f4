-- What is written in Horner form, read again.
use Rattle.ratio.specs.declared.Reason.{Reason}
use Rattle.std.specs.Prelude.{Result, Ok, Err}
use mathlib.Core.Path.{◌≡◌, refl, sym, ap, ◌∙◌}
use mathlib.Core.Bool.{Bool, true, false, cond}
use mathlib.Core.List.{List, [], ◌∷◌, append-nil}
use Prim.Native.Nat.{ℕ, zero, suc, ◌≤◌, ◌<◌}
use native.Mathlib.Omega.{arith}
use borrow.Author.Tests.{lt-ltb, le-ltb, ltb-false}
use lib.Dec.{ltb}
use lib.IntN.{ℤ, pos, negsuc, nat_abs}
use lib.Ieee.{binary64, unlike, round, of_int}
use lib.Signed.{lt_z}
use lib.ListN.{length, take, get_or}
use lib.Seq.{take-length}
use Rattle.ratio.specs.Refusal.{zero_r, no_refusal}
use Rattle.ratio.specs.declared.Ratio.{Ratio}
use Rattle.ratio.specs.declared.Reason.TheVariants.{TooLong}
use Rattle.ratio.proofs.Words.{pos-neg}
use Rattle.bridge.specs.Value.{value_of}
use Rattle.bridge.specs.Search.{to_ratio}
use Rattle.bridge.specs.Promise.{exact}
use Rattle.bridge.proofs.Finds.{finds-both}
use Rattle.bridge.proofs.Whole.{has_value, div-at}
use Rattle.terms.specs.declared.Poly.{Poly}
use Rattle.terms.specs.declared.Answer.{Answer}
use Rattle.terms.specs.Poly.{terms_of, poly_of, drop_top, trim}
use Rattle.terms.specs.Answer.{done_with, refused_with}
use Rattle.terms.proofs.Lists.{terms-of-poly, trim-take}
use Rattle.poly.proofs.Canonical.{Opened, opened-is}
use Rattle.tokens.specs.Heights.{check_of}
use Rattle.lower.specs.Run.{and_then, run_from, answered, unless_refused, lower_of}
use Rattle.horner.specs.Text.{horner, lowered_text}
use Rattle.horner.specs.Back.{Through, all, lost, with, first, through, back_of}
use Rattle.horner.specs.Back as B
use Rattle.horner.specs.Promise.{Survive, Small, ReadsBack}
use Rattle.horner.proofs.Runs.{horner_words, onto, run, Sound, sound, none, through-sound}
use Rattle.horner.proofs.Checks.{check}
use Rattle.horner.proofs.Spelled.{token-constant, token-variable}
use Rattle.horner.proofs.Words.{horner-words}

-- ---- the answer in every case

unless : (t : Bool) (r : Answer) → unless_refused (cond t (Err TooLong) no_refusal) r ≡ cond t (refused_with TooLong 0) r
unless true r = refl
unless false r = refl

top : (wrt : ℕ) (t : Through) → answered (and_then (onto t []) (run_from wrt [])) ≡ B.answered t
unfolding run_from
top wrt (all l) = refl
top wrt (lost why) = refl

-- ---- a small whole number comes back

over-one : (n : ℤ) → nat_abs n ≤ exact → value_of (record { num = n; den = pos 1 }) ≡ round binary64 (unlike (lt_z n (pos 0)) false) (nat_abs n) 1
unfolding value_of
over-one n h = div-at binary64 (of_int binary64 n) (of_int binary64 (pos 1)) (lt_z n (pos 0)) false (nat_abs n) 1 (omega arith) (has_value n h) (has_value (pos 1) (omega arith))

whole_float : (n : ℤ) → nat_abs n ≤ exact → value_of (record { num = n; den = pos 1 }) ≡ of_int binary64 n
unfolding of_int
whole_float (pos n) h = over-one (pos n) h ∙ rw (pos-neg n)
whole_float (negsuc n) h = over-one (negsuc n) h

small-back : (c : Ratio) → Small c → to_ratio (value_of c) ≡ Ok c
small-back c (d, h) =
    let e : c ≡ record { num = c.num; den = pos 1 } = ap (λ z. record { num = c.num; den = z }) d in
    (finds-both (value_of c) _ refl).1.whole c.num h (ap value_of e ∙ whole_float c.num h) ∙ ap Ok (sym e)

zero_same : back_of (zero_r ∷ []) ≡ back_of []
unfolding back_of through drop_top
zero_same = rw (small-back zero_r (refl, omega arith))

module _ (wrt : ℕ) (h : wrt ≤ 255) where
  some : (c : Ratio) (l : List Ratio) → length l ≤ 31 → lower_of wrt (horner wrt c l) ≡ back_of (c ∷ l)
  unfolding lower_of check_of back_of
  some c l k =
      let tv = token-variable wrt h in
      rw (horner-words wrt h c l, check wrt tv token-constant c l (length (horner wrt c l)))
      (unless (ltb 8 (suc (length l))) _
      ∙ ap (cond (ltb 8 (suc (length l))) (refused_with TooLong 0))
      (ap (λ ws. answered (run_from wrt ws [])) (sym (append-nil (horner_words wrt c l))) ∙ ap answered (run wrt tv token-constant c l [] [] k) ∙ top wrt (through (c ∷ l))))

  pub reads : (l : List Ratio) → length l ≤ 32 → lower_of wrt (lowered_text wrt l) ≡ back_of l
  unfolding lowered_text
  reads [] k = some zero_r [] (omega arith) ∙ zero_same
  reads (c ∷ l) k = some c l (omega arith)

-- ---- the same polynomial

through-kept : (l : List Ratio) → Survive l → through l ≡ all l
unfolding through
through-kept [] h = refl
through-kept (c ∷ l) h = rw (h 0 (omega arith), through-kept l (λ i k. h (suc i) (omega arith)))

with_all : (c : Ratio) (t : Through) (cs : List Ratio) → with c t ≡ all cs → (ds : List Ratio) × (t ≡ all ds) × (cs ≡ c ∷ ds)
with_all c (all l) cs e = (l, refl, cc)
with_all c (lost why) cs e = let z : ◌≡◌ {A = ℕ} 0 1 = cc in absurd (omega arith)

first-all : (s : Result Ratio Reason) (t : Through) (cs : List Ratio) → first s t ≡ all cs → (c : Ratio) × (ds : List Ratio) × (s ≡ Ok c) × (t ≡ all ds) × (cs ≡ c ∷ ds)
first-all (Ok c) t cs e = let (ds, f, g) = with_all c t cs e in (c, ds, refl, f, g)
first-all (Err why) t cs e = let z : ◌≡◌ {A = ℕ} 0 1 = cc in absurd (omega arith)

through-at : (l cs : List Ratio) → through l ≡ all cs → (i : ℕ) → i < length l → to_ratio (value_of (get_or l i zero_r)) ≡ Ok (get_or cs i zero_r)
unfolding through
through-at [] cs e i h = absurd (omega arith)
through-at (c ∷ l) cs e zero h =
    let (d, ds, f, g, k) = first-all (to_ratio (value_of c)) (through l) cs e in
    f ∙ ap (λ m. Ok (get_or m 0 zero_r)) (sym k)
through-at (c ∷ l) cs e (suc i) h =
    let (d, ds, f, g, k) = first-all (to_ratio (value_of c)) (through l) cs e in
    through-at l ds g i (omega arith) ∙ ap (λ m. Ok (get_or m (suc i) zero_r)) (sym k)

sound-length : (n : ℕ) (t : Through) (cs : List Ratio) → Sound n t → t ≡ all cs → length cs ≡ n
sound-length n (all l) cs (sound e k) f = let g : l ≡ cs = cc in ap length (sym g) ∙ e
sound-length n (lost why) cs none f = let z : ◌≡◌ {A = ℕ} 0 1 = cc in absurd (omega arith)

-- as many coefficients, none of them dropped
kept : (cs l : List Ratio) → length cs ≡ length l → trim cs ≡ l → cs ≡ l
kept cs l n e =
    sym (take-length cs)
    ∙ ap (λ m. take m cs) (n ∙ ap length (sym e))
    ∙ sym (trim-take cs)
    ∙ e

poly-of : (p q : Poly) (a b : ℕ) → done_with p a ≡ done_with q b → p ≡ q
poly-of p q a b e = ap (λ r. r.poly) e

only_through : (p : Poly) (t : Through) → t ≡ through (terms_of p) → B.answered t ≡ done_with p 0 → Survive (terms_of p)
only_through p (all cs) f e =
    let l = terms_of p in
    let g : trim cs ≡ l = sym (terms-of-poly (trim cs)) ∙ ap terms_of (poly-of (poly_of (trim cs)) p 0 0 e) in
    let k : cs ≡ l = kept cs l (sound-length (length l) (through l) cs (through-sound l) (sym f)) g in
    λ i h. through-at l cs (sym f) i h ∙ ap (λ m. Ok (get_or m i zero_r)) k
only_through p (lost why) f e = let z : Err why ≡ no_refusal = ap (λ r. r.outcome) e in let y : ◌≡◌ {A = ℕ} 0 1 = cc in absurd (omega arith)

only-back : (p : Poly) (t : Bool) → ltb 8 (length (terms_of p)) ≡ t → cond t (refused_with TooLong 0) (B.answered (through (terms_of p))) ≡ done_with p 0 → (length (terms_of p) ≤ 8) × Survive (terms_of p)
only-back p true f e = let z : Err TooLong ≡ no_refusal = ap (λ r. r.outcome) e in let y : ◌≡◌ {A = ℕ} 0 1 = cc in absurd (omega arith)
only-back p false f e = (ltb-false 8 (length (terms_of p)) f, only_through p (through (terms_of p)) refl e)

module _ (p : Poly) (n : length p.coeffs ≡ 32) (o : Opened p) where
  back-same : length (terms_of p) ≤ 8 → Survive (terms_of p) → back_of (terms_of p) ≡ done_with p 0
  unfolding back_of
  back-same h k =
      rw (le-ltb 8 (length (terms_of p)) h, through-kept (terms_of p) k)
      (ap (λ q. done_with q 0) (ap poly_of o.canonical.trimmed ∙ sym (opened-is p n o)))

  pub reads-back : (wrt : ℕ) → wrt ≤ 255 → ReadsBack p wrt (lowered_text wrt (terms_of p))
  unfolding back_of
  reads-back wrt h =
      let e = reads wrt h (terms_of p) o.few in
      record {
        is = e;
        same = λ k s. e ∙ back-same k s;
        only = λ r. only-back p (ltb 8 (length (terms_of p))) refl (sym e ∙ r);
        small = λ k s. e ∙ back-same k (λ i b. small-back (get_or (terms_of p) i zero_r) (s i b));
        deep = λ k. e ∙ ap (λ t. cond t (refused_with TooLong 0) (B.answered (through (terms_of p)))) (lt-ltb 8 (length (terms_of p)) k);
      }
