-- A canonical polynomial has one spelling, which is read back.
use Rattle.ratio.specs.Refusal.{no_refusal}
use Rattle.std.specs.Prelude.{Result, Ok, Err}
use mathlib.Core.Path.{◌≡◌, refl, sym, ap, ap₂, ◌∙◌}
use mathlib.Core.Bool.{Bool, true, false, cond}
use mathlib.Core.List.{List, [], ◌∷◌, ◌++◌, map, append_assoc}
use Prim.Native.Nat.{ℕ, ◌+◌, ◌≤◌}
use native.Mathlib.Omega.{arith}
use borrow.Author.Tests.{le-ltb, ltb-false}
use lib.Dec.{ltb}
use lib.ListN.{length, length-append, length-replicate}
use Rattle.ratio.specs.Step.{is_nil, is_lowest}
use Rattle.ratio.specs.declared.Ratio.{Ratio}
use Rattle.ratio.specs.declared.Reason.{Reason}
use Rattle.ratio.specs.declared.Reason.TheVariants.{TooLong}
use Rattle.ratio.proofs.Answers.{lowest-tells}
use Rattle.ratio.proofs.Fractions.{and-true}
use Rattle.terms.specs.declared.Answer.{Answer}
use Rattle.terms.specs.declared.Poly.{Poly}
use Rattle.terms.specs.Answer.{done_with, refused_with}
use Rattle.terms.specs.Poly.{drop_top, on_top, trim, terms_of, poly_of}
use Rattle.terms.proofs.Lists.{terms-of-poly}
use Rattle.poly.specs.Door.{all_lowest}
use Rattle.poly.proofs.Canonical.{lowest-from, lowest-to, opened, opened-is, open-poly, open-nil}
use Rattle.text.specs.Spell.{ratio_text, ratios_text, spaced, parted, poly_text}
use Rattle.tokens.specs.Spelling.{digit_of, number_of, natural_of}
use Rattle.tokens.specs.Words.{parts_of, length_to, words_of}
use Rattle.reading.specs.Numbers.{numerator_of, ratio_from}
use Rattle.reading.specs.Coefficients.{bad_at, alone, top_of, onward, coeffs_from, read_poly}
use Rattle.reading.specs.Promise.{ReadsRatio, CanonicalPoly, ReadsPoly}
use Rattle.reading.proofs.Joined.{parted-words}
use Rattle.reading.proofs.Avoids.{ratio-avoids, words-parted}
use Rattle.reading.proofs.Ratios.{ratio-reads, ratio-spelt, nil-text}

ratio-promise : (w : List ℕ) (s : Result Ratio Reason) → s ≡ ratio_from w → ReadsRatio w s
ratio-promise w s e = record {
  lowest = λ r h. (lowest-tells r).holds (ratio-spelt w r (sym e ∙ h)).1;
  spelt = λ r h. (ratio-spelt w r (sym e ∙ h)).0;
  read = λ r l t. e ∙ ap ratio_from t ∙ ratio-reads r ((lowest-tells r).tells l);
}

pub ratio-both : (w : List ℕ) {s : Result Ratio Reason} → s ≡ ratio_from w → (s ≡ ratio_from w) × ReadsRatio w s
ratio-both w {s} e = (e, ratio-promise w s e)

-- ---- the top coefficient

top_one : (c : Ratio) (t : Bool) → on_top t c [] ≡ c ∷ [] → t ≡ false
top_one c true e = let z : ◌≡◌ {A = ℕ} 0 1 = cc in absurd (omega arith)
top_one c false e = refl

some-top : (c : Ratio) → trim (c ∷ []) ≡ c ∷ [] → is_nil c.num ≡ false
unfolding drop_top
some-top c e = top_one c (is_nil c.num) e

top-rest : (t : Bool) (c d : Ratio) (m k : List Ratio) → on_top t c k ≡ c ∷ d ∷ m → k ≡ d ∷ m
top-rest true c d m [] e = let z : ◌≡◌ {A = ℕ} 0 1 = cc in absurd (omega arith)
top-rest false c d m [] e = let z : ◌≡◌ {A = ℕ} 0 1 = cc in absurd (omega arith)
top-rest t c d m (x ∷ k) e = cc

rest-top : (c d : Ratio) (m : List Ratio) → trim (c ∷ d ∷ m) ≡ c ∷ d ∷ m → trim (d ∷ m) ≡ d ∷ m
unfolding drop_top
rest-top c d m e = top-rest (is_nil c.num) c d m (trim (d ∷ m)) e

more-top : (c d : Ratio) (m : List Ratio) → trim (d ∷ m) ≡ d ∷ m → trim (c ∷ d ∷ m) ≡ c ∷ d ∷ m
unfolding drop_top
more-top c d m e = ap (on_top (is_nil c.num) c) e

one-top : (c : Ratio) → is_nil c.num ≡ false → trim (c ∷ []) ≡ c ∷ []
unfolding drop_top
one-top c e = rw e

-- ---- what is written is read

coeffs-reads : (c : Ratio) (m l : List Ratio) (at : ℕ) → all_lowest (c ∷ m) ≡ true → trim (c ∷ m) ≡ c ∷ m → length (l ++ (c ∷ m)) ≤ 32 → coeffs_from at l (map ratio_text (c ∷ m)) ≡ done_with (poly_of (l ++ (c ∷ m))) 0
unfolding coeffs_from all_lowest
coeffs-reads c [] l at a t h =
    let n : length (l ++ (c ∷ [])) ≡ length l + 1 = length-append l (c ∷ []) in
    rw (ratio-reads c (and-true (is_lowest c) _ a).0, some-top c t, le-ltb 31 (length l) (omega arith))
coeffs-reads c (d ∷ m) l at a t h =
    let p = and-true (is_lowest c) _ a in
    let e : (l ++ (c ∷ [])) ++ (d ∷ m) ≡ l ++ (c ∷ d ∷ m) = append_assoc l (c ∷ []) (d ∷ m) in
    rw (ratio-reads c p.0) (coeffs-reads d m (l ++ (c ∷ [])) (at + length (ratio_text c) + 1) p.1 (rest-top c d m t) (rw e h) ∙ ap (λ x. done_with (poly_of x) 0) e)

-- ---- what is read was written

-- the zero polynomial, or coefficients with one at the top
data Got (l : List Ratio) (ws : List (List ℕ)) (p : Poly) : Type 0 where
  nothing : l ≡ [] → ws ≡ (48 ∷ []) ∷ [] → p ≡ poly_of [] → Got l ws p
  some : (c : Ratio) (m : List Ratio) → ws ≡ map ratio_text (c ∷ m) → p ≡ poly_of (l ++ (c ∷ m)) → all_lowest (c ∷ m) ≡ true → trim (c ∷ m) ≡ c ∷ m → length (l ++ (c ∷ m)) ≤ 32 → Got l ws p

no_answer : {X : Type 0} (r : Answer) (p : Poly) (why : Reason) → r.outcome ≡ Err why → r ≡ done_with p 0 → X
no_answer r p why e h = let q : r.outcome ≡ no_refusal = ap (λ (x : Answer). x.outcome) h in let z : ◌≡◌ {A = ℕ} 0 1 = cc in absurd (omega arith)

is-answer : (p q : Poly) → done_with p 0 ≡ done_with q 0 → q ≡ p
is-answer p q h = sym (ap (λ (x : Answer). x.poly) h)

alone-got : (at : ℕ) (l : List Ratio) (w : List ℕ) (c : Ratio) (p : Poly) → w ≡ ratio_text c → is_lowest c ≡ true → is_nil c.num ≡ true → alone at l ≡ done_with p 0 → Got l (w ∷ []) p
alone-got at [] w c p t k n h = nothing refl (ap (λ x. x ∷ []) (t ∙ nil-text c k n)) (is-answer (poly_of []) p h)
alone-got at (x ∷ l) w c p t k n h = no_answer (bad_at at) p _ refl h

top-got : (at : ℕ) (l : List Ratio) (w : List ℕ) (c : Ratio) (p : Poly) → w ≡ ratio_text c → is_lowest c ≡ true → (t u : Bool) → is_nil c.num ≡ t → ltb 31 (length l) ≡ u → cond t (alone at l) (cond u (refused_with TooLong 0) (done_with (poly_of (l ++ (c ∷ []))) 0)) ≡ done_with p 0 → Got l (w ∷ []) p
unfolding all_lowest
top-got at l w c p t k true u n e h = alone-got at l w c p t k n h
top-got at l w c p t k false true n e h = no_answer (refused_with TooLong 0) p _ refl h
top-got at l w c p t k false false n e h =
    let m : length (l ++ (c ∷ [])) ≡ length l + 1 = length-append l (c ∷ []) in
    some c [] (ap (λ x. x ∷ []) t) (is-answer (poly_of (l ++ (c ∷ []))) p h) (rw k) (one-top c n) (omega (arith, ltb-false 31 (length l) e))

last-got : (at : ℕ) (l : List Ratio) (w : List ℕ) (p : Poly) (s : Result Ratio Reason) → ratio_from w ≡ s → onward at (λ c. top_of at l c) s ≡ done_with p 0 → Got l (w ∷ []) p
last-got at l w p (Ok c) e h = let k = ratio-spelt w c e in top-got at l w c p k.0 k.1 (is_nil c.num) (ltb 31 (length l)) refl refl h
last-got at l w p (Err why) e h = no_answer (bad_at at) p _ refl h

not-empty : {X : Type 0} (l : List Ratio) (c : Ratio) → l ++ (c ∷ []) ≡ [] → X
not-empty [] c e = let z : ◌≡◌ {A = ℕ} 0 1 = cc in absurd (omega arith)
not-empty (a ∷ l) c e = let z : ◌≡◌ {A = ℕ} 0 1 = cc in absurd (omega arith)

more-got : (l : List Ratio) (w : List ℕ) (ws : List (List ℕ)) (c : Ratio) (p : Poly) → w ≡ ratio_text c → is_lowest c ≡ true → Got (l ++ (c ∷ [])) ws p → Got l (w ∷ ws) p
unfolding all_lowest
more-got l w ws c p t k (nothing e f g) = not-empty l c e
more-got l w ws c p t k (some d m e f a b h) =
    let q : (l ++ (c ∷ [])) ++ (d ∷ m) ≡ l ++ (c ∷ d ∷ m) = append_assoc l (c ∷ []) (d ∷ m) in
    some c (d ∷ m) (ap₂ (λ (x : List ℕ) (y : List (List ℕ)). x ∷ y) t e) (f ∙ ap poly_of q) (rw (k, a)) (more-top c d m b) (rw q at h)

onward-got : (at : ℕ) (l : List Ratio) (w : List ℕ) (ws : List (List ℕ)) (p : Poly) (f : Ratio → Answer) → ((c : Ratio) → f c ≡ done_with p 0 → Got (l ++ (c ∷ [])) ws p) → (s : Result Ratio Reason) → ratio_from w ≡ s → onward at f s ≡ done_with p 0 → Got l (w ∷ ws) p
onward-got at l w ws p f g (Ok c) e h = let k = ratio-spelt w c e in more-got l w ws c p k.0 k.1 (g c h)
onward-got at l w ws p f g (Err why) e h = no_answer (bad_at at) p _ refl h

coeffs-got : (at : ℕ) (l : List Ratio) (ws : List (List ℕ)) (p : Poly) → coeffs_from at l ws ≡ done_with p 0 → Got l ws p
unfolding coeffs_from
coeffs-got at l [] p h = no_answer (bad_at at) p _ refl h
coeffs-got at l (w ∷ []) p h = last-got at l w p (ratio_from w) refl h
coeffs-got at l (w ∷ v ∷ ws) p h =
    onward-got at l w (v ∷ ws) p (λ c. coeffs_from (at + length w + 1) (l ++ (c ∷ [])) (v ∷ ws)) (λ c e. coeffs-got (at + length w + 1) (l ++ (c ∷ [])) (v ∷ ws) p e) (ratio_from w) refl h

-- ---- the promise

places_of : (l : List Ratio) → length l ≤ 32 → length (poly_of l).coeffs ≡ 32
places_of l h = rw (length-append, length-replicate) (omega arith)

pub zero-canonical : CanonicalPoly (poly_of [])
zero-canonical = record { places = places_of [] (omega arith); lets-in = open-nil }

got-canonical : (ws : List (List ℕ)) (p : Poly) → Got [] ws p → CanonicalPoly p
got-canonical ws p (nothing e f g) = rw g zero-canonical
got-canonical ws p (some c m e f a b h) = rw f (record { places = places_of (c ∷ m) h; lets-in = open-poly (c ∷ m) h (record { lowest = lowest-from (c ∷ m) a; trimmed = b }) })

got-text : (ws : List (List ℕ)) (p : Poly) → Got [] ws p → parted ws ≡ poly_text (terms_of p)
unfolding poly_text ratios_text parted spaced
got-text ws p (nothing e f g) = rw (f, g)
got-text ws p (some c m e f a b h) = ap parted e ∙ ap poly_text (sym (ap terms_of f ∙ terms-of-poly (c ∷ m)))

zero-read : read_poly (48 ∷ []) ≡ done_with (poly_of []) 0
unfolding read_poly coeffs_from parts_of ratio_from length_to numerator_of natural_of number_of digit_of
zero-read = refl

text-read : (l : List Ratio) → all_lowest l ≡ true → trim l ≡ l → length l ≤ 32 → read_poly (poly_text l) ≡ done_with (poly_of l) 0
unfolding read_poly poly_text ratios_text
text-read [] a t h = zero-read
text-read (c ∷ m) a t h = ap (coeffs_from 0 []) (words-parted ratio_text ratio-avoids c m) ∙ coeffs-reads c m [] 0 a t h

poly-promise : (t : List ℕ) (r : Answer) → r ≡ read_poly t → ReadsPoly t r
unfolding read_poly
poly-promise t r e = record {
  canonical = λ p h. got-canonical (words_of t) p (coeffs-got 0 [] (words_of t) p (sym e ∙ h));
  spelt = λ p h. sym (parted-words t) ∙ got-text (words_of t) p (coeffs-got 0 [] (words_of t) p (sym e ∙ h));
  read = λ p c s.
      let o = opened p c.lets-in in
      e ∙ ap read_poly s ∙ text-read (terms_of p) (lowest-to (terms_of p) o.canonical.lowest) o.canonical.trimmed o.few ∙ ap (λ q. done_with q 0) (sym (opened-is p c.places o));
}

pub poly-both : (t : List ℕ) {r : Answer} → r ≡ read_poly t → (r ≡ read_poly t) × ReadsPoly t r
poly-both t {r} e = (e, poly-promise t r e)
