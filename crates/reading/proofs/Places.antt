-- The place of a bad word lies within the text; reading makes no steps.
use Rattle.ratio.specs.declared.Reason.{Reason}
use Rattle.std.specs.Prelude.{Result, Ok, Err}
use mathlib.Core.Path.{◌≡◌, refl}
use mathlib.Core.Bool.{Bool, true, false, cond}
use mathlib.Core.List.{List, [], ◌∷◌, ◌++◌}
use Prim.Native.Nat.{ℕ, ◌+◌, ◌≤◌}
use native.Mathlib.Omega.{arith}
use lib.Dec.{ltb}
use lib.ListN.{length, length-append}
use Rattle.ratio.specs.Step.{is_nil}
use Rattle.ratio.specs.declared.Ratio.{Ratio}
use Rattle.ratio.specs.declared.Reason.TheVariants.{TooLong, Malformed}
use Rattle.terms.specs.declared.Answer.{Answer}
use Rattle.terms.specs.Answer.{done_with, refused_with}
use Rattle.terms.specs.Poly.{poly_of}
use Rattle.text.specs.Spell.{spaced, parted}
use Rattle.tokens.specs.Words.{words_of}
use Rattle.reading.specs.Numbers.{ratio_from}
use Rattle.reading.specs.Coefficients.{bad_at, alone, top_of, onward, coeffs_from, read_poly}
use Rattle.reading.proofs.Joined.{parted-words}

-- what is bad is bad at most at n
abbrev pub Placed : Answer → ℕ → Type 0
Placed r n = (k : ℕ) → r.outcome ≡ Err (Malformed k) → k ≤ n

bad-placed : (at n : ℕ) → at ≤ n → Placed (bad_at at) n
bad-placed at n h k e = let z : at ≡ k = cc in omega arith

alone-placed : (at n : ℕ) (l : List Ratio) → at ≤ n → Placed (alone at l) n
alone-placed at n [] h k e = let z : ◌≡◌ {A = ℕ} 0 1 = cc in absurd (omega arith)
alone-placed at n (a ∷ l) h k e = bad-placed at n h k e

top_placed : (at n : ℕ) (l : List Ratio) (c : Ratio) (t u : Bool) → at ≤ n → Placed (cond t (alone at l) (cond u (refused_with TooLong 0) (done_with (poly_of (l ++ (c ∷ []))) 0))) n
top_placed at n l c true u h k e = alone-placed at n l h k e
top_placed at n l c false true h k e = let z : ◌≡◌ {A = ℕ} 0 1 = cc in absurd (omega arith)
top_placed at n l c false false h k e = let z : ◌≡◌ {A = ℕ} 0 1 = cc in absurd (omega arith)

onward-placed : (at n : ℕ) (f : Ratio → Answer) (s : Result Ratio Reason) → at ≤ n → ((c : Ratio) → Placed (f c) n) → Placed (onward at f s) n
onward-placed at n f (Ok c) h g = g c
onward-placed at n f (Err why) h g = bad-placed at n h

coeffs-placed : (at n : ℕ) (l : List Ratio) (ws : List (List ℕ)) → at + length (parted ws) ≤ n → Placed (coeffs_from at l ws) n
unfolding coeffs_from parted spaced
coeffs-placed at n l [] h = bad-placed at n (omega arith)
coeffs-placed at n l (w ∷ []) h = onward-placed at n (λ c. top_of at l c) (ratio_from w) (omega arith) (λ c. top_placed at n l c (is_nil c.num) (ltb 31 (length l)) (omega arith))
coeffs-placed at n l (w ∷ v ∷ ws) h =
    onward-placed at n (λ c. coeffs_from (at + length w + 1) (l ++ (c ∷ [])) (v ∷ ws)) (ratio_from w) (omega arith)
    (λ c. coeffs-placed (at + length w + 1) n (l ++ (c ∷ [])) (v ∷ ws) (omega (arith, length-append w (32 ∷ v ++ spaced ws))))

pub poly-placed : (t : List ℕ) → Placed (read_poly t) (length t)
unfolding read_poly
poly-placed t = coeffs-placed 0 (length t) [] (words_of t) (rw parted-words (omega arith))

-- ---- steps

alone-steps : (at : ℕ) (l : List Ratio) → (alone at l).steps ≡ 0
alone-steps at [] = refl
alone-steps at (a ∷ l) = refl

top-steps : (at : ℕ) (l : List Ratio) (c : Ratio) (t u : Bool) → (cond t (alone at l) (cond u (refused_with TooLong 0) (done_with (poly_of (l ++ (c ∷ []))) 0))).steps ≡ 0
top-steps at l c true u = alone-steps at l
top-steps at l c false true = refl
top-steps at l c false false = refl

onward-steps : (at : ℕ) (f : Ratio → Answer) (s : Result Ratio Reason) → ((c : Ratio) → (f c).steps ≡ 0) → (onward at f s).steps ≡ 0
onward-steps at f (Ok c) h = h c
onward-steps at f (Err why) h = refl

coeffs-steps : (at : ℕ) (l : List Ratio) (ws : List (List ℕ)) → (coeffs_from at l ws).steps ≡ 0
unfolding coeffs_from
coeffs-steps at l [] = refl
coeffs-steps at l (w ∷ []) = onward-steps at (λ c. top_of at l c) (ratio_from w) (λ c. top-steps at l c (is_nil c.num) (ltb 31 (length l)))
coeffs-steps at l (w ∷ v ∷ ws) = onward-steps at (λ c. coeffs_from (at + length w + 1) (l ++ (c ∷ [])) (v ∷ ws)) (ratio_from w) (λ c. coeffs-steps (at + length w + 1) (l ++ (c ∷ [])) (v ∷ ws))

pub poly-steps : (t : List ℕ) → (read_poly t).steps ≡ 0
unfolding read_poly
poly-steps t = coeffs-steps 0 [] (words_of t)
