-- What the search costs: a candidate takes at most three steps for each coefficient, and there are at most as many candidates as pairs of the two listings. Refused runs cost no more.
use Rattle.ratio.specs.declared.Reason.{Reason}
use Rattle.std.specs.Prelude.{Result, Ok, Err}
use mathlib.Core.Bool.{Bool, true, false}
use mathlib.Core.List.{List, [], ◌∷◌}
use Prim.Native.Nat.{ℕ, suc, ◌+◌, ◌*◌, ◌≤◌}
use native.Mathlib.Nat.{mul-le-mul_left}
use native.Mathlib.Omega.{arith}
use lib.IntN.{ℤ, pos}
use lib.ListN.{length}
use Rattle.ratio.specs.Refusal.{zero_r}
use Rattle.ratio.specs.Step.{is_nil, new_of}
use Rattle.ratio.specs.declared.Ratio.{Ratio}
use Rattle.terms.specs.Machine.{Ran, fine, over, and_then, plus, times, counted, step_of, plain, whole_r}
use Rattle.terms.specs.Work.{valued}
use Rattle.terms.proofs.StepsCount.{steps_of, Takes, Any, takes-then, takes-at-most, step-takes}
use Rattle.search.specs.Try.{Count, noted, try_at, unless_zero, try_one, try_row, try_all}

-- three steps for each coefficient, zeros included
pub valued-takes : (l : List Ratio) (x power sum : Ratio) (k : ℕ) → Takes Any k (3 * length l) (valued plain l x power sum k)
unfolding valued
valued-takes [] x power sum k = (omega arith, tt)
valued-takes (a ∷ l) x power sum k =
    takes-then Any k 1 Any (2 + 3 * length l) (3 * suc (length l)) (counted k (step_of times a power)) _ (omega arith) (step-takes k (step_of times a power)) (λ t u.
    takes-then Any (k + 1) 1 Any (1 + 3 * length l) (2 + 3 * length l) (counted (k + 1) (step_of plus sum t)) _ (omega arith) (step-takes (k + 1) (step_of plus sum t)) (λ s v.
    takes-then Any (k + 1 + 1) 1 Any (3 * length l) (1 + 3 * length l) (counted (k + 1 + 1) (step_of times power x)) _ (omega arith) (step-takes (k + 1 + 1) (step_of times power x)) (λ p w.
    valued-takes l x p s (k + 1 + 1 + 1))))

-- the counts, of an answer and of a refusal alike
abbrev pub count_in : {X : Type 0} → Ran Count X → Count
count_in (fine c x) = c
count_in (over c) = c

-- from c to d: at most n candidates, each at most w steps
pub record Few (w n : ℕ) (c d : Count) : Type 0 where
  pub tried : d.tried ≤ c.tried + n
  pub steps : d.steps + w * c.tried ≤ c.steps + w * d.tried

few-none : (w : ℕ) (c : Count) → Few w 0 c c
few-none w c = record { tried = omega arith; steps = omega arith }

few-more : (w n m : ℕ) (c d : Count) → n ≤ m → Few w n c d → Few w m c d
few-more w n m c d h f = record { tried = omega (arith, f.tried); steps = f.steps }

few-both : (w n m : ℕ) (c d e : Count) → Few w n c d → Few w m d e → Few w (n + m) c e
few-both w n m c d e f g = record { tried = omega (arith, f.tried, g.tried); steps = omega (arith, f.steps, g.steps) }

pub few-steps : (w n : ℕ) (c d : Count) → Few w n c d → d.steps ≤ c.steps + w * n
few-steps w n c d f =
    let h : w * d.tried ≤ w * (c.tried + n) = mul-le-mul_left w f.tried in
    omega (arith, f.steps)

few-then : {X Y : Type 0} (w n m : ℕ) (c : Count) (r : Ran Count X) (k : Count → X → Ran Count Y) → Few w n c (count_in r) → ((d : Count) (x : X) → Few w m d (count_in (k d x))) → Few w (n + m) c (count_in (and_then r k))
few-then w n m c (fine d x) k f g = few-both w n m c d (count_in (k d x)) f (g d x)
few-then w n m c (over d) k f g = few-more w n (n + m) c d (omega arith) f

module _ (l : List Ratio) where
  abbrev width : ℕ
  width = 3 * length l

  noted-few : (c : Count) (r : Ran ℕ Ratio) → steps_of r ≤ c.steps + width → Few width 1 c (count_in (noted c.tried r))
  noted-few c (fine k v) h = record { tried = omega arith; steps = omega arith }
  noted-few c (over k) h = record { tried = omega arith; steps = omega arith }

  at-few : (s : Result Ratio Reason) (c : Count) (kept : List Ratio) → Few width 1 c (count_in (try_at l s c kept))
  at-few (Ok x) c kept =
      few-then width 1 0 c (noted c.tried (valued plain l x (whole_r (pos 1)) zero_r c.steps)) _
      (noted-few c (valued plain l x (whole_r (pos 1)) zero_r c.steps) (takes-at-most {X = Ratio} Any c.steps width (valued plain l x (whole_r (pos 1)) zero_r c.steps) (valued-takes l x (whole_r (pos 1)) zero_r c.steps)))
      (λ d v. few-none width d)
  at-few (Err why) c kept = few-more width 0 1 c c (omega arith) (few-none width c)

  unless-few : (t : Bool) (c : Count) (kept : List Ratio) (r : Ran Count (List Ratio)) → Few width 1 c (count_in r) → Few width 1 c (count_in (unless_zero t c kept r))
  unless-few true c kept r h = few-more width 0 1 c c (omega arith) (few-none width c)
  unless-few false c kept r h = h

  pub one-few : (p q : ℤ) (c : Count) (kept : List Ratio) → Few width 1 c (count_in (try_one l p q c kept))
  unfolding try_one
  one-few p q c kept = unless-few (is_nil q) c kept _ (at-few (new_of p q) c kept)

  pub row-few : (p : ℤ) (qs : List ℤ) (c : Count) (kept : List Ratio) → Few width (length qs) c (count_in (try_row l p qs c kept))
  unfolding try_row
  row-few p [] c kept = few-none width c
  row-few p (q ∷ qs) c kept =
      few-more width (1 + length qs) (suc (length qs)) c _ (omega arith)
      (few-then width 1 (length qs) c (try_one l p q c kept) (λ c kept. try_row l p qs c kept) (one-few p q c kept) (λ d kept. row-few p qs d kept))

  pub all-few : (ps qs : List ℤ) (c : Count) (kept : List Ratio) → Few width (length ps * length qs) c (count_in (try_all l ps qs c kept))
  unfolding try_all
  all-few [] qs c kept = few-more width 0 (0 * length qs) c c (omega arith) (few-none width c)
  all-few (p ∷ ps) qs c kept =
      few-more width (length qs + length ps * length qs) (suc (length ps) * length qs) c _ (omega arith)
      (few-then width (length qs) (length ps * length qs) c (try_row l p qs c kept) (λ c kept. try_all l ps qs c kept) (row-few p qs c kept) (λ d kept. all-few ps qs d kept))
