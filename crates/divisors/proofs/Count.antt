-- How often a number stands in a list of whole numbers.
use mathlib.Core.Path.{◌≡◌, refl, sym, ap, ◌∙◌, subst}
use mathlib.Core.Bool.{Bool, true, false}
use mathlib.Core.List.{List, [], ◌∷◌, ◌++◌}
use Prim.Native.Nat.{ℕ, zero, suc, ◌+◌, ◌<◌, ◌≤◌}
use native.Mathlib.Omega.{arith}
use borrow.Author.Tests.{eq-eqb, eqb-true}
use lib.Dec.{eqb, eqb-suc-suc}
use lib.IntN.{ℤ, pos, negsuc, neg_ℤ, nat_abs}
use Rattle.divisors.specs.Marks.{digit}
use Rattle.divisors.specs.Promise.{same_z, count_more, count_of}

pub count_none : (z : ℤ) → count_of z [] ≡ 0
unfolding count_of
count_none z = refl

one_more : (t : Bool) (a b : ℕ) → count_more t (a + b) ≡ count_more t a + b
one_more true a b = omega arith
one_more false a b = refl

pub count-append : (z : ℤ) (l m : List ℤ) → count_of z (l ++ m) ≡ count_of z l + count_of z m
unfolding count_of
count-append z [] m = omega arith
count-append z (x ∷ l) m = ap (count_more (same_z z x)) (count-append z l m) ∙ one_more (same_z z x) (count_of z l) (count_of z m)

more-digit : (t : Bool) (a : ℕ) → count_more t a ≡ digit t + a
more-digit true a = omega arith
more-digit false a = omega arith

-- a number and its negative: z is one of them exactly if it has that size
pub count-pair : (z : ℤ) (i : ℕ) (l : List ℤ) → 0 < i → count_of z (pos i ∷ neg_ℤ (pos i) ∷ l) ≡ digit (eqb (nat_abs z) i) + count_of z l
unfolding count_of
count-pair z zero l h = absurd (omega arith)
count-pair (pos a) (suc i) l h = more-digit (eqb a (suc i)) (count_of (pos a) l)
count-pair (negsuc a) (suc i) l h = more-digit (eqb a i) (count_of (negsuc a) l) ∙ ap (λ t. digit t + count_of (negsuc a) l) (sym (eqb-suc-suc a i))

pub count-more : (z x : ℤ) (l : List ℤ) → count_of z l ≤ count_of z (x ∷ l)
unfolding count_of
count-more z x l = omega (arith, more-digit (same_z z x) (count_of z l))

same_refl : (z : ℤ) → same_z z z ≡ true
same_refl (pos a) = eq-eqb a a refl
same_refl (negsuc a) = eq-eqb a a refl

pub same-eq : (z x : ℤ) → same_z z x ≡ true → z ≡ x
same-eq (pos a) (pos b) e = ap pos (eqb-true a b e)
same-eq (pos a) (negsuc b) e = absurd (let f : ◌≡◌ {A = ℕ} 0 1 = cc in omega arith)
same-eq (negsuc a) (pos b) e = absurd (let f : ◌≡◌ {A = ℕ} 0 1 = cc in omega arith)
same-eq (negsuc a) (negsuc b) e = ap negsuc (eqb-true a b e)

-- what stands in a list is counted
pub count-met : (z : ℤ) (front back : List ℤ) → 0 < count_of z (front ++ (z ∷ back))
unfolding count_of
count-met z [] back = subst (λ t. 0 < count_more t (count_of z back)) (sym (same_refl z)) (omega arith)
count-met z (x ∷ front) back = omega (arith, more-digit (same_z z x) (count_of z (front ++ (z ∷ back))), count-met z front back)
