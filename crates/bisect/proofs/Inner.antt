-- One call of the bisection: each way it can go, whatever was found before.
use mathlib.Core.Path.{◌≡◌, refl, sym, ap, ◌∙◌}
use mathlib.Core.Bool.{Bool, true, false, cond, true≢false}
use mathlib.Core.List.{List}
use Prim.Native.Nat.{ℕ, zero, suc, ◌-◌, ◌≤◌}
use native.Mathlib.Omega.{arith}
use borrow.Author.Tests.{eqb-true, eqb-false}
use lib.Dec.{eqb}
use lib.Ieee.{Float, binary64, sub, lt}
use Rattle.ratio.specs.declared.Reason.TheVariants.{TooDeep}
use Rattle.yun.specs.Got.{got, none, then_got}
use Rattle.bisect.specs.declared.Bracket.{Bracket}
use Rattle.bisect.specs.declared.Cut.{Cut}
use Rattle.bisect.specs.Bracket.{Found, pushed, marked}
use Rattle.bisect.specs.Cut.{count_in, cut_of}
use Rattle.bisect.specs.Bisect.{decided, partly, split_by, inner_of}

decided-none : (n : ℕ) (w : Bool) (x y z : Found) → n ≡ 0 → decided n w x y z ≡ x
decided-none zero w x y z h = refl
decided-none (suc n) w x y z h = absurd (omega arith)

decided-one : (n : ℕ) (w : Bool) (x y z : Found) → n ≡ 1 → decided n w x y z ≡ y
decided-one zero w x y z h = absurd (omega arith)
decided-one (suc zero) w x y z h = refl
decided-one (suc (suc n)) w x y z h = absurd (omega arith)

decided-narrow : (n : ℕ) (w : Bool) (x y z : Found) → 2 ≤ n → w ≡ true → decided n w x y z ≡ y
decided-narrow zero w x y z h e = absurd (omega arith)
decided-narrow (suc zero) w x y z h e = absurd (omega arith)
decided-narrow (suc (suc n)) true x y z h e = refl
decided-narrow (suc (suc n)) false x y z h e = cc

decided-split : (n : ℕ) (w : Bool) (x y z : Found) → 2 ≤ n → w ≡ false → decided n w x y z ≡ z
decided-split zero w x y z h e = absurd (omega arith)
decided-split (suc zero) w x y z h e = absurd (omega arith)
decided-split (suc (suc n)) true x y z h e = cc
decided-split (suc (suc n)) false x y z h e = refl

-- ---- what is found before the work goes on

pub then-none : (g : Found) (f : List Bracket → Found) → ((l : List Bracket) → f l ≡ got l) → g ≡ then_got g f
then-none (got l) f h = sym (h l)
then-none (none why) f h = refl

pub then_like : (g : Found) (f k : List Bracket → Found) → ((l : List Bracket) → f l ≡ k l) → then_got g f ≡ then_got g k
then_like (got l) f k h = h l
then_like (none why) f k h = refl

then-split : (g : Found) (s : Cut) (x y : List Bracket → Found)
    → then_got (then_got (then_got g (λ l. marked s.exact s.mid l)) (λ l. partly s.left x l)) (λ l. partly s.right y l) ≡ then_got g (λ l. split_by s x y l)
then-split (got l) s x y = refl
then-split (none why) s x y = refl

pub then-partly : (g : Found) (e : Bool) (x : List Bracket → Found) → e ≡ true → then_got g (λ l. partly e x l) ≡ then_got g x
then-partly g e x h = then_like g (λ l. partly e x l) x (λ l. ap (λ (b : Bool). partly b x l) h)

pub then-missing : (g : Found) (e : Bool) (x : List Bracket → Found) → e ≡ false → then_got g (λ l. partly e x l) ≡ g
then-missing g e x h = sym (then-none g (λ l. partly e x l) (λ l. ap (λ (b : Bool). partly b x l) h))

-- ---- one call

module _ (k : ℕ) (c : List (List Float)) (a b tol : Float) (g : Found) where
  abbrev all : Found
  all = then_got g (λ l. inner_of k c a b tol l)

  inner-is : (l : List Bracket) (x : Found) → ((z : Found) → decided (count_in c a b) (lt (sub binary64 b a) tol) (got l) (pushed a b l) z ≡ x) → inner_of k c a b tol l ≡ x
  unfolding inner_of
  inner-is l x h = from k
    where
      from : (k : ℕ) → inner_of k c a b tol l ≡ x
      from zero = h _
      from (suc k) = h _

  pub inner-none : count_in c a b ≡ 0 → g ≡ all
  inner-none h = then-none g (λ l. inner_of k c a b tol l) (λ l. inner-is l (got l) (λ z. decided-none (count_in c a b) _ _ _ z h))

  inner-one : count_in c a b ≡ 1 → then_got g (λ l. pushed a b l) ≡ all
  inner-one h = then_like g (λ l. pushed a b l) (λ l. inner_of k c a b tol l) (λ l. sym (inner-is l (pushed a b l) (λ z. decided-one (count_in c a b) _ _ _ z h)))

  inner-narrow : 2 ≤ count_in c a b → lt (sub binary64 b a) tol ≡ true → then_got g (λ l. pushed a b l) ≡ all
  inner-narrow h w = then_like g (λ l. pushed a b l) (λ l. inner_of k c a b tol l) (λ l. sym (inner-is l (pushed a b l) (λ z. decided-narrow (count_in c a b) _ _ _ z h w)))

  -- a bracket as it is
  pub inner-stays : (n : ℕ) → n ≡ count_in c a b → (n ≡ 0 → ⊥) → cond (eqb n 1) true (lt (sub binary64 b a) tol) ≡ true → then_got g (λ l. pushed a b l) ≡ all
  inner-stays n e h w = by (eqb n 1) refl w
    where
      by : (t : Bool) → eqb n 1 ≡ t → cond t true (lt (sub binary64 b a) tol) ≡ true → then_got g (λ l. pushed a b l) ≡ all
      by true q v = inner-one (sym e ∙ eqb-true n 1 q)
      by false q v = inner-narrow (omega (arith, e, h, eqb-false n 1 q)) v

  -- a stretch to split
  pub inner-goes : (n : ℕ) → n ≡ count_in c a b → (n ≡ 0 → ⊥) → cond (eqb n 1) true (lt (sub binary64 b a) tol) ≡ false → (2 ≤ count_in c a b) × (lt (sub binary64 b a) tol ≡ false)
  inner-goes n e h w = by (eqb n 1) refl w
    where
      by : (t : Bool) → eqb n 1 ≡ t → cond t true (lt (sub binary64 b a) tol) ≡ false → (2 ≤ count_in c a b) × (lt (sub binary64 b a) tol ≡ false)
      by true q v = absurd (true≢false v)
      by false q v = (omega (arith, e, h, eqb-false n 1 q), v)

  module _ (h : 2 ≤ count_in c a b) where
    module _ (w : lt (sub binary64 b a) tol ≡ false) where
      deep_is : (k : ℕ) (l : List Bracket) → k ≡ 0 → inner_of k c a b tol l ≡ none TooDeep
      unfolding inner_of
      deep_is zero l e = decided-split (count_in c a b) _ _ _ (none TooDeep) h w
      deep_is (suc k) l e = absurd (omega arith)

      pub inner-deep : (l : List Bracket) → k ≡ 0 → g ≡ got l → none TooDeep ≡ all
      inner-deep l e o = sym (ap (λ (g : Found). then_got g (λ l. inner_of k c a b tol l)) o ∙ deep_is k l e)

      module _ (s : Cut) (q : s ≡ cut_of c a b tol) where
        abbrev lower : List Bracket → Found
        lower l = inner_of (k - 1) c a s.lo tol l

        abbrev upper : List Bracket → Found
        upper l = inner_of (k - 1) c s.hi b tol l

        split-is : (k : ℕ) (l : List Bracket) → 1 ≤ k → split_by s (λ l. inner_of (k - 1) c a s.lo tol l) (λ l. inner_of (k - 1) c s.hi b tol l) l ≡ inner_of k c a b tol l
        unfolding inner_of
        split-is zero l e = absurd (omega arith)
        split-is (suc k) l e =
            let n : suc k - 1 ≡ k = omega arith in
            ap (λ (k : ℕ). split_by s (λ l. inner_of k c a s.lo tol l) (λ l. inner_of k c s.hi b tol l) l) n
            ∙ ap (λ (s : Cut). split_by s (λ l. inner_of k c a s.lo tol l) (λ l. inner_of k c s.hi b tol l) l) q
            ∙ sym (decided-split (count_in c a b) _ _ _ _ h w)

        module _ (e : 1 ≤ k) (now : Found) (m : now ≡ then_got g (λ l. marked s.exact s.mid l)) where
          parts : then_got (then_got now (λ l. partly s.left lower l)) (λ l. partly s.right upper l) ≡ all
          parts =
              ap (λ (n : Found). then_got (then_got n (λ l. partly s.left lower l)) (λ l. partly s.right upper l)) m
              ∙ then-split g s lower upper
              ∙ then_like g (λ l. split_by s lower upper l) (λ l. inner_of k c a b tol l) (λ l. split-is k l e)

          -- with what is found in the left part
          module _ (first : Found) (f : first ≡ then_got now (λ l. partly s.left lower l)) where
            pub inner-right : s.right ≡ true → then_got first upper ≡ all
            inner-right y = sym (then-partly first s.right upper y) ∙ ap (λ (n : Found). then_got n (λ l. partly s.right upper l)) f ∙ parts

            pub inner-end : s.right ≡ false → first ≡ all
            inner-end y = sym (then-missing first s.right upper y) ∙ ap (λ (n : Found). then_got n (λ l. partly s.right upper l)) f ∙ parts
