-- The plain machine only counts: what starts with k steps is what starts with none, with k more on the counter. By the relation of the plain machine to itself.
use Rattle.ratio.specs.declared.Reason.{Reason}
use Rattle.std.specs.Prelude.{Result, Ok, Err}
use mathlib.Core.Path.{◌≡◌, refl, ap₂, ap}
use mathlib.Core.List.{List, [], ◌∷◌}
use Prim.Native.Nat.{ℕ, suc, ◌+◌}
use native.Mathlib.Omega.{arith}
use Rattle.ratio.specs.Refusal.{ratio_of}
use Rattle.ratio.specs.Step.{inv_of}
use Rattle.ratio.specs.declared.Ratio.{Ratio}
use Rattle.terms.specs.Machine.{Op, Ran, fine, over, counted, step_of, plain}
use Rattle.terms.proofs.StepsRelated.{Pairwise, none, more, Relation, Outcome, answered, refused, Kept}

-- k more on the counter
abbrev pub shift : {X : Type 0} → ℕ → Ran ℕ X → Ran ℕ X
shift k (fine n x) = fine (k + n) x
shift k (over n) = over (k + n)

pub same-list : {A : Type 0} {xs ys : List A} → Pairwise (λ (x y : A). x ≡ y) xs ys → xs ≡ ys
same-list none = refl
same-list {A = A} (more p h) = ap₂ (λ (x : A) (l : List A). x ∷ l) p (same-list h)

pub list_same : {A : Type 0} (xs : List A) → Pairwise (λ (x y : A). x ≡ y) xs xs
list_same [] = none
list_same (x ∷ xs) = more refl (list_same xs)

module _ (k : ℕ) where
  -- the same numbers, and k more on the first counter
  abbrev pub shifting : Relation Ratio Ratio ℕ ℕ
  shifting = record {
    Known = Unit {0};
    Later = λ w w'. Unit {0};
    Logs = λ w m n. m ≡ k + n;
    Ends = λ m n. m ≡ k + n;
    Wires = λ w x y. x ≡ y;
    Wholes = λ z. Unit {0};
  }

  step-shifted : (m n : ℕ) (s : Result Ratio Reason) → m ≡ k + n → Outcome shifting (λ w x y. x ≡ y) tt (counted m s) (counted n s)
  step-shifted m n (Ok r) e = let q : suc m ≡ k + suc n = omega arith in answered tt tt q refl
  step-shifted m n (Err why) e = let q : suc m ≡ k + suc n = omega arith in refused q

  make-shifted : (op : Op) (m n : ℕ) (x u y v : Ratio) → m ≡ k + n → x ≡ y → u ≡ v → Outcome shifting (λ w x y. x ≡ y) tt (counted m (step_of op x u)) (counted n (step_of op y v))
  make-shifted op m n x u y v e p q = rw (p, q) (step-shifted m n (step_of op y v) e)

  pub shifting-kept : Kept shifting plain plain
  shifting-kept = record {
    later_refl = λ w. tt;
    later_trans = λ p q. tt;
    still = λ p h. h;
    same-value = λ h. h;
    small = λ z h. tt;
    whole = λ w z h. refl;
    inverse = λ h. ap (λ (x : Ratio). ratio_of (inv_of x)) h;
    make = λ op {w} {l} {n} {x} {u} {y} {v} e p q. make-shifted op l n x u y v e p q;
  }

  -- related work is the same work, shifted
  pub shifted : {X : Type 0} {P : Unit {0} → X → X → Type 0} → ((x y : X) → P tt x y → x ≡ y) → {r s : Ran ℕ X} → Outcome shifting P tt r s → r ≡ shift k s
  shifted f (answered {x = x} {y = y} w l e p) = ap₂ fine e (f x y p)
  shifted f (refused e) = ap over e
