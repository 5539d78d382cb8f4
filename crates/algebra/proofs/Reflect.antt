-- Reification by `search`: the expression of a term is found, not written.
use mathlib.Core.Path.{◌≡◌, refl, sym, ◌∙◌, ap, ap₂}
use mathlib.Core.List.{List, ◌∷◌}
use mathlib.Core.Bool.{Bool}
use Prim.Native.Nat.{ℕ, zero, suc}
use lib.Dec.{T, eqb}
use Rattle.algebra.proofs.Ring.{CRing, nat, pow}
use Rattle.algebra.proofs.Solver.{Expr, var, nil, unit, num, ◌⊕◌, ◌⊖◌, ◌⊗◌, ⊝◌, ◌⊛◌, nf, is_end, look, eval, solve}

-- x is an element of the list
pub data At {A : Type 0} (x : A) : List A → Type 0 where
  here : {ρ : List A} → At x (x ∷ ρ)
  there : {y : A} {ρ : List A} → At x ρ → At x (y ∷ ρ)

abbrev pub index : {A : Type 0} {x : A} {ρ : List A} → At x ρ → ℕ
index here = zero
index (there p) = suc (index p)

-- a test that computes at literals alone
abbrev pub literal : ℕ → Bool
literal k = eqb k k

module _ {A : Type 0} (R : CRing A) where
  open R use {add as ◌+◌, mul as ◌*◌, neg as -◌, nil as 𝟘, one as 𝟙}

  infixl 60 ◌+◌
  infixl 70 ◌*◌
  infix 75 -◌
  -- an element with a closed expression, such as a numeral of one ring in particular
  pub record Closed (a : A) : Type 0 where
    pub expr : Expr
    pub value : (ρ : List A) → eval R ρ expr ≡ a

  -- how a term is built from the atoms ρ
  pub data Rep (ρ : List A) : A → Type 0 where
    rep_add : {a b : A} → Rep ρ a → Rep ρ b → Rep ρ (a + b)
    rep_mul : {a b : A} → Rep ρ a → Rep ρ b → Rep ρ (a * b)
    rep_neg : {a : A} → Rep ρ a → Rep ρ (- a)
    rep-nil : Rep ρ 𝟘
    rep-one : Rep ρ 𝟙
    rep-nat : (k : ℕ) → T (literal k) → Rep ρ (nat R k)
    rep-pow : {a : A} (k : ℕ) → T (literal k) → Rep ρ a → Rep ρ (pow R a k)
    rep-closed : {a : A} → Closed a → Rep ρ a
    rep_at : {a : A} → At a ρ → Rep ρ a

  abbrev pub code : {ρ : List A} {a : A} → Rep ρ a → Expr
  code (rep_add x y) = code x ⊕ code y
  code (rep_mul x y) = code x ⊗ code y
  code (rep_neg x) = ⊝ code x
  code rep-nil = nil
  code rep-one = unit
  code (rep-nat k t) = num k
  code (rep-pow k t x) = code x ⊛ k
  code (rep-closed c) = c.expr
  code (rep_at p) = var (index p)

  look_at : {a : A} {ρ : List A} (p : At a ρ) → look R ρ (index p) ≡ a
  look_at here = refl
  look_at (there p) = look_at p

  code_is : {ρ : List A} {a : A} (r : Rep ρ a) → eval R ρ (code r) ≡ a
  code_is (rep_add x y) = ap₂ ◌+◌ (code_is x) (code_is y)
  code_is (rep_mul x y) = ap₂ ◌*◌ (code_is x) (code_is y)
  code_is (rep_neg x) = ap -◌ (code_is x)
  code_is rep-nil = refl
  code_is rep-one = refl
  code_is (rep-nat k t) = refl
  code_is (rep-pow k t x) = ap (λ t. pow R t k) (code_is x)
  code_is {ρ} (rep-closed c) = c.value ρ
  code_is (rep_at p) = look_at p

  pub data Both (ρ : List A) (a b : A) : Type 0 where
    both : Rep ρ a → Rep ρ b → Both ρ a b

  abbrev pub same : {ρ : List A} {a b : A} → Both ρ a b → Bool
  same (both x y) = is_end (nf (code x ⊖ code y))

  -- the solver: `ring! R (a ∷ b ∷ []) (search reify depth 30 fits 20000) tt`, where a and b are the atoms
  pub ring! : (ρ : List A) {a b : A} (x : Both ρ a b) → T (same x) → a ≡ b
  ring! ρ (both x y) t = sym (code_is x) ∙ solve R ρ (code x) (code y) t ∙ code_is y

pub ruleset reify = (both, rep_add, rep_mul, rep_neg, rep-nil, rep-one, rep-nat, rep-pow, rep_at, here, there, tt)
