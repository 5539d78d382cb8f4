-- A decision procedure for commutative rings: expressions, their normal form (sorted monomials with integer coefficients), and that it is sound.
use mathlib.Core.Path.{◌≡◌, refl, sym, ◌∙◌, ap, ap₂, subst}
use mathlib.Core.Bool.{Bool, true, false}
use mathlib.Core.List.{List, [], ◌∷◌}
use Prim.Native.Nat.{ℕ, zero, suc, compare, Ordering}
use Prim.Native.Nat.{◌+◌ as ◌+ⁿ◌}
use lib.Dec.{T, compare_is_eq, eqb→eq}
use lib.IntN.{ℤ, pos, negsuc, neg_ℤ, ◌+ℤ◌, ◌*ℤ◌}
use Rattle.algebra.proofs.Ring as RL
use Rattle.algebra.proofs.Ring.{CRing}
use Rattle.algebra.proofs.Whole.{up, dn, add_is, mul_is, neg_is}

-- variable 0, 1, ..; 0; 1; a numeral; sum, difference, product, negative, power
infixl 60 ◌⊕◌
infixl 60 ◌⊖◌
infixl 70 ◌⊗◌
infix 75 ⊝◌
infixl 80 ◌⊛◌
pub data Expr : Type 0 where
  var : ℕ → Expr
  nil : Expr
  unit : Expr
  num : ℕ → Expr
  ◌⊕◌ : Expr → Expr → Expr
  ◌⊖◌ : Expr → Expr → Expr
  ◌⊗◌ : Expr → Expr → Expr
  ⊝◌ : Expr → Expr
  ◌⊛◌ : Expr → ℕ → Expr

-- a monomial: the exponents of the variables 0, 1, ..
abbrev pub Mon : Type 0
Mon = List ℕ

pub data Poly : Type 0 where
  end : Poly
  term : ℤ → Mon → Poly → Poly

abbrev pub lex : Ordering → Ordering → Ordering
lex Ordering.lt r = Ordering.lt
lex Ordering.eq r = r
lex Ordering.gt r = Ordering.gt

abbrev pub cmp : Mon → Mon → Ordering
cmp [] [] = Ordering.eq
cmp [] (b ∷ n) = Ordering.lt
cmp (a ∷ m) [] = Ordering.gt
cmp (a ∷ m) (b ∷ n) = let r = cmp m n in lex (compare a b) r

abbrev pub mmul : Mon → Mon → Mon
mmul [] n = n
mmul (a ∷ m) [] = a ∷ m
mmul (a ∷ m) (b ∷ n) = (a +ⁿ b) ∷ mmul m n

abbrev pub mvar : ℕ → Mon
mvar zero = 1 ∷ []
mvar (suc i) = 0 ∷ mvar i

abbrev pub tidy : ℤ → Mon → Poly → Poly
tidy (pos zero) m p = p
tidy (pos (suc k)) m p = term (pos (suc k)) m p
tidy (negsuc k) m p = term (negsuc k) m p

abbrev pub step : Ordering → ℤ → Mon → ℤ → Mon → Poly → Poly → Poly
step Ordering.lt c m d n p r = term c m (term d n p)
step Ordering.eq c m d n p r = tidy (c +ℤ d) n p
step Ordering.gt c m d n p r = term d n r

abbrev pub ins : ℤ → Mon → Poly → Poly
ins c m end = term c m end
ins c m (term d n p) = let r = ins c m p in step (cmp m n) c m d n p r

abbrev pub padd : Poly → Poly → Poly
padd end q = q
padd (term c m p) q = ins c m (padd p q)

abbrev pub pneg : Poly → Poly
pneg end = end
pneg (term c m p) = term (neg_ℤ c) m (pneg p)

-- c m p + q
abbrev pub pmula : ℤ → Mon → Poly → Poly → Poly
pmula c m end q = q
pmula c m (term d n p) q = ins (c *ℤ d) (mmul m n) (pmula c m p q)

abbrev pub pmul : Poly → Poly → Poly
pmul end q = end
pmul (term c m p) q = pmula c m q (pmul p q)

abbrev pub ppow : Poly → ℕ → Poly
ppow p zero = term (pos 1) [] end
ppow p (suc k) = pmul (ppow p k) p

abbrev pub nf : Expr → Poly
nf (var i) = term (pos 1) (mvar i) end
nf nil = end
nf unit = term (pos 1) [] end
nf (num k) = tidy (pos k) [] end
nf (a ⊕ b) = padd (nf a) (nf b)
nf (a ⊖ b) = padd (nf a) (pneg (nf b))
nf (a ⊗ b) = pmul (nf a) (nf b)
nf (⊝ a) = pneg (nf a)
nf (a ⊛ k) = ppow (nf a) k

abbrev pub is_end : Poly → Bool
is_end end = true
is_end (term c m p) = false

IsEq : Ordering → Type 0
IsEq o = T (compare_is_eq o)

cmp-eq-go : (a b : ℕ) (m n : Mon) → (cmp m n ≡ Ordering.eq → m ≡ n) → (o : Ordering) → compare a b ≡ o → lex o (cmp m n) ≡ Ordering.eq → (a ∷ m) ≡ (b ∷ n)
unfolding IsEq
cmp-eq-go a b m n k Ordering.lt h e = absurd (subst IsEq (sym e) tt)
cmp-eq-go a b m n k Ordering.eq h e = ap₂ ◌∷◌ (eqb→eq a b (subst IsEq (sym h) tt)) (k e)
cmp-eq-go a b m n k Ordering.gt h e = absurd (subst IsEq (sym e) tt)

cmp-eq : (m n : Mon) → cmp m n ≡ Ordering.eq → m ≡ n
unfolding IsEq
cmp-eq [] [] e = refl
cmp-eq [] (b ∷ n) e = absurd (subst IsEq (sym e) tt)
cmp-eq (a ∷ m) [] e = absurd (subst IsEq (sym e) tt)
cmp-eq (a ∷ m) (b ∷ n) e = cmp-eq-go a b m n (cmp-eq m n) (compare a b) refl e

module _ {A : Type 0} (R : CRing A) where
  open R use {add as ◌+◌, mul as ◌*◌, neg as -◌, nil as 𝟘, one as 𝟙, add_assoc, add_comm, add-nil, add-neg, mul-one, distl}

  infixl 60 ◌+◌
  infixl 70 ◌*◌
  infix 75 -◌
  abbrev pub look : List A → ℕ → A
  look [] i = 𝟙
  look (a ∷ ρ) zero = a
  look (a ∷ ρ) (suc i) = look ρ i

  abbrev pub eval : List A → Expr → A
  eval ρ (var i) = look ρ i
  eval ρ nil = 𝟘
  eval ρ unit = 𝟙
  eval ρ (num k) = RL.nat R k
  eval ρ (a ⊕ b) = eval ρ a + eval ρ b
  eval ρ (a ⊖ b) = eval ρ a + - eval ρ b
  eval ρ (a ⊗ b) = eval ρ a * eval ρ b
  eval ρ (⊝ a) = - eval ρ a
  eval ρ (a ⊛ k) = RL.pow R (eval ρ a) k

  int : ℤ → A
  int z = RL.nat R (up z) + - RL.nat R (dn z)

  diff-shift : (a b k : A) → (a + k) + - (b + k) ≡ a + - b
  diff-shift a b k = ap (λ t. (a + k) + t) (RL.neg-add-dist R b k) ∙ RL.add-swap R a k (- b) (- k) ∙ ap (λ t. (a + - b) + t) (add-neg k) ∙ add-nil (a + - b)

  diff-eq : (a b c d : A) → a + d ≡ c + b → a + - b ≡ c + - d
  diff-eq a b c d e = sym (diff-shift a b d) ∙ ap₂ (λ s t. s + - t) e (add_comm b d) ∙ diff-shift c d b

  int-add : (x y : ℤ) → int (x +ℤ y) ≡ int x + int y
  unfolding int
  int-add x y =
      diff-eq (RL.nat R (up (x +ℤ y))) (RL.nat R (dn (x +ℤ y))) (RL.nat R (up x) + RL.nat R (up y)) (RL.nat R (dn x) + RL.nat R (dn y))
      (simp (← RL.nat-add R) (ap (RL.nat R) (add_is x y)))
      ∙ ap (λ t. (RL.nat R (up x) + RL.nat R (up y)) + t) (RL.neg-add-dist R (RL.nat R (dn x)) (RL.nat R (dn y)))
      ∙ RL.add-swap R (RL.nat R (up x)) (RL.nat R (up y)) (- RL.nat R (dn x)) (- RL.nat R (dn y))

  mul-diff : (a b c d : A) → (a + - b) * (c + - d) ≡ (a * c + b * d) + - (a * d + b * c)
  mul-diff a b c d = simp (distl, RL.distr R, RL.mul-neg R, RL.neg-mul R, RL.neg-neg R, RL.neg-add-dist R, add_assoc, add_comm, RL.add-lcomm R)

  int-mul : (x y : ℤ) → int (x *ℤ y) ≡ int x * int y
  unfolding int
  int-mul x y =
      diff-eq (RL.nat R (up (x *ℤ y))) (RL.nat R (dn (x *ℤ y))) (RL.nat R (up x) * RL.nat R (up y) + RL.nat R (dn x) * RL.nat R (dn y)) (RL.nat R (up x) * RL.nat R (dn y) + RL.nat R (dn x) * RL.nat R (up y))
      (simp (← RL.nat-mul R, ← RL.nat-add R) (ap (RL.nat R) (mul_is x y)))
      ∙ sym (mul-diff (RL.nat R (up x)) (RL.nat R (dn x)) (RL.nat R (up y)) (RL.nat R (dn y)))

  int-neg : (x : ℤ) → int (neg_ℤ x) ≡ - int x
  unfolding int
  int-neg x =
      diff-eq (RL.nat R (up (neg_ℤ x))) (RL.nat R (dn (neg_ℤ x))) (RL.nat R (dn x)) (RL.nat R (up x)) (simp (← RL.nat-add R) (ap (RL.nat R) (neg_is x)))
      ∙ sym (RL.neg-add-dist R (RL.nat R (up x)) (- RL.nat R (dn x)) ∙ ap (λ t. - RL.nat R (up x) + t) (RL.neg-neg R (RL.nat R (dn x))) ∙ add_comm (- RL.nat R (up x)) (RL.nat R (dn x)))

  int-pos : (n : ℕ) → int (pos n) ≡ RL.nat R n
  unfolding int RL.nat up dn
  int-pos n = ap (λ t. RL.nat R n + t) (RL.neg-nil R) ∙ add-nil (RL.nat R n)

  meval : List A → Mon → A
  meval ρ [] = 𝟙
  meval [] (e ∷ m) = 𝟙
  meval (a ∷ ρ) (e ∷ m) = RL.pow R a e * meval ρ m

  meval-mul : (ρ : List A) (m n : Mon) → meval ρ (mmul m n) ≡ meval ρ m * meval ρ n
  unfolding meval
  meval-mul ρ [] n = sym (RL.one-mul R (meval ρ n))
  meval-mul ρ (a ∷ m) [] = sym (mul-one (meval ρ (a ∷ m)))
  meval-mul [] (a ∷ m) (b ∷ n) = sym (mul-one 𝟙)
  meval-mul (x ∷ ρ) (a ∷ m) (b ∷ n) = ap₂ ◌*◌ (RL.pow-add R x a b) (meval-mul ρ m n) ∙ RL.mul-swap R (RL.pow R x a) (RL.pow R x b) (meval ρ m) (meval ρ n)

  meval-var : (ρ : List A) (i : ℕ) → meval ρ (mvar i) ≡ look ρ i
  unfolding meval RL.pow
  meval-var [] zero = refl
  meval-var [] (suc i) = refl
  meval-var (a ∷ ρ) zero = mul-one (𝟙 * a) ∙ RL.one-mul R a
  meval-var (a ∷ ρ) (suc i) = RL.one-mul R (meval ρ (mvar i)) ∙ meval-var ρ i

  module _ (ρ : List A) where
    peval : Poly → A
    peval end = 𝟘
    peval (term c m p) = int c * meval ρ m + peval p

    tidy-is : (c : ℤ) (m : Mon) (p : Poly) → peval (tidy c m p) ≡ int c * meval ρ m + peval p
    unfolding peval
    tidy-is (pos zero) m p = sym (ap (λ t. t * meval ρ m + peval p) (int-pos 0 ∙ RL.nat-zero R) ∙ ap (λ t. t + peval p) (RL.nil-mul R (meval ρ m)) ∙ RL.nil-add R (peval p))
    tidy-is (pos (suc k)) m p = refl
    tidy-is (negsuc k) m p = refl

    step_is : (o : Ordering) (c : ℤ) (m : Mon) (d : ℤ) (n : Mon) (p r : Poly) → cmp m n ≡ o → peval r ≡ int c * meval ρ m + peval p
        → peval (step o c m d n p r) ≡ int c * meval ρ m + (int d * meval ρ n + peval p)
    unfolding peval
    step_is Ordering.lt c m d n p r e h = refl
    step_is Ordering.eq c m d n p r e h =
        tidy-is (c +ℤ d) n p
        ∙ ap (λ t. t * meval ρ n + peval p) (int-add c d)
        ∙ ap (λ t. t + peval p) (RL.distr R (int c) (int d) (meval ρ n))
        ∙ add_assoc (int c * meval ρ n) (int d * meval ρ n) (peval p)
        ∙ ap (λ k. int c * meval ρ k + (int d * meval ρ n + peval p)) (sym (cmp-eq m n e))
    step_is Ordering.gt c m d n p r e h = ap (λ t. int d * meval ρ n + t) h ∙ RL.add-lcomm R (int d * meval ρ n) (int c * meval ρ m) (peval p)

    ins-is : (c : ℤ) (m : Mon) (p : Poly) → peval (ins c m p) ≡ int c * meval ρ m + peval p
    unfolding peval
    ins-is c m end = refl
    ins-is c m (term d n p) = step_is (cmp m n) c m d n p (ins c m p) refl (ins-is c m p)

    padd-is : (p q : Poly) → peval (padd p q) ≡ peval p + peval q
    unfolding peval
    padd-is end q = sym (RL.nil-add R (peval q))
    padd-is (term c m p) q = ins-is c m (padd p q) ∙ ap (λ t. int c * meval ρ m + t) (padd-is p q) ∙ sym (add_assoc (int c * meval ρ m) (peval p) (peval q))

    pneg-is : (p : Poly) → peval (pneg p) ≡ - peval p
    unfolding peval
    pneg-is end = sym (RL.neg-nil R)
    pneg-is (term c m p) =
        ap₂ (λ s t. s * meval ρ m + t) (int-neg c) (pneg-is p)
        ∙ ap (λ t. t + - peval p) (RL.neg-mul R (int c) (meval ρ m))
        ∙ sym (RL.neg-add-dist R (int c * meval ρ m) (peval p))

    pmula-is : (c : ℤ) (m : Mon) (p q : Poly) → peval (pmula c m p q) ≡ int c * meval ρ m * peval p + peval q
    unfolding peval
    pmula-is c m end q = sym (ap (λ t. t + peval q) (RL.mul-nil R (int c * meval ρ m)) ∙ RL.nil-add R (peval q))
    pmula-is c m (term d n p) q =
        ins-is (c *ℤ d) (mmul m n) (pmula c m p q)
        ∙ ap₂ (λ s t. s + t) (ap₂ ◌*◌ (int-mul c d) (meval-mul ρ m n) ∙ RL.mul-swap R (int c) (int d) (meval ρ m) (meval ρ n)) (pmula-is c m p q)
        ∙ sym (add_assoc ((int c * meval ρ m) * (int d * meval ρ n)) (int c * meval ρ m * peval p) (peval q))
        ∙ ap (λ t. t + peval q) (sym (distl (int c * meval ρ m) (int d * meval ρ n) (peval p)))

    pmul-is : (p q : Poly) → peval (pmul p q) ≡ peval p * peval q
    unfolding peval
    pmul-is end q = sym (RL.nil-mul R (peval q))
    pmul-is (term c m p) q =
        pmula-is c m q (pmul p q)
        ∙ ap (λ t. int c * meval ρ m * peval q + t) (pmul-is p q)
        ∙ sym (RL.distr R (int c * meval ρ m) (peval p) (peval q))

    unit-is : (m : Mon) → peval (term (pos 1) m end) ≡ meval ρ m
    unfolding peval
    unit-is m = add-nil (int (pos 1) * meval ρ m) ∙ ap (λ t. t * meval ρ m) (int-pos 1 ∙ RL.nat-one R) ∙ RL.one-mul R (meval ρ m)

    num-is : (k : ℕ) → peval (tidy (pos k) [] end) ≡ RL.nat R k
    unfolding peval meval
    num-is k = tidy-is (pos k) [] end ∙ add-nil (int (pos k) * 𝟙) ∙ mul-one (int (pos k)) ∙ int-pos k

    ppow-is : (p : Poly) (k : ℕ) → peval (ppow p k) ≡ RL.pow R (peval p) k
    unfolding RL.pow meval
    ppow-is p zero = unit-is []
    ppow-is p (suc k) = pmul-is (ppow p k) p ∙ ap (λ t. t * peval p) (ppow-is p k)

    nf-is : (e : Expr) → peval (nf e) ≡ eval ρ e
    unfolding peval meval
    nf-is (var i) = unit-is (mvar i) ∙ meval-var ρ i
    nf-is nil = refl
    nf-is unit = unit-is []
    nf-is (num k) = num-is k
    nf-is (a ⊕ b) = padd-is (nf a) (nf b) ∙ ap₂ ◌+◌ (nf-is a) (nf-is b)
    nf-is (a ⊖ b) = padd-is (nf a) (pneg (nf b)) ∙ ap₂ ◌+◌ (nf-is a) (pneg-is (nf b) ∙ ap -◌ (nf-is b))
    nf-is (a ⊗ b) = pmul-is (nf a) (nf b) ∙ ap₂ ◌*◌ (nf-is a) (nf-is b)
    nf-is (⊝ a) = pneg-is (nf a) ∙ ap -◌ (nf-is a)
    nf-is (a ⊛ k) = ppow-is (nf a) k ∙ ap (λ t. RL.pow R t k) (nf-is a)

    end_is : (p : Poly) → T (is_end p) → peval p ≡ 𝟘
    unfolding peval
    end_is end t = refl
    end_is (term c m p) t = absurd t

  -- both sides have one normal form
  pub solve : (ρ : List A) (a b : Expr) → T (is_end (nf (a ⊖ b))) → eval ρ a ≡ eval ρ b
  solve ρ a b t =
      RL.sub-nil R (eval ρ a) (eval ρ b) (sym (nf-is ρ (a ⊖ b)) ∙ end_is ρ (nf (a ⊖ b)) t)
