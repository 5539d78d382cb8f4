-- A commutative ring: operations and laws in one flat record, and what every proof needs of it.
use mathlib.Core.Path.{◌≡◌, refl, sym, ◌∙◌, ap, ap₂}
use mathlib.Core.Logic.{◌≢◌, ◌⊎◌, inl, inr}
use mathlib.Core.HLevel.{Σ_prop_path}
use Prim.Native.Nat.{ℕ, zero, suc, ◌^◌, ◌+◌ as ◌+ⁿ◌, ◌*◌ as ◌*ⁿ◌}
use native.Mathlib.Nat as NL

pub record CRing (A : Type 0) : Type 0 where
  pub is_set : IsSet A
  pub add : A → A → A
  pub mul : A → A → A
  pub neg : A → A
  pub nil : A
  pub one : A
  pub add_assoc : (a b c : A) → add (add a b) c ≡ add a (add b c)
  pub add_comm : (a b : A) → add a b ≡ add b a
  pub add-nil : (a : A) → add a nil ≡ a
  pub add-neg : (a : A) → add a (neg a) ≡ nil
  pub mul_assoc : (a b c : A) → mul (mul a b) c ≡ mul a (mul b c)
  pub mul_comm : (a b : A) → mul a b ≡ mul b a
  pub mul-one : (a : A) → mul a one ≡ a
  pub distl : (a b c : A) → mul a (add b c) ≡ add (mul a b) (mul a c)

module _ {A : Type 0} (R : CRing A) where
  open R use {add as ◌+◌, mul as ◌*◌, neg as -◌, nil as 𝟘, one as 𝟙, add_assoc, add_comm, add-nil, add-neg, mul_assoc, mul_comm, mul-one, distl}

  infixl 60 ◌+◌
  infixl 70 ◌*◌
  infix 75 -◌
  pub nil-add : (a : A) → 𝟘 + a ≡ a
  nil-add a = add_comm 𝟘 a ∙ add-nil a

  pub neg-add : (a : A) → - a + a ≡ 𝟘
  neg-add a = add_comm (- a) a ∙ add-neg a

  pub one-mul : (a : A) → 𝟙 * a ≡ a
  one-mul a = mul_comm 𝟙 a ∙ mul-one a

  pub distr : (a b c : A) → (a + b) * c ≡ a * c + b * c
  distr a b c = mul_comm (a + b) c ∙ distl c a b ∙ ap₂ ◌+◌ (mul_comm c a) (mul_comm c b)

  pub add-lcomm : (a b c : A) → a + (b + c) ≡ b + (a + c)
  add-lcomm a b c = sym (add_assoc a b c) ∙ ap (λ t. t + c) (add_comm a b) ∙ add_assoc b a c

  pub mul-lcomm : (a b c : A) → a * (b * c) ≡ b * (a * c)
  mul-lcomm a b c = sym (mul_assoc a b c) ∙ ap (λ t. t * c) (mul_comm a b) ∙ mul_assoc b a c

  pub neg_cancel : (a b : A) → - a + (a + b) ≡ b
  neg_cancel a b = sym (add_assoc (- a) a b) ∙ ap (λ t. t + b) (neg-add a) ∙ nil-add b

  pub add-cancel : (a b c : A) → a + b ≡ a + c → b ≡ c
  add-cancel a b c e = sym (neg_cancel a b) ∙ ap (λ t. - a + t) e ∙ neg_cancel a c

  pub mul-nil : (a : A) → a * 𝟘 ≡ 𝟘
  mul-nil a = add-cancel (a * 𝟘) (a * 𝟘) 𝟘 (sym (distl a 𝟘 𝟘) ∙ ap (λ t. a * t) (add-nil 𝟘) ∙ sym (add-nil (a * 𝟘)))

  pub nil-mul : (a : A) → 𝟘 * a ≡ 𝟘
  nil-mul a = mul_comm 𝟘 a ∙ mul-nil a

  -- the negative is the only inverse
  pub neg_unique : (a b : A) → a + b ≡ 𝟘 → b ≡ - a
  neg_unique a b e = add-cancel a b (- a) (e ∙ sym (add-neg a))

  pub mul-neg : (a b : A) → a * - b ≡ - (a * b)
  mul-neg a b = neg_unique (a * b) (a * - b) (sym (distl a b (- b)) ∙ ap (λ t. a * t) (add-neg b) ∙ mul-nil a)

  pub neg-mul : (a b : A) → - a * b ≡ - (a * b)
  neg-mul a b = mul_comm (- a) b ∙ mul-neg b a ∙ ap -◌ (mul_comm b a)

  pub neg-neg : (a : A) → - - a ≡ a
  neg-neg a = sym (neg_unique (- a) a (neg-add a))

  pub neg-nil : - 𝟘 ≡ 𝟘
  neg-nil = sym (neg_unique 𝟘 𝟘 (add-nil 𝟘))

  pub add-swap : (a b c d : A) → (a + b) + (c + d) ≡ (a + c) + (b + d)
  add-swap a b c d = simp (add_assoc, add-lcomm)

  pub mul-swap : (a b c d : A) → (a * b) * (c * d) ≡ (a * c) * (b * d)
  mul-swap a b c d = simp (mul_assoc, mul-lcomm)

  pub neg-add-dist : (a b : A) → - (a + b) ≡ - a + - b
  neg-add-dist a b = sym (neg_unique (a + b) (- a + - b) (add-swap a b (- a) (- b) ∙ ap₂ ◌+◌ (add-neg a) (add-neg b) ∙ add-nil 𝟘))

  pub sub-nil : (a b : A) → a + - b ≡ 𝟘 → a ≡ b
  sub-nil a b e = sym (add-nil a) ∙ ap (λ t. a + t) (sym (neg-add b)) ∙ sym (add_assoc a (- b) b) ∙ ap (λ t. t + b) e ∙ nil-add b

-- an equation from others: a − b is a combination of differences l − r that are 0
module _ {A : Type 0} (R : CRing A) where
  open R use {add as ◌+◌, mul as ◌*◌, neg as -◌, nil as 𝟘, add-neg, add-nil}

  infixl 60 ◌+◌
  infixl 70 ◌*◌
  infix 75 -◌
  zero_of : (c l r : A) → l ≡ r → c * (l + - r) ≡ 𝟘
  zero_of c l r h = ap (λ x. c * (x + - r)) h ∙ ap (λ x. c * x) (add-neg r) ∙ mul-nil R c

  pub by1 : (c : A) {l r a b : A} → l ≡ r → a + - b ≡ c * (l + - r) → a ≡ b
  by1 c {l} {r} {a} {b} h e = sub-nil R a b (e ∙ zero_of c l r h)

  pub by2 : (c : A) {l r : A} → l ≡ r → (c' : A) {l' r' : A} → l' ≡ r' → {a b : A} → a + - b ≡ c * (l + - r) + c' * (l' + - r') → a ≡ b
  by2 c {l} {r} h c' {l'} {r'} h' {a} {b} e = sub-nil R a b (e ∙ ap₂ ◌+◌ (zero_of c l r h) (zero_of c' l' r' h') ∙ add-nil 𝟘)

  pub by3 : (c : A) {l r : A} → l ≡ r → (c' : A) {l' r' : A} → l' ≡ r' → (c'' : A) {l'' r'' : A} → l'' ≡ r'' → {a b : A}
      → a + - b ≡ c * (l + - r) + c' * (l' + - r') + c'' * (l'' + - r'') → a ≡ b
  by3 c {l} {r} h c' {l'} {r'} h' c'' {l''} {r''} h'' {a} {b} e =
      sub-nil R a b (e ∙ ap₂ ◌+◌ (ap₂ ◌+◌ (zero_of c l r h) (zero_of c' l' r' h')) (zero_of c'' l'' r'' h'') ∙ ap (λ t. t + 𝟘) (add-nil 𝟘) ∙ add-nil 𝟘)

-- the image of the natural numbers, and powers
module _ {A : Type 0} (R : CRing A) where
  open R use {add as ◌+◌, mul as ◌*◌, nil as 𝟘, one as 𝟙, add-nil, add_assoc, mul_assoc, mul_comm, mul-one, distl}

  infixl 60 ◌+◌
  infixl 70 ◌*◌
  unfoldable pub nat : ℕ → A
  nat zero = 𝟘
  nat (suc n) = nat n + 𝟙

  pub nat-zero : nat 0 ≡ 𝟘
  unfolding nat
  nat-zero = refl

  pub nat-one : nat 1 ≡ 𝟙
  unfolding nat
  nat-one = nil-add R 𝟙

  pub nat-suc : (n : ℕ) → nat (suc n) ≡ nat n + 𝟙
  unfolding nat
  nat-suc n = refl

  pub nat-add : (m n : ℕ) → nat (m +ⁿ n) ≡ nat m + nat n
  unfolding nat
  nat-add m zero = ap nat (NL.add-zero m) ∙ sym (add-nil (nat m))
  nat-add m (suc n) = ap nat (NL.add-suc m n) ∙ ap (λ t. t + 𝟙) (nat-add m n) ∙ add_assoc (nat m) (nat n) 𝟙

  pub nat-mul : (m n : ℕ) → nat (m *ⁿ n) ≡ nat m * nat n
  unfolding nat
  nat-mul m zero = ap nat (NL.mul-zero m) ∙ sym (mul-nil R (nat m))
  nat-mul m (suc n) = ap nat (NL.mul-suc m n) ∙ nat-add (m *ⁿ n) m ∙ ap₂ ◌+◌ (nat-mul m n) (sym (mul-one (nat m))) ∙ sym (distl (nat m) (nat n) 𝟙)

  unfoldable pub pow : A → ℕ → A
  pow a zero = 𝟙
  pow a (suc n) = pow a n * a

  pub pow-zero : (a : A) → pow a 0 ≡ 𝟙
  unfolding pow
  pow-zero a = refl

  pub pow-suc : (a : A) (n : ℕ) → pow a (suc n) ≡ pow a n * a
  unfolding pow
  pow-suc a n = refl

  pub pow-suc-l : (a : A) (n : ℕ) → pow a (suc n) ≡ a * pow a n
  pow-suc-l a n = pow-suc a n ∙ mul_comm (pow a n) a

  pub pow-one : (a : A) → pow a 1 ≡ a
  pow-one a = pow-suc a 0 ∙ ap (λ t. t * a) (pow-zero a) ∙ one-mul R a

  pub one-pow : (n : ℕ) → pow 𝟙 n ≡ 𝟙
  one-pow zero = pow-zero 𝟙
  one-pow (suc n) = pow-suc 𝟙 n ∙ mul-one (pow 𝟙 n) ∙ one-pow n

  pub nil-pow : (n : ℕ) → pow 𝟘 (suc n) ≡ 𝟘
  nil-pow n = pow-suc 𝟘 n ∙ mul-nil R (pow 𝟘 n)

  pub pow-add : (a : A) (m n : ℕ) → pow a (m +ⁿ n) ≡ pow a m * pow a n
  unfolding pow
  pow-add a m zero = ap (pow a) (NL.add-zero m) ∙ sym (mul-one (pow a m))
  pow-add a m (suc n) = ap (pow a) (NL.add-suc m n) ∙ ap (λ t. t * a) (pow-add a m n) ∙ mul_assoc (pow a m) (pow a n) a

  pub pow-mul : (a b : A) (n : ℕ) → pow (a * b) n ≡ pow a n * pow b n
  unfolding pow
  pow-mul a b zero = sym (mul-one 𝟙)
  pow-mul a b (suc n) = ap (λ t. t * (a * b)) (pow-mul a b n) ∙ mul-swap R (pow a n) (pow b n) a b

  pub pow-pow : (a : A) (m n : ℕ) → pow (pow a m) n ≡ pow a (m *ⁿ n)
  unfolding pow
  pow-pow a m zero = sym (ap (pow a) (NL.mul-zero m))
  pow-pow a m (suc n) = ap (λ t. t * pow a m) (pow-pow a m n) ∙ sym (ap (pow a) (NL.mul-suc m n) ∙ pow-add a (m *ⁿ n) m)

  pub nat-pow : (m n : ℕ) → nat (m ^ n) ≡ pow (nat m) n
  unfolding pow
  nat-pow m zero = ap nat (NL.pow-zero m) ∙ nat-one
  nat-pow m (suc n) = ap nat (NL.pow-suc m n) ∙ nat-mul (m ^ n) m ∙ ap (λ t. t * nat m) (nat-pow m n)

pub record Domain (A : Type 0) : Type 0 where
  pub ring : CRing A
  pub proper : ring.one ≢ ring.nil
  pub cancel : (a b c : A) → c ≢ ring.nil → ring.mul a c ≡ ring.mul b c → a ≡ b
  pub discrete : Discrete A

pub record Field (A : Type 0) : Type 0 where
  pub ring : CRing A
  pub proper : ring.one ≢ ring.nil
  pub inv : A → A
  pub mul-inv : (a : A) → a ≢ ring.nil → ring.mul a (inv a) ≡ ring.one
  pub discrete : Discrete A

-- two inverses of one element are equal
module _ {A : Type 0} (R : CRing A) where
  open R use {mul as ◌*◌, one as 𝟙, mul-one, mul_assoc, mul_comm}

  infixl 70 ◌*◌
  pub inv_unique : (a b c : A) → a * b ≡ 𝟙 → a * c ≡ 𝟙 → b ≡ c
  inv_unique a b c p q = sym (mul-one b) ∙ ap (λ t. b * t) (sym q) ∙ sym (mul_assoc b a c) ∙ ap (λ t. t * c) (mul_comm b a ∙ p) ∙ one-mul R c

  pub inv-prop : (a : A) → IsProp ((b : A) × (a * b ≡ 𝟙))
  inv-prop a x y = Σ_prop_path (λ b. R.is_set (a * b) 𝟙) (inv_unique a x.0 y.0 x.1 y.1)

-- a field is a domain
module _ {A : Type 0} (K : Field A) where
  open K.ring use {mul as ◌*◌, nil as 𝟘, mul-one, mul_assoc}

  infixl 70 ◌*◌
  pub field-cancel : (a b c : A) → c ≢ 𝟘 → a * c ≡ b * c → a ≡ b
  field-cancel a b c h e = sym (undo a) ∙ ap (λ t. t * K.inv c) e ∙ undo b
    where
      undo : (x : A) → x * c * K.inv c ≡ x
      undo x = mul_assoc x c (K.inv c) ∙ ap (λ t. x * t) (K.mul-inv c h) ∙ mul-one x

  abbrev pub Field-domain : Domain A
  Field-domain = record { ring = K.ring; proper = K.proper; cancel = field-cancel; discrete = K.discrete }

-- in a domain a product is zero only if a factor is
module _ {A : Type 0} (D : Domain A) where
  open D.ring use {mul as ◌*◌, nil as 𝟘, mul_comm}

  infixl 70 ◌*◌
  pub nil-left : (a b : A) → b ≢ 𝟘 → a * b ≡ 𝟘 → a ≡ 𝟘
  nil-left a b h e = D.cancel a 𝟘 b h (e ∙ sym (nil-mul D.ring b))

  pub nil-right : (a b : A) → a ≢ 𝟘 → a * b ≡ 𝟘 → b ≡ 𝟘
  nil-right a b h e = nil-left b a h (mul_comm b a ∙ e)

  pub nil-factor : (a b : A) → a * b ≡ 𝟘 → (a ≡ 𝟘) ⊎ (b ≡ 𝟘)
  nil-factor a b e = go (D.discrete b 𝟘)
    where
      go : Dec (b ≡ 𝟘) → (a ≡ 𝟘) ⊎ (b ≡ 𝟘)
      go (yes z) = inr z
      go (no f) = inl (nil-left a b f e)

  pub mul-ne : (a b : A) → a ≢ 𝟘 → b ≢ 𝟘 → a * b ≢ 𝟘
  mul-ne a b h k e = h (nil-left a b k e)

  pub pow-ne : (a : A) → a ≢ 𝟘 → (n : ℕ) → pow D.ring a n ≢ 𝟘
  pow-ne a h zero e = D.proper (sym (pow-zero D.ring a) ∙ e)
  pow-ne a h (suc n) e = mul-ne (pow D.ring a n) a (pow-ne a h n) h (sym (pow-suc D.ring a n) ∙ e)
