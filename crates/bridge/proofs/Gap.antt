-- How far a fraction is from a whole number: rounded a half up or a half to even it is at most a half, and so the same.
-- Whether a difference of floats is small is told by that distance alone.
use Rattle.std.proofs.Common.{◌≡◌, ℕ, suc, ◌+◌, ◌-◌, ◌*◌, ◌/◌, ◌%◌, ◌<◌, ◌≤◌, Bool, true, false, cond, not, ◌&&◌, T, eqb, ltb, ◌⊎◌, ℤ, sym, refl, ap, ◌∙◌, subst, inl, inr, true≢false, le_refl, mul-le-mul_right, mod-lt, div-lt_iff_lt-mul, eq-or-lt_of_le, mul-pos, div-add-mod', le-div_iff_mul-le, arith, eqb→eq, ltb→lt, leb→le, nltb→le}
use mathlib.Core.Bool.{false≢true}
use Prim.Native.Nat.{compare, Ordering}
use lib.Arith.{lt_of_le-ne}
use lib.Dec.{is_le, compare_is_eq, nleb→lt, eqb_refl}
use lib.Ieee.{Float, nan, inf, fin, binary64, up, down, nearest, neg, round, sum, add, sub}
use lib.Ieee.Fits.{down_pos, round_is}
use lib.Ieee.Exact.{HasValue}
use lib.Ieee.Nearest.{closest}
use lib.Ieee.Scale.{round_same}
use Rattle.bridge.specs.Round.{half_upward}
use Rattle.std.specs.Float.{float_with_sign}
use Rattle.bridge.specs.Search.{small}
use Rattle.bridge.proofs.Signs.{neg-units}

-- ---- distances of whole numbers

abbrev pub gap : ℕ → ℕ → ℕ
gap a b = a - b + (b - a)

split : (a b : ℕ) → (a ≤ b) ⊎ (b < a)
split a b = go (ltb b a) (ltb→lt b a) (nltb→le b a)
  where
    go : (t : Bool) → (T t → b < a) → (T (not t) → a ≤ b) → (a ≤ b) ⊎ (b < a)
    go true h k = inr (h tt)
    go false h k = inl (k tt)

ahead : (n c k q : ℕ) → k < q → gap n (k * c) * 2 ≤ c → gap n (q * c) * 2 ≤ c → gap n (k * c) ≡ gap n (q * c)
ahead n c k q l h i = omega (arith, mul-le-mul_right c l)

-- two whole numbers that are each at most a half away from n / c are equally far from it
pub same_gap : (n c k q : ℕ) → gap n (k * c) * 2 ≤ c → gap n (q * c) * 2 ≤ c → gap n (k * c) ≡ gap n (q * c)
same_gap n c k q h i =
    elim (split k q) [
      | inr l ↦ sym (ahead n c q k l i h)
      | inl l ↦ elim (eq-or-lt_of_le l) [ inl e ↦ ap (λ (z : ℕ). gap n (z * c)) e | inr m ↦ ahead n c k q m h i ]
    ]

scaled-up : (x y d : ℕ) → x ≤ y → gap (x * d) (y * d) ≡ gap x y * d
scaled-up x y d l =
    let i : y ≡ x + (y - x) = omega arith in
    let j : gap x y ≡ y - x = omega arith in
    let k : y * d ≡ x * d + (y - x) * d = ap (λ (z : ℕ). z * d) i ∙ (let t : (x + (y - x)) * d ≡ x * d + (y - x) * d = add-up x (y - x) d in t) in
    let m : gap (x * d) (y * d) ≡ (y - x) * d = omega (arith, k) in
    m ∙ ap (λ (z : ℕ). z * d) (sym j)
  where
    add-up : (a b d : ℕ) → (a + b) * d ≡ a * d + b * d
    add-up a b d = omega arith

turned : (a b : ℕ) → gap a b ≡ gap b a
turned a b = omega arith

pub gap-scale : (x y d : ℕ) → gap (x * d) (y * d) ≡ gap x y * d
gap-scale x y d =
    elim (split x y) [
      | inl l ↦ scaled-up x y d l
      | inr l ↦ turned (x * d) (y * d) ∙ scaled-up y x d (omega arith) ∙ ap (λ (z : ℕ). z * d) (turned y x)
    ]

-- ---- a half up

pub half-up-gap : (n d : ℕ) → 0 < d → gap n (half_upward n d * d) * 2 ≤ d
unfolding half_upward
half-up-gap n d D =
    let q = (n * 2 + d) / (d * 2) in
    let p : 0 < d * 2 = omega arith in
    let least : q * (d * 2) ≤ n * 2 + d = (le-div_iff_mul-le p).0 (le_refl q) in
    let most : n * 2 + d < (q + 1) * (d * 2) = (div-lt_iff_lt-mul p).0 (omega arith) in
    omega (arith, least, most)

-- ---- a half to even

abbrev Cmp : Ordering → ℕ → ℕ → Type 0
Cmp Ordering.lt a b = a < b
Cmp Ordering.eq a b = a ≡ b
Cmp Ordering.gt a b = b < a

cmp : (a b : ℕ) → Cmp (compare a b) a b
cmp a b = go (compare a b) (leb→le a b) (nleb→lt a b) (eqb→eq a b) (λ (e : a ≡ b). subst (λ (x : ℕ). T (eqb a x)) e (eqb_refl a))
  where
    go : (o : Ordering) → (T (is_le o) → a ≤ b) → (T (not (is_le o)) → b < a) → (T (compare_is_eq o) → a ≡ b) → (a ≡ b → T (compare_is_eq o)) → Cmp o a b
    go Ordering.lt h k e n = lt_of_le-ne (h tt) n
    go Ordering.eq h k e n = e tt
    go Ordering.gt h k e n = k tt

one_more : (w b : ℕ) → suc w * b ≡ w * b + b
one_more w b = omega arith

evened : (w r b a : ℕ) → w * b + r ≡ a → r * 2 ≡ b → (t : ℕ) → t ≤ 1 → gap a ((w + t) * b) * 2 ≤ b
evened w r b a s h t l =
    elim (split t 0) [
      | inl z ↦ let e : w + t ≡ w = omega arith in rw e (omega (arith, s))
      | inr z ↦ let e : w + t ≡ suc w = omega arith in rw e (omega (arith, s, one_more w b))
    ]

nearest-gap : (o : Ordering) (w r b a : ℕ) → w * b + r ≡ a → r < b → Cmp o (r * 2) b → gap a (nearest w o * b) * 2 ≤ b
nearest-gap Ordering.lt w r b a s l h = omega (arith, s)
nearest-gap Ordering.eq w r b a s l h = evened w r b a s h (w % 2) (omega arith)
nearest-gap Ordering.gt w r b a s l h = omega (arith, s, one_more w b)

pub closest-gap : (a b : ℕ) → 0 < b → gap a (closest a b * b) * 2 ≤ b
closest-gap a b B = nearest-gap (compare (a % b * 2) b) (a / b) (a % b) b a (div-add-mod' a b) (mod-lt a B) (cmp (a % b * 2) b)

-- ---- a difference

small-neg : (z : Float) → small (neg z) ≡ small z
unfolding small float_with_sign neg
small-neg nan = refl
small-neg (inf s) = refl
small-neg (fin s m e) = refl

small-round : (s : Bool) (a c : ℕ) → small (round binary64 s a c) ≡ small (round binary64 false a c)
small-round false a c = refl
small-round true a c =
    ap small (round_is binary64 true a c ∙ sym (neg-units binary64 _ _) ∙ ap neg (sym (round_is binary64 false a c))) ∙ small-neg (round binary64 false a c)

-- s and t are the signs of two numbers, of which the second has the size b
abbrev pub Alike : Bool → Bool → ℕ → Type 0
Alike s t b = (s ≡ t) ⊎ (b ≡ 0)

told : (a b c : ℕ) (x : ℕ) (s : Bool) → x ≡ gap a b → small (round binary64 s x c) ≡ small (round binary64 false (gap a b) c)
told a b c x s e = small-round s x c ∙ ap (λ (z : ℕ). small (round binary64 false z c)) e

unlike-sum : (s t : Bool) (a b c : ℕ) → small (cond (ltb a b) (round binary64 s (b - a) c) (round binary64 t (a - b) c)) ≡ small (round binary64 false (gap a b) c)
unlike-sum s t a b c = go (ltb a b) (ltb→lt a b) (nltb→le a b)
  where
    go : (l : Bool) → (T l → a < b) → (T (not l) → b ≤ a) → small (cond l (round binary64 s (b - a) c) (round binary64 t (a - b) c)) ≡ small (round binary64 false (gap a b) c)
    go true h k = let i = h tt in told a b c (b - a) s (omega arith)
    go false h k = let i = k tt in told a b c (a - b) t (omega arith)

like-sum : (s : Bool) (a b c : ℕ) → b ≡ 0 → small (round binary64 s (a + b) c) ≡ small (round binary64 false (gap a b) c)
like-sum s a b c h = told a b c (a + b) s (omega arith)

none : (s t : Bool) (b : ℕ) → Alike s t b → (s ≡ t → ⊥) → b ≡ 0
none s t b (inl e) n = absurd (n e)
none s t b (inr e) n = e

pub summed : (s t : Bool) (a b c : ℕ) → Alike s t b → small (sum binary64 s a (not t) b c) ≡ small (round binary64 false (gap a b) c)
unfolding sum
summed true true a b c h = unlike-sum false (true && ltb b a) a b c
summed false false a b c h = unlike-sum true (false && ltb b a) a b c
summed true false a b c h = like-sum true a b c (none true false b h true≢false)
summed false true a b c h = like-sum false a b c (none false true b h false≢true)

nought : (n u d b e : ℕ) → n * u * 1 ≡ b * d → b ≡ 0 → n * u * e ≡ 0
nought n u d b e h z = omega (arith, ap (λ (k : ℕ). k * e) h, ap (λ (k : ℕ). k * d * e) z)

pub sub-gap : (s : Bool) (m : ℕ) (e : ℤ) (y : Float) (t : Bool) (b : ℕ) → Alike s t b → HasValue y t b 1
    → small (sub binary64 (fin s m e) y) ≡ small (round binary64 false (gap (m * up e) (b * down e)) (down e))
unfolding sub add neg
sub-gap s m e nan t b o h = absurd h
sub-gap s m e (inf r) t b o h = absurd h
sub-gap s m e (fin r n d) t b o h =
    let a' = m * up e * down d in
    let b' = n * up d * down e in
    summed s r a' b' (down e * down d) (alike o)
    ∙ ap small
    (round_same binary64 false (gap a' b') (down e * down d) (gap (m * up e) (b * down e)) (down e) (mul-pos (down_pos e) (down_pos d)) (down_pos e)
    (ap (λ (z : ℕ). gap a' z * down e) (other (n * up d) b (down d) (down e) h.1) ∙ ap (λ (z : ℕ). z * down e) (gap-scale (m * up e) (b * down e) (down d)) ∙ regroup (gap (m * up e) (b * down e)) (down d) (down e)))
  where
    alike : Alike s t b → Alike s r (n * up d * down e)
    alike (inl p) = inl (p ∙ sym h.0)
    alike (inr p) = inr (nought n (up d) (down d) b (down e) h.1 p)

    other : (x b d e : ℕ) → x * 1 ≡ b * d → x * e ≡ b * e * d
    other x b d e h = omega (arith, ap (λ (k : ℕ). k * e) h)

    regroup : (g d e : ℕ) → g * d * e ≡ g * (e * d)
    regroup g d e = omega arith
