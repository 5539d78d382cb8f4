-- The only refusals of the bisection are 4 and 7.
use mathlib.Core.Path.{◌≡◌, refl}
use mathlib.Core.Bool.{Bool, true, false}
use mathlib.Core.List.{List, [], ◌∷◌, ◌++◌}
use Prim.Native.Nat.{ℕ, zero, suc}
use lib.Dec.{ltb}
use lib.Ieee.{Float, binary64, sub, lt, le}
use lib.ListN.{length}
use Rattle.ratio.specs.declared.Reason.TheVariants.{TooLong, TooDeep}
use Rattle.yun.specs.Got.{got, none, then_got}
use Rattle.bisect.specs.declared.Bracket.{Bracket}
use Rattle.bisect.specs.declared.Cut.{Cut}
use Rattle.bisect.specs.Bracket.{Found, push_if, pushed, marked}
use Rattle.bisect.specs.Cut.{count_in, root_at, cut_of}
use Rattle.bisect.specs.Bisect.{decided, partly, split_by, inner_of, start, end, unless_empty, bisect_of}

abbrev pub Stops : Found → Type 0
Stops (got l) = Unit {0}
Stops (none why) = (why ≡ TooLong → ⊥) → why ≡ TooDeep

push-stops : (t : Bool) (l : List Bracket) → Stops (push_if t l)
push-stops true l = tt
push-stops false l = λ h. absurd (h refl)

pushed-stops : (a b : Float) (l : List Bracket) → Stops (pushed a b l)
unfolding pushed
pushed-stops a b l = push-stops (ltb (length l) 64) (l ++ (record { left = a; right = b } ∷ []))

then-stops : (g : Found) (f : List Bracket → Found) → Stops g → ((l : List Bracket) → Stops (f l)) → Stops (then_got g f)
then-stops (got l) f h k = k l
then-stops (none why) f h k = h

marked-stops : (t : Bool) (x : Float) (l : List Bracket) → Stops (marked t x l)
marked-stops true x l = pushed-stops x x l
marked-stops false x l = tt

partly-stops : (t : Bool) (f : List Bracket → Found) → ((l : List Bracket) → Stops (f l)) → (l : List Bracket) → Stops (partly t f l)
partly-stops true f h l = h l
partly-stops false f h l = tt

decided-stops : (n : ℕ) (w : Bool) (x y z : Found) → Stops x → Stops y → Stops z → Stops (decided n w x y z)
decided-stops zero w x y z a b c = a
decided-stops (suc zero) w x y z a b c = b
decided-stops (suc (suc n)) true x y z a b c = b
decided-stops (suc (suc n)) false x y z a b c = c

split-stops : (s : Cut) (x y : List Bracket → Found) → ((l : List Bracket) → Stops (x l)) → ((l : List Bracket) → Stops (y l)) → (l : List Bracket) → Stops (split_by s x y l)
split-stops s x y h k l =
    then-stops (then_got (marked s.exact s.mid l) (λ l. partly s.left x l)) (λ l. partly s.right y l)
    (then-stops (marked s.exact s.mid l) (λ l. partly s.left x l) (marked-stops s.exact s.mid l) (λ l. partly-stops s.left x h l))
    (λ l. partly-stops s.right y k l)

inner-stops : (k : ℕ) (c : List (List Float)) (a b tol : Float) (l : List Bracket) → Stops (inner_of k c a b tol l)
unfolding inner_of
inner-stops zero c a b tol l = decided-stops (count_in c a b) (lt (sub binary64 b a) tol) (got l) (pushed a b l) (none TooDeep) tt (pushed-stops a b l) (λ h. refl)
inner-stops (suc k) c a b tol l =
    let s = cut_of c a b tol in
    decided-stops (count_in c a b) (lt (sub binary64 b a) tol) (got l) (pushed a b l) (split_by s (λ l. inner_of k c a s.lo tol l) (λ l. inner_of k c s.hi b tol l) l) tt (pushed-stops a b l)
    (split-stops s (λ l. inner_of k c a s.lo tol l) (λ l. inner_of k c s.hi b tol l) (λ l. inner-stops k c a s.lo tol l) (λ l. inner-stops k c s.hi b tol l) l)

unless-stops : (t : Bool) (x y : Found) → Stops x → Stops y → Stops (unless_empty t x y)
unless-stops true x y a b = a
unless-stops false x y a b = b

pub bisect-stops : (c : List (List Float)) (a b tol : Float) → Stops (bisect_of c a b tol)
unfolding bisect_of
bisect-stops c a b tol =
    then-stops (then_got (marked (root_at c a) a []) (λ l. marked (root_at c b) b l)) (λ l. unless_empty (le (end c a b) (start c a b)) (got l) (inner_of 48 c (start c a b) (end c a b) tol l))
    (then-stops (marked (root_at c a) a []) (λ l. marked (root_at c b) b l) (marked-stops (root_at c a) a []) (λ l. marked-stops (root_at c b) b l))
    (λ l. unless-stops (le (end c a b) (start c a b)) (got l) (inner_of 48 c (start c a b) (end c a b) tol l) tt (inner-stops 48 c (start c a b) (end c a b) tol l))
