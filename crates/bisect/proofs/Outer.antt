-- The whole bisection: exact roots at the ends, then what is between them.
use mathlib.Core.Path.{◌≡◌, sym, ap, ap₂, ◌∙◌}
use mathlib.Core.Bool.{Bool, true, false}
use mathlib.Core.List.{List, []}
use lib.Ieee.{Float, binary64, add, sub, le}
use Rattle.yun.specs.Got.{got, then_got}
use Rattle.bisect.specs.declared.Bracket.{Bracket}
use Rattle.bisect.specs.declared.Brackets.{Brackets}
use Rattle.bisect.specs.Bracket.{Found, found_in, brackets_of, marked}
use Rattle.bisect.specs.Cut.{root_at}
use Rattle.bisect.specs.Bisect.{inner_of, inward, margin, start, end, unless_empty, bisect_of}
use Rattle.bisect.proofs.Hold.{read_of}
use Rattle.bisect.proofs.Inner.{then-none, then_like}

-- both ends marked
pub ends_found : (zero one two : Brackets) (ra rb : Bool) (a b : Float)
    → zero ≡ brackets_of (got []) → one ≡ brackets_of (then_got (found_in zero) (λ l. marked ra a l)) → two ≡ brackets_of (then_got (found_in one) (λ l. marked rb b l))
    → found_in two ≡ then_got (marked ra a []) (λ l. marked rb b l)
ends_found zero one two ra rb a b e f g =
    read_of two (then_got (found_in one) (λ l. marked rb b l)) g
    ∙ ap (λ (x : Found). then_got x (λ l. marked rb b l)) (read_of one (then_got (found_in zero) (λ l. marked ra a l)) f)
    ∙ ap (λ (x : Found). then_got (then_got x (λ l. marked ra a l)) (λ l. marked rb b l)) (read_of zero (got []) e)

module _ (c : List (List Float)) (a b tol : Float) (ra rb : Bool) (ea : ra ≡ root_at c a) (eb : rb ≡ root_at c b)
    (x y : Float) (ex : x ≡ inward ra a (add binary64 a (margin a b))) (ey : y ≡ inward rb b (sub binary64 b (margin a b)))
    (f : Found) (ef : f ≡ then_got (marked ra a []) (λ l. marked rb b l)) where
  x-is : x ≡ start c a b
  x-is = ex ∙ ap (λ (r : Bool). inward r a (add binary64 a (margin a b))) ea

  y-is : y ≡ end c a b
  y-is = ey ∙ ap (λ (r : Bool). inward r b (sub binary64 b (margin a b))) eb

  test : le (end c a b) (start c a b) ≡ le y x
  test = ap₂ le (sym y-is) (sym x-is)

  f-is : f ≡ then_got (marked (root_at c a) a []) (λ l. marked (root_at c b) b l)
  f-is = ef ∙ ap₂ (λ (p q : Bool). then_got (marked p a []) (λ l. marked q b l)) ea eb

  abbrev more : List Bracket → Found
  more l = unless_empty (le (end c a b) (start c a b)) (got l) (inner_of 48 c (start c a b) (end c a b) tol l)

  whole : then_got f more ≡ bisect_of c a b tol
  unfolding bisect_of
  whole = ap (λ (g : Found). then_got g more) f-is

  pub outer-none : le y x ≡ true → f ≡ bisect_of c a b tol
  outer-none h = then-none f more (λ l. ap (λ (t : Bool). unless_empty t (got l) (inner_of 48 c (start c a b) (end c a b) tol l)) (test ∙ h)) ∙ whole

  pub outer-more : le y x ≡ false → then_got f (λ l. inner_of 48 c x y tol l) ≡ bisect_of c a b tol
  outer-more h =
      then_like f (λ l. inner_of 48 c x y tol l) more (λ l.
      ap₂ (λ (p q : Float). inner_of 48 c p q tol l) x-is y-is
      ∙ sym (ap (λ (t : Bool). unless_empty t (got l) (inner_of 48 c (start c a b) (end c a b) tol l)) (test ∙ h)))
      ∙ whole
