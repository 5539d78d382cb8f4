-- The only refusal of the chain is 2: no link divides by zero.
use mathlib.Core.Path.{◌≡◌, refl}
use mathlib.Core.List.{List, [], ◌∷◌}
use Prim.Native.Nat.{ℕ, zero, suc}
use lib.ListN.{length}
use Rattle.ratio.specs.declared.Ratio.{Ratio}
use Rattle.ratio.specs.declared.Reason.TheVariants.{CoeffOverflow}
use Rattle.terms.specs.Machine.{Ran, fine, over, plain}
use Rattle.terms.specs.Poly.{trim}
use Rattle.terms.specs.Work.{derived}
use Rattle.terms.specs.Answer.{negated_of}
use Rattle.remainders.specs.Divide.{Split, divided}
use Rattle.yun.specs.Got.{Got, got, none, then_got, list_from, split_from, parts_of}
use Rattle.chain.specs.Next.{next_of}
use Rattle.chain.specs.Sequence.{behind, started, sequence_of}

-- a refused part of the work is refused with 2
abbrev pub Overflows : {X : Type 0} → Got X → Type 0
Overflows (got x) = Unit {0}
Overflows (none why) = why ≡ CoeffOverflow

pub list_over : (r : Ran ℕ (List Ratio)) → Overflows (list_from r)
list_over (fine k l) = tt
list_over (over k) = refl

pub then-over : {X Y : Type 0} (g : Got X) (k : X → Got Y) → Overflows g → ((x : X) → Overflows (k x)) → Overflows (then_got g k)
then-over (got x) k h f = f x
then-over (none why) k h f = h

split-over : (r : Ran ℕ (Split Ratio)) → Overflows (split_from r)
split-over (fine k s) = tt
split-over (over k) = refl

next-over : (a : List Ratio) (y : Ratio) (b : List Ratio) → Overflows (next_of a (y ∷ b))
unfolding next_of parts_of
next-over a y b = then-over (split_from (divided plain a (y ∷ b) 0)) _ (split-over (divided plain a (y ∷ b) 0)) (λ s. list_over (negated_of s.rest))

behind-over : (f : ℕ) (a b : List Ratio) → Overflows (behind f a b)
unfolding behind
behind-over zero a b = tt
behind-over (suc f) a [] = tt
behind-over (suc f) a (y ∷ b) = then-over (next_of a (y ∷ b)) _ (next-over a y b) (λ r. then-over (behind f (y ∷ b) r) _ (behind-over f (y ∷ b) r) (λ l. tt))

started-over : (p : List Ratio) → Overflows (started p)
started-over [] = tt
started-over (x ∷ p) = then-over (list_from (derived plain (x ∷ p) 0)) _ (list_over (derived plain (x ∷ p) 0)) (λ d. behind-over (length d) (x ∷ p) d)

pub sequence-over : (p : List Ratio) → Overflows (sequence_of p)
unfolding sequence_of
sequence-over p = started-over (trim p)
