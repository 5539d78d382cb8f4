-- Every factor that is handed back occurs at least once.
use Rattle.std.specs.Prelude.{Ok, Err}
use mathlib.Core.Bool.{Bool, true, false, cond}
use mathlib.Core.List.{List, [], ◌∷◌, ◌++◌}
use mathlib.Core.Path.{◌≡◌, subst}
use Prim.Native.Nat.{ℕ, zero, suc, ◌≤◌}
use native.Mathlib.Omega.{arith}
use lib.Dec.{ltb, eqb}
use lib.ListN.{length}
use Rattle.ratio.specs.Step.{neg_of}
use Rattle.ratio.specs.Refusal.{Outcome}
use Rattle.ratio.specs.declared.Ratio.{Ratio}
use Rattle.terms.specs.Poly.{terms_of, trim}
use Rattle.search.specs.Answer.{roots_of}
use Rattle.yun.specs.declared.Piece.{Piece}
use Rattle.yun.specs.Got.{Got, got, none, then_got, parts_of}
use Rattle.yun.specs.Promise.{Every, Rising}
use Rattle.yun.specs.Round.{piece}
use Rattle.yun.proofs.MeaningPieces.{every_more}
use Rattle.splitting.specs.Pair.{Halves, whole, both, pair_of}
use Rattle.splitting.specs.Peel.{added, Peel, start, line_from, peel_if, peel_one, peeled, roots_in}
use Rattle.splitting.specs.Split.{Found, on_roots, on_halves, split_onto, split_all}

abbrev pub Occurs : List Piece → Type 0
Occurs l = Every (λ p. 1 ≤ p.times) l

-- what holds of a result, if there is one
abbrev Holds : {X : Type 0} → (X → Type 0) → Got X → Type 0
Holds P (got x) = P x
Holds P (none why) = Unit {0}

any : {X : Type 0} (g : Got X) → Holds (λ x. Unit {0}) g
any (got x) = tt
any (none why) = tt

then-holds : {X Y : Type 0} (P : X → Type 0) (Q : Y → Type 0) (g : Got X) (k : X → Got Y) → Holds P g → ((x : X) → P x → Holds Q (k x)) → Holds Q (then_got g k)
then-holds P Q (got x) k h f = f x h
then-holds P Q (none why) k h f = tt

if-holds : (b : Bool) (r s : Found) → Holds Occurs r → Holds Occurs s → Holds Occurs (cond b r s)
if-holds true r s h l = h
if-holds false r s h l = l

roots-holds : (o : Outcome) (r : Found) → Holds Occurs r → Holds Occurs (on_roots o r)
roots-holds (Ok _) r h = h
roots-holds (Err why) r h = tt

halves-holds : (x : Halves) (r : Found) (k : List Ratio → List Ratio → Found) → Holds Occurs r → ((g q : List Ratio) → Holds Occurs (k g q)) → Holds Occurs (on_halves x r k)
halves-holds whole r k h f = h
halves-holds (both g q) r k h f = f g q

module _ (times : ℕ) (some : 1 ≤ times) where
  room : (b : Bool) (p : List Ratio) (found : List Piece) → Occurs found → Occurs (cond b (found ++ (piece p times ∷ [])) found)
  room true p found h = every_more (λ q. 1 ≤ q.times) found (piece p times) h some
  room false p found h = h

  added-occurs : (p : List Ratio) (found : List Piece) → Occurs found → Occurs (added p times found)
  unfolding added
  added-occurs p found h = room (ltb (length found) 32) p found h

  peel-if : (r x q : List Ratio) (l : Peel) → Occurs l.found → Occurs (peel_if r times x q l).found
  peel-if [] x q l h = added-occurs x l.found h
  peel-if (y ∷ r) x q l h = h

  peel-one : (r : Ratio) (l : Peel) → Occurs l.found → Holds (λ m. Occurs m.found) (peel_one times r l)
  unfolding peel_one
  peel-one r l h =
      then-holds (λ x. Unit {0}) (λ m. Occurs m.found) (line_from (neg_of r)) _ (any (line_from (neg_of r))) (λ x u.
      then-holds (λ x. Unit {0}) (λ m. Occurs m.found) (parts_of l.rest x) _ (any (parts_of l.rest x)) (λ s u. peel-if s.rest x s.quotient l h))

  peel-all : (rs : List Ratio) (l : Peel) → Occurs l.found → Holds (λ m. Occurs m.found) (peeled times rs l)
  unfolding peeled
  peel-all [] l h = h
  peel-all (r ∷ rs) l h = then-holds (λ m. Occurs m.found) (λ m. Occurs m.found) (peel_one times r l) _ (peel-one r l h) (λ m k. peel-all rs m k)

  split-occurs : (budget k : ℕ) (f : List Ratio) (found : List Piece) → Occurs found → Holds Occurs (split_onto k f times budget found)
  unfolding split_onto
  split-occurs budget zero f found h = h
  split-occurs budget (suc k) f found h =
      if-holds (ltb (length f) 2) _ _ h (
      if-holds (eqb (length f) 2) _ _ (added-occurs f found h) (
      roots-holds (roots_of f budget).outcome _ (
      if-holds (ltb 0 (roots_of f budget).len) _ _
      (then-holds (λ m. Occurs m.found) Occurs (peeled times (roots_in (roots_of f budget)) (start found f)) _ (peel-all (roots_in (roots_of f budget)) (start found f) h) (λ m g.
      if-holds (ltb (length m.rest) (length f)) _ _ (split-occurs budget k m.rest m.found g) (added-occurs m.rest m.found g)))
      (then-holds (λ x. Unit {0}) Occurs (pair_of f budget) _ (any (pair_of f budget)) (λ x u.
      halves-holds x _ _ (added-occurs f found h) (λ g q.
      then-holds Occurs Occurs (split_onto k g times budget found) _ (split-occurs budget k g found h) (λ m n. split-occurs budget k q m n)))))))

all-occurs : (budget : ℕ) (l found : List Piece) → Occurs l → Occurs found → Holds Occurs (split_all l budget found)
unfolding split_all
all-occurs budget [] found h g = g
all-occurs budget (p ∷ l) found h g =
    then-holds Occurs Occurs (split_onto (length (trim (terms_of p.poly))) (trim (terms_of p.poly)) p.times budget found) _
    (split-occurs p.times h.0 budget (length (trim (terms_of p.poly))) (trim (terms_of p.poly)) found g)
    (λ m n. all-occurs budget l m h.1 n)

rising-occurs : (k : ℕ) (l : List Piece) → 1 ≤ k → Rising k l → Occurs l
rising-occurs k [] h r = tt
rising-occurs k (p ∷ l) h r = (omega (arith, r.0), rising-occurs (suc p.times) l (omega arith) r.1)

-- the parts of a square-free decomposition
pub parts-occur : (budget : ℕ) (all l : List Piece) → Rising 1 all → split_all all budget [] ≡ got l → Occurs l
parts-occur budget all l r e = subst (Holds Occurs) e (all-occurs budget all [] (rising-occurs 1 all (omega arith) r) tt)
