-- The promise of the chain at the door.
use mathlib.Core.Path.{◌≡◌, refl, sym, ap, subst}
use mathlib.Core.Logic.{inl, inr}
use denote.Enum.Declared.{tag_of}
use mathlib.Core.List.{List, [], ◌∷◌, ◌++◌, map}
use Prim.Native.Nat.{ℕ, zero, suc, ◌-◌, ◌≤◌}
use native.Mathlib.Omega.{arith}
use lib.ListN.{length, get_or, replicate}
use Rattle.ratio.specs.declared.Ratio.{Ratio}
use Rattle.ratio.specs.declared.Reason.{Reason}
use Rattle.terms.specs.declared.Poly.{Poly}
use Rattle.terms.specs.Meaning.{rats}
use Rattle.terms.specs.Poly.{terms_of, poly_of}
use Rattle.poly.specs.declared.Gate.{Gate}
use Rattle.poly.specs.declared.Gate.TheVariants.{Open, Long, Bad}
use Rattle.poly.specs.contracts.Gate as G
use Rattle.poly.proofs.Doors.{Shut}
use Rattle.poly.specs.Door.{door_of}
use Rattle.poly.specs.Promise.{reading}
use Rattle.poly.proofs.Canonical.{Opened, opened, open-poly, open-nil}
use Rattle.euclid.proofs.Doors.{never_done, entered-keeps, degree-length}
use Rattle.yun.specs.Got.{Got, got, none}
use Rattle.chain.specs.declared.Chain.{Chain}
use Rattle.chain.specs.Answer.{entries_of, refused_for, chain_of}
use Rattle.chain.specs.Sequence.{sequence_of}
use Rattle.chain.specs.Promise.{IsChain}
use Rattle.chain.proofs.CodeChain.{holding-entries}
use Rattle.chain.proofs.MeaningChain.{Each, sequence-means}
use Rattle.chain.proofs.Refusals.{Overflows, sequence-over}
use Rattle.sturm.specs.Count.{sequence_for}
use Rattle.sturm.specs.Promise.{ChainPromise}

-- a door that isn't open is one of the others
pub shut-from : (d : Gate) → (tag_of G.the_type d ≡ 0 → ⊥) → Shut d
shut-from Open h = absurd (h refl)
shut-from Long h = inl refl
shut-from Bad h = inr refl

zeros-open : (k i : ℕ) → door_of (get_or (replicate k (poly_of [])) i (poly_of [])) ≡ Open
zeros-open zero zero = open-nil
zeros-open zero (suc i) = open-nil
zeros-open (suc k) zero = open-nil
zeros-open (suc k) (suc i) = zeros-open k i

places-open : (l : List (List Ratio)) (n k i : ℕ) → n ≤ 32 → Each l n → door_of (get_or (map poly_of l ++ replicate k (poly_of [])) i (poly_of [])) ≡ Open
places-open [] n k i h c = zeros-open k i
places-open (p ∷ l) n k zero h c = open-poly p (omega (arith, c.0.short)) c.0.canonical
places-open (p ∷ l) n k (suc i) h c = places-open l n k i h c.1

module _ (p : Poly) where
  shut-chain : (door_of p ≡ Open → ⊥) → (why : Reason) → ChainPromise p (refused_for why)
  shut-chain shut why = record { is = λ s. absurd (never_done why s); canonical = λ i. zeros-open 32 i; few = λ n d. omega arith; refused = λ s. refl; over = λ o. absurd (shut o) }

  module _ (o : Opened p) where
    open-chain : (s : Got (List (List Ratio))) → sequence_of (terms_of p) ≡ s → Overflows s → ChainPromise p (chain_of s)
    open-chain (got l) e h =
        let t = sequence-means (terms_of p) o.canonical l e in
        let i : entries_of (chain_of (got l)) ≡ l = holding-entries l in
        record {
          is = λ s. subst (λ m. IsChain (reading p) (map rats m)) (sym i) t.is;
          canonical = λ j. places-open l (length (terms_of p)) (32 - length l) j o.few t.canonical;
          few = λ n d. omega (arith, ap length i, t.few, degree-length (terms_of p) n o.canonical d);
          refused = λ s. absurd (s refl);
          over = λ d s. absurd (s refl);
        }
    open-chain (none why) e h = record { is = λ s. absurd (never_done why s); canonical = λ i. zeros-open 32 i; few = λ n d. omega arith; refused = λ s. refl; over = λ d s. rw h refl }

pub chain-both : (p : Poly) (r : Chain) → r ≡ sequence_for p → (r ≡ sequence_for p) × ChainPromise p r
chain-both p r e = (e, subst (ChainPromise p) (sym e) (entered-keeps refused_for (ChainPromise p) (door_of p) (chain_of (sequence_of (terms_of p))) (λ d. open-chain p (opened p d) (sequence_of (terms_of p)) refl (sequence-over (terms_of p))) (shut-chain p)))
