-- The loop: what is left of the chain, behind what is found, gives the whole of it. The lengths fall, so that 32 places are enough.
use Rattle.ratio.specs.Refusal.{no_refusal}
use Rattle.std.specs.Prelude.{Err}
use mathlib.Core.Path.{◌≡◌, refl, sym, ap, ◌∙◌}
use mathlib.Core.List.{List, [], ◌∷◌, ◌++◌, map, append_assoc, map-append}
use Prim.Native.Nat.{ℕ, zero, suc, ◌+◌, ◌-◌, ◌<◌, ◌≤◌}
use native.Mathlib.Omega.{arith}
use lib.ListN.{length, set, replicate, length-append, length-map}
use lib.Seq.{set-append_seam}
use Rattle.ratio.specs.declared.Ratio.{Ratio}
use Rattle.ratio.specs.declared.Reason.{Reason}
use Rattle.terms.specs.declared.Answer.{Answer}
use Rattle.terms.specs.declared.Poly.{Poly}
use Rattle.terms.specs.Poly.{terms_of, poly_of}
use Rattle.terms.proofs.Lists.{terms-of-poly}
use Rattle.yun.specs.Got.{Got, got, none, then_got}
use Rattle.yun.proofs.CodeGot.{made-poly}
use Rattle.chain.specs.declared.Chain.{Chain}
use Rattle.chain.specs.Next.{next_of}
use Rattle.chain.specs.Sequence.{before, behind}
use Rattle.chain.specs.Answer.{holding, refused_for, chain_of, Links}
use Rattle.chain.proofs.CodeNext.{link-got, link-none, next-short}

-- ---- one entry more

filled : (l : List Poly) (x z : Poly) (n k m : ℕ) → n ≡ length l → k ≡ suc m → set (l ++ replicate k z) n x ≡ (l ++ (x ∷ [])) ++ replicate m z
filled l x z n k m d e = rw (d, e, append_assoc) (set-append_seam l z (replicate m z) x)

-- one more
abbrev added : Chain → Poly → Chain
added c p = record { outcome = c.outcome; polys = set c.polys c.len p; len = c.len + 1 }

pub added-holding : (l : List (List Ratio)) (p : Poly) → length l < 32 → p ≡ poly_of (terms_of p) → added (holding l) p ≡ holding (l ++ (terms_of p ∷ []))
added-holding l p h e =
    let n : length (l ++ (terms_of p ∷ [])) ≡ length l + 1 = length-append l (terms_of p ∷ []) in
    let m : map poly_of (l ++ (terms_of p ∷ [])) ≡ map poly_of l ++ (poly_of (terms_of p) ∷ []) = map-append poly_of l (terms_of p ∷ []) in
    rw (n, m, sym e) (ap {B = Chain} (λ (s : List Poly). record { outcome = no_refusal; polys = s; len = length l + 1 }) (filled (map poly_of l) p (poly_of []) (length l) (32 - length l) (32 - (length l + 1)) (sym (length-map l poly_of)) (omega arith)))

-- ---- what is found stands before the rest

abbrev pub front : List (List Ratio) → Got (List (List Ratio)) → Got (List (List Ratio))
front found r = then_got r (λ l. got (found ++ l))

front-none : (r : Got (List (List Ratio))) → front [] r ≡ r
front-none (got l) = refl
front-none (none why) = refl

front-before : (found : List (List Ratio)) (a : List Ratio) (r : Got (List (List Ratio))) → front found (before a r) ≡ front (found ++ (a ∷ [])) r
front-before found a (got l) = ap got (sym (append_assoc found (a ∷ []) l))
front-before found a (none why) = refl

pub behind-end : (f : ℕ) (a b : List Ratio) → length b ≤ 0 → behind f a b ≡ got (a ∷ [])
unfolding behind
behind-end zero a b h = refl
behind-end (suc f) a [] h = refl
behind-end (suc f) a (y ∷ b) h = absurd (omega arith)

behind_more : (f : ℕ) (a b : List Ratio) → 1 ≤ length b → length b ≤ f → behind f a b ≡ then_got (next_of a b) (λ r. before a (behind (f - 1) b r))
unfolding behind
behind_more f a [] h k = absurd (omega arith)
behind_more zero a (y ∷ b) h k = absurd (omega arith)
behind_more (suc f) a (y ∷ b) h k = let e : f ≡ suc f - 1 = omega arith in ap (λ (g : ℕ). then_got (next_of a (y ∷ b)) (λ r. before a (behind g (y ∷ b) r))) e

-- ---- the loop

pub record Going (p d : List Ratio) (out : Chain) (a : List Ratio) (b : Poly) : Type 0 where
  pub found : List (List Ratio)
  pub is : out ≡ holding (found ++ (a ∷ []))
  pub made : b ≡ poly_of (terms_of b)
  pub fuel : ℕ
  pub enough : length (terms_of b) ≤ fuel
  pub room : length found + 1 + length (terms_of b) ≤ 32
  pub whole : front found (behind fuel a (terms_of b)) ≡ behind (length d) p d

pub going-none : (p d : Poly) (first out : Chain) → p ≡ poly_of (terms_of p) → d ≡ poly_of (terms_of d) → length (terms_of d) < 32 → first ≡ holding [] → out ≡ record { outcome = first.outcome; polys = set first.polys 0 p; len = 1 } → Going (terms_of p) (terms_of d) out (terms_of p) d
going-none p d first out e f h k o = record {
  found = [];
  is = o ∙ ap {B = Chain} (λ (c : Chain). record { outcome = c.outcome; polys = set c.polys 0 p; len = 1 }) k ∙ added-holding [] p (omega arith) e;
  made = f;
  fuel = length (terms_of d);
  enough = omega arith;
  room = omega arith;
  whole = front-none (behind (length (terms_of d)) (terms_of p) (terms_of d));
}

module _ (p d : List Ratio) (out : Chain) (a : List Ratio) (b : Poly) (g : Going p d out a b) where
  pub going_end : length (terms_of b) ≤ 0 → out ≡ chain_of (behind (length d) p d)
  going_end h = g.is ∙ ap chain_of (sym (ap (front g.found) (behind-end g.fuel a (terms_of b) h)) ∙ g.whole)

  found-length : length (g.found ++ (a ∷ [])) ≡ length g.found + 1
  found-length = length-append g.found (a ∷ [])

  module _ (h : 1 ≤ length (terms_of b)) where
    pub going-room : out.len < 32
    going-room = rw (ap (λ (c : Chain). c.len) g.is, found-length) (omega (arith, g.room))

    step : front g.found (then_got (next_of a (terms_of b)) (λ r. before a (behind (g.fuel - 1) (terms_of b) r))) ≡ behind (length d) p d
    step = ap (front g.found) (sym (behind_more g.fuel a (terms_of b) h g.enough)) ∙ g.whole

    module _ (w : Answer) (e : Links (next_of a (terms_of b)) w) where
      pub going-refused : (why : Reason) → w.outcome ≡ Err why → refused_for why ≡ chain_of (behind (length d) p d)
      going-refused why o = ap chain_of (rw (link-none w (next_of a (terms_of b)) why e o) at step)

      pub going-short : w.outcome ≡ no_refusal → length (terms_of w.poly) < length (terms_of b)
      going-short o =
          let (l, k, q) = link-got w (next_of a (terms_of b)) e o in
          rw (q, terms-of-poly l) (next-short a (terms_of b) l h k)

      pub going_more : (next : Chain) → next ≡ added out b → w.outcome ≡ no_refusal → Going p d next (terms_of b) w.poly
      going_more next u o =
          let (l, k, q) = link-got w (next_of a (terms_of b)) e o in
          record {
            found = g.found ++ (a ∷ []);
            is = u ∙ ap (λ (c : Chain). added c b) g.is ∙ added-holding (g.found ++ (a ∷ [])) b (rw found-length (omega (arith, g.room))) g.made;
            made = rw q (made-poly l);
            fuel = g.fuel - 1;
            enough = omega (arith, going-short o, g.enough);
            room = rw found-length (omega (arith, going-short o, g.room));
            whole = rw (q, terms-of-poly l) (sym (front-before g.found a (behind (g.fuel - 1) (terms_of b) l)) ∙ (rw k at step));
          }
