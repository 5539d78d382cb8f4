-- What the chain means in textbook algebra: the model's chain of a canonical list is the chain of its definition, with canonical entries, and no longer than the list.
use mathlib.Core.Path.{◌≡◌, refl, sym, ap, subst, ◌∙◌}
use mathlib.Core.List.{List, [], ◌∷◌, map}
use Prim.Native.Nat.{ℕ, zero, suc, ◌+◌, ◌<◌, ◌≤◌}
use native.Mathlib.Omega.{arith}
use lib.ListN.{length}
use Rattle.algebra.specs.Polynomial.{Equal, negated, derivative}
use Rattle.algebra.specs.Textbook.{HasDegree}
use Rattle.algebra.proofs.Reflect.{ring!, reify}
use Rattle.algebra.proofs.Rational.{ℚ-ring}
use Rattle.algebra.proofs.Series.{Below}
use Rattle.algebra.proofs.Poly.{neg_p, Poly-ring}
use Rattle.algebra.proofs.Degree.{HasDeg}
use Rattle.algebra.proofs.Lists.{ℚP, ◌+P◌, ◌*P◌, poly, equal-refl, equal-trans, poly-negated}
use Rattle.algebra.proofs.ListWords.{division-to, division-from, lower-to, lower-from, degree-from}
use Rattle.ratio.specs.declared.Ratio.{Ratio}
use Rattle.terms.specs.Machine.{Ran, fine, over, plain}
use Rattle.terms.specs.Meaning.{rats}
use Rattle.terms.specs.Poly.{trim}
use Rattle.terms.specs.Work.{derived}
use Rattle.terms.specs.Answer.{negated_of}
use Rattle.terms.proofs.Lists.{trim-short}
use Rattle.terms.proofs.Meaning.{poly_r, poly_r-trim, trim-means}
use Rattle.terms.proofs.MeaningCanonical.{Canonical, trim-canonical, canonical-degree, zero-trim}
use Rattle.terms.proofs.MeaningDegree.{derived-length, derived-canonical}
use Rattle.terms.proofs.MeaningLowest.{negated-lowest, derived-lowest}
use Rattle.terms.proofs.MeaningSum.{negated-poly, derived-means}
use Rattle.remainders.specs.Divide.{Split, divided}
use Rattle.remainders.proofs.MeaningDivision.{cons-some, Divided, divided-means}
use Rattle.yun.specs.Got.{Got, got, none, then_got, list_from, split_from, parts_of}
use Rattle.chain.specs.Next.{next_of}
use Rattle.chain.specs.Sequence.{before, behind, started, sequence_of}
use Rattle.chain.specs.Promise.{NegatedRest, Follow, IsChain}
use Rattle.chain.proofs.CodeNext.{next-short}
use Rattle.chain.proofs.CodeFollow.{behind-end}

-- ---- one link

twice : (p : ℚP) → neg_p ℚ-ring (neg_p ℚ-ring p) ≡ p
twice p = ring! (Poly-ring ℚ-ring) (p ∷ []) (search reify depth 30 fits 20000) tt

pub record Next (a b r : List Ratio) : Type 0 where
  pub is : NegatedRest (rats a) (rats b) (rats r)
  pub canonical : Canonical r

negated-means : (a b : List Ratio) (s : Split Ratio) → Divided a b s → (k : ℕ) (m : List Ratio) → negated_of s.rest ≡ fine k m → Next a b (trim m)
negated-means a b s d k m e =
    let back : poly_r s.rest ≡ poly (negated (rats (trim m))) =
    sym (poly-negated (rats (trim m)) ∙ ap (neg_p ℚ-ring) (poly_r-trim m ∙ negated-poly s.rest k m e) ∙ twice (poly_r s.rest)) in
    let low = lower-to (rats s.rest) (rats b) d.is.lower in
    record {
      is = record {
        quotient = rats s.quotient;
        is = division-from (rats a) (rats b) (rats s.quotient) (negated (rats (trim m)))
            (division-to (rats a) (rats b) (rats s.quotient) (rats s.rest) d.is ∙ ap (λ z. poly_r s.quotient *P poly_r b +P z) back)
            (lower-from (negated (rats (trim m))) (rats b) d.is.lower.degree low.0 (subst (λ z. Below ℚ-ring d.is.lower.degree z.0) back low.1));
      };
      canonical = trim-canonical m (negated-lowest s.rest k m e);
    }

pub next-means : (a b r : List Ratio) → Canonical a → Canonical b → (b ≡ [] → ⊥) → next_of a b ≡ got r → Next a b r
unfolding next_of parts_of
next-means a [] r ca cb some g = absurd (some refl)
next-means a (y ∷ b) r ca cb some g = go (divided plain a (y ∷ b) 0) refl g
  where
    turn : (s : Split Ratio) → Divided a (y ∷ b) s → (t : Ran ℕ (List Ratio)) → negated_of s.rest ≡ t → list_from t ≡ got r → Next a (y ∷ b) r
    turn s d (fine k m) e g = let f : trim m ≡ r = cc in subst (Next a (y ∷ b)) f (negated-means a (y ∷ b) s d k m e)
    turn s d (over k) e g = absurd (let z : ◌≡◌ {A = ℕ} 0 1 = cc in omega arith)

    go : (t : Ran ℕ (Split Ratio)) → divided plain a (y ∷ b) 0 ≡ t → then_got (split_from t) (λ s. list_from (negated_of s.rest)) ≡ got r → Next a (y ∷ b) r
    go (fine k s) e g = turn s (divided-means a (y ∷ b) ca cb some 0 k s e) (negated_of s.rest) refl g
    go (over k) e g = absurd (let z : ◌≡◌ {A = ℕ} 0 1 = cc in omega arith)

-- ---- the links

-- canonical, with at most n coefficients
pub record Held (n : ℕ) (p : List Ratio) : Type 0 where
  pub canonical : Canonical p
  pub short : length p ≤ n

abbrev pub Each : List (List Ratio) → ℕ → Type 0
Each [] n = Unit {0}
Each (p ∷ l) n = Held n p × Each l n

pub record Follows (n : ℕ) (a b : List Ratio) (l : List (List Ratio)) : Type 0 where
  pub rest : List (List Ratio)
  pub is : l ≡ a ∷ b ∷ rest
  pub follow : Follow (map rats rest) (rats a) (rats b)
  pub canonical : Each rest n
  pub few : length rest + 1 ≤ length b

module _ (n f : ℕ) (a b : List Ratio) (ca : Canonical a) (cb : Canonical b) (some : b ≡ [] → ⊥) (one : 1 ≤ length b)
    (ih : (r : List Ratio) → Canonical r → (r ≡ [] → ⊥) → length r ≤ f → length r ≤ n → (l : List (List Ratio)) → behind f b r ≡ got l → Follows n b r l)
    (h : length b ≤ suc f) (bound : length b ≤ n) (l : List (List Ratio)) where
  link-last : (r : List Ratio) → Next a b r → length r ≤ 0 → before a (behind f b r) ≡ got l → Follows n a b l
  link-last [] u k e =
      let g : before a (got (b ∷ [])) ≡ got l = ap (before a) (sym (behind-end f b [] k)) ∙ e in
      let i : a ∷ b ∷ [] ≡ l = cc in
      record { rest = []; is = sym i; follow = u.is; canonical = tt; few = omega arith }
  link-last (x ∷ r) u k e = absurd (omega arith)

  link_on : (r : List Ratio) → Next a b r → (r ≡ [] → ⊥) → length r < length b → (w : Got (List (List Ratio))) → behind f b r ≡ w → before a w ≡ got l → Follows n a b l
  link_on r v some short (got m) u e =
      let t = ih r v.canonical some (omega arith) (omega arith) m u in
      let i : a ∷ m ≡ l = cc in
      record {
        rest = r ∷ t.rest;
        is = sym i ∙ ap (λ (z : List (List Ratio)). a ∷ z) t.is;
        follow = (v.is, t.follow);
        canonical = (record { canonical = v.canonical; short = omega arith }, t.canonical);
        few = omega (arith, t.few);
      }
  link_on r v some short (none why) u e = absurd (let z : ◌≡◌ {A = ℕ} 0 1 = cc in omega arith)

  link-either : (r : List Ratio) → Next a b r → length r < length b → before a (behind f b r) ≡ got l → Follows n a b l
  link-either [] v short e = link-last [] v (omega arith) e
  link-either (x ∷ r) v short e = link_on (x ∷ r) v (cons-some x r) short (behind f b (x ∷ r)) refl e

  linked : (w : Got (List Ratio)) → next_of a b ≡ w → then_got w (λ r. before a (behind f b r)) ≡ got l → Follows n a b l
  linked (got r) u e = link-either r (next-means a b r ca cb some u) (next-short a b r one u) e
  linked (none why) u e = absurd (let z : ◌≡◌ {A = ℕ} 0 1 = cc in omega arith)

pub behind-means : (n f : ℕ) (a b : List Ratio) → Canonical a → Canonical b → (b ≡ [] → ⊥) → length b ≤ f → length b ≤ n → (l : List (List Ratio)) → behind f a b ≡ got l → Follows n a b l
unfolding behind
behind-means n zero a [] ca cb some h w l e = absurd (some refl)
behind-means n zero a (y ∷ b) ca cb some h w l e = absurd (omega arith)
behind-means n (suc f) a [] ca cb some h w l e = absurd (some refl)
behind-means n (suc f) a (y ∷ b) ca cb some h w l e =
    linked n f a (y ∷ b) ca cb some (omega arith) (λ r c s k j m u. behind-means n f (y ∷ b) r cb c s k j m u) h w l (next_of a (y ∷ b)) refl e

-- ---- the chain

pub record Sequence (p : List Ratio) (l : List (List Ratio)) : Type 0 where
  pub is : IsChain (rats p) (map rats l)
  pub canonical : Each l (length p)
  pub few : length l ≤ length p

module _ (x : Ratio) (q : List Ratio) (c : Canonical (x ∷ q)) (l : List (List Ratio)) where
  abbrev p : List Ratio
  p = x ∷ q

  module _ (k : ℕ) (m : List Ratio) (e : derived plain p 0 ≡ fine k m) where
    slope : Equal (rats (trim m)) (derivative (rats p))
    slope = equal-trans (rats (trim m)) (rats m) (derivative (rats p)) (trim-means m) (derived-means p 0 k m e)

    slope-canonical : Canonical (trim m)
    slope-canonical = trim-canonical m (derived-lowest p 0 k m e)

    -- a constant
    constant : length (trim m) ≤ 0 → HasDegree (rats p) 0
    constant h =
        let n : length q ≡ 0 = omega (arith, ap length (derived-canonical p c 0 k m e).trimmed, derived-length p 0 k m e) in
        degree-from (rats p) 0 (subst (HasDeg ℚ-ring (poly_r p)) n (canonical-degree x q c))

    from-slope : (d : List Ratio) → d ≡ trim m → behind (length d) p d ≡ got l → Sequence p l
    from-slope [] u g =
        let v : got (p ∷ []) ≡ got l = sym (behind-end 0 p [] (omega arith)) ∙ g in
        let i : p ∷ [] ≡ l = cc in
        subst (Sequence p) i (record { is = (equal-refl (rats p), constant (omega (arith, ap length u))); canonical = (record { canonical = c; short = omega arith }, tt); few = omega arith })
    from-slope (y ∷ d) u g =
        let cd : Canonical (y ∷ d) = subst Canonical (sym u) slope-canonical in
        let few : length (y ∷ d) ≤ length q = omega (arith, ap length u, trim-short m, derived-length p 0 k m e) in
        let t = behind-means (length p) (length (y ∷ d)) p (y ∷ d) c cd (cons-some y d) (omega arith) (omega arith) l g in
        subst (Sequence p) (sym t.is) (record {
          is = (equal-refl (rats p), subst (λ z. Equal (rats z) (derivative (rats p))) (sym u) slope, t.follow);
          canonical = (record { canonical = c; short = omega arith }, (record { canonical = cd; short = omega arith }, t.canonical));
          few = omega (arith, t.few);
        })

  by-slope : (r : Ran ℕ (List Ratio)) → derived plain p 0 ≡ r → then_got (list_from r) (λ d. behind (length d) p d) ≡ got l → Sequence p l
  by-slope (fine k m) e g = from-slope k m e (trim m) refl g
  by-slope (over k) e g = absurd (let z : ◌≡◌ {A = ℕ} 0 1 = cc in omega arith)

started-means : (p : List Ratio) → Canonical p → (l : List (List Ratio)) → started p ≡ got l → Sequence p l
started-means [] c l g =
    let i : [] ≡ l = cc in
    subst (Sequence []) i (record { is = zero-trim [] c.trimmed; canonical = tt; few = omega arith })
started-means (x ∷ q) c l g = by-slope x q c l (derived plain (x ∷ q) 0) refl g

pub sequence-means : (p : List Ratio) → Canonical p → (l : List (List Ratio)) → sequence_of p ≡ got l → Sequence p l
unfolding sequence_of
sequence-means p c l g = started-means p c l (ap started (sym c.trimmed) ∙ g)
