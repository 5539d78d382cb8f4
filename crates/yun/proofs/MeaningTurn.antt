-- One round of the model is one round on polynomials: where it ends the loop the factors found are all, where it goes on the next round stands.
use mathlib.Core.Path.{◌≡◌, refl, sym, ap, subst, ◌∙◌}
use mathlib.Core.Bool.{true}
use mathlib.Core.List.{List, [], ◌∷◌}
use Prim.Native.Nat.{ℕ, suc, ◌≤◌, ◌<◌}
use native.Mathlib.Omega.{arith}
use lib.ListN.{length}
use Rattle.algebra.proofs.Ring.{pow, one-pow, by2}
use Rattle.algebra.proofs.Reflect.{ring!, reify}
use Rattle.algebra.proofs.Rational.{ℚ-ring, ℚ-domain, 1ℚ, invℚ}
use Rattle.algebra.proofs.Poly.{nil_p, neg_p, con_p, Poly-ring}
use Rattle.algebra.proofs.Divides.{Dvd}
use Rattle.algebra.proofs.Monic.{MonicP, monic-not-nil, monic-constant, monic-same}
use Rattle.algebra.proofs.Derivative.{der_p}
use Rattle.algebra.proofs.Lists.{ℚP, ◌+P◌, ◌*P◌, poly-empty}
use Rattle.ratio.specs.declared.Ratio.{Ratio}
use Rattle.ratio.specs.declared.Reason.{Reason}
use Rattle.ratio.specs.declared.Reason.TheVariants.{CoeffOverflow}
use Rattle.terms.specs.Machine.{minus, Ran, fine, over, plain}
use Rattle.terms.specs.Poly.{drop_top, terms_of, poly_of, trim}
use Rattle.terms.specs.Work.{zipped, derived}
use Rattle.terms.proofs.Lists.{terms-of-poly}
use Rattle.terms.proofs.Meaning.{poly_r, poly_r-below, poly_r-trim}
use Rattle.terms.proofs.MeaningSum.{zipped-means, derived-poly}
use Rattle.terms.proofs.MeaningLowest.{zipped-lowest}
use Rattle.terms.proofs.MeaningCanonical.{Canonical, trim-canonical, canonical-unique}
use Rattle.remainders.specs.Divide.{Split, divided}
use Rattle.remainders.specs.Gcd.{monic, gcd_of}
use Rattle.remainders.proofs.MeaningDivision.{cons-some, Divided, divided-poly, divided-means, divided-exact}
use Rattle.remainders.proofs.MeaningGcd.{MonicOf, monic-means, monic-back, Euclid, gcd-euclid}
use Rattle.remainders.proofs.MeaningFree.{nothing-remains}
use Rattle.yun.specs.declared.Piece.{Piece}
use Rattle.yun.specs.Got.{Got, got, none, list_from, split_from, parts_of}
use Rattle.yun.specs.Round as Y
use Rattle.yun.specs.Round.{piece, pushed, Turn, on, or_over, ended, factor_of, on_if, cut_by, met, turn_of}
use Rattle.yun.specs.Promise.{Every, Rising}
use Rattle.yun.proofs.MeaningRound.{Round, SquareFreeP, round-last, round-over, quotient-monic, round-next}
use Rattle.yun.proofs.MeaningPieces.{Fine, powers_p, powers-more, bases_p, bases-more, every_more, every_map, rising-more}

-- ---- what was worked out

pub record Worked (r : Ran ℕ (List Ratio)) (l : List Ratio) : Type 0 where
  pub steps : ℕ
  pub list : List Ratio
  pub is : r ≡ fine steps list
  pub trimmed : trim list ≡ l

pub list-worked : (r : Ran ℕ (List Ratio)) (l : List Ratio) → list_from r ≡ got l → Worked r l
list-worked (fine k m) l e = record { steps = k; list = m; is = refl; trimmed = cc }
list-worked (over k) l e = absurd (let z : ◌≡◌ {A = ℕ} 0 1 = cc in omega arith)

pub list_over : (r : Ran ℕ (List Ratio)) (why : Reason) → list_from r ≡ none why → why ≡ CoeffOverflow
list_over (fine k l) why e = absurd (let z : ◌≡◌ {A = ℕ} 0 1 = cc in omega arith)
list_over (over k) why e = cc

split-over : (r : Ran ℕ (Split Ratio)) (why : Reason) → split_from r ≡ none why → why ≡ CoeffOverflow
split-over (fine k s) why e = absurd (let z : ◌≡◌ {A = ℕ} 0 1 = cc in omega arith)
split-over (over k) why e = cc

-- a divisor that isn't zero is no reason
pub parts-over : (a b : List Ratio) (why : Reason) → MonicP ℚ-ring (poly_r b) → parts_of a b ≡ none why → why ≡ CoeffOverflow
unfolding parts_of
parts-over a [] why m e = absurd (monic-not-nil ℚ-domain (poly_r []) m poly-empty)
parts-over a (y ∷ b) why m e = split-over (divided plain a (y ∷ b) 0) why e

split-worked : (r : Ran ℕ (Split Ratio)) (s : Split Ratio) → split_from r ≡ got s → (k : ℕ) × (r ≡ fine k s)
split-worked (fine k m) s e = (k, cc)
split-worked (over k) s e = absurd (let z : ◌≡◌ {A = ℕ} 0 1 = cc in omega arith)

-- a over b, which divides it
pub record Exact (a b : List Ratio) (s : Split Ratio) : Type 0 where
  pub is : poly_r a ≡ poly_r s.quotient *P poly_r b
  pub none : s.rest ≡ []
  pub canonical : Canonical s.quotient

pub parts-exact : (a b : List Ratio) (s : Split Ratio) → Canonical a → Canonical b → Dvd (Poly-ring ℚ-ring) (poly_r b) (poly_r a) → parts_of a b ≡ got s → Exact a b s
unfolding parts_of
parts-exact a [] s ca cb z e = absurd (let z : ◌≡◌ {A = ℕ} 0 1 = cc in omega arith)
parts-exact a (y ∷ b) s ca cb z e =
    let (k, f) = split-worked (divided plain a (y ∷ b) 0) s e in
    let d : Divided a (y ∷ b) s = divided-means a (y ∷ b) ca cb (cons-some y b) 0 k s f in
    let r : s.rest ≡ [] = divided-exact a (y ∷ b) s cb (cons-some y b) d z in
    record {
      is = nothing-remains a (y ∷ b) s.quotient (divided-poly a (y ∷ b) s d ∙ ap (λ z. poly_r (y ∷ b) *P poly_r s.quotient +P poly_r z) r);
      none = r;
      canonical = d.quotient-canonical;
    }

-- the gcd of two, the second not zero
pub gcd-worked : (a b g : List Ratio) → Canonical a → Canonical b → (b ≡ [] → ⊥) → list_from (gcd_of plain a b 0) ≡ got g → Euclid a b g
gcd-worked a b g ca cb some e =
    let w = list-worked (gcd_of plain a b 0) g e in
    let z : Euclid a b w.list = gcd-euclid a b ca cb (λ p q. some q) 0 w.steps w.list w.is in
    subst (Euclid a b) (sym z.canonical.trimmed ∙ w.trimmed) z

-- scaling leaves a monic polynomial as it is
monic-worked : (u p : List Ratio) → Canonical u → MonicP ℚ-ring (poly_r u) → 1 ≤ length u → list_from (monic plain u 0) ≡ got p → p ≡ u
monic-worked [] p c m h e = absurd (omega arith)
monic-worked (x ∷ u) p c m h e =
    let w = list-worked (monic plain (x ∷ u) 0) p e in
    let z : MonicOf (x ∷ u) w.list = monic-means x u c 0 w.steps w.list w.is in
    sym w.trimmed ∙ z.canonical.trimmed ∙ canonical-unique w.list (x ∷ u) z.canonical c (same z)
  where
    same : {g : List Ratio} → MonicOf (x ∷ u) g → poly_r g ≡ poly_r (x ∷ u)
    same {g} z = monic-same ℚ-domain (poly_r g) (poly_r (x ∷ u)) z.monic m (con_p ℚ-ring z.lead, monic-back (x ∷ u) g z) (con_p ℚ-ring (invℚ z.lead), z.is)

-- the difference
difference : (b c db d : List Ratio) → list_from (derived plain b 0) ≡ got db → list_from (zipped plain minus c db 0) ≡ got d → Canonical d × (poly_r d ≡ poly_r c +P neg_p ℚ-ring (der_p ℚ-ring (poly_r b)))
difference b c db d e k =
    let w = list-worked (derived plain b 0) db e in
    let v = list-worked (zipped plain minus c db 0) d k in (
      subst Canonical v.trimmed (trim-canonical v.list (zipped-lowest minus c db 0 v.steps v.list v.is)),
      sym (ap poly_r v.trimmed) ∙ poly_r-trim v.list ∙ zipped-means true c db 0 v.steps v.list v.is
          ∙ ap (λ z. poly_r c +P neg_p ℚ-ring z) (sym (ap poly_r w.trimmed) ∙ poly_r-trim w.list ∙ derived-poly b 0 w.steps w.list w.is),
    )

-- ---- a factor more

module _ (n : ℕ) where
  -- the factors found before round i
  pub record Earlier (i : ℕ) (found : List Piece) : Type 0 where
    pub factors : Every (Fine n) found
    pub rising : Rising 1 found
    pub fewer : Every (λ p. p.times < i) found

  earlier-next : (i : ℕ) (found : List Piece) → Earlier i found → Earlier (suc i) found
  earlier-next i found e = record { factors = e.factors; rising = e.rising; fewer = every_map (λ p. p.times < i) (λ p. p.times < suc i) (λ p h. omega arith) found e.fewer }

  fine-piece : (p : List Ratio) (i : ℕ) → Canonical p → MonicP ℚ-ring (poly_r p) → 1 ≤ length p → (2 ≤ n → 2 ≤ length p) → Fine n (piece p i)
  fine-piece p i c m s l =
      let t : p ≡ terms_of (poly_of p) = sym (terms-of-poly p) in
      record {
        canonical = subst Canonical t c;
        made = ap poly_of t;
        monic = subst (λ z. MonicP ℚ-ring (poly_r z)) t m;
        some = subst (λ z. 1 ≤ length z) t s;
        long = λ g. subst (λ z. 2 ≤ length z) t (l g);
      }

  -- the factors with p among them i times
  pub record More (p : List Ratio) (i : ℕ) (found : List Piece) (l : List Piece) : Type 0 where
    pub product : powers_p l ≡ powers_p found *P pow (Poly-ring ℚ-ring) (poly_r p) i
    pub once : bases_p l ≡ bases_p found *P poly_r p
    pub earlier : Earlier (suc i) l

  pub pushed_more : (p : List Ratio) (i : ℕ) (found : List Piece) → Canonical p → MonicP ℚ-ring (poly_r p) → 1 ≤ length p → (2 ≤ n → 2 ≤ length p) → 1 ≤ i → Earlier i found → More p i found (pushed p i found)
  unfolding pushed
  pushed_more [] i found c m s l h f = absurd (omega arith)
  pushed_more (x ∷ p) i found c m s l h f =
      let q : Piece = piece (x ∷ p) i in
      let t : terms_of (poly_of (x ∷ p)) ≡ x ∷ p = terms-of-poly (x ∷ p) in
      record {
        product = powers-more found q ∙ ap (λ z. powers_p found *P pow (Poly-ring ℚ-ring) (poly_r z) i) t;
        once = bases-more found q ∙ ap (λ z. bases_p found *P poly_r z) t;
        earlier = record {
          factors = every_more (Fine n) found q f.factors (fine-piece (x ∷ p) i c m s l);
          rising = rising-more 1 i found q refl f.rising f.fewer h;
          fewer = every_more (λ p. p.times < suc i) found q (earlier-next i found f).fewer (omega arith);
        };
      }

  -- the gcd is found where its degree is at least 1; else it is 1
  factor-more : (a p : List Ratio) (i : ℕ) (found : List Piece) → Canonical a → MonicP ℚ-ring (poly_r a) → 1 ≤ i → Earlier i found → list_from (factor_of a) ≡ got p → More a i found (pushed p i found)
  unfolding factor_of drop_top pushed
  factor-more [] p i found c m h f e = absurd (monic-not-nil ℚ-domain (poly_r []) m poly-empty)
  factor-more (x ∷ []) p i found c m h f e =
      let none : [] ≡ p = cc in
      let one : poly_r (x ∷ []) ≡ con_p ℚ-ring 1ℚ = monic-constant ℚ-domain (poly_r (x ∷ [])) m (poly_r-below (x ∷ [])) in
      subst (λ q. More (x ∷ []) i found (pushed q i found)) none (record {
        product = sym (ap (λ z. powers_p found *P pow (Poly-ring ℚ-ring) z i) one ∙ ap (λ z. powers_p found *P z) (one-pow (Poly-ring ℚ-ring) i) ∙ (Poly-ring ℚ-ring).mul-one (powers_p found));
        once = sym (ap (λ z. bases_p found *P z) one ∙ (Poly-ring ℚ-ring).mul-one (bases_p found));
        earlier = earlier-next i found f;
      })
  factor-more (x ∷ y ∷ a) p i found c m h f e =
      let same : p ≡ x ∷ y ∷ a = monic-worked (x ∷ y ∷ a) p c m (omega arith) e in
      subst (λ q. More (x ∷ y ∷ a) i found (pushed q i found)) (sym same) (pushed_more (x ∷ y ∷ a) i found c m (omega arith) (λ g. omega arith) h f)

  -- ---- the round

  -- all factors of f are found
  pub record Complete (f : ℚP) (l : List Piece) : Type 0 where
    pub is : f ≡ powers_p l
    pub once : SquareFreeP (bases_p l)
    pub factors : Every (Fine n) l
    pub rising : Rising 1 l

  -- a refusal is one of a step
  abbrev pub Found : ℚP → Got (List Piece) → Type 0
  Found f (got l) = Complete f l
  Found f (none why) = why ≡ CoeffOverflow

  pub record State (f : ℚP) (i : ℕ) (b c : List Ratio) (found : List Piece) : Type 0 where
    pub round : Round f (powers_p found) (poly_r b) (poly_r c) i
    pub once : SquareFreeP (bases_p found *P poly_r b)
    pub monic : MonicP ℚ-ring (poly_r b)
    pub canonical-b : Canonical b
    pub canonical-c : Canonical c
    pub earlier : Earlier i found

  abbrev pub Meant : ℚP → ℕ → Turn → Type 0
  Meant f i (Y.over r) = Found f r
  Meant f i (on found b c) = State f (suc i) b c found

  or-meant : {X : Type 0} (f : ℚP) (i : ℕ) (g : Got X) (k : X → Turn) → ((why : Reason) → g ≡ none why → why ≡ CoeffOverflow) → ((x : X) → g ≡ got x → Meant f i (k x)) → Meant f i (or_over g k)
  or-meant f i (got x) k o h = h x refl
  or-meant f i (none why) k o h = o why refl

  no-rest : (f : ℚP) (i : ℕ) (q r : List Ratio) (t : Turn) → q ≡ [] → r ≡ [] → Meant f i t → Meant f i (on_if q r t)
  no-rest f i [] [] t u v h = h
  no-rest f i [] (x ∷ r) t u v h = absurd (cons-some x r v)
  no-rest f i (x ∷ q) r t u v h = absurd (cons-some x q u)

  module _ (f : ℚP) (i : ℕ) (h : 1 ≤ i) (b c : List Ratio) (found : List Piece) (s : State f i b c found) (long : 2 ≤ length b) where
    module _ (d : List Ratio) (cd : Canonical d) (ed : poly_r d ≡ poly_r c +P neg_p ℚ-ring (der_p ℚ-ring (poly_r b))) where
      last-meant : poly_r d ≡ nil_p ℚ-ring → (p : List Ratio) → b ≡ p → Complete f (pushed p i found)
      last-meant e p same =
          let m : More b i found (pushed b i found) = pushed_more b i found s.canonical-b s.monic (omega arith) (λ g. long) h s.earlier in
          subst (λ q. Complete f (pushed q i found)) same (record {
            is = round-last f (powers_p found) (poly_r b) (poly_r c) i s.round s.monic (sym ed ∙ e) ∙ sym m.product;
            once = subst SquareFreeP (sym m.once) s.once;
            factors = m.earlier.factors;
            rising = m.earlier.rising;
          })

      ended-meant : poly_r d ≡ nil_p ℚ-ring → Meant f i (ended i b found)
      unfolding ended
      ended-meant e = or-meant f i (list_from (monic plain b 0)) _ (list_over (monic plain b 0)) (λ p w. last-meant e p (sym (monic-worked b p s.canonical-b s.monic (omega arith) w)))

      -- b and d over their gcd a
      next-state : (a p : List Ratio) (q r : Split Ratio) → Euclid b d a → More a i found (pushed p i found) → Exact b a q → Exact d a r → State f (suc i) q.quotient r.quotient (pushed p i found)
      next-state a p q r g m x y = record {
        round = subst (λ P. Round f P (poly_r q.quotient) (poly_r r.quotient) (suc i)) (sym m.product)
            (round-next f (powers_p found) (poly_r b) (poly_r c) i s.round (poly_r a) (poly_r d) (poly_r q.quotient) (poly_r r.quotient) g.left g.right s.monic g.monic ed x.is y.is g.combines);
        once = subst SquareFreeP regroup s.once;
        monic = quotient-monic f (powers_p found) (poly_r b) (poly_r c) i s.round (poly_r a) (poly_r d) (poly_r q.quotient) (poly_r r.quotient) g.left g.right s.monic g.monic ed x.is y.is g.combines;
        canonical-b = x.canonical;
        canonical-c = y.canonical;
        earlier = m.earlier;
      }
        where
          regroup : bases_p found *P poly_r b ≡ bases_p (pushed p i found) *P poly_r q.quotient
          regroup = by2 (Poly-ring ℚ-ring) (bases_p found) x.is (neg_p ℚ-ring (poly_r q.quotient)) m.once
              (ring! (Poly-ring ℚ-ring) (bases_p found ∷ bases_p (pushed p i found) ∷ poly_r a ∷ poly_r b ∷ poly_r q.quotient ∷ []) (search reify depth 30 fits 20000) tt)

      cut-meant : (a : List Ratio) → Euclid b d a → Meant f i (cut_by i b d found a)
      unfolding cut_by
      cut-meant a g = or-meant f i (list_from (factor_of a)) _ (list_over (factor_of a)) (λ p w.
          or-meant f i (parts_of b a) _ (λ why. parts-over b a why g.monic) (λ q x.
          or-meant f i (parts_of d a) _ (λ why. parts-over d a why g.monic) (λ r y.
          let u : Exact b a q = parts-exact b a q s.canonical-b g.canonical g.divides-u x in
          let v : Exact d a r = parts-exact d a r cd g.canonical g.divides-v y in
          no-rest f i q.rest r.rest _ u.none v.none (next-state a p q r g (factor-more a p i found g.canonical g.monic h s.earlier w) u v))))

    met-meant : (d : List Ratio) → Canonical d → poly_r d ≡ poly_r c +P neg_p ℚ-ring (der_p ℚ-ring (poly_r b)) → Meant f i (met i b found d)
    unfolding met
    met-meant [] cd ed = ended-meant [] cd ed poly-empty
    met-meant (x ∷ d) cd ed = or-meant f i (list_from (gcd_of plain b (x ∷ d) 0)) _ (list_over (gcd_of plain b (x ∷ d) 0)) (λ a w. cut-meant (x ∷ d) cd ed a (gcd-worked b (x ∷ d) a s.canonical-b cd (cons-some x d) w))

  pub turn-meant : (f : ℚP) (i : ℕ) → 1 ≤ i → (b c : List Ratio) (found : List Piece) → State f i b c found → Meant f i (turn_of i b c found)
  unfolding turn_of
  turn-meant f i h [] c found s = absurd (monic-not-nil ℚ-domain (poly_r []) s.monic poly-empty)
  turn-meant f i h (x ∷ []) c found s =
      let one : poly_r (x ∷ []) ≡ con_p ℚ-ring 1ℚ = monic-constant ℚ-domain (poly_r (x ∷ [])) s.monic (poly_r-below (x ∷ [])) in
      record {
        is = round-over f (powers_p found) (poly_r (x ∷ [])) (poly_r c) i s.round one;
        once = subst SquareFreeP (ap (λ z. bases_p found *P z) one ∙ (Poly-ring ℚ-ring).mul-one (bases_p found)) s.once;
        factors = s.earlier.factors;
        rising = s.earlier.rising;
      }
  turn-meant f i h (x ∷ y ∷ b) c found s =
      or-meant f i (list_from (derived plain (x ∷ y ∷ b) 0)) _ (list_over (derived plain (x ∷ y ∷ b) 0)) (λ db e.
      or-meant f i (list_from (zipped plain minus c db 0)) _ (list_over (zipped plain minus c db 0)) (λ d k.
      let z = difference (x ∷ y ∷ b) c db d e k in
      met-meant f i h (x ∷ y ∷ b) c found s (omega arith) d z.0 z.1))
