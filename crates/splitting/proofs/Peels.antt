-- Laws of dividing out linear factors: one root, and a loop over the roots.
use Rattle.ratio.specs.Refusal.{no_refusal}
use Rattle.std.specs.Prelude.{Result, Ok, Err}
use mathlib.Core.Path.{◌≡◌, refl, sym, ap, ap₂, subst, ◌∙◌}
use mathlib.Core.Bool.{true, false}
use mathlib.Core.List.{List, [], ◌∷◌}
use Prim.Native.Nat.{ℕ, ◌+◌, ◌<◌, ◌≤◌}
use native.Mathlib.Numerals.{add-one}
use native.Mathlib.Omega.{arith}
use lib.ListN.{length, drop, get_or, set, drop_of_length-le}
use lib.Seq.{drop-cons}
use Rattle.ratio.specs.Step.{neg_of}
use Rattle.ratio.specs.declared.Ratio.{Ratio}
use Rattle.ratio.specs.declared.Reason.{Reason}
use Rattle.terms.specs.declared.Answer.{Answer}
use Rattle.terms.specs.declared.Poly.{Poly}
use Rattle.terms.specs.Poly.{terms_of, poly_of}
use Rattle.terms.proofs.Lists.{terms-of-poly}
use Rattle.remainders.specs.declared.Division.{Division}
use Rattle.remainders.specs.Answer.{divided_of}
use Rattle.remainders.proofs.CodeAnswer.{done_refused}
use Rattle.yun.specs.declared.Piece.{Piece}
use Rattle.yun.specs.declared.Decomposition.{Decomposition}
use Rattle.yun.specs.Answer.{pieces_of, found_all}
use Rattle.yun.specs.Got.{Got, got, none, then_got}
use Rattle.yun.proofs.CodeFound.{found-pieces}
use Rattle.yun.proofs.CodeGot.{parts-got, parts_none, quotient-poly}
use Rattle.splitting.specs.declared.Left.{Left}
use Rattle.splitting.specs.declared.Pair.{Pair}
use Rattle.splitting.specs.Peel.{added, line, line_from, line_answer_of, line_answer, Peel, start, peel_if, peel_one, peeled, left_of, stopped_for, peel_from, PeelsOff}
use Rattle.splitting.specs.Pair.{Padded, PaddedPair}
use Rattle.splitting.specs.Split.{Kept}
use Rattle.splitting.proofs.Places.{kept, added_full, add_done}

-- ---- x less r

line-got : (a : Answer) (s : Result Ratio Reason) → a ≡ line_answer_of s → a.outcome ≡ no_refusal → line_from s ≡ got (terms_of a.poly)
line-got a (Ok n) e o = ap got (sym (terms-of-poly (line n)) ∙ sym (ap (λ (x : Answer). terms_of x.poly) e))
line-got a (Err why) e o = done_refused a.outcome _ o (ap (λ (x : Answer). x.outcome) e)

line-none : (a : Answer) (s : Result Ratio Reason) (why : Reason) → a ≡ line_answer_of s → a.outcome ≡ Err why → line_from s ≡ none why
line-none a (Ok n) why e o = done_refused a.outcome why (ap (λ (x : Answer). x.outcome) e) o
line-none a (Err w) why e o = cc

line-padded : (a : Answer) (s : Result Ratio Reason) → a ≡ line_answer_of s → Padded a.poly
line-padded a (Ok n) e = record { is = rw e (ap poly_of (sym (terms-of-poly (line n)))) }
line-padded a (Err w) e = record { is = rw e refl }

pub line-poly : (a : Answer) (r : Ratio) → a ≡ line_answer r → Padded a.poly
line-poly a r e = line-padded a (neg_of r) e

-- ---- one root

module _ (r : Ratio) (f : List Ratio) (a : Answer) (e : a ≡ line_answer r) where
  module _ (p : Pair) (w : PaddedPair p) (why : Reason) (s : p.outcome ≡ Err why) where
    pub peel-lineless : a.outcome ≡ Err why → PeelsOff r f p
    unfolding peel_one
    peel-lineless o = record { is = λ times found. rw (s, line-none a (neg_of r) why e o); padded = w }

  module _ (o : a.outcome ≡ no_refusal) (d : Division) (h : d ≡ divided_of f (terms_of a.poly)) where
    pub peel-refused : (p : Pair) → PaddedPair p → (why : Reason) → p.outcome ≡ Err why → d.outcome ≡ Err why → PeelsOff r f p
    unfolding peel_one
    peel-refused p w why s u = record { is = λ times found. rw (s, line-got a (neg_of r) e o, parts_none d f (terms_of a.poly) why h u); padded = w }

    rest-left : (times : ℕ) (found : List Piece) (l : List Ratio) (q x : List Ratio) → 0 < length l → peel_if l times x q (start found f) ≡ start found f
    rest-left times found [] q x s = absurd (omega arith)
    rest-left times found (y ∷ l) q x s = refl

    rest-none : (times : ℕ) (found : List Piece) (l : List Ratio) (q x : List Ratio) → length l ≤ 0 → peel_if l times x q (start found f) ≡ start (added x times found) q
    rest-none times found [] q x s = refl
    rest-none times found (y ∷ l) q x s = absurd (omega arith)

    module _ (u : d.outcome ≡ no_refusal) where
      pub peel-kept : (p : Pair) → PaddedPair p → p.outcome ≡ no_refusal → p.two ≡ false → 0 < length (terms_of d.rest) → PeelsOff r f p
      unfolding peel_one
      peel-kept p w s t z = record {
        is = λ times found. rw (s, t, line-got a (neg_of r) e o, parts-got d f (terms_of a.poly) h u, rest-left times found (terms_of d.rest) (terms_of d.quotient) (terms_of a.poly) z);
        padded = w;
      }

      pub peel-done : length (terms_of d.rest) ≤ 0 → PeelsOff r f (record { outcome = no_refusal; two = true; factor = a.poly; quotient = d.quotient })
      unfolding peel_one
      peel-done z = record {
        is = λ times found. rw (line-got a (neg_of r) e o, parts-got d f (terms_of a.poly) h u, rest-none times found (terms_of d.rest) (terms_of d.quotient) (terms_of a.poly) z);
        padded = record { factor = line-poly a r e; quotient = record { is = quotient-poly d f (terms_of a.poly) h } };
      }

-- ---- root after root

left-got : (l : Left) (g : Got Peel) → l ≡ left_of g → l.found.outcome ≡ no_refusal → g ≡ got (start (pieces_of l.found) (terms_of l.rest))
left-got l (got p) e o = rw (e, found-pieces p.found, terms-of-poly p.rest)
left-got l (none why) e o = done_refused l.found.outcome why o (ap (λ (x : Left). x.found.outcome) e)

left-none : (l : Left) (g : Got Peel) (why : Reason) → l ≡ left_of g → l.found.outcome ≡ Err why → g ≡ none why
left-none l (got p) why e o = done_refused l.found.outcome why (ap (λ (x : Left). x.found.outcome) e) o
left-none l (none w) why e o =
    let q : Err w ≡ Err why = sym (ap (λ (x : Left). x.found.outcome) e) ∙ o in
    cc

left-kept : (l : Left) (g : Got Peel) → l ≡ left_of g → l.found.outcome ≡ no_refusal → Kept l.found
left-kept l (got p) e o = record { is = rw e (ap found_all (sym (found-pieces p.found))) }
left-kept l (none why) e o = done_refused l.found.outcome why o (ap (λ (x : Left). x.found.outcome) e)

left-padded : (l : Left) (g : Got Peel) → l ≡ left_of g → Padded l.rest
left-padded l (got p) e = record { is = rw e (ap poly_of (sym (terms-of-poly p.rest))) }
left-padded l (none why) e = record { is = rw e refl }

-- where something is left, nothing was refused
pub left-done : (l : Left) (g : Got Peel) → l ≡ left_of g → 0 < length (terms_of l.rest) → l.found.outcome ≡ no_refusal
left-done l (got p) e h = ap (λ (x : Left). x.found.outcome) e
left-done l (none why) e h = let n : length (terms_of l.rest) ≡ 0 = ap (λ (x : Left). length (terms_of x.rest)) e in absurd (omega arith)

-- what was peeled tells what was found and what is left
pub record Peeled (g : Got Peel) (found : Decomposition) (rest : Poly) : Type 0 where
  pub is : g ≡ got (start (pieces_of found) (terms_of rest))
  pub kept : Kept found
  pub padded : Padded rest

pub peeled-done : (l : Left) (g : Got Peel) → l ≡ left_of g → l.found.outcome ≡ no_refusal → Peeled g l.found l.rest
peeled-done l g e o = record { is = left-got l g e o; kept = left-kept l g e o; padded = left-padded l g e }

pub peeled-none : (l : Left) (g : Got Peel) (why : Reason) → l ≡ left_of g → l.found.outcome ≡ Err why → g ≡ none why
peeled-none l g why e o = left-none l g why e o

module _ (times : ℕ) (all : List Ratio) (first : Peel) where
  -- what is left to peel gives the whole
  pub record Peeling (i : ℕ) (found : Decomposition) (rest : Poly) : Type 0 where
    pub whole : peeled times (drop i all) (start (pieces_of found) (terms_of rest)) ≡ peeled times all first
    pub kept : Kept found
    pub padded : Padded rest

  pub peeling-none : (found : Decomposition) (rest : Poly) → first ≡ start (pieces_of found) (terms_of rest) → Kept found → Padded rest → Peeling 0 found rest
  peeling-none found rest e k p = record { whole = rw e; kept = k; padded = p }

  module _ (i : ℕ) (found : Decomposition) (rest : Poly) (d : Ratio) (h : i < length all) (p : Peeling i found rest) (x : Pair) (e : PeelsOff (get_or all i d) (terms_of rest) x) where
    step : then_got (peel_from x times (start (pieces_of found) (terms_of rest))) (peeled times (drop (i + 1) all)) ≡ peeled times all first
    unfolding peeled
    step = rw (e.is times (pieces_of found), add-one i) (rw (drop-cons all i d h) at p.whole)

    pub peeling-over : (why : Reason) → x.outcome ≡ Err why → stopped_for why ≡ left_of (peeled times all first)
    peeling-over why o = ap left_of (rw o at step)

    module _ (o : x.outcome ≡ no_refusal) where
      pub peeling-same : x.two ≡ false → Peeling (i + 1) found rest
      peeling-same t = record { whole = rw (o, t) at step; kept = p.kept; padded = p.padded }

      module _ (t : x.two ≡ true) where
        off : peeled times (drop (i + 1) all) (start (added (terms_of x.factor) times (pieces_of found)) (terms_of x.quotient)) ≡ peeled times all first
        off = rw (o, t) at step

        pub peeling-full : 32 ≤ found.len → Peeling (i + 1) found x.quotient
        peeling-full l = record { whole = rw (added_full found (terms_of x.factor) times p.kept l) at off; kept = p.kept; padded = e.padded.quotient }

        laid : (l : List Piece) (d : Decomposition) → d ≡ found_all l → peeled times (drop (i + 1) all) (start l (terms_of x.quotient)) ≡ peeled times all first → Peeling (i + 1) d x.quotient
        laid l d q w = subst (λ (d : Decomposition). Peeling (i + 1) d x.quotient) (sym q) (record { whole = rw (found-pieces l) w; kept = kept l; padded = e.padded.quotient })

        pub peeling-more : found.len < 32 → Peeling (i + 1) (record { outcome = found.outcome; pieces = set found.pieces found.len (record { poly = x.factor; times = times }); len = found.len + 1 }) x.quotient
        peeling-more l = laid (added (terms_of x.factor) times (pieces_of found)) _ (add_done found x.factor times p.kept e.padded.factor l) off

  pub peeling-all : (i : ℕ) (found : Decomposition) (rest : Poly) → length all ≤ i → Peeling i found rest → ◌≡◌ {A = Left} (record { found = found; rest = rest }) (left_of (peeled times all first))
  unfolding peeled
  peeling-all i found rest h p =
      let e : drop i all ≡ [] = drop_of_length-le all h in
      ap₂ {C = Left} (λ (d : Decomposition) (q : Poly). record { found = d; rest = q }) p.kept.is p.padded.is ∙ ap left_of (rw e at p.whole)
