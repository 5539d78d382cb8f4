-- One round of the loop: each way it ends.
use Rattle.ratio.specs.Refusal.{no_refusal}
use Rattle.std.specs.Prelude.{Ok, Err}
use mathlib.Core.Path.{◌≡◌, refl, sym, ap, subst, ◌∙◌}
use mathlib.Core.Bool.{true, false}
use mathlib.Core.List.{List, [], ◌∷◌}
use Prim.Native.Nat.{ℕ, ◌<◌, ◌≤◌}
use native.Mathlib.Omega.{arith}
use lib.ListN.{length}
use Rattle.ratio.specs.declared.Ratio.{Ratio}
use Rattle.ratio.specs.declared.Reason.{Reason}
use Rattle.terms.specs.declared.Poly.{Poly}
use Rattle.terms.specs.declared.Answer.{Answer}
use Rattle.terms.specs.Poly.{drop_top, terms_of, poly_of}
use Rattle.terms.specs.Machine.{minus, plain}
use Rattle.terms.specs.Work.{zipped, derived}
use Rattle.terms.specs.Answer.{done_with, answer_of}
use Rattle.remainders.specs.declared.Division.{Division}
use Rattle.remainders.specs.Gcd.{monic, gcd_of}
use Rattle.remainders.specs.Answer.{divided_of}
use Rattle.yun.specs.declared.Piece.{Piece}
use Rattle.yun.specs.declared.Round.{Round}
use Rattle.yun.specs.Got.{got, none, list_from}
use Rattle.yun.specs.Round.{pushed, Turn, over, on, or_over, ended, factor_of, on_if, cut_by, met, turn_of}
use Rattle.yun.specs.Answer.{over_with, Turns}
use Rattle.yun.proofs.CodeGot.{list-got, list-none, parts-got, parts_none}

-- ---- a scaled, where its degree is at least 1

pub factor-none : (a : List Ratio) → length a < 2 → done_with (poly_of []) 0 ≡ answer_of (factor_of a)
unfolding factor_of drop_top
factor-none [] h = refl
factor-none (x ∷ []) h = refl
factor-none (x ∷ y ∷ a) h = absurd (omega arith)

pub factor-some : (a : List Ratio) → 2 ≤ length a → monic plain a 0 ≡ factor_of a
unfolding factor_of
factor-some [] h = absurd (omega arith)
factor-some (x ∷ []) h = absurd (omega arith)
factor-some (x ∷ y ∷ a) h = refl

-- ---- the last factor

module _ (i : ℕ) (b : List Ratio) (found : List Piece) (m : Answer) (e : m ≡ answer_of (monic plain b 0)) where
  pub ended-refused : (why : Reason) → m.outcome ≡ Err why → over (none why) ≡ ended i b found
  unfolding ended
  ended-refused why o = rw (list-none m (monic plain b 0) why e o)

  pub ended-done : m.outcome ≡ no_refusal → over (got (pushed (terms_of m.poly) i found)) ≡ ended i b found
  unfolding ended
  ended-done o = rw (list-got m (monic plain b 0) e o)

-- ---- a is found, and b and d are divided by it

on-not-left : (q r : List Ratio) (t : Turn) → 0 < length q → over (got []) ≡ on_if q r t
on-not-left [] r t h = absurd (omega arith)
on-not-left (x ∷ q) r t h = refl

on-not-right : (q r : List Ratio) (t : Turn) → 0 < length r → over (got []) ≡ on_if q r t
on-not-right [] [] t h = absurd (omega arith)
on-not-right [] (x ∷ r) t h = refl
on-not-right (x ∷ q) r t h = refl

on_both : (q r : List Ratio) (t : Turn) → length q ≤ 0 → length r ≤ 0 → t ≡ on_if q r t
on_both [] [] t h j = refl
on_both [] (x ∷ r) t h j = absurd (omega arith)
on_both (x ∷ q) r t h j = absurd (omega arith)

module _ (i : ℕ) (b d : List Ratio) (found : List Piece) (a : List Ratio) (m : Answer) (e : m ≡ answer_of (factor_of a)) where
  pub cut-refused : (why : Reason) → m.outcome ≡ Err why → over (none why) ≡ cut_by i b d found a
  unfolding cut_by
  cut-refused why o = rw (list-none m (factor_of a) why e o)

  module _ (o : m.outcome ≡ no_refusal) (q : Division) (eq : q ≡ divided_of b a) where
    pub left-refused : (why : Reason) → q.outcome ≡ Err why → over (none why) ≡ cut_by i b d found a
    unfolding cut_by
    left-refused why oq = rw (list-got m (factor_of a) e o, parts_none q b a why eq oq)

    module _ (oq : q.outcome ≡ no_refusal) (r : Division) (er : r ≡ divided_of d a) where
      pub right-refused : (why : Reason) → r.outcome ≡ Err why → over (none why) ≡ cut_by i b d found a
      unfolding cut_by
      right-refused why or = rw (list-got m (factor_of a) e o, parts-got q b a eq oq, parts_none r d a why er or)

      module _ (or : r.outcome ≡ no_refusal) where
        abbrev goes : Turn
        goes = on (pushed (terms_of m.poly) i found) (terms_of q.quotient) (terms_of r.quotient)

        cut-is : on_if (terms_of q.rest) (terms_of r.rest) goes ≡ cut_by i b d found a
        unfolding cut_by
        cut-is = rw (list-got m (factor_of a) e o, parts-got q b a eq oq, parts-got r d a er or)

        pub left-rest : 0 < length (terms_of q.rest) → over (got []) ≡ cut_by i b d found a
        left-rest h = on-not-left (terms_of q.rest) (terms_of r.rest) goes h ∙ cut-is

        pub right-rest : 0 < length (terms_of r.rest) → over (got []) ≡ cut_by i b d found a
        right-rest h = on-not-right (terms_of q.rest) (terms_of r.rest) goes h ∙ cut-is

        pub cut-done : length (terms_of q.rest) ≤ 0 → length (terms_of r.rest) ≤ 0 → goes ≡ cut_by i b d found a
        cut-done h j = on_both (terms_of q.rest) (terms_of r.rest) goes h j ∙ cut-is

-- ---- what the code hands back

module _ (t : ℕ → List Piece → Turn) (r : Round) where
  pub stops : (why : Reason) → r ≡ over_with (Err why) false (poly_of []) → ((i : ℕ) (found : List Piece) → over (none why) ≡ t i found) → Turns t r
  stops why e h = subst (Turns t) (sym e) (record { is = h; padded = refl })

  pub stays : r ≡ over_with no_refusal true (poly_of []) → ((i : ℕ) (found : List Piece) → over (got []) ≡ t i found) → Turns t r
  stays e h = subst (Turns t) (sym e) (record { is = h; padded = refl })

  pub lasts : (p : Poly) → r ≡ over_with no_refusal false p → p ≡ poly_of (terms_of p) → ((i : ℕ) (found : List Piece) → over (got (pushed (terms_of p) i found)) ≡ t i found) → Turns t r
  lasts p e q h = subst (Turns t) (sym e) (record { is = h; padded = q })

-- ---- the round

pub turn-constant : (i : ℕ) (b c : List Ratio) (found : List Piece) → length b < 2 → over (got (pushed [] i found)) ≡ turn_of i b c found
unfolding turn_of pushed
turn-constant i [] c found h = refl
turn-constant i (x ∷ []) c found h = refl
turn-constant i (x ∷ y ∷ b) c found h = absurd (omega arith)

pub met-none : (i : ℕ) (b : List Ratio) (found : List Piece) (d : List Ratio) → length d ≡ 0 → ended i b found ≡ met i b found d
unfolding met
met-none i b found [] h = refl
met-none i b found (x ∷ d) h = absurd (omega arith)

met_some : (i : ℕ) (b : List Ratio) (found : List Piece) (d : List Ratio) → 0 < length d → met i b found d ≡ or_over (list_from (gcd_of plain b d 0)) (cut_by i b d found)
unfolding met
met_some i b found [] h = absurd (omega arith)
met_some i b found (x ∷ d) h = refl

module _ (i : ℕ) (b c : List Ratio) (found : List Piece) (h : 2 ≤ length b) (s : Answer) (e : s ≡ answer_of (derived plain b 0)) where
  turn_is : turn_of i b c found ≡ or_over (list_from (derived plain b 0)) (λ db. or_over (list_from (zipped plain minus c db 0)) (met i b found))
  unfolding turn_of
  turn_is = go b h
    where
      go : (b : List Ratio) → 2 ≤ length b → turn_of i b c found ≡ or_over (list_from (derived plain b 0)) (λ db. or_over (list_from (zipped plain minus c db 0)) (met i b found))
      go [] h = absurd (omega arith)
      go (x ∷ []) h = absurd (omega arith)
      go (x ∷ y ∷ b) h = refl

  pub slope-refused : (why : Reason) → s.outcome ≡ Err why → over (none why) ≡ turn_of i b c found
  slope-refused why o = rw (turn_is, list-none s (derived plain b 0) why e o)

  module _ (o : s.outcome ≡ no_refusal) (d : Answer) (ed : d ≡ answer_of (zipped plain minus c (terms_of s.poly) 0)) where
    pub difference-refused : (why : Reason) → d.outcome ≡ Err why → over (none why) ≡ turn_of i b c found
    difference-refused why od = rw (turn_is, list-got s (derived plain b 0) e o, list-none d (zipped plain minus c (terms_of s.poly) 0) why ed od)

    module _ (od : d.outcome ≡ no_refusal) where
      turn-met : met i b found (terms_of d.poly) ≡ turn_of i b c found
      turn-met = rw (turn_is, list-got s (derived plain b 0) e o, list-got d (zipped plain minus c (terms_of s.poly) 0) ed od)

      pub turn_last : length (terms_of d.poly) ≡ 0 → ended i b found ≡ turn_of i b c found
      turn_last k = met-none i b found (terms_of d.poly) k ∙ turn-met

      module _ (some : 0 < length (terms_of d.poly)) (g : Answer) (eg : g ≡ answer_of (gcd_of plain b (terms_of d.poly) 0)) where
        pub gcd-refused : (why : Reason) → g.outcome ≡ Err why → over (none why) ≡ turn_of i b c found
        gcd-refused why og = sym (met_some i b found (terms_of d.poly) some ∙ ap (λ z. or_over z (cut_by i b (terms_of d.poly) found)) (list-none g (gcd_of plain b (terms_of d.poly) 0) why eg og)) ∙ turn-met

        pub gcd-done : g.outcome ≡ no_refusal → cut_by i b (terms_of d.poly) found (terms_of g.poly) ≡ turn_of i b c found
        gcd-done og = sym (met_some i b found (terms_of d.poly) some ∙ ap (λ z. or_over z (cut_by i b (terms_of d.poly) found)) (list-got g (gcd_of plain b (terms_of d.poly) 0) eg og)) ∙ turn-met
