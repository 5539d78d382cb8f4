-- What stands around the loop: the divisions by the gcd, the derivative, and the polynomial that stays whole.
use Rattle.ratio.specs.Refusal.{no_refusal}
use Rattle.std.specs.Prelude.{Ok, Err}
use mathlib.Core.Path.{◌≡◌, refl, ◌∙◌}
use mathlib.Core.List.{List, [], ◌∷◌}
use Prim.Native.Nat.{◌<◌, ◌≤◌}
use native.Mathlib.Omega.{arith}
use lib.ListN.{length}
use Rattle.ratio.specs.declared.Ratio.{Ratio}
use Rattle.ratio.specs.declared.Reason.{Reason}
use Rattle.terms.specs.declared.Answer.{Answer}
use Rattle.terms.specs.Poly.{terms_of}
use Rattle.terms.specs.Machine.{plain}
use Rattle.terms.specs.Work.{derived}
use Rattle.terms.specs.Answer.{answer_of}
use Rattle.remainders.specs.declared.Division.{Division}
use Rattle.remainders.specs.Gcd.{monic, gcd_of}
use Rattle.remainders.specs.Answer.{divided_of}
use Rattle.yun.specs.declared.Piece.{Piece}
use Rattle.yun.specs.Got.{Got, got, none, then_got, list_from, parts_of}
use Rattle.yun.specs.Yun.{rounds, unless_rest, split_by, sharing, split_of, found_or, square_frees}
use Rattle.yun.proofs.CodeGot.{list-got, list-none, parts-got, parts_none}

-- ---- a rest leaves it whole

rest_some : (l : List Ratio) (r : Got (List Piece)) → 0 < length l → got [] ≡ unless_rest l r
rest_some [] r h = absurd (omega arith)
rest_some (x ∷ l) r h = refl

rest-none : (l : List Ratio) (r : Got (List Piece)) → length l ≤ 0 → r ≡ unless_rest l r
rest-none [] r h = refl
rest-none (x ∷ l) r h = absurd (omega arith)

module _ (f df a : List Ratio) (q : Division) (e : q ≡ divided_of f a) where
  pub first-refused : (why : Reason) → q.outcome ≡ Err why → none why ≡ split_by f df a
  unfolding split_by
  first-refused why o = rw (parts_none q f a why e o)

  module _ (o : q.outcome ≡ no_refusal) where
    abbrev second : List Ratio → Got (List Piece)
    second b = then_got (parts_of df a) (λ r. unless_rest r.rest (rounds (length f) 1 b r.quotient []))

    first-is : unless_rest (terms_of q.rest) (second (terms_of q.quotient)) ≡ split_by f df a
    unfolding split_by
    first-is = rw (parts-got q f a e o)

    pub first_rest : 0 < length (terms_of q.rest) → got [] ≡ split_by f df a
    first_rest h = rest_some (terms_of q.rest) (second (terms_of q.quotient)) h ∙ first-is

    module _ (h : length (terms_of q.rest) ≤ 0) (r : Division) (er : r ≡ divided_of df a) where
      second_is : second (terms_of q.quotient) ≡ split_by f df a
      second_is = rest-none (terms_of q.rest) (second (terms_of q.quotient)) h ∙ first-is

      pub second-refused : (why : Reason) → r.outcome ≡ Err why → none why ≡ split_by f df a
      second-refused why or = rw (parts_none r df a why er or) at second_is

      module _ (or : r.outcome ≡ no_refusal) where
        third-is : unless_rest (terms_of r.rest) (rounds (length f) 1 (terms_of q.quotient) (terms_of r.quotient) []) ≡ split_by f df a
        third-is = rw (parts-got r df a er or) at second_is

        pub second-rest : 0 < length (terms_of r.rest) → got [] ≡ split_by f df a
        second-rest k = rest_some (terms_of r.rest) _ k ∙ third-is

        pub split-rounds : length (terms_of r.rest) ≤ 0 → rounds (length f) 1 (terms_of q.quotient) (terms_of r.quotient) [] ≡ split_by f df a
        split-rounds k = rest-none (terms_of r.rest) _ k ∙ third-is

-- ---- the gcd with the derivative

share-none : (f df : List Ratio) → length df ≡ 0 → got [] ≡ sharing f df
share-none f [] h = refl
share-none f (x ∷ df) h = absurd (omega arith)

share-some : (f df : List Ratio) → 0 < length df → then_got (list_from (gcd_of plain f df 0)) (split_by f df) ≡ sharing f df
share-some f [] h = absurd (omega arith)
share-some f (x ∷ df) h = refl

module _ (f : List Ratio) (d : Answer) (e : d ≡ answer_of (derived plain f 0)) where
  pub slope-refused : (why : Reason) → d.outcome ≡ Err why → none why ≡ split_of f
  unfolding split_of
  slope-refused why o = rw (list-none d (derived plain f 0) why e o)

  module _ (o : d.outcome ≡ no_refusal) where
    slope-is : sharing f (terms_of d.poly) ≡ split_of f
    unfolding split_of
    slope-is = rw (list-got d (derived plain f 0) e o)

    pub slope-none : length (terms_of d.poly) ≡ 0 → got [] ≡ split_of f
    slope-none h = share-none f (terms_of d.poly) h ∙ slope-is

    module _ (h : 0 < length (terms_of d.poly)) (g : Answer) (eg : g ≡ answer_of (gcd_of plain f (terms_of d.poly) 0)) where
      shared : then_got (list_from (gcd_of plain f (terms_of d.poly) 0)) (split_by f (terms_of d.poly)) ≡ split_of f
      shared = share-some f (terms_of d.poly) h ∙ slope-is

      pub shared-refused : (why : Reason) → g.outcome ≡ Err why → none why ≡ split_of f
      shared-refused why og = rw (list-none g (gcd_of plain f (terms_of d.poly) 0) why eg og) at shared

      pub shared-done : g.outcome ≡ no_refusal → split_by f (terms_of d.poly) (terms_of g.poly) ≡ split_of f
      shared-done og = rw (list-got g (gcd_of plain f (terms_of d.poly) 0) eg og) at shared

-- ---- the whole work

pub zero-none : (f : List Ratio) → length f ≡ 0 → got [] ≡ square_frees f
unfolding square_frees
zero-none [] h = refl
zero-none (x ∷ f) h = absurd (omega arith)

module _ (f : List Ratio) (some : 0 < length f) (m : Answer) (e : m ≡ answer_of (monic plain f 0)) where
  all-is : then_got (list_from (monic plain f 0)) (λ m. found_or m (split_of m)) ≡ square_frees f
  unfolding square_frees
  all-is = go f some
    where
      go : (f : List Ratio) → 0 < length f → then_got (list_from (monic plain f 0)) (λ m. found_or m (split_of m)) ≡ square_frees f
      go [] h = absurd (omega arith)
      go (x ∷ f) h = refl

  pub monic-refused : (why : Reason) → m.outcome ≡ Err why → none why ≡ square_frees f
  monic-refused why o = rw (list-none m (monic plain f 0) why e o) at all-is

  pub monic-done : m.outcome ≡ no_refusal → found_or (terms_of m.poly) (split_of (terms_of m.poly)) ≡ square_frees f
  monic-done o = rw (list-got m (monic plain f 0) e o) at all-is
