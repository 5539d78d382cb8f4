-- Laws of the work behind the door, one for each way that it goes on or ends.
use Rattle.std.specs.Prelude.{Result, Ok, Err}
use mathlib.Core.Path.{◌≡◌, refl, sym, ap, ap₂, ◌∙◌}
use mathlib.Core.List.{List, []}
use Prim.Native.Nat.{ℕ}
use Rattle.ratio.specs.Refusal.{zero_r, Outcome, no_refusal}
use Rattle.ratio.specs.declared.Ratio.{Ratio}
use Rattle.ratio.specs.declared.Reason.{Reason}
use Rattle.ratio.specs.declared.Reason.TheVariants.{BadInput}
use Rattle.terms.specs.declared.Answer.{Answer}
use Rattle.terms.specs.declared.Poly.{Poly}
use Rattle.terms.specs.Poly.{terms_of}
use Rattle.poly.specs.declared.Gate.{Gate}
use Rattle.poly.specs.declared.Gate.TheVariants.{Open, Long, Bad}
use Rattle.poly.specs.Door.{door_of, both, entered}
use Rattle.roots.specs.Answer.{budget_door}
use Rattle.roots.specs.Content.{content_for, primitive_of}
use Rattle.yun.specs.declared.Decomposition.{Decomposition}
use Rattle.yun.specs.declared.Piece.{Piece}
use Rattle.yun.specs.Answer.{refused_for, pieces_of, decomposition_of}
use Rattle.yun.specs.Got.{Got, got, none, then_got}
use Rattle.yun.specs.Yun.{square_frees}
use Rattle.splitting.specs.Split.{split_all}
use Rattle.splitting.proofs.Places.{list-got, list-none}
use Rattle.factor.specs.declared.Factorization.{Factorization}
use Rattle.factor.specs.Factors.{got_in, got_of, split_parts, factors_of, no_factors, with_content, work_of, factor_for, content_or, content_behind, unless_refused, factors_behind, content_with}

-- an answer says what was got
pub answer-got : (a : Answer) → a.outcome ≡ no_refusal → got_of a ≡ got (terms_of a.poly)
answer-got a o = ap (λ (t : Outcome). got_in t (terms_of a.poly)) o

pub answer-none : (a : Answer) (why : Reason) → a.outcome ≡ Err why → got_of a ≡ none why
answer-none a why o = ap (λ (t : Outcome). got_in t (terms_of a.poly)) o

module _ (p : Poly) (budget : ℕ) (a : Answer) (e : a ≡ primitive_of p) where
  first-got : a.outcome ≡ no_refusal → got_of (primitive_of p) ≡ got (terms_of a.poly)
  first-got o = ap got_of (sym e) ∙ answer-got a o

  first-none : (why : Reason) → a.outcome ≡ Err why → got_of (primitive_of p) ≡ none why
  first-none why o = ap got_of (sym e) ∙ answer-none a why o

  next-by : (g : Got (List Ratio)) → got_of (primitive_of p) ≡ g → then_got g (λ q. then_got (square_frees q) (λ l. split_all l budget [])) ≡ split_parts p budget
  unfolding split_parts
  next-by g h = ap (λ (t : Got (List Ratio)). then_got t (λ q. then_got (square_frees q) (λ l. split_all l budget []))) (sym h)

  pub primitive-refused : (why : Reason) → a.outcome ≡ Err why → refused_for why ≡ factors_of p budget
  primitive-refused why o = ap decomposition_of (next-by (none why) (first-none why o))

  module _ (o : a.outcome ≡ no_refusal) (d : Decomposition) (f : d ≡ decomposition_of (square_frees (terms_of a.poly))) where
    pub decomposition-refused : (why : Reason) → d.outcome ≡ Err why → d ≡ factors_of p budget
    decomposition-refused why u =
        f
        ∙ ap decomposition_of (list-none d (square_frees (terms_of a.poly)) why f u)
        ∙ ap decomposition_of (ap (λ (t : Got (List Piece)). then_got t (λ l. split_all l budget [])) (sym (list-none d (square_frees (terms_of a.poly)) why f u)) ∙ next-by (got (terms_of a.poly)) (first-got o))

    pub all_split : d.outcome ≡ no_refusal → (r : Decomposition) → r ≡ decomposition_of (split_all (pieces_of d) budget []) → r ≡ factors_of p budget
    all_split u r h =
        h ∙ ap decomposition_of (ap (λ (t : Got (List Piece)). then_got t (λ l. split_all l budget [])) (sym (list-got d (square_frees (terms_of a.poly)) f u)) ∙ next-by (got (terms_of a.poly)) (first-got o))

-- ---- the content, the factors, and both together

pub content-got : (p : Poly) (s : Result Ratio Reason) → s ≡ content_for p → (c : Ratio) → s ≡ Ok c → Ok c ≡ content_or (content_for p)
content-got p s e c o = ap content_or (sym o ∙ e)

pub content-none : (p : Poly) (s : Result Ratio Reason) → s ≡ content_for p → (why : Reason) → s ≡ Err why → Err BadInput ≡ content_or (content_for p)
content-none p s e why o = ap content_or (sym o ∙ e)

module _ (s : Result Ratio Reason) (d : Decomposition) where
  pub factors-refused : (why : Reason) → s ≡ Err why → refused_for why ≡ unless_refused s d
  factors-refused why e = ap (λ (t : Result Ratio Reason). unless_refused t d) (sym e)

  pub factors-done : (c : Ratio) → s ≡ Ok c → d ≡ unless_refused s d
  factors-done c e = ap (λ (t : Result Ratio Reason). unless_refused t d) (sym e)

module _ (o : Outcome) (s : Result Ratio Reason) where
  pub with-refused : (why : Reason) → o ≡ Err why → zero_r ≡ content_with o s
  with-refused why e = ap (λ (t : Outcome). content_with t s) (sym e)

  pub with_none : o ≡ no_refusal → (why : Reason) → s ≡ Err why → zero_r ≡ content_with o s
  with_none e why f = ap₂ content_with (sym e) (sym f)

  pub with-content : o ≡ no_refusal → (c : Ratio) → s ≡ Ok c → c ≡ content_with o s
  with-content e c f = ap₂ content_with (sym e) (sym f)

abbrev pub assembled : Decomposition → Ratio → Factorization
assembled d c = record { outcome = d.outcome; content = c; pieces = d.pieces; len = d.len }

-- whatever the door, the content and the work are
assembled-by : (g : Gate) (s : Result Ratio Reason) (l : Got (List Piece)) → let d = unless_refused (entered Err g (content_or s)) (decomposition_of l) in assembled d (content_with d.outcome (entered Err g (content_or s))) ≡ entered no_factors g (with_content s (decomposition_of l))
assembled-by Open (Ok c) (got l) = refl
assembled-by Open (Ok c) (none why) = refl
assembled-by Open (Err why) l = refl
assembled-by Long s l = refl
assembled-by Bad s l = refl

module _ (p : Poly) (budget : ℕ) (g : Gate) (e : g ≡ both (door_of p) (budget_door budget)) (s : Result Ratio Reason) (f : s ≡ content_behind g p) where
  pub assembled-is : (d : Decomposition) → d ≡ factors_behind s p budget → (c : Ratio) → c ≡ content_with d.outcome s → assembled d c ≡ factor_for p budget
  assembled-is d h c k =
      ap (assembled d) k
      ∙ ap₂ (λ (x : Decomposition) (t : Result Ratio Reason). assembled x (content_with x.outcome t)) (h ∙ ap (λ (t : Result Ratio Reason). factors_behind t p budget) f) f
      ∙ assembled-by g (content_for p) (split_parts p budget)
      ∙ ap (λ (t : Gate). entered no_factors t (work_of p budget)) e
