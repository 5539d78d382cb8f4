-- Laws of Kronecker's method: what the code's pair says of the model's halves.
use Rattle.std.specs.Prelude.{Err}
use mathlib.Core.Path.{◌≡◌, refl, sym, ap, ◌∙◌}
use mathlib.Core.Bool.{true, false}
use mathlib.Core.List.{List, [], ◌∷◌}
use Prim.Native.Nat.{ℕ, ◌<◌, ◌≤◌}
use native.Mathlib.Omega.{arith}
use borrow.Author.Tests.{lt-ltb, le-ltb}
use lib.ListN.{length}
use Rattle.ratio.specs.Refusal.{Outcome, no_refusal}
use Rattle.ratio.specs.declared.Ratio.{Ratio}
use Rattle.ratio.specs.declared.Reason.{Reason}
use Rattle.terms.specs.Poly.{terms_of}
use Rattle.remainders.specs.declared.Division.{Division}
use Rattle.remainders.specs.Answer.{divided_of}
use Rattle.yun.specs.Got.{Got, got, none}
use Rattle.yun.proofs.CodeGot.{parts-got, parts_none}
use Rattle.kronecker.specs.declared.Split.{Split}
use Rattle.kronecker.specs.declared.Verdict.{Verdict}
use Rattle.kronecker.specs.Split.{try_split_of}
use Rattle.splitting.specs.declared.Pair.{Pair}
use Rattle.splitting.specs.Pair.{Halves, whole, both, halves_if, paired_by, on_verdict, pair_of, halves_of, pair_in, pair_from}

-- no pair
pub pair-none : (p : Pair) → p.outcome ≡ no_refusal → p.two ≡ false → pair_from p ≡ got whole
pair-none p e t = rw (e, t)

pub pair-over : (p : Pair) (why : Reason) → p.outcome ≡ Err why → pair_from p ≡ none why
pair-over p why e = rw e

module _ (f g : List Ratio) (d : Division) (e : d ≡ divided_of f g) where
  pub paired-refused : (why : Reason) → d.outcome ≡ Err why → none why ≡ paired_by f g
  unfolding paired_by
  paired-refused why o = rw (parts_none d f g why e o)

  rest-whole : (l q : List Ratio) → 0 < length l → halves_if l g q ≡ whole
  rest-whole [] q h = absurd (omega arith)
  rest-whole (x ∷ l) q h = refl

  rest_both : (l q : List Ratio) → length l ≤ 0 → halves_if l g q ≡ halves_if [] g q
  rest_both [] q h = refl
  rest_both (x ∷ l) q h = absurd (omega arith)

  module _ (o : d.outcome ≡ no_refusal) where
    pub paired-rest : 0 < length (terms_of d.rest) → got whole ≡ paired_by f g
    unfolding paired_by
    paired-rest h = rw (parts-got d f g e o, rest-whole (terms_of d.rest) (terms_of d.quotient) h)

    module _ (h : length (terms_of d.rest) ≤ 0) where
      pub paired-constant : length (terms_of d.quotient) < 2 → got whole ≡ paired_by f g
      unfolding paired_by
      paired-constant s = rw (parts-got d f g e o, rest_both (terms_of d.rest) (terms_of d.quotient) h, lt-ltb (length (terms_of d.quotient)) 2 s)

      pub paired-both : 2 ≤ length (terms_of d.quotient) → got (both g (terms_of d.quotient)) ≡ paired_by f g
      unfolding paired_by
      paired-both s = rw (parts-got d f g e o, rest_both (terms_of d.rest) (terms_of d.quotient) h, le-ltb (length (terms_of d.quotient)) 2 s)

module _ (f : List Ratio) (budget : ℕ) where
  pub pair-low : length f < 4 → got whole ≡ pair_of f budget
  unfolding pair_of
  pair-low h = rw (lt-ltb (length f) 4 h)

  pub pair-high : 4 ≤ length f → 7 < length f → got whole ≡ pair_of f budget
  unfolding pair_of
  pair-high h k = rw (le-ltb (length f) 4 h, lt-ltb 7 (length f) k)

  pub pair-tried : 4 ≤ length f → length f ≤ 7 → (s : Split) → s ≡ try_split_of f budget → (v : Verdict) → s.verdict ≡ v → on_verdict v f (terms_of s.factor) ≡ pair_of f budget
  unfolding pair_of
  pair-tried h k s e v o = rw (le-ltb (length f) 4 h, le-ltb 7 (length f) k, ← e, o)

-- what a pair in memory says
pub pair-is-none : (p : Pair) (g : Got Halves) (why : Reason) → pair_from p ≡ g → p.outcome ≡ Err why → g ≡ none why
pair-is-none p g why e o = sym e ∙ ap (λ (t : Outcome). pair_in t (halves_of p.two (terms_of p.factor) (terms_of p.quotient))) o

pub pair-is-whole : (p : Pair) (g : Got Halves) → pair_from p ≡ g → p.outcome ≡ no_refusal → p.two ≡ false → g ≡ got whole
pair-is-whole p g e o t = sym e ∙ (rw (o, t) refl)

pub pair-is-both : (p : Pair) (g : Got Halves) → pair_from p ≡ g → p.outcome ≡ no_refusal → p.two ≡ true → g ≡ got (both (terms_of p.factor) (terms_of p.quotient))
pair-is-both p g e o t = sym e ∙ (rw (o, t) refl)
