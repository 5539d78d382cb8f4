-- The chain's start: the polynomial without zeros at the top and its derivative, each way it can go.
use Rattle.ratio.specs.Refusal.{no_refusal}
use Rattle.std.specs.Prelude.{Err}
use mathlib.Core.Path.{◌≡◌, refl, sym, ap, ◌∙◌}
use mathlib.Core.List.{List, [], ◌∷◌}
use Prim.Native.Nat.{ℕ, ◌<◌, ◌≤◌}
use native.Mathlib.Omega.{arith}
use lib.ListN.{length}
use Rattle.ratio.specs.declared.Ratio.{Ratio}
use Rattle.ratio.specs.declared.Reason.{Reason}
use Rattle.terms.specs.declared.Answer.{Answer}
use Rattle.terms.specs.declared.Poly.{Poly}
use Rattle.terms.specs.Poly.{terms_of, poly_of, trim}
use Rattle.terms.specs.Machine.{Ran, fine, over, plain}
use Rattle.terms.specs.Work.{derived}
use Rattle.terms.specs.Answer.{answer_of}
use Rattle.terms.proofs.Lists.{terms-of-poly, trim-short}
use Rattle.terms.proofs.MeaningDegree.{derived-length}
use Rattle.yun.specs.Got.{got, then_got, list_from}
use Rattle.yun.proofs.CodeGot.{list-got, list-none, answer-poly}
use Rattle.chain.specs.Sequence.{behind, started, sequence_of}
use Rattle.chain.specs.Answer.{holding, refused_for, chain_of}

started_none : (l : List Ratio) → length l ≡ 0 → started l ≡ got []
started_none [] h = refl
started_none (x ∷ l) h = absurd (omega arith)

started-some : (l : List Ratio) → 1 ≤ length l → started l ≡ then_got (list_from (derived plain l 0)) (λ d. behind (length d) l d)
started-some [] h = absurd (omega arith)
started-some (x ∷ l) h = refl

module _ (p : List Ratio) (f : Poly) (e : f ≡ poly_of (trim p)) where
  terms-are : terms_of f ≡ trim p
  terms-are = ap terms_of e ∙ terms-of-poly (trim p)

  pub whole-made : f ≡ poly_of (terms_of f)
  whole-made = e ∙ ap poly_of (sym terms-are)

  pub sequence-none : length (terms_of f) ≡ 0 → holding [] ≡ chain_of (sequence_of p)
  unfolding sequence_of
  sequence-none h = ap chain_of (sym (started_none (terms_of f) h) ∙ ap started terms-are)

  module _ (h : 1 ≤ length (terms_of f)) (d : Answer) (ed : d ≡ answer_of (derived plain (terms_of f) 0)) where
    sequence-is : then_got (list_from (derived plain (terms_of f) 0)) (λ d. behind (length d) (terms_of f) d) ≡ sequence_of p
    unfolding sequence_of
    sequence-is = sym (started-some (terms_of f) h) ∙ ap started terms-are

    pub sequence-refused : (why : Reason) → d.outcome ≡ Err why → refused_for why ≡ chain_of (sequence_of p)
    sequence-refused why o = ap chain_of (rw (list-none d (derived plain (terms_of f) 0) why ed o) at sequence-is)

    pub sequence-done : d.outcome ≡ no_refusal → chain_of (behind (length (terms_of d.poly)) (terms_of f) (terms_of d.poly)) ≡ chain_of (sequence_of p)
    sequence-done o = ap chain_of (rw (list-got d (derived plain (terms_of f) 0) ed o) at sequence-is)

    pub slope-made : d.poly ≡ poly_of (terms_of d.poly)
    slope-made = answer-poly d (derived plain (terms_of f) 0) ed

    slope-by : (r : Ran ℕ (List Ratio)) → derived plain (terms_of f) 0 ≡ r → d ≡ answer_of r → length (terms_of f) ≤ 32 → length (terms_of d.poly) < 32
    slope-by (fine k l) u v m = rw (v, terms-of-poly (trim l)) (omega (arith, trim-short l, derived-length (terms_of f) 0 k l u))
    slope-by (over k) u v m = rw v (omega arith)

    -- the derivative is shorter
    pub slope-short : length p ≤ 32 → length (terms_of d.poly) < 32
    slope-short m = slope-by (derived plain (terms_of f) 0) refl ed (rw terms-are (omega (arith, trim-short p)))
