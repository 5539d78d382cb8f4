-- The search for a denominator ends at the first that is accepted, or there is none; and the promise of what is found.
use Rattle.ratio.specs.declared.Reason.{Reason}
use Rattle.ratio.specs.declared.Ratio.{Ratio}
use Rattle.std.specs.Prelude.{Result, Ok, Err}
use Rattle.std.proofs.Common.{◌≡◌, ℕ, zero, suc, ◌+◌, ◌<◌, ◌≤◌, Bool, true, false, T, ℤ, pos, negsuc, nat_abs, sym, refl, ap, ◌∙◌, subst, inl, inr, true≢false, le_trans, le_of_suc-le-suc, eq-or-lt_of_le, div-le_self, div-one, arith, le-leb, leb-true}
use native.Mathlib.Nat.{eq-one_of_dvd-one}
use lib.Signed.{lt_z}
use lib.Ieee.{Float, nan, inf, fin, binary64, of_int}
use lib.Ieee.Exact.{HasValue}
use lib.Ieee.Scale.{finite}
use Rattle.algebra.specs.Rational as Q
use Rattle.algebra.specs.Rational.{Same}
use Rattle.ratio.specs.Range.{limit, Within, within}
use Rattle.ratio.specs.Refusal.{status_of, ratio_of}
use Rattle.ratio.specs.Gcd.{gcd_of}
use Rattle.ratio.specs.Step.{differ, lowest, new_of}
use Rattle.ratio.specs.Promise.{rat, Fraction}
use Rattle.ratio.specs.declared.Reason.TheVariants.{NotPolynomial, CoeffOverflow}
use Rattle.ratio.proofs.Fractions.{fraction-is}
use Rattle.ratio.proofs.Euclid.{is-gcd}
use Rattle.ratio.proofs.Lowest.{lowest-lowest}
use Rattle.ratio.proofs.Models.{new-yes}
use Rattle.ratio.proofs.Answers.{new-answers}
use Rattle.bridge.specs.Round.{round_of}
use Rattle.bridge.specs.Search.{scaled, near, over, first_from, to_ratio}
use Rattle.bridge.specs.Promise.{exact, First, Finds}
use Rattle.bridge.proofs.Search.{over-least, over-new, not_finite, searched, step}
use Rattle.bridge.proofs.Whole.{has_value, near-one, back, signed_is}
use Rattle.bridge.proofs.Whole.{near-top, back-top, near-least, back-least, top-finite, least-finite}

-- ---- the search ends at the first denominator that is accepted, or there is none

data Ended (v : Float) (s : Result Ratio Reason) : Type 0 where
  hit : (d : ℕ) → First v d → s ≡ over (round_of (scaled v d)) d → Ended v s
  miss : ((d : ℕ) → First v d → ⊥) → s ≡ Err NotPolynomial → Ended v s

abbrev Before : Float → ℕ → Type 0
Before v d = (k : ℕ) → 1 ≤ k → k < d → near v k ≡ false

further : (v : Float) (d : ℕ) → near v d ≡ false → Before v d → Before v (suc d)
further v d e b k h l = elim (eq-or-lt_of_le (le_of_suc-le-suc l)) [ inl same ↦ ap (near v) same ∙ e | inr less ↦ b k h less ]

-- none up to 1000
missed : (v : Float) (d : ℕ) → d ≡ 1001 → Before v d → (j : ℕ) → First v j → ⊥
missed v d e b j f = let m = f.most in true≢false (sym f.accepted ∙ b j f.some (omega arith))

one_on : (v : Float) (k d : ℕ) → 1 ≤ d → d ≤ 1000 → Before v d → (near v d ≡ false → Ended v (first_from k (suc d) v)) → (t : Bool) → near v d ≡ t → Ended v (first_from (suc k) d v)
one_on v k d o m b rest true h = hit d (record { some = o; most = m; accepted = h; earlier = b }) (step k d v true h)
one_on v k d o m b rest false h = subst (Ended v) (sym (step k d v false h)) (rest h)

ended : (v : Float) (k d : ℕ) → 1 ≤ d → d + k ≡ 1001 → Before v d → Ended v (first_from k d v)
unfolding first_from
ended v zero d o e b = miss (missed v d (omega arith) b) refl
ended v (suc k) d o e b = one_on v k d o (omega arith) b (λ h. ended v k (suc d) (omega arith) (omega arith) (further v d h b)) (near v d) refl

search-ended : (v : Float) → Ended v (first_from 1000 1 v)
search-ended v = ended v 1000 1 (omega arith) refl (λ k h l. absurd (omega arith))

-- there is one first denominator
unique : (v : Float) (a b : ℕ) → First v a → First v b → a ≡ b
unique v a b f g =
    let p : a < b → ⊥ = λ h. true≢false (sym f.accepted ∙ g.earlier a f.some h) in
    let q : b < a → ⊥ = λ h. true≢false (sym g.accepted ∙ f.earlier b g.some h) in
    omega (arith, p, q)

-- ---- what is found

found-fraction : (n : ℤ) (d : ℕ) → 1 ≤ d → d ≤ 1000 → Within n → Fraction (record { num = n; den = pos d })
found-fraction n d o m w = record { num-within = w; den-within = omega arith; den-some = λ e. omega (arith, ap nat_abs e) }

gcd-one : (n : ℕ) → gcd_of n 1 ≡ 1
gcd-one n = eq-one_of_dvd-one (is-gcd n 1).divides-b

differ-plus : (t : Bool) → differ t false ≡ t
differ-plus true = refl
differ-plus false = refl

over-one : (n : ℤ) → lowest n (pos 1) ≡ record { num = n; den = pos 1 }
unfolding lowest
over-one n = rw (gcd-one (nat_abs n), differ-plus (lt_z n (pos 0)), div-one (nat_abs n)) (ap (λ (z : ℤ). record { num = z; den = pos 1 }) (signed_is n))

small-den : (n : ℤ) (d : ℕ) → nat_abs (lowest n (pos d)).den ≤ d
unfolding lowest
small-den n d = div-le_self d (gcd_of (nat_abs n) d)

-- v is accepted at the first denominator, with the numerator n
record Once (v : Float) (n : ℤ) : Type 0 where
  is_finite : T (finite v)
  first : First v 1
  back : round_of (scaled v 1) ≡ n

once : (x v : Float) (n : ℤ) → finite x ≡ true → near x 1 ≡ true → round_of (scaled x 1) ≡ n → v ≡ x → Once v n
once x v n f a b e = record {
  is_finite = rw (e, f) tt;
  first = record { some = omega arith; most = omega arith; accepted = rw e a; earlier = λ k h l. absurd (omega arith) };
  back = rw e b;
}

value-finite : (x : Float) (s : Bool) (a : ℕ) → HasValue x s a 1 → finite x ≡ true
value-finite nan s a h = absurd h
value-finite (inf t) s a h = absurd h
value-finite (fin t m e) s a h = refl

whole-once : (v : Float) (n : ℤ) → nat_abs n ≤ exact → v ≡ of_int binary64 n → Once v n
whole-once v n h = once (of_int binary64 n) v n (value-finite (of_int binary64 n) (lt_z n (pos 0)) (nat_abs n) (has_value n h)) (near-one n h) (back n h)

top-once : (v : Float) → v ≡ of_int binary64 (pos 9223372036854775808) → Once v (pos 9223372036854775807)
top-once v = once _ v _ top-finite near-top back-top

least-once : (v : Float) → v ≡ of_int binary64 (negsuc 9223372036854775807) → Once v (negsuc 9223372036854775807)
least-once v = once _ v _ least-finite near-least back-least

none-finds : (v : Float) (s : Result Ratio Reason) → s ≡ Err NotPolynomial → (T (finite v) → (d : ℕ) → First v d → ⊥) → Finds v s
none-finds v s e none = record {
  answered = λ f d g w. absurd (none f d g);
  is = λ f d g w. absurd (none f d g);
  over = λ f d g w. absurd (none f d g);
  none = λ f g. ap status_of e;
  infinite = λ f. ap status_of e;
  lowest = λ z. absurd (omega (arith, ap status_of e));
  denominator = λ z. absurd (omega (arith, ap status_of e));
  top = λ q. let o = top-once v q in absurd (none o.is_finite 1 o.first);
  least = λ q. let o = least-once v q in absurd (none o.is_finite 1 o.first);
  whole = λ n h q. let o = whole-once v n h q in absurd (none o.is_finite 1 o.first);
}

-- the numerator of v over d
abbrev numer : Float → ℕ → ℤ
numer v d = round_of (scaled v d)

module _ (v : Float) (s : Result Ratio Reason) (d : ℕ) (f : T (finite v)) (g : First v d) where
  -- what holds of d holds of any first denominator
  at_first : (P : ℕ → Type 0) → P d → (j : ℕ) → First v j → P j
  at_first P p j h = subst P (unique v d j g h) p

  least-finds : within (numer v d) ≡ false → s ≡ Err CoeffOverflow → Finds v s
  least-finds t e =
      let outside : (j : ℕ) → First v j → Within (numer v j) → ⊥ = at_first (λ j. Within (numer v j) → ⊥) (λ w. true≢false (sym (le-leb _ limit w) ∙ t)) in
      record {
        answered = λ i j h w. absurd (outside j h w);
        is = λ i j h w. absurd (outside j h w);
        over = λ i j h w. ap status_of e;
        none = λ i h. absurd (h d g);
        infinite = λ i. absurd (i f);
        lowest = λ z. absurd (omega (arith, ap status_of e));
        denominator = λ z. absurd (omega (arith, ap status_of e));
        top = λ q. let o = top-once v q in absurd (outside 1 o.first (rw o.back (omega arith)));
        least = λ q. ap status_of e;
        whole = λ n h q. let o = whole-once v n h q in absurd (outside 1 o.first (rw o.back (omega arith)));
      }

  new-finds : Within (numer v d) → s ≡ new_of (numer v d) (pos d) → Finds v s
  new-finds w e =
      let fr = found-fraction (numer v d) d g.some g.most w in
      let promise = new-answers (numer v d) (pos d) in
      let done : s ≡ Ok (lowest (numer v d) (pos d)) = e ∙ sym (new-yes (numer v d) (pos d) (fraction-is _ fr)) in
      let from-once : (n : ℤ) → Once v n → s ≡ Ok (record { num = n; den = pos 1 }) =
      λ n o. at_first (λ k. s ≡ Ok (lowest (numer v k) (pos k))) done 1 o.first ∙ ap Ok (ap (λ (z : ℤ). lowest z (pos 1)) o.back ∙ over-one n) in
      let same : Same (rat (ratio_of s)) (Q.over (numer v d) (pos d)) = rw e (promise.is (promise.answered fr)) in
      record {
        answered = λ i j h u. ap status_of done;
        is = λ i j h u. at_first (λ k. Same (rat (ratio_of s)) (Q.over (numer v k) (pos k))) same j h;
        over = λ i j h u. absurd (u (at_first (λ k. Within (numer v k)) w j h));
        none = λ i h. absurd (h d g);
        infinite = λ i. absurd (i f);
        lowest = λ z. rw done (lowest-lowest (numer v d) (pos d) fr);
        denominator = λ z. rw done (le_trans (small-den (numer v d) d) g.most);
        top = λ q. from-once _ (top-once v q);
        least = λ q. let o = least-once v q in let k : Within (numer v 1) = at_first (λ k. Within (numer v k)) w 1 o.first in absurd (omega (arith, ap nat_abs o.back));
        whole = λ n h q. from-once n (whole-once v n h q);
      }

  hit-finds : (t : Bool) → within (numer v d) ≡ t → s ≡ over (numer v d) d → Finds v s
  hit-finds true h e = new-finds (leb-true (nat_abs (numer v d)) limit h) (e ∙ sym (over-new (numer v d) d h))
  hit-finds false h e = least-finds h (e ∙ sym (over-least (numer v d) d h))

ended-finds : (v : Float) (s : Result Ratio Reason) → T (finite v) → Ended v s → Finds v s
ended-finds v s f (hit d g e) = hit-finds v s d f g (within (numer v d)) refl e
ended-finds v s f (miss none e) = none-finds v s e (λ i. none)

finds-by : (v : Float) (t : Bool) → finite v ≡ t → Finds v (to_ratio v)
finds-by v true e = subst (Finds v) (searched v e) (ended-finds v (first_from 1000 1 v) (rw e tt) (search-ended v))
finds-by v false e = none-finds v (to_ratio v) (sym (not_finite v e)) (λ f. absurd (rw e at f))

pub finds-both : (v : Float) (s : Result Ratio Reason) → s ≡ to_ratio v → (s ≡ to_ratio v) × Finds v s
finds-both v s e = (e, subst (Finds v) (sym e) (finds-by v (finite v) refl))
