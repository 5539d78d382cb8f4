-- Laws of splitting, one for each way that it goes on or ends.
use Rattle.std.specs.Prelude.{Ok, Err}
use mathlib.Core.Path.{◌≡◌, refl, sym, ap, subst, ◌∙◌}
use mathlib.Core.Bool.{true, false}
use mathlib.Core.List.{List, []}
use Prim.Native.Nat.{ℕ, zero, suc, ◌+◌, ◌<◌, ◌≤◌}
use native.Mathlib.Decide.{ℕ_discrete}
use native.Mathlib.Omega.{arith}
use borrow.Author.Tests.{lt-ltb, le-ltb, eq-eqb, ne_eqb}
use native.Mathlib.Numerals.{add-one}
use lib.ListN.{length, drop, get_or, set, drop_of_length-le}
use lib.Seq.{drop-cons}
use Rattle.ratio.specs.Refusal.{Outcome, no_refusal}
use Rattle.ratio.specs.declared.Ratio.{Ratio}
use Rattle.ratio.specs.declared.Reason.{Reason}
use Rattle.terms.specs.declared.Poly.{Poly}
use Rattle.terms.specs.Poly.{terms_of, trim}
use Rattle.search.specs.Answer.{roots_of}
use Rattle.search.specs.declared.Roots.{Roots}
use Rattle.yun.specs.declared.Piece.{Piece}
use Rattle.yun.specs.declared.Decomposition.{Decomposition}
use Rattle.yun.specs.Answer.{pieces_of, found_all, refused_for, decomposition_of}
use Rattle.yun.specs.Got.{Got, got, none}
use Rattle.splitting.specs.declared.Left.{Left}
use Rattle.splitting.specs.declared.Pair.{Pair}
use Rattle.splitting.specs.Peel.{added, added_unless, Peel, start, peeled, roots_in, left_of}
use Rattle.splitting.specs.Pair.{Padded, whole, both, pair_of, pair_from}
use Rattle.splitting.specs.Split.{Kept, Splits, split_onto, split_all}
use Rattle.splitting.proofs.Places.{unless-none, unless-some, add-full, add_done, list-got, list-kept, list-none}
use Rattle.splitting.proofs.Peels.{Peeled, left-done, peeled-done, peeled-none}
use Rattle.splitting.proofs.Halves.{pair-is-none, pair-is-whole, pair-is-both}
use Rattle.splitting.proofs.Shorter.{factor-shorter, quotient-shorter}

module _ (f : List Ratio) (times budget : ℕ) (found : List Piece) where
  pub onto-none : (k : ℕ) → length f < 2 → got found ≡ split_onto k f times budget found
  unfolding split_onto
  onto-none zero h = refl
  onto-none (suc k) h = rw (lt-ltb (length f) 2 h)

  pub onto-line : (k : ℕ) → length f ≤ suc k → length f ≡ 2 → got (added f times found) ≡ split_onto (suc k) f times budget found
  unfolding split_onto
  onto-line k l h = rw (le-ltb (length f) 2 (omega arith), eq-eqb (length f) 2 h)

  module _ (k : ℕ) (s : 3 ≤ length f) (r : Roots) (e : r ≡ roots_of f budget) where
    pub onto-refused : (why : Reason) → r.outcome ≡ Err why → none why ≡ split_onto (suc k) f times budget found
    unfolding split_onto
    onto-refused why o = rw (le-ltb (length f) 2 (omega arith), ne_eqb (length f) 2 (λ h. omega arith), ← e, o)

    module _ (o : r.outcome ≡ no_refusal) where
      module _ (p : 0 < r.len) where
        pub onto-stopped : (why : Reason) → peeled times (roots_in r) (start found f) ≡ none why → none why ≡ split_onto (suc k) f times budget found
        unfolding split_onto
        onto-stopped why q = rw (le-ltb (length f) 2 (omega arith), ne_eqb (length f) 2 (λ h. omega arith), ← e, o, lt-ltb 0 r.len p, q)

        module _ (l : Peel) (q : peeled times (roots_in r) (start found f) ≡ got l) where
          pub onto-rest : length l.rest < length f → split_onto k l.rest times budget l.found ≡ split_onto (suc k) f times budget found
          unfolding split_onto
          onto-rest h = rw (le-ltb (length f) 2 (omega arith), ne_eqb (length f) 2 (λ h. omega arith), ← e, o, lt-ltb 0 r.len p, q, lt-ltb (length l.rest) (length f) h)

          pub onto-kept : length f ≤ length l.rest → got (added l.rest times l.found) ≡ split_onto (suc k) f times budget found
          unfolding split_onto
          onto-kept h = rw (le-ltb (length f) 2 (omega arith), ne_eqb (length f) 2 (λ h. omega arith), ← e, o, lt-ltb 0 r.len p, q, le-ltb (length l.rest) (length f) h)

      module _ (p : r.len ≤ 0) where
        pub onto-pairless : (why : Reason) → pair_of f budget ≡ none why → none why ≡ split_onto (suc k) f times budget found
        unfolding split_onto
        onto-pairless why q = rw (le-ltb (length f) 2 (omega arith), ne_eqb (length f) 2 (λ h. omega arith), ← e, o, le-ltb 0 r.len p, q)

        pub onto-whole : pair_of f budget ≡ got whole → got (added f times found) ≡ split_onto (suc k) f times budget found
        unfolding split_onto
        onto-whole q = rw (le-ltb (length f) 2 (omega arith), ne_eqb (length f) 2 (λ h. omega arith), ← e, o, le-ltb 0 r.len p, q)

        module _ (g h : List Ratio) (q : pair_of f budget ≡ got (both g h)) where
          pub onto-half : (why : Reason) → split_onto k g times budget found ≡ none why → none why ≡ split_onto (suc k) f times budget found
          unfolding split_onto
          onto-half why u = rw (le-ltb (length f) 2 (omega arith), ne_eqb (length f) 2 (λ h. omega arith), ← e, o, le-ltb 0 r.len p, q, u)

          pub onto-both : (next : List Piece) → split_onto k g times budget found ≡ got next → split_onto k h times budget next ≡ split_onto (suc k) f times budget found
          unfolding split_onto
          onto-both next u = rw (le-ltb (length f) 2 (omega arith), ne_eqb (length f) 2 (λ h. omega arith), ← e, o, le-ltb 0 r.len p, q, u)

-- ---- what the code hands back, whatever bound is taken

module _ (f : List Ratio) (times budget : ℕ) (d : Decomposition) (kept : Kept d) where
  each : (x : Decomposition) → 1 ≤ length f → ((m : ℕ) → length f ≤ suc m → x ≡ decomposition_of (split_onto (suc m) f times budget (pieces_of d))) → (k : ℕ) → length f ≤ k → x ≡ decomposition_of (split_onto k f times budget (pieces_of d))
  each x h p zero l = absurd (omega arith)
  each x h p (suc m) l = p m l

  pub splits-none : length f < 2 → Splits f times budget (pieces_of d) d
  splits-none h = record { is = λ k l. kept.is ∙ ap decomposition_of (onto-none f times budget (pieces_of d) k h) }

  pub splits-line : length f ≡ 2 → (x : Decomposition) → x ≡ found_all (added f times (pieces_of d)) → Splits f times budget (pieces_of d) x
  splits-line h x e = record { is = each x (omega arith) (λ m l. e ∙ ap decomposition_of (onto-line f times budget (pieces_of d) m l h)) }

  pub splits-short : length f < 3 → (x : Decomposition) → x ≡ found_all (added_unless f times (pieces_of d)) → Splits f times budget (pieces_of d) x
  splits-short h x e = go (ℕ_discrete (length f) 2)
    where
      go : Dec (length f ≡ 2) → Splits f times budget (pieces_of d) x
      go (yes p) = splits-line p x (e ∙ ap found_all (unless-some f times (pieces_of d) (omega arith)))
      go (no p) =
          let c : length f < 2 = omega arith in
          subst (Splits f times budget (pieces_of d)) (kept.is ∙ sym (e ∙ ap found_all (unless-none f times (pieces_of d) c))) (splits-none c)

  module _ (s : 3 ≤ length f) (r : Roots) (e : r ≡ roots_of f budget) where
    pub splits-refused : (why : Reason) → r.outcome ≡ Err why → (x : Decomposition) → x ≡ refused_for why → Splits f times budget (pieces_of d) x
    splits-refused why o x p = record { is = each x (omega arith) (λ m l. p ∙ ap decomposition_of (onto-refused f times budget (pieces_of d) m s r e why o)) }

    module _ (o : r.outcome ≡ no_refusal) where
      module _ (p : 0 < r.len) (l : Left) (q : l ≡ left_of (peeled times (roots_in r) (start (pieces_of d) f))) where
        splits-stopped : (why : Reason) → l.found.outcome ≡ Err why → Splits f times budget (pieces_of d) l.found
        splits-stopped why u =
            let v = peeled-none l (peeled times (roots_in r) (start (pieces_of d) f)) why q u in
            record { is = each l.found (omega arith) (λ m h. ap (λ (x : Left). x.found) (q ∙ ap left_of v) ∙ ap decomposition_of (onto-stopped f times budget (pieces_of d) m s r e o p why v)) }

        pub peel-done : 2 ≤ length (terms_of l.rest) → l.found.outcome ≡ no_refusal
        peel-done h = left-done l (peeled times (roots_in r) (start (pieces_of d) f)) q (omega arith)

        module _ (u : l.found.outcome ≡ no_refusal) where
          peel-told : Peeled (peeled times (roots_in r) (start (pieces_of d) f)) l.found l.rest
          peel-told = peeled-done l (peeled times (roots_in r) (start (pieces_of d) f)) q u

          pub peel-kept-list : Kept l.found
          peel-kept-list = peel-told.kept

          pub peel-padded : Padded l.rest
          peel-padded = peel-told.padded

          pub splits-rest : length (terms_of l.rest) < length f → (x : Decomposition) → Splits (terms_of l.rest) times budget (pieces_of l.found) x → Splits f times budget (pieces_of d) x
          splits-rest h x w = record { is = each x (omega arith) (λ m k. w.is m (omega arith) ∙ ap decomposition_of (onto-rest f times budget (pieces_of d) m s r e o p (start (pieces_of l.found) (terms_of l.rest)) peel-told.is h)) }

          pub splits-kept : length f ≤ length (terms_of l.rest) → (x : Decomposition) → x ≡ found_all (added_unless (terms_of l.rest) times (pieces_of l.found)) → Splits f times budget (pieces_of d) x
          splits-kept h x w = record { is = each x (omega arith) (λ m k. w ∙ ap found_all (unless-some (terms_of l.rest) times (pieces_of l.found) (omega arith)) ∙ ap decomposition_of (onto-kept f times budget (pieces_of d) m s r e o p (start (pieces_of l.found) (terms_of l.rest)) peel-told.is h)) }

        -- what is refused leaves nothing to split
        pub splits-few : length (terms_of l.rest) < 2 → Splits f times budget (pieces_of d) l.found
        splits-few h = go l.found.outcome refl
          where
            go : (o : Outcome) → l.found.outcome ≡ o → Splits f times budget (pieces_of d) l.found
            go (Ok _) u = splits-rest u (omega arith) l.found (record { is = λ k n. (peel-kept-list u).is ∙ ap decomposition_of (onto-none (terms_of l.rest) times budget (pieces_of l.found) k h) })
            go (Err why) u = splits-stopped why u

      module _ (p : r.len ≤ 0) (h : Pair) (q : pair_from h ≡ pair_of f budget) where
        pub splits-pairless : (why : Reason) → h.outcome ≡ Err why → (x : Decomposition) → x ≡ refused_for why → Splits f times budget (pieces_of d) x
        splits-pairless why u x w = record { is = each x (omega arith) (λ m l. w ∙ ap decomposition_of (onto-pairless f times budget (pieces_of d) m s r e o p why (pair-is-none h (pair_of f budget) why q u))) }

        module _ (u : h.outcome ≡ no_refusal) where
          pub splits-whole : h.two ≡ false → (x : Decomposition) → x ≡ found_all (added_unless f times (pieces_of d)) → Splits f times budget (pieces_of d) x
          splits-whole t x w = record { is = each x (omega arith) (λ m l. w ∙ ap found_all (unless-some f times (pieces_of d) (omega arith)) ∙ ap decomposition_of (onto-whole f times budget (pieces_of d) m s r e o p (pair-is-whole h (pair_of f budget) q u t))) }

          module _ (t : h.two ≡ true) where
            two-told : pair_of f budget ≡ got (both (terms_of h.factor) (terms_of h.quotient))
            two-told = pair-is-both h (pair_of f budget) q u t

            pub first-shorter : length (terms_of h.factor) < length f
            first-shorter = factor-shorter f budget (terms_of h.factor) (terms_of h.quotient) two-told (omega arith)

            pub second-shorter : length (terms_of h.quotient) < length f
            second-shorter = quotient-shorter f budget (terms_of h.factor) (terms_of h.quotient) two-told (omega arith)

            module _ (a : Decomposition) (w : Splits (terms_of h.factor) times budget (pieces_of d) a) where
              pub splits-half : (why : Reason) → a.outcome ≡ Err why → Splits f times budget (pieces_of d) a
              splits-half why v =
                  record {
                    is =
                        each a (omega arith) (λ m l.
                        let i = w.is m (omega (arith, first-shorter)) in
                        let n = list-none a (split_onto m (terms_of h.factor) times budget (pieces_of d)) why i v in
                        i ∙ ap decomposition_of (n ∙ onto-half f times budget (pieces_of d) m s r e o p (terms_of h.factor) (terms_of h.quotient) two-told why n));
                  }

              pub half-kept : a.outcome ≡ no_refusal → Kept a
              half-kept v = list-kept a (split_onto (length f) (terms_of h.factor) times budget (pieces_of d)) (w.is (length f) (omega (arith, first-shorter))) v

              pub splits-both : a.outcome ≡ no_refusal → (x : Decomposition) → Splits (terms_of h.quotient) times budget (pieces_of a) x → Splits f times budget (pieces_of d) x
              splits-both v x y =
                  record {
                    is =
                        each x (omega arith) (λ m l.
                        let i = w.is m (omega (arith, first-shorter)) in
                        let n = list-got a (split_onto m (terms_of h.factor) times budget (pieces_of d)) i v in
                        y.is m (omega (arith, second-shorter)) ∙ ap decomposition_of (onto-both f times budget (pieces_of d) m s r e o p (terms_of h.factor) (terms_of h.quotient) two-told (pieces_of a) n));
                  }

-- ---- one factor of a decomposition after the other

module _ (all : List Piece) (budget : ℕ) where
  pub record Splitting (i : ℕ) (d : Decomposition) : Type 0 where
    pub whole : split_all (drop i all) budget (pieces_of d) ≡ split_all all budget []
    pub kept : Kept d

  pub splitting-none : (d : Decomposition) → d ≡ found_all [] → Splitting 0 d
  splitting-none d e = record { whole = rw e; kept = record { is = rw e refl } }

  module _ (i : ℕ) (d : Decomposition) (z : Piece) (h : i < length all) (p : Splitting i d) (y : Piece) (g : y ≡ get_or all i z) (f : List Ratio) (e : f ≡ trim (terms_of y.poly)) (x : Decomposition) (w : Splits f y.times budget (pieces_of d) x) where
    work : Got (List Piece)
    work = split_onto (length (trim (terms_of (get_or all i z).poly))) (trim (terms_of (get_or all i z).poly)) (get_or all i z).times budget (pieces_of d)

    same : x ≡ decomposition_of work
    unfolding work
    same =
        w.is (length f) (omega arith)
        ∙ ap (λ (t : List Ratio). decomposition_of (split_onto (length t) t y.times budget (pieces_of d))) e
        ∙ ap (λ (y : Piece). decomposition_of (split_onto (length (trim (terms_of y.poly))) (trim (terms_of y.poly)) y.times budget (pieces_of d))) g

    pub splitting-more : x.outcome ≡ no_refusal → Splitting (i + 1) x
    unfolding split_all work
    splitting-more o =
        let n = list-got x work same o in
        record { whole = rw (add-one i) (rw (drop-cons all i z h, n) at p.whole); kept = list-kept x work same o }

    pub splitting-over : (why : Reason) → x.outcome ≡ Err why → x ≡ decomposition_of (split_all all budget [])
    unfolding split_all work
    splitting-over why o =
        let n = list-none x work why same o in
        same ∙ ap decomposition_of (n ∙ (rw (drop-cons all i z h, n) at p.whole))

  -- a linear factor is laid where it belongs
  module _ (i : ℕ) (d : Decomposition) (z : Piece) (h : i < length all) (p : Splitting i d) (y : Piece) (g : y ≡ get_or all i z) (q : Poly) (e : terms_of q ≡ trim (terms_of y.poly)) (n : length (terms_of q) ≡ 2) where
    pub splitting-full : 32 ≤ d.len → Splitting (i + 1) d
    splitting-full l =
        splitting-more i d z h p y g (terms_of q) e d (splits-line (terms_of q) y.times budget d p.kept n d (add-full d (terms_of q) y.times p.kept l)) (ap (λ (x : Decomposition). x.outcome) p.kept.is)

    pub splitting-line : Padded q → d.len < 32 → Splitting (i + 1) (record { outcome = d.outcome; pieces = set d.pieces d.len (record { poly = q; times = y.times }); len = d.len + 1 })
    splitting-line w l =
        splitting-more i d z h p y g (terms_of q) e _ (splits-line (terms_of q) y.times budget d p.kept n _ (add_done d q y.times p.kept w l)) (ap (λ (x : Decomposition). x.outcome) p.kept.is)

  pub splitting-all : (i : ℕ) (d : Decomposition) → length all ≤ i → Splitting i d → d ≡ decomposition_of (split_all all budget [])
  unfolding split_all
  splitting-all i d h p =
      let e : drop i all ≡ [] = drop_of_length-le all h in
      p.kept.is ∙ ap decomposition_of (rw e at p.whole)
