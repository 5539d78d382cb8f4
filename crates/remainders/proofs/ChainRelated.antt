-- Division, gcd, square-free part, resultant and discriminant are written over any machine: a relation that the steps of two machines keep is kept by them.
use mathlib.Core.Path.{◌≡◌, ap, ap₂}
use mathlib.Core.Bool.{Bool, true, false}
use mathlib.Core.List.{List}
use Prim.Native.Nat.{ℕ, zero, suc, ◌+◌, ◌-◌, ◌*◌, ◌/◌, ◌%◌, ◌≤◌, ◌<◌}
use native.Mathlib.Omega.{arith}
use lib.Dec.{ltb, eqb}
use lib.IntN.{pos, nat_abs}
use lib.ListN.{length, get_or, take}
use Rattle.ratio.specs.Step.{is_nil}
use Rattle.ratio.specs.declared.Ratio.{Ratio}
use Rattle.terms.specs.Machine.{minus, times, Ran, Machine}
use Rattle.terms.specs.Work.{nil}
use Rattle.terms.proofs.StepsRelated.{Pairwise, none, more, same_length, pair-get_or, pair-take, pair-drop_top, Relation, Outcome, Kept, Lists, lists-still, outcome-then, outcome-fine, nil-related, scaled-related, derived-related, rowed-related}
use Rattle.remainders.specs.Divide.{Split, dropped, lead, quotients, divided_if, divided}
use Rattle.remainders.specs.Gcd.{monic, gcd_by, gcd_of, monic_if, freed, square_free}
use Rattle.remainders.specs.Resultant.{sign_if, sign_of, degree_of, unit, powered, signed, onward, ordered, swapped_if, resultant_of, discriminant_of}

sign_small : (t : Bool) → nat_abs (sign_if t) ≤ 1
sign_small true = omega arith
sign_small false = omega arith

module _ {W W' Log Log' : Type 0} (R : Relation W W' Log Log') {M : Machine W Log} {N : Machine W' Log'} (K : Kept R M N) where
  sign-related : (k : ℕ) (w : R.Known) → R.Wires w (signed M k) (signed N k)
  sign-related k w = K.whole w (sign_of k) (K.small (sign_of k) (sign_small (eqb (k % 2) 0)))

  unit-related : (w : R.Known) → R.Wires w (unit M) (unit N)
  unit-related w = K.whole w (pos 1) (K.small (pos 1) (omega arith))

  -- quotient and rest, both
  abbrev pub Splits : R.Known → Split W → Split W' → Type 0
  Splits w s t = Pairwise (R.Wires w) s.quotient t.quotient × Pairwise (R.Wires w) s.rest t.rest

  module _ {w : R.Known} {a : List W} {a' : List W'} (h : Lists R K w a a') where
    pub dropped-related : Lists R K w (dropped M a) (dropped N a')
    dropped-related = pair-drop_top _ _ (λ x y p. ap (λ (r : Ratio). is_nil r.num) (K.same-value p)) h

    lead-related : R.Wires w (lead M a) (lead N a')
    lead-related = rw (same_length h) (pair-get_or h (length a' - 1) (nil-related R K w))

    term-related : {b : List W} {b' : List W'} → Lists R K w b b' → (k : ℕ) → R.Wires w (get_or a (k + (length b - 1)) (nil M)) (get_or a' (k + (length b' - 1)) (nil N))
    term-related {b' = b'} g k = rw (same_length g) (pair-get_or h (k + (length b' - 1)) (nil-related R K w))

    taken-related : {b : List W} {b' : List W'} → Lists R K w b b' → Lists R K w (take (length b - 1) a) (take (length b' - 1) a')
    taken-related {b' = b'} g = rw (same_length g) (pair-take (length b' - 1) h)

    signed-related : {b : List W} {b' : List W'} → Lists R K w b b' → R.Wires w (signed M (degree_of a * degree_of b)) (signed N (degree_of a' * degree_of b'))
    signed-related {b' = b'} g = rw (same_length h, same_length g) (sign-related (degree_of a' * degree_of b') w)

  -- ---- division

  pub quotients-related : (k : ℕ) {w : R.Known} {l : Log} {n : Log'} {rem b quot : List W} {rem' b' quot' : List W'} → R.Logs w l n → Lists R K w rem rem' → Lists R K w b b' → Lists R K w quot quot' → Outcome R Splits w (quotients M rem b k quot l) (quotients N rem' b' k quot' n)
  unfolding quotients
  quotients-related zero q h b t = outcome-fine R K q (t, h)
  quotients-related (suc k) q h b t =
      outcome-then R K (K.make times q (term-related h b k) (K.inverse (lead-related b))) (λ w₁ l₁ n₁ x y p₁ q₁ e.
      outcome-then R K (rowed-related R K minus k q₁ (lists-still R K p₁ h) e (lists-still R K p₁ b)) (λ w₂ l₂ n₂ r r' p₂ q₂ g.
      let p = K.later_trans p₁ p₂ in
      quotients-related k q₂ g (lists-still R K p b) (more (K.still p₂ e) (lists-still R K p t))))

  module _ {w : R.Known} {l : Log} {n : Log'} (q : R.Logs w l n) where
    divided_if-related : (t : Bool) {a b : List W} {a' b' : List W'} → Lists R K w a a' → Lists R K w b b' → Outcome R Splits w (divided_if M t a b l) (divided_if N t a' b' n)
    divided_if-related true h g = outcome-fine R K q (none, dropped-related h)
    divided_if-related false {a' = a'} {b' = b'} h g =
        rw (same_length h, same_length g)
        (outcome-then R K (quotients-related (length a' - length b' + 1) q h g none) (λ w₁ l₁ n₁ s s' p₁ q₁ e.
        outcome-fine R K q₁ (dropped-related e.0, dropped-related (taken-related e.1 (lists-still R K p₁ g)))))

    pub divided-related : {a b : List W} {a' b' : List W'} → Lists R K w a a' → Lists R K w b b' → Outcome R Splits w (divided M a b l) (divided N a' b' n)
    unfolding divided
    divided-related {a' = a'} {b' = b'} h g = rw (same_length h, same_length g) (divided_if-related (ltb (length a') (length b')) h g)

    -- ---- gcd

    pub monic-related : {a : List W} {a' : List W'} → Lists R K w a a' → Outcome R (Lists R K) w (monic M a l) (monic N a' n)
    unfolding monic
    monic-related none = outcome-fine R K q none
    monic-related (more x h) = scaled-related R K q (more x h) (K.inverse (lead-related (more x h)))

  pub gcd_by-related : (f : ℕ) {w : R.Known} {l : Log} {n : Log'} {a b : List W} {a' b' : List W'} → R.Logs w l n → Lists R K w a a' → Lists R K w b b' → Outcome R (Lists R K) w (gcd_by M f a b l) (gcd_by N f a' b' n)
  unfolding gcd_by
  gcd_by-related zero q h none = monic-related q h
  gcd_by-related zero q h (more y g) = outcome-fine R K q none
  gcd_by-related (suc f) q h none = monic-related q h
  gcd_by-related (suc f) q h (more y g) =
      outcome-then R K (divided-related q h (more y g)) (λ w₁ l₁ n₁ s s' p₁ q₁ e.
      gcd_by-related f q₁ (lists-still R K p₁ (more y g)) e.1)

  module _ {w : R.Known} {l : Log} {n : Log'} (q : R.Logs w l n) where
    pub gcd_of-related : {a b : List W} {a' b' : List W'} → Lists R K w a a' → Lists R K w b b' → Outcome R (Lists R K) w (gcd_of M a b l) (gcd_of N a' b' n)
    unfolding gcd_of
    gcd_of-related {b' = b'} h g = rw (same_length g) (gcd_by-related (length b') q h g)

    -- ---- the square-free part

    monic_if-related : {r f d : List W} {r' f' d' : List W'} → Lists R K w r r' → Lists R K w f f' → Lists R K w d d' → Outcome R (Lists R K) w (monic_if M r f d l) (monic_if N r' f' d' n)
    monic_if-related none f d = monic-related q d
    monic_if-related (more x r) f d = outcome-fine R K q f

  module _ {w : R.Known} {l : Log} {n : Log'} (q : R.Logs w l n) where
    pub freed-related : {f g : List W} {f' g' : List W'} → Lists R K w f f' → Lists R K w g g' → Outcome R (Lists R K) w (freed M f g l) (freed N f' g' n)
    freed-related f none = outcome-fine R K q f
    freed-related f (more x none) = outcome-fine R K q f
    freed-related f (more x (more y g)) =
        outcome-then R K (divided-related q f (more x (more y g))) (λ w₁ l₁ n₁ s s' p₁ q₁ e.
        monic_if-related q₁ e.1 (lists-still R K p₁ f) e.0)

  pub square_free-related : {w : R.Known} {l : Log} {n : Log'} {f : List W} {f' : List W'} → ((i : ℕ) → i < length f' - 1 → R.Wholes (pos (i + 1))) → R.Logs w l n → Lists R K w f f' → Outcome R (Lists R K) w (square_free M f l) (square_free N f' n)
  unfolding square_free
  square_free-related z q none = outcome-fine R K q none
  square_free-related z q (more x f) =
      outcome-then R K (derived-related R K q z (more x f)) (λ w₁ l₁ n₁ d d' p₁ q₁ e.
      outcome-then R K (gcd_of-related q₁ (lists-still R K p₁ (more x f)) (dropped-related e)) (λ w₂ l₂ n₂ g g' p₂ q₂ h.
      freed-related q₂ (lists-still R K (K.later_trans p₁ p₂) (more x f)) (dropped-related h)))

  -- ---- the resultant

  pub powered-related : (k : ℕ) {w : R.Known} {l : Log} {n : Log'} {c acc : W} {c' acc' : W'} → R.Logs w l n → R.Wires w c c' → R.Wires w acc acc' → Outcome R R.Wires w (powered M c k acc l) (powered N c' k acc' n)
  unfolding powered
  powered-related zero q c h = outcome-fine R K q h
  powered-related (suc k) q c h = outcome-then R K (K.make times q h c) (λ w₁ l₁ n₁ x y p₁ q₁ e. powered-related k q₁ (K.still p₁ c) e)

  module _ {w : R.Known} {l : Log} {n : Log'} (q : R.Logs w l n) where
    -- from 1, to a power that is the same
    power-related : {k k' : ℕ} {c : W} {c' : W'} → k ≡ k' → R.Wires w c c' → Outcome R R.Wires w (powered M c k (unit M) l) (powered N c' k' (unit N) n)
    power-related {k' = k'} e c = rw e (powered-related k' q c (unit-related w))

    onward-related : {a b rest : List W} {a' b' rest' : List W'} {inner : Log → Ran Log W} {inner' : Log' → Ran Log' W'} → Lists R K w a a' → Lists R K w b b' → ((w' : R.Known) (l : Log) (n : Log') → R.Later w w' → R.Logs w' l n → Outcome R R.Wires w' (inner l) (inner' n)) → Lists R K w rest rest' → Outcome R R.Wires w (onward M a b inner rest l) (onward N a' b' inner' rest' n)
    onward-related h g i none = outcome-fine R K q (nil-related R K w)
    onward-related h g i (more r t) =
        outcome-then R K (power-related (ap₂ (λ (x y : ℕ). x - suc y) (same_length h) (same_length t)) (lead-related g)) (λ w₁ l₁ n₁ x y p₁ q₁ e.
        outcome-then R K (i w₁ l₁ n₁ p₁ q₁) (λ w₂ l₂ n₂ s s' p₂ q₂ f.
        let p = K.later_trans p₁ p₂ in
        outcome-then R K (K.make times q₂ (signed-related (lists-still R K p h) (lists-still R K p g)) (K.still p₂ e)) (λ w₃ l₃ n₃ u v p₃ q₃ d.
        K.make times q₃ d (K.still p₃ f))))

  pub ordered-related : (f : ℕ) {w : R.Known} {l : Log} {n : Log'} {a b : List W} {a' b' : List W'} → R.Logs w l n → Lists R K w a a' → Lists R K w b b' → Outcome R R.Wires w (ordered M f a b l) (ordered N f a' b' n)
  unfolding ordered
  ordered-related zero {w = w} q h none = outcome-fine R K q (nil-related R K w)
  ordered-related zero q h (more y none) = power-related q (ap (λ (x : ℕ). x - 1) (same_length h)) y
  ordered-related zero {w = w} q h (more y (more z g)) = outcome-fine R K q (nil-related R K w)
  ordered-related (suc f) {w = w} q h none = outcome-fine R K q (nil-related R K w)
  ordered-related (suc f) q h (more y none) = power-related q (ap (λ (x : ℕ). x - 1) (same_length h)) y
  ordered-related (suc f) q h (more y (more z g)) =
      outcome-then R K (divided-related q h (more y (more z g))) (λ w₁ l₁ n₁ s s' p₁ q₁ e.
      let v = lists-still R K p₁ (more y (more z g)) in
      onward-related q₁ (lists-still R K p₁ h) v (λ w₂ l₂ n₂ p₂ q₂. ordered-related f q₂ (lists-still R K p₂ v) (lists-still R K p₂ e.1)) e.1)

  module _ {w : R.Known} {l : Log} {n : Log'} (q : R.Logs w l n) where
    ordered_same : {f f' : ℕ} {a b : List W} {a' b' : List W'} → f ≡ f' → Lists R K w a a' → Lists R K w b b' → Outcome R R.Wires w (ordered M f a b l) (ordered N f' a' b' n)
    ordered_same {f' = f'} e h g = rw e (ordered-related f' q h g)

    swapped_if-related : (t : Bool) {a b : List W} {a' b' : List W'} → Lists R K w a a' → Lists R K w b b' → Outcome R R.Wires w (swapped_if M t a b l) (swapped_if N t a' b' n)
    swapped_if-related true {a' = a'} h g =
        outcome-then R K (ordered_same (same_length h) g h) (λ w₁ l₁ n₁ x y p₁ q₁ e.
        K.make times q₁ e (signed-related (lists-still R K p₁ h) (lists-still R K p₁ g)))
    swapped_if-related false h g = ordered_same (same_length g) h g

    swapped-related : {t t' : Bool} {a b : List W} {a' b' : List W'} → t ≡ t' → Lists R K w a a' → Lists R K w b b' → Outcome R R.Wires w (swapped_if M t a b l) (swapped_if N t' a' b' n)
    swapped-related {t' = t'} e h g = rw e (swapped_if-related t' h g)

    pub resultant_of-related : {a b : List W} {a' b' : List W'} → Lists R K w a a' → Lists R K w b b' → Outcome R R.Wires w (resultant_of M a b l) (resultant_of N a' b' n)
    unfolding resultant_of
    resultant_of-related none g = outcome-fine R K q (nil-related R K w)
    resultant_of-related (more x h) none = outcome-fine R K q (nil-related R K w)
    resultant_of-related (more x none) (more y g) = power-related q (same_length g) x
    resultant_of-related (more x (more x' h)) (more y none) = power-related q (ap suc (same_length h)) y
    resultant_of-related (more x (more x' h)) (more y (more y' g)) =
        swapped-related (ap₂ (λ (x y : ℕ). ltb (suc (suc x)) (suc (suc y))) (same_length h) (same_length g)) (more x (more x' h)) (more y (more y' g))

  -- ---- the discriminant

  half-related : {k k' : ℕ} → k ≡ k' → (w : R.Known) → R.Wires w (signed M (suc k * k / 2)) (signed N (suc k' * k' / 2))
  half-related {k' = k'} e w = rw e (sign-related (suc k' * k' / 2) w)

  pub discriminant_of-related : {w : R.Known} {l : Log} {n : Log'} {f : List W} {f' : List W'} → ((i : ℕ) → i < length f' - 1 → R.Wholes (pos (i + 1))) → R.Logs w l n → Lists R K w f f' → Outcome R R.Wires w (discriminant_of M f l) (discriminant_of N f' n)
  unfolding discriminant_of
  discriminant_of-related {w = w} z q none = outcome-fine R K q (nil-related R K w)
  discriminant_of-related {w = w} z q (more x none) = outcome-fine R K q (unit-related w)
  discriminant_of-related z q (more x (more y f)) =
      outcome-then R K (derived-related R K q z (more x (more y f))) (λ w₁ l₁ n₁ d d' p₁ q₁ e.
      outcome-then R K (resultant_of-related q₁ (lists-still R K p₁ (more x (more y f))) (dropped-related e)) (λ w₂ l₂ n₂ r r' p₂ q₂ g.
      outcome-then R K (K.make times q₂ (half-related (same_length f) w₂) g) (λ w₃ l₃ n₃ u v p₃ q₃ h.
      let p = K.later_trans (K.later_trans p₁ p₂) p₃ in
      K.make times q₃ h (K.inverse (lead-related (lists-still R K p (more x (more y f))))))))
