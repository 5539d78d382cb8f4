-- Laws of the roots in their array: what is in use, and one more.
use Rattle.ratio.specs.Refusal.{no_refusal}
use mathlib.Core.Path.{◌≡◌, sym, ap, ◌∙◌}
use mathlib.Core.List.{List, [], ◌∷◌, ◌++◌, append_assoc}
use Prim.Native.Nat.{ℕ, suc, ◌+◌, ◌-◌, ◌<◌}
use native.Mathlib.Numerals.{add-one}
use native.Mathlib.Omega.{arith}
use lib.Ieee.{Float, binary64, of_bits}
use lib.ListN.{length, take, drop, get_or, set, replicate, length-append}
use lib.Seq.{take-append_seam, set-append_seam, drop-cons}
use Rattle.terms.proofs.Lists.{read-terms}
use Rattle.isolate.specs.declared.Isolation.{Isolation}
use Rattle.isolate.specs.Answer.{roots_in, holding, Kept}

pub roots-of : (r : Isolation) (l : List Float) → r ≡ holding l → roots_in r ≡ l
roots-of r l e = ap roots_in e ∙ take-append_seam l (replicate (64 - length l) (of_bits binary64 0))

pub kept_of : (r : Isolation) (l : List Float) → r ≡ holding l → Kept r
kept_of r l e = e ∙ ap holding (sym (roots-of r l e))

pub kept-len : (r : Isolation) → Kept r → r.len ≡ length (roots_in r)
kept-len r k = ap (λ (x : Isolation). x.len) k

filled : (l : List Float) (x : Float) (k m : ℕ) → k ≡ suc m → set (l ++ replicate k (of_bits binary64 0)) (length l) x ≡ (l ++ (x ∷ [])) ++ replicate m (of_bits binary64 0)
filled l x k m e = rw (e, append_assoc) (set-append_seam l (of_bits binary64 0) (replicate m (of_bits binary64 0)) x)

one_more : (l : List Float) (x : Float) → length l < 64 → ◌≡◌ {A = Isolation} (record { outcome = no_refusal; roots = set (holding l).roots (length l) x; len = length l + 1 }) (holding (l ++ (x ∷ [])))
one_more l x h =
    let n : length (l ++ (x ∷ [])) ≡ length l + 1 = length-append l (x ∷ []) in
    rw (filled l x (64 - length l) (64 - (length l + 1)) (omega arith), n)

pub push-done : (r : Isolation) (x : Float) → Kept r → length (roots_in r) < 64 → ◌≡◌ {A = Isolation} (record { outcome = r.outcome; roots = set r.roots r.len x; len = r.len + 1 }) (holding (roots_in r ++ (x ∷ [])))
push-done r x k h =
    ap {B = Isolation} (λ (d : Isolation). record { outcome = d.outcome; roots = set d.roots d.len x; len = d.len + 1 }) k
    ∙ one_more (roots_in r) x h

-- the next of a list that is walked
pub next_of : {X : Type 0} (n : ℕ) (l : List X) (i : ℕ) (d : X) → i < length (take n l) → drop i (take n l) ≡ get_or l i d ∷ drop (i + 1) (take n l)
next_of {X = X} n l i d h =
    drop-cons (take n l) i d h
    ∙ ap (λ (x : X). x ∷ drop (suc i) (take n l)) (sym (read-terms n l i d d h))
    ∙ ap (λ (k : ℕ). get_or l i d ∷ drop k (take n l)) (sym (add-one i))
