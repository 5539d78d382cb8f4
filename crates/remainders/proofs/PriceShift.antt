-- Demand 3: work that starts with k steps on the counter is the work that starts with none, with k more on the counter.
use mathlib.Core.Path.{◌≡◌, refl, ap₂}
use mathlib.Core.List.{List}
use Prim.Native.Nat.{ℕ, ◌+◌}
use native.Mathlib.Omega.{arith}
use Rattle.ratio.specs.declared.Ratio.{Ratio}
use Rattle.terms.specs.Machine.{Ran, plain}
use Rattle.terms.proofs.StepsRelated.{Outcome, Lists}
use Rattle.terms.proofs.StepsShift.{shift, same-list, list_same, shifting, shifting-kept, shifted}
use Rattle.remainders.specs.Divide.{Split, split, quotients, divided}
use Rattle.remainders.specs.Gcd.{monic, gcd_by, gcd_of, freed, square_free}
use Rattle.remainders.specs.Resultant.{powered, ordered, resultant_of, discriminant_of}
use Rattle.remainders.proofs.ChainRelated.{Splits, quotients-related, divided-related, monic-related, gcd_by-related, gcd_of-related, freed-related, square_free-related, powered-related, ordered-related, resultant_of-related, discriminant_of-related}

module _ (k : ℕ) where
  none_more : k ≡ k + 0
  none_more = omega arith

  list-shifted : {r s : Ran ℕ (List Ratio)} → Outcome (shifting k) (Lists (shifting k) (shifting-kept k)) tt r s → r ≡ shift k s
  list-shifted h = shifted k (λ x y p. same-list p) h

  number-shifted : {r s : Ran ℕ Ratio} → Outcome (shifting k) (λ w x y. x ≡ y) tt r s → r ≡ shift k s
  number-shifted h = shifted k (λ x y p. p) h

  split-shifted : {r s : Ran ℕ (Split Ratio)} → Outcome (shifting k) (Splits (shifting k) (shifting-kept k)) tt r s → r ≡ shift k s
  split-shifted h = shifted k (λ x y p. ap₂ split (same-list p.0) (same-list p.1)) h

  pub quotients-shift : (rem b : List Ratio) (n : ℕ) (quot : List Ratio) → quotients plain rem b n quot k ≡ shift k (quotients plain rem b n quot 0)
  quotients-shift rem b n quot = split-shifted (quotients-related (shifting k) (shifting-kept k) n none_more (list_same rem) (list_same b) (list_same quot))

  pub divided-shift : (a b : List Ratio) → divided plain a b k ≡ shift k (divided plain a b 0)
  divided-shift a b = split-shifted (divided-related (shifting k) (shifting-kept k) none_more (list_same a) (list_same b))

  pub monic-shift : (a : List Ratio) → monic plain a k ≡ shift k (monic plain a 0)
  monic-shift a = list-shifted (monic-related (shifting k) (shifting-kept k) none_more (list_same a))

  pub gcd_by-shift : (f : ℕ) (a b : List Ratio) → gcd_by plain f a b k ≡ shift k (gcd_by plain f a b 0)
  gcd_by-shift f a b = list-shifted (gcd_by-related (shifting k) (shifting-kept k) f none_more (list_same a) (list_same b))

  pub gcd_of-shift : (a b : List Ratio) → gcd_of plain a b k ≡ shift k (gcd_of plain a b 0)
  gcd_of-shift a b = list-shifted (gcd_of-related (shifting k) (shifting-kept k) none_more (list_same a) (list_same b))

  pub freed-shift : (f g : List Ratio) → freed plain f g k ≡ shift k (freed plain f g 0)
  freed-shift f g = list-shifted (freed-related (shifting k) (shifting-kept k) none_more (list_same f) (list_same g))

  pub square_free-shift : (f : List Ratio) → square_free plain f k ≡ shift k (square_free plain f 0)
  square_free-shift f = list-shifted (square_free-related (shifting k) (shifting-kept k) (λ i h. tt) none_more (list_same f))

  pub powered-shift : (c : Ratio) (e : ℕ) (acc : Ratio) → powered plain c e acc k ≡ shift k (powered plain c e acc 0)
  powered-shift c e acc = number-shifted (powered-related (shifting k) (shifting-kept k) e none_more refl refl)

  pub ordered-shift : (f : ℕ) (a b : List Ratio) → ordered plain f a b k ≡ shift k (ordered plain f a b 0)
  ordered-shift f a b = number-shifted (ordered-related (shifting k) (shifting-kept k) f none_more (list_same a) (list_same b))

  pub resultant_of-shift : (a b : List Ratio) → resultant_of plain a b k ≡ shift k (resultant_of plain a b 0)
  resultant_of-shift a b = number-shifted (resultant_of-related (shifting k) (shifting-kept k) none_more (list_same a) (list_same b))

  pub discriminant_of-shift : (f : List Ratio) → discriminant_of plain f k ≡ shift k (discriminant_of plain f 0)
  discriminant_of-shift f = number-shifted (discriminant_of-related (shifting k) (shifting-kept k) (λ i h. tt) none_more (list_same f))
