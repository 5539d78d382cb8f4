-- `text::write_digits` meets its contract. The measure is the number of digits.
use mathlib.Core.Path.{sym, ap, ◌∙◌}
use mathlib.Core.List.{[], ◌∷◌, ◌++◌}
use Prim.Native.Nat.{ℕ, ◌-◌, ◌/◌, ◌<◌}
use native.Mathlib.Omega.{arith}
use Rattle.text.specs.Spell.{hex_in}
use Rattle.text.proofs.Pages.{lays-none, lays-then, lays-as}
use Rattle.text.proofs.Hex.{hex-none, hex-more}
use borrow.Fn.Kinds.{In}
use borrow.Fn.PlainCycle.{Measures, is, falls, and}
use Rattle.text.proofs.write_digits.Reads as write-digits
use Rattle.text.proofs.write_digits.Kinds as write-digits-kinds
use Rattle.text.proofs.+write_digits.Lts-write_digits as write-digits-lts
use Rattle.text.proofs.hex_digit.Reads as hex-digit-reads
use Rattle.text.proofs.put.Reads as put_reads
use Rattle.text.proofs.+write_digits.{statement}
use Rattle.text.proofs.+write_digits.Tie.{close}

abbrev μ-write-digits : Measures 1 write-digits-kinds.ps ℕ
μ-write-digits κs a = a.0

abbrev write-digits-at : ℕ → In 1 write-digits-kinds.ps
write-digits-at t =
    and 1 write-digits-kinds.ps (is 1 write-digits-kinds.ps μ-write-digits t) write-digits.Pre

abbrev write-digits-below : ℕ → In 1 write-digits-kinds.ps
write-digits-below t =
    and
    1
    write-digits-kinds.ps
    (falls 1 write-digits-kinds.ps ◌<◌ μ-write-digits t)
    write-digits.Pre

write-digits-sub-write-digits : (t : ℕ) → write-digits-lts.Need-overflow_sub-k (
  write-digits-below t,
  write-digits.Post,
  hex-digit-reads.Asked,
  hex-digit-reads.Learnt,
  put_reads.Asked,
  put_reads.Learnt,
) (write-digits-at t) write-digits.Post
write-digits-sub-write-digits t c = omega arith

write-digits-write-digits-requires : (t : ℕ) → write-digits-lts.Need-write_digits-next-requires (
  write-digits-below t,
  write-digits.Post,
  hex-digit-reads.Asked,
  hex-digit-reads.Learnt,
  put_reads.Asked,
  put_reads.Learnt,
) (write-digits-at t) write-digits.Post
write-digits-write-digits-requires t c κs = (omega arith, tt)

write-digits-hex-digit-requires : (t : ℕ) → write-digits-lts.Need-hex_digit-requires (
  write-digits-below t,
  write-digits.Post,
  hex-digit-reads.Asked,
  hex-digit-reads.Learnt,
  put_reads.Asked,
  put_reads.Learnt,
) (write-digits-at t) write-digits.Post
write-digits-hex-digit-requires t c κs = omega arith

write-digits-put-requires : (t : ℕ) → write-digits-lts.Need-put-requires (
  write-digits-below t,
  write-digits.Post,
  hex-digit-reads.Asked,
  hex-digit-reads.Learnt,
  put_reads.Asked,
  put_reads.Learnt,
) (write-digits-at t) write-digits.Post
write-digits-put-requires t c κs = tt

write-digits-returns : (t : ℕ) → write-digits-lts.Need-returns-then-k-eq0 (
  write-digits-below t,
  write-digits.Post,
  hex-digit-reads.Asked,
  hex-digit-reads.Learnt,
  put_reads.Asked,
  put_reads.Learnt,
) (write-digits-at t) write-digits.Post
write-digits-returns t c =
    let s = c.args in
    lays-as _ _ _ _ (sym (ap (λ k. hex_in k s.bits) c.if-k-eq0.true ∙ hex-none s.bits)) (lays-none s.at s.out.now)

write-digits-same-length : (t : ℕ) → write-digits-lts.Need-shape_of-out (
  write-digits-below t,
  write-digits.Post,
  hex-digit-reads.Asked,
  hex-digit-reads.Learnt,
  put_reads.Asked,
  put_reads.Learnt,
) (write-digits-at t) write-digits.Post
write-digits-same-length t c = c.put.auto.out ∙ c.write_digits-next.auto.out

write-digits-returns-2 : (t : ℕ) → write-digits-lts.Need-returns-else-k-eq0 (
  write-digits-below t,
  write-digits.Post,
  hex-digit-reads.Asked,
  hex-digit-reads.Learnt,
  put_reads.Asked,
  put_reads.Learnt,
) (write-digits-at t) write-digits.Post
write-digits-returns-2 t c =
    let w = c in
    let s = w.args in
    lays-as _ _ _ _ (ap (λ d. hex_in (s.k - 1) (s.bits / 16) ++ (d ∷ [])) c.hex_digit.ensures ∙ sym (hex-more s.k s.bits (omega arith)))
    (lays-then _ _ _ _ w.write_digits-next.ensures c.put.ensures)

pub +write_digits_spec : {M : Type 1} → statement M
+write_digits_spec = close μ-write-digits λ t. write-digits-lts.spec (
  write-digits-below t,
  write-digits.Post,
  hex-digit-reads.Asked,
  hex-digit-reads.Learnt,
  put_reads.Asked,
  put_reads.Learnt,
)
    (write-digits-at t)
    write-digits.Post
    (write-digits-sub-write-digits t)
    (write-digits-write-digits-requires t)
    (write-digits-hex-digit-requires t)
    (write-digits-put-requires t)
    (write-digits-returns t)
    (write-digits-same-length t)
    (write-digits-returns-2 t)
