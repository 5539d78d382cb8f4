-- A denominator counted up as a float is the float of the denominator: whole numbers up to 2 ^ 53 are added without rounding.
use Rattle.std.proofs.Common.{◌≡◌, ℕ, ◌+◌, ◌*◌, ◌≤◌, true, false, pos, refl, ap, ◌∙◌, true≢false, zero-lt-suc, mul-pos, arith}
use lib.Ieee.{Float, nan, inf, fin, Format, binary64, up, down, round, add, sum, of_int, of_bits}
use lib.Ieee.Fits.{down_pos}
use lib.Ieee.Exact.{HasValue}
use lib.Ieee.Scale.{round_same}
use lib.Ieee.Back.{round_whole}
use Rattle.bridge.specs.Promise.{exact}

summed : (m g n e a b : ℕ) → m * 1 ≡ a * e → n * 1 ≡ b * g → (m * g + n * e) * 1 ≡ (a + b) * (e * g)
summed m g n e a b p q = omega (arith, ap (λ (z : ℕ). z * g) p, ap (λ (z : ℕ). z * e) q)

pub add_at : (f : Format) (x y : Float) (a b : ℕ) → HasValue x false a 1 → HasValue y false b 1 → add f x y ≡ round f false (a + b) 1
unfolding add sum
add_at f nan y a b h k = absurd h
add_at f (inf s) y a b h k = absurd h
add_at f (fin s m e) nan a b h k = absurd k
add_at f (fin s m e) (inf t) a b h k = absurd k
add_at f (fin true m e) (fin t n d) a b h k = absurd (true≢false h.0)
add_at f (fin false m e) (fin true n d) a b h k = absurd (true≢false k.0)
add_at f (fin false m e) (fin false n d) a b h k =
    round_same f false (m * up e * down d + n * up d * down e) (down e * down d) (a + b) 1 (mul-pos (down_pos e) (down_pos d)) (zero-lt-suc 0)
    (summed (m * up e) (down d) (n * up d) (down e) a b h.1 k.1)

-- 1.0 as MIR has it
abbrev one : Float
one = of_bits binary64 0x3ff0_0000_0000_0000

pub starts : one ≡ of_int binary64 (pos 1)
unfolding of_bits of_int round
starts = refl

pub counted : (d : ℕ) (x : Float) → d ≤ exact → x ≡ of_int binary64 (pos d) → add binary64 x one ≡ of_int binary64 (pos (d + 1))
unfolding of_int
counted d x h e =
    ap (λ (z : Float). add binary64 z one) e
    ∙ ap (add binary64 (round binary64 false d 1)) starts
    ∙ add_at binary64 (round binary64 false d 1) (round binary64 false 1 1) d 1 (round_whole binary64 false d h) (round_whole binary64 false 1 (omega arith))
