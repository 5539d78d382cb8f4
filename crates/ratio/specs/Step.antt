-- Document 01, module 1: what each rational step answers. Every intermediate has to fit before reduction; nothing is reduced crosswise.
use Rattle.std.specs.declared.cmp.Ordering.{Ordering}
use Rattle.std.specs.Prelude.{Bool, true, false, not, ◌&&◌, ℕ, ◌/◌, eqb, ℤ, pos, neg_ℤ, nat_abs, ◌+ℤ◌, ◌-ℤ◌, ◌*ℤ◌, Result, Ok}
use Rattle.std.specs.Int.Signed.{lt_z}
use Rattle.std.specs.Ordering.{int_cmp}
use Rattle.ratio.specs.declared.Ratio.{Ratio}
use Rattle.ratio.specs.declared.Reason.{Reason}
use Rattle.ratio.specs.declared.Reason.TheVariants.{CoeffOverflow, DivByZero, BadInput}
use Rattle.ratio.specs.Range.{within, need}
use Rattle.ratio.specs.Gcd.{gcd_of}

abbrev pub is_nil : ℤ → Bool
is_nil z = eqb (nat_abs z) 0

-- what a step takes as a fraction: both entries within the range, the denominator not zero
abbrev pub is_fraction : Ratio → Bool
is_fraction r = within r.num && (within r.den && not (is_nil r.den))

-- a whole number of a sign and a size
abbrev pub signed : Bool → ℕ → ℤ
signed true m = neg_ℤ (pos m)
signed false m = pos m

abbrev pub differ : Bool → Bool → Bool
differ true b = not b
differ false b = b

-- `Ratio::new`: lowest terms, the sign in the numerator, zero is 0/1
unfoldable pub lowest : ℤ → ℤ → Ratio
lowest n d = record {
  num = signed (differ (lt_z n (pos 0)) (lt_z d (pos 0))) (nat_abs n / gcd_of (nat_abs n) (nat_abs d));
  den = pos (nat_abs d / gcd_of (nat_abs n) (nat_abs d));
}

unfoldable pub new_of : ℤ → ℤ → Result Ratio Reason
new_of n d = need (is_fraction (record { num = n; den = d })) BadInput (Ok (lowest n d))

-- n / d, where each of four intermediates fits
abbrev pub reduced : ℤ → ℤ → ℤ → ℤ → Result Ratio Reason
reduced left right n d =
    need (within left) CoeffOverflow
    (need (within right) CoeffOverflow
    (need (within n) CoeffOverflow
    (need (within d) CoeffOverflow
    (Ok (lowest n d)))))

unfoldable pub add_of : Ratio → Ratio → Result Ratio Reason
add_of a b =
    need (is_fraction a) BadInput
    (need (is_fraction b) BadInput
    (reduced (a.num *ℤ b.den) (b.num *ℤ a.den) (a.num *ℤ b.den +ℤ b.num *ℤ a.den) (a.den *ℤ b.den)))

unfoldable pub sub_of : Ratio → Ratio → Result Ratio Reason
sub_of a b =
    need (is_fraction a) BadInput
    (need (is_fraction b) BadInput
    (reduced (a.num *ℤ b.den) (b.num *ℤ a.den) (a.num *ℤ b.den -ℤ b.num *ℤ a.den) (a.den *ℤ b.den)))

unfoldable pub mul_of : Ratio → Ratio → Result Ratio Reason
mul_of a b =
    need (is_fraction a) BadInput
    (need (is_fraction b) BadInput
    (need (within (a.num *ℤ b.num)) CoeffOverflow
    (need (within (a.den *ℤ b.den)) CoeffOverflow
    (Ok (lowest (a.num *ℤ b.num) (a.den *ℤ b.den))))))

unfoldable pub neg_of : Ratio → Result Ratio Reason
neg_of a = need (is_fraction a) BadInput (Ok (lowest (neg_ℤ a.num) a.den))

-- the inverse; zero has none
unfoldable pub inv_of : Ratio → Result Ratio Reason
inv_of a = need (is_fraction a) BadInput (need (not (is_nil a.num)) DivByZero (Ok (lowest a.den a.num)))

-- the numerator of n / d where the denominator is made positive
abbrev pub facing : ℤ → ℤ → ℤ
facing n d = signed (differ (lt_z n (pos 0)) (lt_z d (pos 0))) (nat_abs n)

-- by cross products with the denominators' sizes
unfoldable pub cmp_of : Ratio → Ratio → Result Ordering Reason
cmp_of a b =
    need (is_fraction a) BadInput
    (need (is_fraction b) BadInput
    (Ok (int_cmp (facing a.num a.den *ℤ pos (nat_abs b.den)) (facing b.num b.den *ℤ pos (nat_abs a.den)))))

-- lowest terms with the denominator above zero
abbrev pub is_lowest : Ratio → Bool
is_lowest r = is_fraction r && (not (lt_z r.den (pos 0)) && eqb (gcd_of (nat_abs r.num) (nat_abs r.den)) 1)
