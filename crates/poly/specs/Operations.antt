-- Document 01, module 3: what each public operation answers: the door first, then the work.
use Rattle.ratio.specs.declared.Reason.{Reason}
use Rattle.std.specs.Prelude.{List, [], ◌∷◌, ◌++◌, ℕ, zero, suc, ◌+◌, ◌-◌, ◌*◌, ltb, pos, length, get_or, replicate, Result, Ok, Err, Option, Some, None, Bool, true, false}
use Rattle.ratio.specs.Refusal.{zero_r, Outcome}
use Rattle.ratio.specs.declared.Ratio.{Ratio}
use Rattle.terms.specs.declared.Poly.{Poly}
use Rattle.terms.specs.declared.Answer.{Answer}
use Rattle.terms.specs.Poly.{terms_of, poly_of, trim}
use Rattle.terms.specs.Machine.{plus, minus, plain, whole_r}
use Rattle.terms.specs.Work.{zipped, scaled, derived}
use Rattle.terms.specs.Answer.{done_with, refused_with, answer_of, negated_of, product_of, value_of}
use Rattle.poly.specs.declared.Gate.{Gate}
use Rattle.poly.specs.declared.Gate.TheVariants.{Open}
use Rattle.poly.specs.Door.{door_of, door_of_ratio, both, long_if, entered, enter, enter_step}

abbrev pub constant_of : Ratio → Answer
constant_of c = enter (door_of_ratio c) (done_with (poly_of (trim (c ∷ []))) 0)

-- x to the power of the degree
abbrev pub monomial_of : ℕ → Answer
monomial_of n = enter (long_if (ltb 31 n) Open) (done_with (poly_of (replicate n zero_r ++ (whole_r (pos 1) ∷ []))) 0)

abbrev pub exponent : List Ratio → Option ℕ
exponent [] = None
exponent (a ∷ l) = Some (length l)

abbrev pub degree_of : Poly → Result (Option ℕ) Reason
degree_of p = entered Err (door_of p) (Ok (exponent (terms_of p)))

abbrev pub empty : List Ratio → Bool
empty [] = true
empty (a ∷ l) = false

abbrev pub is_zero_of : Poly → Result Bool Reason
is_zero_of p = entered Err (door_of p) (Ok (empty (terms_of p)))

abbrev pub lead_of : Poly → Result Ratio Reason
lead_of p = enter_step (door_of p) (Ok (get_or (terms_of p) (length (terms_of p) - 1) zero_r))

abbrev pub add_of : Poly → Poly → Answer
add_of a b = enter (both (door_of a) (door_of b)) (answer_of (zipped plain plus (terms_of a) (terms_of b) 0))

abbrev pub sub_of : Poly → Poly → Answer
sub_of a b = enter (both (door_of a) (door_of b)) (answer_of (zipped plain minus (terms_of a) (terms_of b) 0))

abbrev pub mul_of : Poly → Poly → Answer
mul_of a b = enter (both (door_of a) (door_of b)) (product_of (terms_of a) (terms_of b))

abbrev pub scale_of : Poly → Ratio → Answer
scale_of p c = enter (both (door_of p) (door_of_ratio c)) (answer_of (scaled plain (terms_of p) c 0))

abbrev pub neg_of : Poly → Answer
neg_of p = enter (door_of p) (answer_of (negated_of (terms_of p)))

abbrev pub diff_of : Poly → Answer
diff_of p = enter (door_of p) (answer_of (derived plain (terms_of p) 0))

abbrev pub eval_of : Poly → Ratio → Result Ratio Reason
eval_of p x = enter_step (both (door_of p) (door_of_ratio x)) (value_of (terms_of p) x)

abbrev pub on_done : Outcome → Answer → ℕ → Answer
on_done (Ok _) next k = next
on_done (Err why) next k = refused_with why k

-- acc times aⁿ, one product at a time
unfoldable pub powered : List Ratio → ℕ → Poly → ℕ → Answer
powered a zero acc steps = done_with acc steps
powered a (suc n) acc steps =
    let r = product_of (terms_of acc) a in
    on_done r.outcome (powered a n r.poly (steps + r.steps)) (steps + r.steps)

-- from 1; so the power 0 is 1, also of zero
abbrev pub power_from : List Ratio → ℕ → Answer
power_from a n = powered a n (poly_of (whole_r (pos 1) ∷ [])) 0

-- an exponent over 200, or a degree over 31 (degree times exponent), is 4
abbrev pub power_door : List Ratio → ℕ → Gate
power_door a n = long_if (ltb 200 n) (long_if (ltb 31 ((length a - 1) * n)) Open)

abbrev pub pow_of : Poly → ℕ → Answer
pow_of p n = enter (both (door_of p) (power_door (terms_of p) n)) (power_from (terms_of p) n)
