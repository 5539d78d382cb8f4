-- Answers by example: document 01's own, a refused job, a division by zero, factors with a content.
use Rattle.std.specs.Prelude.{Ok}
use mathlib.Core.Path.{◌≡◌, refl}
use mathlib.Core.List.{[], ◌∷◌}
use lib.IntN.{pos, negsuc}
use Rattle.ratio.specs.Refusal.{zero_r, no_refusal}
use Rattle.ratio.specs.declared.Ratio.{Ratio}
use Rattle.ratio.specs.declared.Reason.TheVariants.{DivByZero, Malformed}
use Rattle.terms.specs.Machine.{whole_r}
use Rattle.terms.specs.Poly.{poly_of}
use Rattle.terms.specs.Answer.{done_with}
use Rattle.remainders.specs.Answer.{no_division}
use Rattle.yun.specs.Round.{piece}
use Rattle.text.specs.Ascii.{bytes}
use Rattle.text.specs.Spell.{decimal_in, decimal_of, whole_text, ratio_text, spaced, parted, ratios_text, poly_text}
use Rattle.ops.specs.declared.Op.TheVariants.{Divide, Gcd, Factor, Unknown}
use Rattle.ops.specs.Op.{name_of}
use Rattle.reply.specs.Reply.{reply_text, steps_text, refusal_text}
use Rattle.reply.specs.Results.{answer_text, division_text, piece_text, pieces_text, factors_text}

gcd-shown : answer_text Gcd (done_with (poly_of (whole_r (negsuc 0) ∷ whole_r (pos 1) ∷ [])) 19) ≡ bytes "op=gcd\nstatus=0\nout=-1 1\nrest=\nsteps=19\n"
unfolding reply_text steps_text name_of decimal_in decimal_of whole_text ratio_text spaced parted ratios_text poly_text
gcd-shown = refl

refusal-shown : refusal_text Unknown (Malformed 0) ≡ bytes "op=?\nstatus=5\nout=\nrest=\nsteps=\n"
unfolding reply_text steps_text name_of decimal_in decimal_of
refusal-shown = refl

division-shown : division_text Divide (no_division DivByZero 0) ≡ bytes "op=divide\nstatus=3\nout=\nrest=\nsteps=0\n"
unfolding reply_text steps_text name_of decimal_in decimal_of
division-shown = refl

half : Ratio
half = record { num = pos 1; den = pos 2 }

factors-shown : factors_text Factor (record { outcome = no_refusal; content = half; pieces = piece (zero_r ∷ whole_r (pos 1) ∷ []) 2 ∷ piece (half ∷ whole_r (pos 1) ∷ []) 1 ∷ []; len = 2 }) ≡ bytes "op=factor\nstatus=0\nout=1/2 ; 0 1 ^ 2 ; 1/2 1 ^ 1\nrest=\nsteps=\n"
unfolding half reply_text steps_text name_of decimal_in decimal_of whole_text ratio_text spaced parted ratios_text poly_text piece_text pieces_text
factors-shown = refl
