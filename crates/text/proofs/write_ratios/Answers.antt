use Rattle.std.proofs.Common.{◌≡◌, length, take, map, ap, ◌∙◌, rules}
use Rattle.text.specs.Spell.{ratio_text, parted, ratios_text}
use Rattle.text.proofs.Pages.{Lays, lays-as, take-min}
use Rattle.text.proofs.write_ratios.Goals as goal

told : (c : goal.After-slice_known-2-1) → Lays (ratios_text (take c.args.len c.args.values)) c.args.at c.args.out.now c.write_words.result c.write_words.new.out
unfolding ratios_text
told c =
    let k : length c.args.values ≡ 32 = search rules in
    lays-as _ _ _ _ (ap (λ l. parted (map ratio_text l)) (ap (λ n. take n c.args.values) c.min.ensures ∙ take-min c.args.len 32 c.args.values k)) (c.write_words.ensures.value, c.write_words.ensures.out_after)

pub returns-clause-is : goal.returns-clause-is
returns-clause-is c = (told c).0

pub returns-clause-page : goal.returns-clause-page
returns-clause-page c = (told c).1
