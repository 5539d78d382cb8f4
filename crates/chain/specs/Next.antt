-- Document 01, module 6: one link of the chain: the remainder of a by b, negated.
use Rattle.std.specs.Prelude.{List}
use Rattle.ratio.specs.declared.Ratio.{Ratio}
use Rattle.terms.specs.Answer.{negated_of}
use Rattle.yun.specs.Got.{Got, then_got, list_from, parts_of}

unfoldable pub next_of : List Ratio → List Ratio → Got (List Ratio)
next_of a b = then_got (parts_of a b) (λ s. list_from (negated_of s.rest))
