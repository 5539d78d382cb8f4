-- Document 01's figures in the table hold: each by computing the definitions, floats too; the listings of 1 and 2 by the law that they end at the root.
use mathlib.Core.Path.{◌≡◌, refl}
use mathlib.Core.List.{[], ◌∷◌}
use native.Mathlib.Omega.{arith}
use lib.IntN.{pos, negsuc}
use Rattle.ratio.specs.Step.{add_of, sub_of, mul_of, neg_of, inv_of, new_of, cmp_of, lowest}
use Rattle.ratio.specs.Gcd as G
use Rattle.divisors.specs.Listing.{list_from, factors_of}
use Rattle.divisors.specs.Marks.{listing_of}
use Rattle.terms.specs.Poly.{drop_top}
use Rattle.terms.specs.Work.{each, zipped, scaled, derived, rowed, valued}
use Rattle.terms.specs.Answer.{negated_of}
use Rattle.poly.specs.Door.{all_lowest, all_unused}
use Rattle.remainders.specs.Divide.{quotients, divided}
use Rattle.remainders.specs.Gcd.{monic, gcd_by, gcd_of, square_free}
use Rattle.remainders.specs.Resultant.{powered, ordered, resultant_of, discriminant_of}
use Rattle.remainders.specs.Answer.{divided_of}
use Rattle.search.specs.Clear.{widened, multiple_from, cleared_one, cleared_by}
use Rattle.search.specs.Strip.{zeros}
use Rattle.search.specs.Keep.{placed, inserted}
use Rattle.search.specs.Try.{try_one, try_row, try_all}
use Rattle.search.specs.Answer.{searched_in, roots_for}
use Rattle.roots.specs.Content.{content_from}
use Rattle.roots.proofs.Listed.{factors-upto}
use Rattle.yun.specs.Got.{parts_of}
use Rattle.yun.specs.Round.{pushed, ended, factor_of, cut_by, met, turn_of}
use Rattle.yun.specs.Yun.{rounds, split_by, split_of, square_frees}
use Rattle.splitting.specs.Peel.{added}
use Rattle.splitting.specs.Split.{split_onto, split_all}
use Rattle.factor.specs.Factors.{split_parts}
use lib.Ieee.{of_bits, neg, of_int, add, sub, mul, div, lt, le, eq}
use Rattle.bridge.specs.Value.{value_of}
use Rattle.chain.specs.Next.{next_of}
use Rattle.chain.specs.Sequence.{behind, sequence_of}
use Rattle.sturm.specs.Value.{horner}
use Rattle.sturm.specs.Sign.{sign_of}
use Rattle.sturm.specs.Changes.{kept, neighbours, changes}
use Rattle.bisect.specs.Cut.{cut_of}
use Rattle.bisect.specs.Bisect.{inner_of, bisect_of}
use Rattle.isolate.specs.Isolate.{isolate_from, isolate_for}
use Rattle.isolate.specs.Answer.{refused_for}
use Rattle.ratio.specs.declared.Reason.TheVariants.{TooDeep}
use Rattle.sturm.specs.Count.{farthest}
use Rattle.figures.specs.Figures.{Figures, square, millionth}

factors-1 : factors_of 1 ≡ pos 1 ∷ negsuc 0 ∷ []
unfolding list_from
factors-1 = factors-upto 0 1 (omega arith) (omega arith)

factors-2 : factors_of 2 ≡ pos 1 ∷ negsuc 0 ∷ pos 2 ∷ negsuc 1 ∷ []
unfolding list_from
factors-2 = factors-upto 1 1 (omega arith) (omega arith)

too-deep : isolate_for (square (pos 2) (negsuc 2) (pos 1)) (neg farthest) farthest millionth ≡ refused_for TooDeep
unfolding add_of sub_of mul_of neg_of inv_of lowest G.gcd_of G.gcd_by drop_top each scaled derived rowed negated_of all_lowest all_unused quotients divided monic gcd_by gcd_of square_free parts_of of_bits neg of_int add sub mul div lt le eq value_of next_of behind sequence_of horner sign_of kept neighbours changes cut_of inner_of bisect_of isolate_from
too-deep = refl

pub proved : Figures
unfolding add_of sub_of mul_of neg_of inv_of new_of cmp_of lowest G.gcd_of G.gcd_by drop_top each zipped scaled derived rowed valued negated_of all_lowest all_unused quotients divided monic gcd_by gcd_of powered ordered resultant_of discriminant_of divided_of listing_of widened multiple_from cleared_one cleared_by zeros placed inserted try_one try_row try_all searched_in roots_for content_from parts_of pushed ended factor_of cut_by met turn_of rounds split_by split_of square_frees added split_onto split_all split_parts
proved = record {
  gcd-steps = refl;
  gcd-quote = refl;
  gcd-one = refl;
  gcd-one-quote = refl;
  resultant-one = refl;
  resultant-one-quote = refl;
  discriminant-square = refl;
  discriminant-constant = refl;
  sum-too-large = refl;
  zero_by_zero = refl;
  gcd-of-zeros = refl;
  roots-cubic = rw factors-2;
  roots-with-zero = rw factors-1;
  factor-linear = refl;
  isolate-deep = too-deep;
}
