-- `text::write_decimal` meets its contract. The measure is the number itself.
use mathlib.Core.Path.{sym}
use native.Mathlib.Omega.{arith}
use Rattle.text.proofs.Pages.{lays-then, lays-as}
use Rattle.text.proofs.Decimal.{decimal-one, decimal-more}
use Rattle.text.proofs.+write_decimal.Goals as goal

pub write_decimal-next-requires : goal.write_decimal-next-requires
write_decimal-next-requires t c = (omega arith, tt)

pub returns-then-n-lt10 : goal.returns-then-n-lt10
returns-then-n-lt10 t c =
    let r = lays-as _ _ _ _ (sym (decimal-one c.args.n (omega arith))) (c.put.ensures.is, c.put.ensures.page) in
    record { is = r.0; page = r.1 }

pub returns-else-n-lt10 : goal.returns-else-n-lt10
returns-else-n-lt10 t c =
    let r = lays-as _ _ _ _ (sym (decimal-more c.args.n (omega arith) (omega arith))) (lays-then _ _ _ _ (c.write_decimal-next.ensures.is, c.write_decimal-next.ensures.page) (c.put-else-n-lt10.ensures.is, c.put-else-n-lt10.ensures.page)) in
    record { is = r.0; page = r.1 }
