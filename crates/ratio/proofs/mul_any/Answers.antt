use Rattle.std.proofs.Common.{◌≡◌, true, Ok, ap, ap₂, ◌∙◌, rules}
use Rattle.ratio.specs.Step.{is_fraction, lowest}
use Rattle.ratio.proofs.Fractions.{fraction-of, product-fraction, got-mul}
use Rattle.ratio.proofs.Models.{mul-yes}
use Rattle.ratio.proofs.mul_any.Goals as goal

pub reduce-requires : goal.reduce-requires
reduce-requires c =
    let a = c.args.a in
    let b = c.args.b in
    let fa = fraction-of a (search rules) in
    let fb = fraction-of b (search rules) in
    let n = got-mul a.num b.num _ fa.num-within fb.num-within c.in_ok-n.ensures in
    let d = got-mul a.den b.den _ fa.den-within fb.den-within c.in_ok-d.ensures in
    rw (n.read, d.read) (product-fraction a b _ fa fb n.fit d.fit)

pub returns : goal.returns
returns c =
    let a = c.args.a in
    let b = c.args.b in
    let ta : is_fraction a ≡ true = search rules in
    let tb : is_fraction b ≡ true = search rules in
    let fa = fraction-of a ta in
    let fb = fraction-of b tb in
    let n = got-mul a.num b.num _ fa.num-within fb.num-within c.in_ok-n.ensures in
    let d = got-mul a.den b.den _ fa.den-within fb.den-within c.in_ok-d.ensures in
    ap Ok (c.reduce.ensures ∙ ap₂ lowest n.read d.read) ∙ mul-yes _ _ ta tb n.test d.test
