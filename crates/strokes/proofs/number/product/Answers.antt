use Rattle.std.proofs.Common.{◌≡◌, ◌^◌, arith}
use Rattle.std.proofs.lemmas.Int.{ints}
use Rattle.scanfill.proofs.Words.{product-is, product-below}
use Rattle.strokes.proofs.number.product.Goals as goal

pub returns-clause-range : goal.returns-clause-range
returns-clause-range c =
    let a : c.from.result ≡ c.args.a = omega (arith, ints, c.from.ensures) in
    let b : c.from-2.result ≡ c.args.b = omega (arith, ints, c.from-2.ensures) in
    rw (a, b, product-is (2 ^ 48) (2 ^ 48) c.args.a c.args.b (omega arith) (omega arith) (omega arith) c.requires.a c.requires.b)
    (product-below (2 ^ 48) (2 ^ 48) c.args.a c.args.b c.requires.a c.requires.b)
