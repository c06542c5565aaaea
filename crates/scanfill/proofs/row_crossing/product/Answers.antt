use Rattle.std.proofs.Common.{◌≡◌, ◌^◌, arith}
use Rattle.std.proofs.lemmas.Int.{ints}
use Rattle.scanfill.proofs.Words.{product-below, product-fits, product-is}
use Rattle.scanfill.proofs.row_crossing.product.Goals as goal

pub returns-clause-value : goal.returns-clause-value
returns-clause-value c =
    let same : c.from.result ≡ c.args.b = omega (arith, ints, c.from.ensures) in
    rw same (product-is (2 ^ 48) (2 ^ 48) c.args.a c.args.b (omega arith) (omega arith) (omega arith) c.requires.a c.requires.b)

pub returns-clause-range : goal.returns-clause-range
returns-clause-range c =
    let same : c.from.result ≡ c.args.b = omega (arith, ints, c.from.ensures) in
    rw (same, product-is (2 ^ 48) (2 ^ 48) c.args.a c.args.b (omega arith) (omega arith) (omega arith) c.requires.a c.requires.b)
    (product-below (2 ^ 48) (2 ^ 48) c.args.a c.args.b c.requires.a c.requires.b)

pub overflow_mul-result : goal.overflow_mul-result
overflow_mul-result c =
    let same : c.from.result ≡ c.args.b = omega (arith, ints, c.from.ensures) in
    rw same (product-fits (2 ^ 48) (2 ^ 48) c.args.a c.args.b (omega arith) (omega arith) (omega arith) c.requires.a c.requires.b)
