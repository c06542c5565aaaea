use Rattle.std.proofs.Common.{◌≡◌, ◌∙◌, ◌*◌, arith}
use Rattle.std.proofs.lemmas.Int.{ints}
use lib.IntN.{pos, ◌*ℤ◌}
use Rattle.scaledenom.proofs.Products.{fits, is, product, taken}
use Rattle.scaledenom.proofs.scale.is_share_at_most.Goals as goal

pub overflow_mul-result : goal.overflow_mul-result
overflow_mul-result c =
    let inside = rw c.millionths.ensures at c.millionths.type_inv in
    let times : c.from.result ≡ c.args.times = c.from.ensures ∙ rw c.millionths.ensures (taken c.args.times inside) in
    rw (times, is c.args.times (omega (arith, ints)), c.from-2.ensures, is (pos c.args.width) (omega (arith, ints)))
    (fits (c.args.times *ℤ pos c.args.width) (product c.args.times c.args.width inside c.requires.width))

pub returns : goal.returns
returns c =
    let inside = rw c.millionths.ensures at c.millionths.type_inv in
    let times : c.from.result ≡ c.args.times = c.from.ensures ∙ rw c.millionths.ensures (taken c.args.times inside) in
    rw (
      times,
      is c.args.times (omega (arith, ints)),
      c.from-2.ensures,
      is (pos c.args.width) (omega (arith, ints)),
      is (c.args.times *ℤ pos c.args.width) (product c.args.times c.args.width inside c.requires.width),
      is (pos (c.args.most * 1000000)) (omega (arith, ints)),
    )
