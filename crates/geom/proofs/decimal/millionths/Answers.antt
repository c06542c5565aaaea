use Rattle.std.proofs.Common.{arith, ◌+◌, ◌++◌, length, take_all, length-append}
use Rattle.geom.proofs.Caps.{scaled-zeros}
use Rattle.geom.proofs.decimal.millionths.Goals as goal

pub returns : goal.returns
returns c =
    let digits = c.args.whole.now ++ c.args.decimals.now in
    rw (
      c.with_zeros.ensures,
      c.first_digits-number.ensures,
      take_all (length c.args.whole.now + length c.args.decimals.now) digits (omega (arith, length-append c.args.whole.now c.args.decimals.now)),
      c.from-up.ensures,
      c.from.ensures,
    )
    (scaled-zeros digits (c.args.exponent.up + 6) (length c.args.decimals.now + c.args.exponent.down) (omega arith))
