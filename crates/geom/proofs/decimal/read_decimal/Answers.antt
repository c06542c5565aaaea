use Rattle.std.proofs.Common.{sym, ◌∙◌, arith}
use Rattle.geom.proofs.Readings.{decimal-read}
use Rattle.geom.proofs.decimal.read_decimal.Goals as goal

pub returns-then-are_digits : goal.returns-then-are_digits
returns-then-are_digits c =
    decimal-read c.args.text.now c.split_point.result.0.now c.split_point.result.1.now c.mantissa_len.result c.in_ok-exponent.exponent c.millionths.result
    (omega arith) c.mantissa_len.ensures.count c.split_point.ensures.whole c.split_point.ensures.decimals c.in_ok-exponent.ensures
    (sym c.are_digits.ensures ∙ c.if-are_digits.true) c.millionths.ensures
