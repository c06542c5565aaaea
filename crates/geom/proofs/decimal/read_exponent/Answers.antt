use Rattle.std.proofs.Common.{◌∙◌, ap}
use Rattle.std.specs.Option.{option_map}
use Rattle.geom.specs.Capped.{capped_exponent}
use Rattle.geom.proofs.Readings.{exponent-after, exponent-none}
use Rattle.geom.proofs.decimal.read_exponent.Goals as goal

pub returns-then-letter-text : goal.returns-then-letter-text
returns-then-letter-text c =
    c.read_power.ensures
    ∙ ap (option_map capped_exponent) (exponent-after c.args.text.now c.mantissa_len-letter.result c.mantissa_len-letter.ensures.count c.if-letter-text.true)

pub returns-else-letter-text : goal.returns-else-letter-text
returns-else-letter-text c = exponent-none c.args.text.now c.mantissa_len-letter.result c.mantissa_len-letter.ensures.count c.if-letter-text.false
