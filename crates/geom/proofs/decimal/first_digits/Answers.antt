use Rattle.std.proofs.Common.{◌∙◌, ap, ◌-◌, take}
use Rattle.std.specs.List.{fold}
use Rattle.geom.specs.Capped.{capped}
use Rattle.geom.specs.Decimal.{with_digit}
use Rattle.geom.proofs.Caps.{first-capped}
use Rattle.geom.proofs.decimal.first_digits.Goals as goal

pub returns : goal.returns
returns c =
    c.with_digits.ensures
    ∙ ap (λ n. capped (fold with_digit n (take (c.args.count - c.min-before.result) c.args.decimals.now))) c.with_digits-number.ensures
    ∙ first-capped c.args.whole.now c.args.decimals.now c.args.count c.min-before.result c.min-before.ensures
