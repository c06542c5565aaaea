use Rattle.std.proofs.Common.{◌≡◌, take}
use Rattle.std.specs.List.{fold}
use Rattle.geom.specs.Capped.{capped}
use Rattle.geom.specs.Decimal.{with_digit}
use Rattle.geom.proofs.decimal.with_digits.Given as goal

abbrev pub invariant-loop-digit : goal.invariant-loop-digit
invariant-loop-digit l = l.number ≡ capped (fold with_digit l.before (take l.digit-index l.digits))
