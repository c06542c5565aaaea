use Rattle.std.proofs.Common.{◌≡◌, ◌≤◌, drop}
use Rattle.std.specs.List.{fold, list_all}
use Rattle.std.specs.Char.{is_ascii_digit}
use Rattle.geom.specs.Decimal.{with_digit, number_of}
use Rattle.geom.specs.Natural.{up_to}
use Rattle.geom.proofs.natural.read_digits.Given as goal

abbrev pub invariant-loop-digit : goal.invariant-loop-digit
invariant-loop-digit l = record {
  within : l.number ≤ l.most;
  same : up_to l.most (fold with_digit l.number (drop l.digit-index l.digits)) ≡ up_to l.most (number_of l.digits);
  digits : list_all is_ascii_digit (drop l.digit-index l.digits) ≡ list_all is_ascii_digit l.digits;
}
