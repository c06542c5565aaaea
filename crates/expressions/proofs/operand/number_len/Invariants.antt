use Rattle.std.proofs.Common.{◌≡◌, ◌+◌, drop}
use Rattle.expressions.specs.Reading.{number_len}
use Rattle.expressions.proofs.operand.number_len.Given as goal

abbrev pub invariant-loop-at : goal.invariant-loop-at
invariant-loop-at l = l.at + number_len (drop l.at l.text) ≡ number_len l.text
