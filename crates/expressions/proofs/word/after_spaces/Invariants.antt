use Rattle.std.proofs.Common.{◌≡◌, drop}
use Rattle.expressions.specs.Reading.{after_spaces}
use Rattle.expressions.proofs.word.after_spaces.Given as goal

abbrev pub invariant-loop-at : goal.invariant-loop-at
invariant-loop-at l = after_spaces (drop l.at l.text) ≡ after_spaces l.text
