use Rattle.std.proofs.Common.{◌≡◌, ◌+◌, ◌≤◌, length, drop}
use Rattle.expressions.specs.Reading.{after_word}
use Rattle.expressions.proofs.word.after_word.Given as goal

abbrev pub invariant-loop-letter : goal.invariant-loop-letter
invariant-loop-letter l = record {
  goes_on : after_word (drop l.letter-index l.word) l.rest ≡ after_word l.word l.text;
  shorter : length l.rest + l.letter-index ≤ length l.text;
}
