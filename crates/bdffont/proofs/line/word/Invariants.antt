use Rattle.std.proofs.Common.{◌≡◌, drop}
use Rattle.bdffont.specs.Words.{words}
use Rattle.bdffont.proofs.line.word.Given as goal

abbrev pub invariant-loop : goal.invariant-loop
invariant-loop l = words l.rest ≡ drop l.counter (words l.line)
