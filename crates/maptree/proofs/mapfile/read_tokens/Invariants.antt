use Rattle.std.proofs.Common.{◌≡◌, length}
use Rattle.maptree.specs.Answer.{answer}
use Rattle.maptree.proofs.mapfile.read_tokens.Given as goal

abbrev pub invariant-loop-token : goal.invariant-loop-token
invariant-loop-token l = answer l.reader l.tokens.tokens l.tokens.tail ≡ answer l.fn.reader l.fn.tokens.tokens l.fn.tokens.tail

abbrev pub decreases-loop-token : goal.decreases-loop-token
decreases-loop-token l = length l.tokens.tokens
