use Rattle.std.proofs.Common.{◌≡◌, length}
use Rattle.collide.proofs.Bitwise.{AreSetTo}
use Rattle.collide.proofs.bits.set_all.Given as goal

abbrev pub invariant-loop-number : goal.invariant-loop-number
invariant-loop-number l = record {
  count : length l.words ≡ length l.fn.words;
  bits : AreSetTo l.number l.from l.past l.fn.words l.words;
}
