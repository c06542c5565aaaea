use Rattle.std.proofs.Common.{◌≡◌, length}
use Rattle.labelcache.specs.Advances.{AreAdvances}
use Rattle.labelcache.proofs.advances.first_advances.Given as goal

-- so many advances are stored
abbrev pub invariant-loop-character : goal.invariant-loop-character
invariant-loop-character l = record {
  count : length l.first.items ≡ l.character;
  same : AreAdvances l.font l.first.items;
}
