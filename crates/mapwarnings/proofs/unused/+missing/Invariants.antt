use Rattle.std.proofs.Common.{◌≡◌, drop}
use Rattle.std.specs.List.{list_any}
use Rattle.mapwarnings.specs.Unused.{lacks_in}
use Rattle.mapwarnings.proofs.unused.+missing.Given as goal

abbrev pub invariant-lacks_in_some-loop-part : goal.invariant-lacks_in_some-loop-part
invariant-lacks_in_some-loop-part l = list_any (lacks_in l.items) (drop l.part-index l.parts) ≡ list_any (lacks_in l.items) l.parts
