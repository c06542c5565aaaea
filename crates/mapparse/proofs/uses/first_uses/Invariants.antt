use Rattle.std.proofs.Common.{◌≡◌, drop, map}
use Rattle.maptree.specs.declared.tree.UsedFile.{UsedFile}
use Rattle.mapparse.specs.Uses.{first_uses, uses_after}
use Rattle.mapparse.proofs.uses.first_uses.Given as goal

abbrev pub invariant-loop-used : goal.invariant-loop-used
invariant-loop-used l = uses_after l.firsts.items (map (λ (used : UsedFile). used.file) (drop l.used-index l.all)) ≡ first_uses l.tree
