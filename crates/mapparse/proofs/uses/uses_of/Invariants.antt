use Rattle.std.proofs.Common.{◌≡◌, ◌++◌, map}
use Rattle.std.specs.Vec.Iter.{into_iter_items}
use Rattle.mapwords.specs.declared.named.Named.{Named}
use Rattle.mapparse.specs.Uses.{uses_of}
use Rattle.mapparse.proofs.uses.uses_of.Given as goal

abbrev pub invariant-loop-file : goal.invariant-loop-file
invariant-loop-file l = l.names.items ++ map (λ (file : Named). file.text) (into_iter_items l.file-iterator) ≡ uses_of l.tree
