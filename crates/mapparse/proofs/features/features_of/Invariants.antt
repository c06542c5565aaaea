use Rattle.std.proofs.Common.{◌≡◌, ◌++◌, map}
use Rattle.std.specs.Vec.Iter.{into_iter_items}
use Rattle.mapparse.specs.Mapping.{feature_of}
use Rattle.mapparse.proofs.features.features_of.Given as goal

abbrev pub invariant-loop-tree : goal.invariant-loop-tree
invariant-loop-tree l = l.features.items ++ map (feature_of l.count) (into_iter_items l.tree-iterator) ≡ map (feature_of l.count) l.fn.trees.items
