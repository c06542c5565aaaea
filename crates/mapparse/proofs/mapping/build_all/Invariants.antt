use Rattle.std.proofs.Common.{◌≡◌, ◌++◌, map}
use Rattle.std.specs.Vec.Iter.{into_iter_items}
use Rattle.mapparse.proofs.mapping.build_all.Given as goal

abbrev pub invariant-loop-tree : goal.invariant-loop-tree
invariant-loop-tree g l = l.parts.items ++ map (g.T.Build.part l.named) (into_iter_items l.tree-iterator) ≡ map (g.T.Build.part l.named) l.fn.trees.items
