use Rattle.std.proofs.Common.{◌≡◌, ◌++◌, map, zip}
use Rattle.std.specs.Vec.Iter.{into_iter_items}
use Rattle.mapparse.specs.Mapping.{layer_of}
use Rattle.mapparse.specs.Tables.{HaveRoom}
use Rattle.mapparse.proofs.mapping.layers_of.Given as goal

-- the layers so far and those of the trees that are left are all
abbrev pub invariant-loop-tree : goal.invariant-loop-tree
invariant-loop-tree l = record {
  all : l.layers.items ++ map (layer_of l.named) (zip (into_iter_items l.tree-iterator) (into_iter_items l.tables)) ≡ map (layer_of l.named) (zip l.fn.trees.items l.fn.tables.items);
  room : HaveRoom (into_iter_items l.tree-iterator) (into_iter_items l.tables);
}
