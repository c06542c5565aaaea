use Rattle.std.proofs.Common.{◌≡◌, map, take}
use Rattle.std.specs.Vec.{vec_items}
use Rattle.geom.specs.EvenOdd.{edges}
use Rattle.scanfill.proofs.polygon.Polygon.new.Given as goal

abbrev pub invariant-loop-ring : goal.invariant-loop-ring
invariant-loop-ring l = l.edges.items ≡ edges (map vec_items (take l.ring-index l.rings))
