use Rattle.std.proofs.Common.{◌≡◌, ◌++◌, drop}
use Rattle.geom.specs.EvenOdd.{ring_edges}
use Rattle.geom.proofs.Rings.{closing_edges}
use Rattle.scanfill.proofs.polygon.push_edges.Given as goal

abbrev pub invariant-loop-to : goal.invariant-loop-to
invariant-loop-to l = l.edges.items ++ closing_edges l.first l.from (drop l.to-index l.rest) ≡ l.fn.edges.items ++ ring_edges l.ring
