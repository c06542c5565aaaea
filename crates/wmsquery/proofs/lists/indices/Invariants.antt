use Rattle.std.proofs.Common.{◌≡◌, ◌<◌, All, length, map, drop}
use Rattle.wmsquery.specs.Values.{defined, indices_of}
use Rattle.wmsquery.proofs.Indices.{found_with}
use Rattle.wmsquery.proofs.lists.indices.Given as goal

abbrev pub invariant-loop-name : goal.invariant-loop-name
invariant-loop-name l =
    (found_with l.found (indices_of (defined l.map) (map (λ x. x.now) (drop l.name-index l.names)))
    ≡ indices_of (defined l.map) (map (λ x. x.now) l.names))
    × All (λ index. index < length l.map.layers) l.found
