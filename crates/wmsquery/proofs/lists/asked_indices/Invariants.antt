use Rattle.std.proofs.Common.{◌≡◌, ◌<◌, All, length, map, drop}
use Rattle.wmsquery.specs.Values.{asked, indices_of}
use Rattle.wmsquery.proofs.Indices.{found_with}
use Rattle.wmsquery.proofs.lists.asked_indices.Given as goal

abbrev pub invariant-loop-name : goal.invariant-loop-name
invariant-loop-name l =
    (found_with l.found (indices_of (asked l.map (map (λ x. x.now) l.fn.names)) (map (λ x. x.now) (drop l.name-index l.queried)))
    ≡ indices_of (asked l.map (map (λ x. x.now) l.fn.names)) (map (λ x. x.now) l.queried))
    × All (λ index. index < length l.map.layers) l.found
