-- Rings as their edges, one after another.
use Rattle.std.proofs.Common.{◌≡◌, List, [], ◌∷◌, ◌++◌, map, refl, ap}
use Rattle.std.specs.List.{zip}
use Rattle.geom.specs.Device.{DevicePoint}
use Rattle.geom.specs.Edge.{EdgeEnds}
use Rattle.geom.specs.EvenOdd.{edge_between, ring_edges}

-- the edges from a vertex over those that follow, and back to the first one
abbrev pub closing_edges : DevicePoint → DevicePoint → List DevicePoint → List EdgeEnds
closing_edges first from [] = record { from = from; to = first } ∷ []
closing_edges first from (to ∷ rest) = record { from = from; to = to } ∷ closing_edges first to rest

-- they are those between neighbours in the list that goes on with the first one
pub zip-closing : (first from : DevicePoint) (rest : List DevicePoint) →
    map edge_between (zip (from ∷ rest) (rest ++ first ∷ [])) ≡ closing_edges first from rest
zip-closing first from [] = refl
zip-closing first from (to ∷ rest) = ap (λ more. record { from = from; to = to } ∷ more) (zip-closing first to rest)

-- the edges of a ring are those from its first vertex on
pub ring_edges-closing : (ring : List DevicePoint) (first : DevicePoint) (rest : List DevicePoint) → ring ≡ first ∷ rest →
    ring_edges ring ≡ closing_edges first first rest
ring_edges-closing ring first rest e = rw e (zip-closing first first rest)
