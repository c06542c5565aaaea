-- Chains of vertices: blocks of a part, which may be skipped (docs/developers/WALKS.md, "Blocks of vertices").
use Rattle.std.specs.Prelude.{List, [], ◌∷◌}
use Rattle.std.specs.List.{AllByRecursion}
use Rattle.geom.specs.Device.{DevicePoint}
use Rattle.geom.specs.Edge.{EdgeEnds}
use Rattle.geom.specs.World.{Area, HasPlace, Place}

-- the edges from a vertex over those that follow
abbrev pub chain_edges : DevicePoint → List DevicePoint → List EdgeEnds
chain_edges from [] = []
chain_edges from (to ∷ rest) = record { from = from; to = to } ∷ chain_edges to rest

-- the last vertex of a chain
abbrev pub chain_end : {X : Type 0} → X → List X → X
chain_end from [] = from
chain_end from (to ∷ rest) = chain_end to rest

-- the chord of a chain: the one edge from its first vertex to its last
abbrev pub chord : DevicePoint → List DevicePoint → EdgeEnds
chord from rest = record { from = from; to = chain_end from rest }

-- the box has all vertices of a chain
abbrev pub HasChain : Area → Place → List Place → Type 0
HasChain box from rest = AllByRecursion (HasPlace box) (from ∷ rest)
