-- The segments of a part, one after another.
use Rattle.std.proofs.Common.{◌≡◌, ◌∙◌, Bool, true, false, if◌then◌else◌, List, [], ◌∷◌, map, refl, ap}
use Rattle.std.specs.List.{zip}
use Rattle.geom.specs.Device.{DevicePoint}
use Rattle.geom.specs.Edge.{EdgeEnds}
use Rattle.geom.specs.EvenOdd.{edge_between}
use Rattle.geom.proofs.Rings.{closing_edges, ring_edges-closing}
use Rattle.strokes.specs.Line.{edges_of}
use Rattle.strokes.specs.Round.{point_edge, round_edges}

-- the segments from a vertex over those that follow, and where the line is closed back to the first one
abbrev pub following : Bool → DevicePoint → DevicePoint → List DevicePoint → List EdgeEnds
following closed first from [] = if closed then record { from = from; to = first } ∷ [] else []
following closed first from (to ∷ rest) = record { from = from; to = to } ∷ following closed first to rest

closing-following : (first from : DevicePoint) (rest : List DevicePoint) → closing_edges first from rest ≡ following true first from rest
closing-following first from [] = refl
closing-following first from (to ∷ rest) = ap (λ more. record { from = from; to = to } ∷ more) (closing-following first to rest)

zip-following : (first from : DevicePoint) (rest : List DevicePoint) → map edge_between (zip (from ∷ rest) rest) ≡ following false first from rest
zip-following first from [] = refl
zip-following first from (to ∷ rest) = ap (λ more. record { from = from; to = to } ∷ more) (zip-following first to rest)

-- the segments of a part are those from its first vertex on
pub edges_of-following : (closed : Bool) (part : List DevicePoint) (first : DevicePoint) (rest : List DevicePoint) → part ≡ first ∷ rest →
    edges_of closed part ≡ following closed first first rest
edges_of-following true part first rest e = ring_edges-closing part first rest e ∙ closing-following first first rest
edges_of-following false part first rest e = rw e (zip-following first first rest)

-- those of a round line begin with that of the first vertex alone
pub round_edges-following : (closed : Bool) (part : List DevicePoint) (first : DevicePoint) (rest : List DevicePoint) → part ≡ first ∷ rest →
    round_edges closed part ≡ point_edge first ∷ following closed first first rest
round_edges-following closed part first rest e =
    rw e (ap (λ more. point_edge first ∷ more) (edges_of-following closed (first ∷ rest) first rest refl))
