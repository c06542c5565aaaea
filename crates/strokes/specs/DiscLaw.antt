-- What follows from the rule of discs (docs/DRAWING.md, "When a pixel belongs to a disc").
use Rattle.std.specs.Prelude.{◌≡◌, ℕ, ◌*◌, ◌≤◌, true, ◌⊎◌}
use Rattle.geom.specs.Device.{DevicePoint}
use Rattle.strokes.specs.Disc.{DiscValue, covers_disc, disc_of, ring_of}
use Rattle.strokes.specs.Round.{apart, covers_round, point_edge, square_of_half}

-- a disc without a hole covers what a round line of its size covers that has one vertex, its centre
abbrev pub DiscsAreRoundPoints : Type 0
DiscsAreRoundPoints = (at : DevicePoint) (size : ℕ) (p : DevicePoint) → covers_disc (disc_of at size) p ≡ covers_round size (point_edge at) p

-- of points that are equally far from its centre a disc covers all or none
abbrev pub DiscsAreSymmetric : Type 0
DiscsAreSymmetric = (d : DiscValue) (p q : DevicePoint) → apart d.at p ≡ apart d.at q → covers_disc d p ≡ covers_disc d q

-- its border belongs to it, and that of its hole
abbrev pub BordersBelongToDiscs : Type 0
BordersBelongToDiscs = (d : DiscValue) (p : DevicePoint) → d.hole ≤ d.size →
    ((apart d.at p ≡ square_of_half d.size) ⊎ (apart d.at p ≡ square_of_half d.hole)) → covers_disc d p ≡ true

-- a ring of half the size is the whole disc
abbrev pub HalfRingsAreDiscs : Type 0
HalfRingsAreDiscs = (at : DevicePoint) (size width : ℕ) → size ≤ 2 * width → ring_of at size width ≡ disc_of at size
