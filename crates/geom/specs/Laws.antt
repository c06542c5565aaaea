-- Laws of crossings and of the even-odd rule (docs/DRAWING.md, "When a pixel belongs to a polygon").
use Rattle.std.specs.Prelude.{◌≡◌, ◌++◌, Bool, true, not, if◌then◌else◌, ℤ, pos, ◌-ℤ◌, ◌*ℤ◌, ◌<ℤ◌, ◌≤ℤ◌, int_le, List, ◌∷◌, reverse}
use Rattle.geom.specs.Device.{DevicePoint}
use Rattle.geom.specs.Edge.{EdgeEnds, crosses_at_or_left, crosses_height}
use Rattle.geom.specs.EvenOdd.{is_covered, is_inside}

-- the edge from its second end to its first
abbrev pub turned : EdgeEnds → EdgeEnds
turned e = record { from = e.to; to = e.from }

-- an edge crosses the same points whichever way it goes
abbrev pub TurnedEdgesCrossAlike : Type 0
TurnedEdgesCrossAlike = (e : EdgeEnds) (p : DevicePoint) → crosses_at_or_left p (turned e) ≡ crosses_at_or_left p e

-- an edge that crosses a point's height at it or left of it does so for each point further right on that height
abbrev pub CrossingsStayLeft : Type 0
CrossingsStayLeft =
    (e : EdgeEnds) (p q : DevicePoint) → q.y ≡ p.y → p.x ≤ℤ q.x → crosses_at_or_left p e ≡ true → crosses_at_or_left q e ≡ true

-- the line through both ends of the edge has at the height y the x of n d-ths
abbrev pub IsOnLine : EdgeEnds → ℤ → ℤ → ℤ → Type 0
IsOnLine e y n d = (n -ℤ d *ℤ e.from.x) *ℤ (e.to.y -ℤ e.from.y) ≡ d *ℤ ((y -ℤ e.from.y) *ℤ (e.to.x -ℤ e.from.x))

-- an edge that crosses a point's height does so at the point or left of it exactly where its line has there an x of at most the point's
abbrev pub CrossingsLieOnTheLine : Type 0
CrossingsLieOnTheLine =
    (e : EdgeEnds) (p : DevicePoint) (n d : ℤ) → pos 0 <ℤ d → IsOnLine e p.y n d → crosses_height e p.y ≡ true →
    crosses_at_or_left p e ≡ int_le n (d *ℤ p.x)

-- a ring covers the same points from whichever vertex it begins, among whichever rings
abbrev pub RingsBeginAnywhere : Type 0
RingsBeginAnywhere =
    (before after : List (List DevicePoint)) (front back : List DevicePoint) (p : DevicePoint) →
    is_inside (before ++ (back ++ front) ∷ after) p ≡ is_inside (before ++ (front ++ back) ∷ after) p

-- and whichever way round it goes
abbrev pub RingsGoEitherWay : Type 0
RingsGoEitherWay =
    (before after : List (List DevicePoint)) (ring : List DevicePoint) (p : DevicePoint) →
    is_inside (before ++ reverse ring ∷ after) p ≡ is_inside (before ++ ring ∷ after) p

-- the one holds or the other, and not both
abbrev pub is_one_of : Bool → Bool → Bool
is_one_of a b = if a then not b else b

-- a point lies inside of two polygons taken together exactly where it lies inside of one of them and not of the other
abbrev pub TogetherIsInOne : Type 0
TogetherIsInOne =
    (one other : List (List DevicePoint)) (p : DevicePoint) → is_inside (one ++ other) p ≡ is_one_of (is_inside one p) (is_inside other p)

-- an edge that two polygons share, one of them the other way, counts for no point of both taken together
abbrev pub SharedEdgesCancel : Type 0
SharedEdgesCancel =
    (e : EdgeEnds) (before after before' after' : List EdgeEnds) (p : DevicePoint) →
    is_covered ((before ++ e ∷ after) ++ (before' ++ turned e ∷ after')) p ≡ is_covered ((before ++ after) ++ (before' ++ after')) p
