-- Which features can't lie near the queried pixel: those whose vertices all lie beyond one side of the pixels near it
-- (docs/WMS.md, "Feature information").
use Rattle.std.specs.Prelude.{◌≡◌, ◌+◌, ◌*◌, Bool, false, ◌&&◌, not, ℤ, pos, ◌-ℤ◌, int_le, List}
use Rattle.std.specs.List.{list_any}
use Rattle.geom.specs.Device.{DevicePoint}
use Rattle.geom.specs.World.{Area, Place}
use Rattle.viewport.specs.View.{ViewValue, device_point}
use Rattle.mapdefs.specs.declared.layer.Geometry.{Geometry}
use Rattle.featureinfo.specs.Hits.{covers_plainly}
use Rattle.featureinfo.specs.Nearby.{SomeNear}
use Rattle.featureinfo.specs.declared.nearby.Nearby.{Nearby}
use Rattle.featureinfo.specs.declared.side.Side.{Side}
use Rattle.featureinfo.specs.declared.side.Side.TheVariants.{Right, Left, Bottom, Top}

-- half a pixel beyond a side of the pixels, in sixteenths of a pixel
abbrev pub limit_of : Nearby → Side → ℤ
limit_of n Right = pos (16 * n.right + 8)
limit_of n Left = pos (16 * n.left) -ℤ pos 8
limit_of n Bottom = pos (16 * n.bottom + 8)
limit_of n Top = pos (16 * n.top) -ℤ pos 8

-- a vertex doesn't lie beyond a limit on a side
abbrev pub is_within : Side → ℤ → DevicePoint → Bool
is_within Right limit v = int_le v.x limit
is_within Left limit v = int_le limit v.x
is_within Bottom limit v = int_le v.y limit
is_within Top limit v = int_le limit v.y

-- a box doesn't lie as a whole beyond a limit on a side: its corner that would be the last to lie there doesn't
abbrev pub box_reaches : ViewValue → Area → ℤ → Side → Bool
box_reaches view box limit Right = int_le (device_point view (record { x = box.minx; y = box.miny })).x limit
box_reaches view box limit Left = int_le limit (device_point view (record { x = box.maxx; y = box.miny })).x
box_reaches view box limit Bottom = int_le (device_point view (record { x = box.minx; y = box.maxy })).y limit
box_reaches view box limit Top = int_le limit (device_point view (record { x = box.minx; y = box.miny })).y

-- some vertex of a part doesn't lie beyond that side, and some of all parts
abbrev pub part_reaches : ViewValue → List Place → ℤ → Side → Bool
part_reaches view part limit side = list_any (λ place. is_within side limit (device_point view place)) part

abbrev pub reaches : ViewValue → List (List Place) → ℤ → Side → Bool
reaches view parts limit side = list_any (λ part. part_reaches view part limit side) parts

-- all vertices lie beyond one of the sides
abbrev pub is_far : ViewValue → List (List Place) → Nearby → Bool
is_far view parts n =
    not (reaches view parts (limit_of n Right) Right && reaches view parts (limit_of n Left) Left
    && reaches view parts (limit_of n Bottom) Bottom && reaches view parts (limit_of n Top) Top)

-- the law: a feature that is far covers no pixel near the queried one plainly
abbrev pub NearIsNotFar : Type 0
NearIsNotFar = (view : ViewValue) (k : Geometry) (parts : List (List Place)) (n : Nearby) →
    SomeNear n (covers_plainly view k parts) → is_far view parts n ≡ false
