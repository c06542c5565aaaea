-- What a round line covers, from vertex to vertex (docs/DRAWING.md, "When a pixel belongs to a round line").
use Rattle.std.specs.Prelude.{◌≡◌, ℕ, Bool, true, false, ◌||◌, int_lt, pos, List, ◌∷◌, map}
use Rattle.std.specs.List.{list_any}
use Rattle.geom.specs.Device.{DevicePoint, pixel_centre}
use Rattle.geom.specs.EvenOdd.{edge_between}
use Rattle.geom.specs.World.{Area, Place}
use Rattle.mapdefs.specs.declared.picture.PictureFields.{PictureFields}
use Rattle.strokes.specs.Line.{segments_of}
use Rattle.strokes.specs.Round.{covers_round, has_centre, round_segments}
use Rattle.viewport.specs.View.{device_point}
use Rattle.inking.specs.declared.trail.RoundTip.{RoundTip}
use Rattle.inking.specs.Stroked.{HasAlready, PenValue, PixelTest}

-- the round line of a width along one part covers a pixel
abbrev pub round_part_covers : Bool → ℕ → List DevicePoint → PixelTest
round_part_covers closed w part i j = list_any (has_centre (pos i) (pos j)) (round_segments closed w part)

-- the round segment from one vertex to another does
abbrev pub round_step_covers : ℕ → DevicePoint → DevicePoint → PixelTest
round_step_covers w a b i j = covers_round w (edge_between (a, b)) (pixel_centre (pos i) (pos j))

-- if the tip of a round line says that the disc round it is painted, it has the pen's colour
abbrev pub IsRoundTip : PenValue → PictureFields → RoundTip → Type 0
IsRoundTip pen canvas tip = tip.has_disc ≡ true → HasAlready pen canvas (round_step_covers pen.width tip.at tip.at)

-- one of the round segments from a place over those that follow does
abbrev pub round_chain_covers : PenValue → Place → List Place → PixelTest
round_chain_covers pen from rest i j = list_any (has_centre (pos i) (pos j)) (segments_of false pen.width (map (device_point pen.view) (from ∷ rest)))

-- two boxes have no place in common: one lies west of the other, or south of it
abbrev pub are_apart : Area → Area → Bool
are_apart a b = ((int_lt b.maxx a.minx || int_lt a.maxx b.minx) || int_lt b.maxy a.miny) || int_lt a.maxy b.miny
