use Rattle.std.proofs.Common.{◌∙◌, ◌↔◌, List, false, map, ap, subst, IfOk, IsTrue}
use Rattle.std.specs.Prelude.{vec_items}
use lib.IntN.{pos}
use Rattle.geom.specs.Device.{DevicePoint}
use Rattle.strokes.specs.Line.{LineValue, covers_pixel, line_of}
use Rattle.featureinfo.specs.Nearby.{SomeNear}
use Rattle.featureinfo.proofs.layer_hits.line_near.Goals as goal

pub returns : goal.returns
returns c =
    subst (λ (line : LineValue). IfOk c.meets_cover.result (λ hit. IsTrue hit ↔ SomeNear c.args.nearby (λ i j. covers_pixel line (pos i) (pos j))))
    (c.in_ok-line.ensures ∙ ap (λ (lines : List (List DevicePoint)). line_of lines false 1) (ap (map vec_items) c.deref.ensures.value ∙ c.in_ok-lines.ensures))
    c.meets_cover.ensures
