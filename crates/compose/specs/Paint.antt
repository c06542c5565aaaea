-- What is painted, and in which order (docs/DRAWING.md, "How features are painted").
use Rattle.std.specs.Prelude.{ℕ, if◌then◌else◌, List, [], ◌++◌, slice_get}
use Rattle.std.specs.List.{flat_map}
use Rattle.std.specs.Option.{option_map_or}
use Rattle.geom.specs.Device.{DevicePoint}
use Rattle.scaledenom.specs.Scale.{PictureScale}
use Rattle.scene.specs.Classes.{class_of, is_visible_layer}
use Rattle.mapdefs.specs.declared.class.ClassFields.{ClassFields}
use Rattle.mapdefs.specs.declared.feature.FeatureFields.{FeatureFields}
use Rattle.mapdefs.specs.declared.layer.Geometry.{Geometry}
use Rattle.mapdefs.specs.declared.layer.Geometry.TheVariants as kind
use Rattle.mapdefs.specs.declared.layer.LayerFields.{LayerFields}
use Rattle.mapdefs.specs.declared.map.MapFields.{MapFields}
use Rattle.mapdefs.specs.declared.style.StyleFields.{StyleFields}
use Rattle.mapdefs.specs.declared.symbol.Symbol.{Symbol}
use Rattle.viewport.specs.View.{ViewValue, points_of}
use Rattle.canvas.specs.Shapes.{PaintedShape, fills}
use Rattle.inking.specs.Styles.{line_shapes, outline_shapes, point_shapes}

-- the parts of a feature on the picture: the rings of a polygon, or lines
abbrev pub parts_of : ViewValue → FeatureFields → List (List DevicePoint)
parts_of view feature = points_of view feature.parts

-- what a style paints of a polygon, where a map's pixel is so many of the picture's: its rings, and then their outline
abbrev pub polygon_shapes : ℕ → List (List DevicePoint) → StyleFields → List PaintedShape
polygon_shapes factor rings style = fills rings style.colour ++ outline_shapes factor rings style

-- what a style paints of a feature of that kind, of which the points are painted one after another
abbrev pub style_shapes : ViewValue → List Symbol → Geometry → FeatureFields → StyleFields → List PaintedShape
style_shapes view symbols kind.Polygon feature style = polygon_shapes view.factor (parts_of view feature) style
style_shapes view symbols kind.Line feature style = line_shapes view.factor (parts_of view feature) style
style_shapes view symbols kind.Point feature style = flat_map (λ part. flat_map (point_shapes view symbols style) part) feature.parts

-- what a class paints of a feature: its styles, in order
abbrev pub class_shapes : ViewValue → List Symbol → Geometry → FeatureFields → ClassFields → List PaintedShape
class_shapes view symbols kind feature class = flat_map (style_shapes view symbols kind feature) class.styles

-- what is painted of a feature at a scale: what its class paints, if it has one
abbrev pub feature_shapes : ViewValue → PictureScale → List Symbol → LayerFields → FeatureFields → List PaintedShape
feature_shapes view scale symbols layer feature =
    option_map_or (class_shapes view symbols layer.kind feature) (class_of scale layer feature) []

-- what is painted of a layer: its features, in order, where it is visible at the scale
abbrev pub layer_shapes : ViewValue → PictureScale → List Symbol → LayerFields → List PaintedShape
layer_shapes view scale symbols layer =
    if is_visible_layer scale layer then flat_map (feature_shapes view scale symbols layer) layer.features else []

-- what is painted of the layer at that index in the map
abbrev pub chosen_shapes : ViewValue → PictureScale → MapFields → ℕ → List PaintedShape
chosen_shapes view scale m index = option_map_or (layer_shapes view scale m.symbols) (slice_get m.layers index) []

-- all that is painted of features, from the first to the last: the chosen layers, in order
abbrev pub paint_list : ViewValue → PictureScale → MapFields → List ℕ → List PaintedShape
paint_list view scale m chosen = flat_map (chosen_shapes view scale m) chosen
