use Rattle.std.proofs.Common.{◌≡◌, ◌∙◌, ◌<◌, List, [], length, get_or, Some, ap, arith}
use Rattle.std.specs.List.{slice_get}
use Rattle.mapdefs.specs.Change.{extended}
use Rattle.mapdefs.specs.declared.feature.FeatureFields.{FeatureFields}
use Rattle.mapdefs.specs.declared.layer.LayerFields.{LayerFields}
use Rattle.mapdefs.specs.declared.map.MapFields.{MapFields}
use Rattle.layers.proofs.Drafting.{get-extended, length-extended}
use Rattle.layers.proofs.Waiting.{layer-there}
use Rattle.layers.proofs.draft.Draft.coordinate_columns.Goals as goal

pub offset_bounds-as_slice-index : goal.offset_bounds-as_slice-index
offset_bounds-as_slice-index c =
    let m : MapFields = c.self.inside.layers in
    let more : List (List FeatureFields) = c.self.inside.more.items in
    let within : c.args.index < length m.layers = omega (arith, rw (← c.self.view_is) at c.requires, length-extended more m.layers) in
    let slice : c.as_slice.result.now ≡ m.layers = c.as_slice.ensures ∙ ap (λ (m : MapFields). m.layers) (c.get.ensures.value ∙ c.map.ensures) in
    omega (arith, within, c.as_slice.type_inv, ap length slice)

pub bounds-as_slice-index : goal.bounds-as_slice-index
bounds-as_slice-index c =
    let m : MapFields = c.self.inside.layers in
    let more : List (List FeatureFields) = c.self.inside.more.items in
    let within : c.args.index < length m.layers = omega (arith, rw (← c.self.view_is) at c.requires, length-extended more m.layers) in
    let slice : c.as_slice.result.now ≡ m.layers = c.as_slice.ensures ∙ ap (λ (m : MapFields). m.layers) (c.get.ensures.value ∙ c.map.ensures) in
    omega (arith, within, ap length slice)

pub returns : goal.returns
returns c =
    let m : MapFields = c.self.inside.layers in
    let more : List (List FeatureFields) = c.self.inside.more.items in
    let within : c.args.index < length m.layers = omega (arith, rw (← c.self.view_is) at c.requires, length-extended more m.layers) in
    let slice : c.as_slice.result.now ≡ m.layers = c.as_slice.ensures ∙ ap (λ (m : MapFields). m.layers) (c.get.ensures.value ∙ c.map.ensures) in
    let layer : LayerFields = c.index-as_slice-index.result in
    let there : slice_get m.layers c.args.index ≡ Some layer = layer-there m.layers c.as_slice.result.now c.args.index layer slice within c.index-as_slice-index.is in
    let same : c.get-layer.result.now ≡ layer = c.get-layer.ensures.value in
    rw (← c.self.view_is) (
      extended (get_or more c.args.index []) layer,
      get-extended more m.layers c.args.index layer there,
      c.as_str.ensures ∙ ap (λ (l : LayerFields). l.csv_x) same,
      c.as_str-2.ensures ∙ ap (λ (l : LayerFields). l.csv_y) same,
    )
