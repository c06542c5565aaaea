-- The candidates for a picture's labels, and their ink (docs/DRAWING.md, "Labels").
use Rattle.std.specs.Prelude.{◌≡◌, ℕ, Bool, if◌then◌else◌, nat_lt, List, [], ◌∷◌, ◌++◌, Option, None, Some, option_and_then, slice_get, take}
use Rattle.std.specs.List.{flat_map}
use Rattle.std.specs.Option.{is_some, option_map_or}
use Rattle.std.specs.Str.{chars, encode_utf8_all}
use Rattle.bdffont.specs.declared.text.TheConstants.{MAX_CHARACTERS}
use Rattle.geom.specs.Device.{PixelValue}
use Rattle.scaledenom.specs.Scale.{PictureScale}
use Rattle.labelcache.specs.Candidate.{CandidateValue, outline_width}
use Rattle.labelcache.specs.Placement.{IsPlacement, setting}
use Rattle.labelcache.specs.declared.cache.Placed.{Placed}
use Rattle.labelink.specs.declared.reach.Reach.{Reach}
use Rattle.labelink.specs.declared.reach.Reach.TheVariants.{Neighbours, Disc}
use Rattle.mapdefs.specs.Fonts.{label_font}
use Rattle.mapdefs.specs.Near.{AreCandidates}
use Rattle.mapdefs.specs.Truth.{item_value}
use Rattle.mapdefs.specs.declared.class.ClassFields.{ClassFields}
use Rattle.mapdefs.specs.declared.colour.Rgb.{Rgb}
use Rattle.mapdefs.specs.declared.feature.FeatureFields.{FeatureFields}
use Rattle.mapdefs.specs.declared.font.FontFields.{FontFields}
use Rattle.mapdefs.specs.declared.label.LabelFields.{LabelFields}
use Rattle.mapdefs.specs.declared.layer.LayerFields.{LayerFields}
use Rattle.mapdefs.specs.declared.map.MapFields.{MapFields}
use Rattle.viewport.specs.View.{IsView, ViewValue, window}
use Rattle.compose.specs.Anchor.{shown_anchor}
use Rattle.canvas.specs.Shapes.{PaintedShape, Written}
use Rattle.canvas.specs.Shapes as shape
use Rattle.compose.specs.Walk.{ClassifiedFeatureValue, given_at, classified_feature, classified_list}

-- the first so many characters of a text
abbrev pub first_characters : ℕ → List ℕ → List ℕ
first_characters most text = encode_utf8_all (take most (chars text))

-- the text of a feature: its own, else the value of the layer's label item
abbrev pub feature_text : LayerFields → FeatureFields → List ℕ
feature_text layer feature = elim feature.text [
  | Some text ↦ text
  | None ↦ option_map_or (item_value layer.items feature.values) layer.labelitem []
]

-- the text of a feature's label: its text, cut
abbrev pub label_text : LayerFields → FeatureFields → List ℕ
label_text layer feature = first_characters MAX_CHARACTERS (feature_text layer feature)

-- a text that isn't empty may be placed at an anchor, where a map's pixel is so many of the picture's
abbrev pub candidate_at : ℕ → LabelFields → List ℕ → PixelValue → List CandidateValue
candidate_at factor label [] anchor = []
candidate_at factor label (b ∷ bs) anchor = record { text = b ∷ bs; anchor = anchor; label = label; factor = factor } ∷ []

-- a label, where its font is there
abbrev pub if_written : List FontFields → LabelFields → Option LabelFields
if_written fonts label = if is_some (label_font fonts label) then Some label else None

-- the label of a class, if it has one whose font is among these
abbrev pub written_label : List FontFields → ClassFields → Option LabelFields
written_label fonts class = option_and_then (if_written fonts) class.label

-- the candidate of a classified feature: its text, where its class has a label in one of the fonts and its anchor lies in the picture
abbrev pub classified_candidates : ViewValue → List FontFields → ClassifiedFeatureValue → List CandidateValue
classified_candidates view fonts classified =
    option_map_or (λ label. option_map_or (candidate_at view.factor label (label_text classified.layer classified.feature)) (shown_anchor view classified.layer.kind classified.feature) [])
    (written_label fonts classified.class) []

-- whether features of a class may have labels
abbrev pub has_label : ClassFields → Bool
has_label class = is_some class.label

-- all candidates, by their numbers: those of the classified features, in order
abbrev pub candidate_list : ViewValue → PictureScale → MapFields → List ℕ → List CandidateValue
candidate_list view scale m chosen = flat_map (classified_candidates view m.fonts) (classified_list scale m chosen)

-- the law: what is found in a window of the picture, whatever its margin, gives the candidates that all features of the layer give, in the same order
abbrev pub FoundLabelAll : Type 0
FoundLabelAll = (view : ViewValue) (margin : ℕ) (scale : PictureScale) (fonts : List FontFields) (layer : LayerFields) (found : List ℕ) →
    IsView view → AreCandidates layer.features (window view margin) found →
    flat_map (classified_candidates view fonts) (flat_map (given_at (classified_feature scale layer) layer.features) found)
    ≡ flat_map (classified_candidates view fonts) (flat_map (classified_feature scale layer) layer.features)

-- labels are the placement of candidates on the picture of a view, each in its font of these
abbrev pub ArePlaced : ViewValue → List FontFields → List CandidateValue → List Placed → Type 0
ArePlaced view fonts candidates labels = IsPlacement (setting (record { width = view.width; height = view.height; fonts = fonts }) candidates) labels

-- the labels of a picture: the candidates, and those that are placed
pub record LabelsValue : Type 0 where
  pub candidates : List CandidateValue
  pub placed : List Placed

-- how far the outline of a candidate reaches: on a fine picture as far as it is wide, and on another to the neighbours of ink
abbrev pub reach_of : CandidateValue → Reach
reach_of c = if nat_lt 1 c.factor then Disc (outline_width c) else Neighbours

-- outline and glyphs are painted where there is a colour
abbrev pub outlines : Written → Reach → Option Rgb → List PaintedShape
outlines w reach None = []
outlines w reach (Some colour) = shape.Outlined w reach colour ∷ []

abbrev pub inks : Written → Option Rgb → List PaintedShape
inks w None = []
inks w (Some colour) = shape.Inked w colour ∷ []

-- what is painted of a candidate's text in a font, with its corner at a pixel: its outline, and then its glyphs
abbrev pub text_shapes : CandidateValue → PixelValue → FontFields → List PaintedShape
text_shapes c at font =
    let w : Written = record { font = font; characters = chars c.text; at = at } in
    outlines w (reach_of c) c.label.outline ++ inks w c.label.colour

-- what is painted of a candidate there: its text in the font of its label
abbrev pub candidate_shapes : List FontFields → CandidateValue → PixelValue → List PaintedShape
candidate_shapes fonts c at = option_map_or (text_shapes c at) (label_font fonts c.label) []

-- what is painted of a label
abbrev pub label_shapes : List FontFields → List CandidateValue → Placed → List PaintedShape
label_shapes fonts candidates label = option_map_or (λ c. candidate_shapes fonts c label.at) (slice_get candidates label.number) []

-- all that is painted of labels, in the order in which they were placed
abbrev pub ink_list : List FontFields → List CandidateValue → List Placed → List PaintedShape
ink_list fonts candidates labels = flat_map (label_shapes fonts candidates) labels
