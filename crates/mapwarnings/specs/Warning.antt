-- What in the service and the layers of a map isn't as clients need it, though the map has no fault (docs/MAPFILE.md, "Warnings").
use Rattle.std.specs.Prelude.{◌==◌, ◌&&◌, ◌||◌, not, ℕ, ◌+◌, pos, neg_ℤ, int_lt, nat_eq, Bool, true, false, List, [], ◌∷◌, ◌++◌, length, None, Some, codes}
use Rattle.std.specs.Cmp.Lexicographic.{pointwise}
use Rattle.std.specs.List.{list_any}
use Rattle.geom.specs.World.{Area}
use Rattle.mapdefs.specs.declared.class.ClassFields.{ClassFields}
use Rattle.mapdefs.specs.declared.map.MapFields.{MapFields}
use Rattle.mapdefs.specs.declared.layer.LayerFields.{LayerFields}
use Rattle.mapwords.specs.Rule.{is_comma}
use Rattle.xmltext.specs.Characters.{has_forbidden}
use Rattle.mapwarnings.specs.Unused.{is_bare, is_fontless, is_unclassed, lacks_font, lacks_named, lacks_of_rule}
use Rattle.mapwarnings.specs.declared.warning.Concern.{Concern}
use Rattle.mapwarnings.specs.declared.warning.Concern.TheVariants as concern
use Rattle.mapwarnings.specs.declared.warning.Warning.{Warning}

-- a warning on the service, and one on the layer of a number, counted from 1
abbrev pub on_service : Concern → Warning
on_service c = record { layer = None; concern = c }

abbrev pub on_layer : ℕ → Concern → Warning
on_layer number c = record { layer = Some number; concern = c }

-- a warning, where its condition holds
abbrev pub warned : Bool → Warning → List Warning
warned true w = w ∷ []
warned false w = []

-- the address is the default one
unfoldable pub is_default_address : List ℕ → Bool
is_default_address url = pointwise nat_eq url (codes "http://localhost/wms?")

-- a box reaches beyond 180 degrees of longitude or 90 of latitude
unfoldable pub is_beyond_degrees : Area → Bool
is_beyond_degrees area =
    int_lt area.minx (neg_ℤ (pos 180000000)) || int_lt (pos 180000000) area.maxx || int_lt area.miny (neg_ℤ (pos 90000000)) || int_lt (pos 90000000) area.maxy

-- those on the texts of a layer of a number: its name can't be requested, its name and its title can't be in a document of XML
abbrev pub text_warnings : ℕ → LayerFields → List Warning
text_warnings number layer =
    warned (length layer.name == 0) (on_layer number concern.EmptyName)
    ++ (warned (list_any is_comma layer.name) (on_layer number concern.CommaInName)
    ++ (warned (has_forbidden layer.name) (on_layer number concern.ForbiddenInName)
    ++ warned (has_forbidden layer.title) (on_layer number concern.ForbiddenInTitle)))

-- those on what looks at items that the layer doesn't have
abbrev pub item_warnings : ℕ → LayerFields → List Warning
item_warnings number layer =
    warned (lacks_named layer.items layer.labelitem) (on_layer number concern.UnknownLabelItem)
    ++ (warned (lacks_named layer.items layer.classitem) (on_layer number concern.UnknownClassItem)
    ++ warned (list_any (λ (class : ClassFields). lacks_of_rule layer.items class.rule) layer.classes) (on_layer number concern.UnknownItem))

-- those on the fonts of labels: there is none, or not the one that is named
abbrev pub font_warnings : ℕ → LayerFields → List Warning
font_warnings number layer =
    warned (list_any is_fontless layer.classes) (on_layer number concern.NoFont)
    ++ warned (list_any lacks_font layer.classes) (on_layer number concern.UnknownFont)

-- those on what is never drawn: features without a class, a class without a style and a label
abbrev pub drawing_warnings : ℕ → LayerFields → List Warning
drawing_warnings number layer =
    warned (is_unclassed layer) (on_layer number concern.NoClass)
    ++ warned (list_any is_bare layer.classes) (on_layer number concern.BareClass)

-- all of those on a layer of a number
abbrev pub layer_warnings : ℕ → LayerFields → List Warning
layer_warnings number layer = text_warnings number layer ++ (item_warnings number layer ++ (font_warnings number layer ++ drawing_warnings number layer))

-- those on some layers, of which the first has this number
abbrev pub layers_warnings : ℕ → List LayerFields → List Warning
layers_warnings number [] = []
layers_warnings number (layer ∷ layers) = layer_warnings number layer ++ layers_warnings (number + 1) layers

-- those on the service: its address, its title and its extent
abbrev pub service_warnings : MapFields → List Warning
service_warnings map =
    warned (is_default_address map.url) (on_service concern.NoAddress)
    ++ (warned (has_forbidden map.title) (on_service concern.ForbiddenInTitle)
    ++ (warned (has_forbidden map.url) (on_service concern.ForbiddenInAddress)
    ++ warned (is_beyond_degrees map.extent) (on_service concern.BeyondDegrees)))

-- both: those on the service, and then those on the layers in the order of the mapfile
abbrev pub warnings : MapFields → List Warning
warnings map = service_warnings map ++ layers_warnings 1 map.layers
