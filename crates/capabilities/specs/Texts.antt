-- What a client that reads the document as XML finds of the texts of a map (XML 1.0, tags and character data).
use Rattle.std.specs.Prelude.{◌≡◌, ℕ, nat_eq, if◌then◌else◌, List, [], ◌∷◌, length, drop, map, filter, codes}
use Rattle.std.specs.List.{starts_with, before_first}
use Rattle.mapdefs.specs.declared.map.MapFields.{MapFields}
use Rattle.mapdefs.specs.declared.layer.LayerFields.{LayerFields}
use Rattle.xmltext.specs.Escape.{unescaped, is_markup}
use Rattle.xmltext.specs.Structure.{Content, structure}
use Rattle.capabilities.specs.Document.{document}
use Rattle.capabilities.specs.Element.{opening}

-- the bytes after each tag that begins an element of the name, up to the next tag, unescaped
abbrev pub contents_of : List ℕ → List ℕ → List (List ℕ)
contents_of name [] = []
contents_of name (b ∷ bs) =
    if starts_with nat_eq (b ∷ bs) (opening name)
    then unescaped (before_first is_markup (drop (length (opening name)) (b ∷ bs))) ∷ contents_of name bs
    else contents_of name bs

-- the layers that have an entry
abbrev pub shown : MapFields → List LayerFields
shown m = filter (λ (layer : LayerFields). layer.on) m.layers

-- the layer with empty texts
abbrev pub untitled : LayerFields → LayerFields
untitled layer = record layer { name = []; title = [] }

-- the map with empty texts
abbrev pub without_texts : MapFields → MapFields
without_texts m = record m { title = []; url = []; layers = map untitled m.layers }

-- the law that a document has the tags and the attributes of the document of the map with empty texts
abbrev pub TextsChangeNoTags : Type 0
TextsChangeNoTags = (sequence : ℕ) (m : MapFields) →
    structure Content (document sequence m) ≡ structure Content (document sequence (without_texts m))

-- the law that its titles are the map's, of the service and of the outermost layer, and those of the layers that are on
abbrev pub TitlesAreRead : Type 0
TitlesAreRead = (sequence : ℕ) (m : MapFields) →
    contents_of (codes "Title") (document sequence m) ≡ m.title ∷ m.title ∷ map (λ (layer : LayerFields). layer.title) (shown m)

-- the law that its names are that of the service and those of the layers that are on
abbrev pub NamesAreRead : Type 0
NamesAreRead = (sequence : ℕ) (m : MapFields) →
    contents_of (codes "Name") (document sequence m) ≡ codes "WMS" ∷ map (λ (layer : LayerFields). layer.name) (shown m)
