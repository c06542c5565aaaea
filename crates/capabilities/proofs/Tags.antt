-- Documents of two maps that differ in their texts have the same tags.
use Rattle.std.proofs.Common.{◌≡◌, ◌++◌, ℕ, ℤ, pos, int_lt, Bool, true, false, if◌then◌else◌, Option, None, Some, List, [], ◌∷◌, map, codes, refl, ◌∙◌, sym}
use Rattle.std.specs.List.{list_any, flat_map}
use Rattle.std.specs.Fmt.{decimal}
use Rattle.geom.specs.World.{Area}
use Rattle.geom.specs.Written.{written}
use Rattle.mapdefs.specs.declared.map.MapFields.{MapFields}
use Rattle.mapdefs.specs.declared.layer.LayerFields.{LayerFields}
use Rattle.operations.specs.declared.operation.Operation.{Operation}
use Rattle.operations.specs.declared.operation.Operation.TheVariants as operation
use Rattle.operations.specs.Mime.{mime_text}
use Rattle.operations.specs.Operation.{name_of}
use Rattle.xmltext.specs.Escape.{escaped, is_markup}
use Rattle.xmltext.specs.Structure.{Place, Content, Tag, Quoted, place_after, structure, is_for_texts}
use Rattle.xmltext.proofs.Escaping.{markup-law}
use Rattle.xmltext.proofs.Structures.{structure-append, place_after-append, plain-place, no-tags}
use Rattle.capabilities.specs.declared.markup.Markup.TheVariants as part
use Rattle.capabilities.specs.Document.{preamble, service, address_line, format_lines, request, requests, mercator_line, outer, document}
use Rattle.capabilities.specs.Element.{opening, ending, enclosed, element, attribute, online_resource}
use Rattle.capabilities.specs.Layer.{bound, layer_tag, layer_entry, shown_entry}
use Rattle.capabilities.specs.Markup.{markup}
use Rattle.capabilities.specs.Texts.{untitled, without_texts, TextsChangeNoTags}
use Rattle.capabilities.specs.World.{geographic_box, corner, bounding_box, boxes, has_metres, metre_box, square_part}
use Rattle.capabilities.proofs.Numbers.{decimal-plain, written-plain}

-- two pieces of documents that begin at one position have the same tags and lead to the same position
pub record HaveSameTags (from to : Place) (xs ys : List ℕ) : Type 0 where
  pub tags : structure from xs ≡ structure from ys
  pub first : place_after from xs ≡ to
  pub second : place_after from ys ≡ to

-- two pieces after two others
joined : (p q r : Place) (a b x y : List ℕ) → HaveSameTags p q a b → HaveSameTags q r x y → HaveSameTags p r (a ++ x) (b ++ y)
joined p q r a b x y front back = record {
  tags = rw (structure-append p a x, structure-append p b y, front.first, front.second, front.tags, back.tags) refl;
  first = place_after-append p a x ∙ rw front.first back.first;
  second = place_after-append p b y ∙ rw front.second back.second;
}

-- a piece that both have
same : (p q : Place) (xs : List ℕ) → place_after p xs ≡ q → HaveSameTags p q xs xs
same p q xs h = record { tags = refl; first = h; second = h }

-- bytes without markup, at a position for texts
plain-tags : (p : Place) (xs ys : List ℕ) → is_for_texts p ≡ true → list_any is_markup xs ≡ false → list_any is_markup ys ≡ false → HaveSameTags p p xs ys
plain-tags p xs ys place h k = record {
  tags = no-tags p xs place h ∙ sym (no-tags p ys place k);
  first = plain-place p xs place h;
  second = plain-place p ys place k;
}

-- two texts, between tags or in a value
text-tags : (p : Place) (a b : List ℕ) → is_for_texts p ≡ true → HaveSameTags p p (escaped a) (escaped b)
text-tags p a b place = plain-tags p (escaped a) (escaped b) place (markup-law a) (markup-law b)

-- an element of two contents
element-tags : (name xs ys : List ℕ) → place_after Content (opening name) ≡ Content → place_after Content (ending name) ≡ Content →
    HaveSameTags Content Content xs ys → HaveSameTags Content Content (element name xs) (element name ys)
unfolding element enclosed
element-tags name xs ys opens ends content =
    joined Content Content Content _ _ _ _
    (joined Content Content Content _ _ _ _ (same Content Content (opening name) opens)
    (joined Content Content Content _ _ _ _ content (same Content Content (ending name) ends)))
    (same Content Content (codes "\n") refl)

-- an attribute of two values
attribute-tags : (name xs ys : List ℕ) → place_after Tag name ≡ Tag → HaveSameTags Quoted Quoted xs ys → HaveSameTags Tag Tag (attribute name xs) (attribute name ys)
unfolding attribute
attribute-tags name xs ys h value =
    joined Tag Tag Tag _ _ _ _ (same Tag Tag (codes " ") refl)
    (joined Tag Tag Tag _ _ _ _ (same Tag Tag name h)
    (joined Tag Quoted Tag _ _ _ _ (same Tag Quoted (codes "=\"") refl)
    (joined Quoted Quoted Tag _ _ _ _ value (same Quoted Tag (codes "\"") refl))))

-- the address of two services
resource-tags : (a b : List ℕ) → HaveSameTags Content Content (online_resource a) (online_resource b)
unfolding online_resource markup
resource-tags a b =
    joined Content Tag Content _ _ _ _ (same Content Tag (markup part.Address) refl)
    (joined Tag Tag Content _ _ _ _ (attribute-tags (codes "xlink:href") _ _ refl (text-tags Quoted a b refl)) (same Tag Content (codes "/>") refl))

-- the title of two elements
title-tags : (a b : List ℕ) → HaveSameTags Content Content (element (codes "Title") (escaped a)) (element (codes "Title") (escaped b))
unfolding opening ending
title-tags a b = element-tags (codes "Title") _ _ refl refl (text-tags Content a b refl)

-- the name of two layers
name-tags : (a b : List ℕ) → HaveSameTags Content Content (element (codes "Name") (escaped a)) (element (codes "Name") (escaped b))
unfolding opening ending
name-tags a b = element-tags (codes "Name") _ _ refl refl (text-tags Content a b refl)

-- the first two lines
preamble-tags : (sequence : ℕ) → HaveSameTags Content Content (preamble sequence) (preamble sequence)
unfolding preamble markup
preamble-tags n =
    joined Content Tag Content _ _ _ _ (same Content Tag (markup part.Declaration) refl)
    (joined Tag Tag Content _ _ _ _
    (attribute-tags (codes "updateSequence") _ _ refl (plain-tags Quoted (decimal n) (decimal n) refl (decimal-plain n) (decimal-plain n)))
    (same Tag Content (markup part.Namespaces) refl))

-- two services
service-tags : (title url other elsewhere : List ℕ) → HaveSameTags Content Content (service title url) (service other elsewhere)
unfolding service markup
service-tags title url other elsewhere =
    joined Content Content Content _ _ _ _ (same Content Content (markup part.Service) refl)
    (joined Content Content Content _ _ _ _ (title-tags title other)
    (joined Content Content Content _ _ _ _ (resource-tags url elsewhere) (same Content Content (markup part.Limits) refl)))

-- the line of two addresses
line-tags : (a b : List ℕ) → HaveSameTags Content Content (address_line a) (address_line b)
unfolding address_line markup
line-tags a b =
    joined Content Content Content _ _ _ _ (same Content Content (markup part.Get) refl)
    (joined Content Content Content _ _ _ _ (resource-tags a b) (same Content Content (markup part.GetEnd) refl))

-- a request at two addresses
request-with : (png : Bool) (o : Operation) (a b : List ℕ) → place_after Content (opening (name_of o)) ≡ Content → place_after Content (format_lines png o) ≡ Content →
    place_after Content (ending (name_of o)) ≡ Content → HaveSameTags Content Content (request png o a) (request png o b)
unfolding request
request-with png o a b opens formats ends =
    joined Content Content Content _ _ _ _ (same Content Content (opening (name_of o)) opens)
    (joined Content Content Content _ _ _ _ (same Content Content (codes "\n") refl)
    (joined Content Content Content _ _ _ _ (same Content Content (format_lines png o) formats)
    (joined Content Content Content _ _ _ _ (line-tags a b)
    (joined Content Content Content _ _ _ _ (same Content Content (ending (name_of o)) ends) (same Content Content (codes "\n") refl)))))

request-tags : (png : Bool) (o : Operation) (a b : List ℕ) → HaveSameTags Content Content (request png o a) (request png o b)
unfolding opening ending element enclosed name_of mime_text
request-tags png operation.Capabilities a b = request-with png operation.Capabilities a b refl refl refl
request-tags true operation.Map a b = request-with true operation.Map a b refl refl refl
request-tags false operation.Map a b = request-with false operation.Map a b refl refl refl
request-tags png operation.Information a b = request-with png operation.Information a b refl refl refl

-- the three requests at two addresses
requests-tags : (png : Bool) (a b : List ℕ) → HaveSameTags Content Content (requests png a) (requests png b)
unfolding requests markup
requests-tags png a b =
    joined Content Content Content _ _ _ _ (same Content Content (markup part.Requests) refl)
    (joined Content Content Content _ _ _ _ (request-tags png operation.Capabilities a b)
    (joined Content Content Content _ _ _ _ (request-tags png operation.Map a b)
    (joined Content Content Content _ _ _ _ (request-tags png operation.Information a b) (same Content Content (markup part.Exceptions) refl))))

-- a number between tags, and in a value
number-tags : (p : Place) (z : ℤ) → is_for_texts p ≡ true → HaveSameTags p p (written z) (written z)
number-tags p z place = plain-tags p (written z) (written z) place (written-plain z) (written-plain z)

-- a number between the tags of a name
enclosed-tags : (name : List ℕ) (z : ℤ) → place_after Content (opening name) ≡ Content → place_after Content (ending name) ≡ Content →
    HaveSameTags Content Content (enclosed name (written z)) (enclosed name (written z))
unfolding enclosed
enclosed-tags name z opens ends =
    joined Content Content Content _ _ _ _ (same Content Content (opening name) opens)
    (joined Content Content Content _ _ _ _ (number-tags Content z refl) (same Content Content (ending name) ends))

-- a corner of a box
corner-tags : (first second : List ℕ) (x y : ℤ) → place_after Tag first ≡ Tag → place_after Tag second ≡ Tag →
    HaveSameTags Tag Tag (corner first x second y) (corner first x second y)
unfolding corner
corner-tags first second x y h k =
    joined Tag Tag Tag _ _ _ _ (attribute-tags first _ _ h (number-tags Quoted x refl)) (attribute-tags second _ _ k (number-tags Quoted y refl))

-- a box in a system whose name is no markup
box-tags : (crs : List ℕ) (a b c d : ℤ) → list_any is_markup crs ≡ false → HaveSameTags Content Content (bounding_box crs a b c d) (bounding_box crs a b c d)
unfolding bounding_box markup
box-tags crs a b c d h =
    joined Content Tag Content _ _ _ _ (same Content Tag (markup part.BoundingBox) refl)
    (joined Tag Tag Content _ _ _ _ (attribute-tags (codes "CRS") _ _ refl (plain-tags Quoted crs crs refl h h))
    (joined Tag Tag Content _ _ _ _ (corner-tags (codes "minx") (codes "miny") a b refl refl)
    (joined Tag Tag Content _ _ _ _ (corner-tags (codes "maxx") (codes "maxy") c d refl refl) (same Tag Content (codes "/>\n") refl))))

-- the box of longitudes and latitudes
geographic-tags : (area : Area) → HaveSameTags Content Content (geographic_box area) (geographic_box area)
unfolding geographic_box markup opening ending
geographic-tags area =
    joined Content Content Content _ _ _ _ (same Content Content (markup part.Geographic) refl)
    (joined Content Content Content _ _ _ _ (enclosed-tags (codes "westBoundLongitude") area.minx refl refl)
    (joined Content Content Content _ _ _ _ (enclosed-tags (codes "eastBoundLongitude") area.maxx refl refl)
    (joined Content Content Content _ _ _ _ (enclosed-tags (codes "southBoundLatitude") area.miny refl refl)
    (joined Content Content Content _ _ _ _ (enclosed-tags (codes "northBoundLatitude") area.maxy refl refl)
    (same Content Content (markup part.GeographicEnd) refl)))))

-- all boxes
boxes-tags : (area : Area) → HaveSameTags Content Content (boxes area) (boxes area)
unfolding boxes
boxes-tags area =
    joined Content Content Content _ _ _ _ (geographic-tags area)
    (joined Content Content Content _ _ _ _ (box-tags (codes "CRS:84") _ _ _ _ refl) (box-tags (codes "EPSG:4326") _ _ _ _ refl))

-- whichever of two texts it is
either-tags : (b : Bool) (xs ys other elsewhere : List ℕ) → HaveSameTags Content Content xs other → HaveSameTags Content Content ys elsewhere →
    HaveSameTags Content Content (if b then xs else ys) (if b then other else elsewhere)
either-tags true xs ys other elsewhere h k = h
either-tags false xs ys other elsewhere h k = k

-- the box in metres
metre-tags : (area : Area) → HaveSameTags Content Content (metre_box area) (metre_box area)
unfolding metre_box
metre-tags area = box-tags (codes "EPSG:3857") _ _ _ _ refl

-- the line of web mercator
mercator-tags : (offered : Bool) → HaveSameTags Content Content (mercator_line offered) (mercator_line offered)
unfolding markup
mercator-tags true = same Content Content (markup part.Mercator) refl
mercator-tags false = same Content Content [] refl

-- the outermost layer, with its title or without
outer-tags : (m : MapFields) → HaveSameTags Content Content (outer m) (outer (without_texts m))
unfolding outer markup
outer-tags m =
    joined Content Content Content _ _ _ _ (same Content Content (markup part.Layer) refl)
    (joined Content Content Content _ _ _ _ (title-tags m.title [])
    (joined Content Content Content _ _ _ _ (same Content Content (markup part.Systems) refl)
    (joined Content Content Content _ _ _ _ (mercator-tags m.mercator)
    (joined Content Content Content _ _ _ _ (boxes-tags m.extent)
    (either-tags (has_metres m.mercator m.extent) _ [] _ [] (metre-tags (square_part m.extent)) (same Content Content [] refl))))))

-- a bound on the scale
bound-tags : (name : List ℕ) (number : Option ℤ) → place_after Content (opening name) ≡ Content → place_after Content (ending name) ≡ Content →
    HaveSameTags Content Content (bound name number) (bound name number)
bound-tags name None opens ends = same Content Content [] refl
bound-tags name (Some z) opens ends =
    either-tags (int_lt (pos 0) z) _ [] _ [] (element-tags name (written z) (written z) opens ends (number-tags Content z refl)) (same Content Content [] refl)

-- the tag that begins a layer
tag-tags : (queryable : Bool) → place_after Content (markup (layer_tag queryable)) ≡ Content
unfolding markup
tag-tags true = refl
tag-tags false = refl

-- the entry of a layer, with its texts or without
entry-tags : (layer : LayerFields) → HaveSameTags Content Content (layer_entry layer) (layer_entry (untitled layer))
unfolding layer_entry opening ending markup
entry-tags layer =
    joined Content Content Content _ _ _ _ (same Content Content (markup (layer_tag layer.queryable)) (tag-tags layer.queryable))
    (joined Content Content Content _ _ _ _ (name-tags layer.name [])
    (joined Content Content Content _ _ _ _ (title-tags layer.title [])
    (joined Content Content Content _ _ _ _ (bound-tags (codes "MinScaleDenominator") layer.min refl refl)
    (joined Content Content Content _ _ _ _ (bound-tags (codes "MaxScaleDenominator") layer.max refl refl)
    (same Content Content (markup part.LayerEnd) refl)))))

-- the entries of all layers
layers-tags : (layers : List LayerFields) → HaveSameTags Content Content (flat_map shown_entry layers) (flat_map shown_entry (map untitled layers))
layers-tags [] = same Content Content [] refl
layers-tags (layer ∷ layers) =
    joined Content Content Content _ _ _ _
    (either-tags layer.on _ [] _ [] (entry-tags layer) (same Content Content [] refl))
    (layers-tags layers)

pub tags-law : TextsChangeNoTags
unfolding document markup
tags-law n m =
    (joined Content Content Content _ _ _ _ (preamble-tags n)
    (joined Content Content Content _ _ _ _ (service-tags m.title m.url [] [])
    (joined Content Content Content _ _ _ _ (requests-tags m.png m.url [])
    (joined Content Content Content _ _ _ _ (outer-tags m)
    (joined Content Content Content _ _ _ _ (layers-tags m.layers) (same Content Content (markup part.End) refl)))))).tags
