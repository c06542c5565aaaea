-- A reader finds the titles, the names and the extent of a map in its document.
use Rattle.std.proofs.Common.{◌≡◌, ◌++◌, ℕ, ℤ, pos, int_lt, Bool, true, false, if◌then◌else◌, Option, None, Some, List, [], ◌∷◌, map, filter, codes, refl, ◌∙◌, ap, sym, append-nil}
use Rattle.std.proofs.lemmas.List.{append_assoc}
use Rattle.std.specs.List.{list_any, flat_map}
use Rattle.std.specs.Fmt.{decimal}
use Rattle.geom.specs.Written.{written}
use Rattle.mapdefs.specs.declared.map.MapFields.{MapFields}
use Rattle.mapdefs.specs.declared.layer.LayerFields.{LayerFields}
use Rattle.operations.specs.declared.operation.Operation.{Operation}
use Rattle.operations.specs.declared.operation.Operation.TheVariants as operation
use Rattle.operations.specs.Mime.{mime_text}
use Rattle.operations.specs.Operation.{name_of}
use Rattle.xmltext.specs.Escape.{escaped, is_markup}
use Rattle.xmltext.proofs.Escaping.{markup-law}
use Rattle.xmltext.proofs.Structures.{found-law}
use Rattle.capabilities.specs.declared.markup.Markup.TheVariants as part
use Rattle.capabilities.specs.Boxes.{parts_behind}
use Rattle.capabilities.specs.Document.{preamble, service, address_line, format_lines, request, requests, mercator_line, outer, document}
use Rattle.capabilities.specs.Element.{opening, ending, enclosed, element, attribute, online_resource}
use Rattle.capabilities.specs.Layer.{bound, layer_tag, layer_entry, shown_entry}
use Rattle.capabilities.specs.Markup.{markup}
use Rattle.capabilities.specs.World.{has_metres, square_part}
use Rattle.capabilities.specs.Texts.{contents_of, TitlesAreRead, NamesAreRead}
use Rattle.capabilities.proofs.Extents.{extent_of, boxes-found, metres_of, metres-found, tag84, tag4326}
use Rattle.capabilities.proofs.Numbers.{decimal-plain, written-plain}
use Rattle.capabilities.proofs.Sought.{Sought, Titles, Names, West, East, South, North, Boxes, beginning, reading_of, Finds, joined, lacks, lacks-is, without, none, plain-lacks, plain}

-- an element after some bytes, as a tag, a content, and what begins with the next tag
element-parts : (name content rest : List ℕ) → element name content ++ rest ≡ opening name ++ (content ++ (ending name ++ (codes "\n" ++ rest)))
unfolding element enclosed
element-parts name content rest =
    append_assoc (opening name ++ (content ++ ending name)) (codes "\n") rest
    ∙ append_assoc (opening name) (content ++ ending name) (codes "\n" ++ rest)
    ∙ ap (λ (x : List ℕ). opening name ++ x) (append_assoc content (ending name) (codes "\n" ++ rest))

-- the text of an element Title, and of an element Name
title-is : (t rest : List ℕ) → contents_of (codes "Title") (opening (codes "Title") ++ (escaped t ++ (ending (codes "Title") ++ (codes "\n" ++ rest)))) ≡ t ∷ contents_of (codes "Title") rest
unfolding opening ending
title-is t rest =
    let tail : List ℕ = codes "/Title>\n" ++ rest in
    rw (found-law t tail 60 refl, lacks-is Titles (escaped t) (60 ∷ tail) (plain-lacks Titles (escaped t) (markup-law t))) refl

name-is : (t rest : List ℕ) → contents_of (codes "Name") (opening (codes "Name") ++ (escaped t ++ (ending (codes "Name") ++ (codes "\n" ++ rest)))) ≡ t ∷ contents_of (codes "Name") rest
unfolding opening ending
name-is t rest =
    let tail : List ℕ = codes "/Name>\n" ++ rest in
    rw (found-law t tail 60 refl, lacks-is Names (escaped t) (60 ∷ tail) (plain-lacks Names (escaped t) (markup-law t))) refl

title-text : (t : List ℕ) → Finds Titles (element (codes "Title") (escaped t)) (t ∷ [])
title-text t = record { is = λ rest. ap (contents_of (codes "Title")) (element-parts (codes "Title") (escaped t) rest) ∙ title-is t rest }

name-text : (t : List ℕ) → Finds Names (element (codes "Name") (escaped t)) (t ∷ [])
name-text t = record { is = λ rest. ap (contents_of (codes "Name")) (element-parts (codes "Name") (escaped t) rest) ∙ name-is t rest }

-- nothing in an element of another name
element-none : (s : Sought) (name content : List ℕ) → Finds s (opening name) [] → Finds s (ending name) [] → list_any is_markup content ≡ false → Finds s (element name content) []
unfolding element enclosed
element-none s name content opens ends h =
    joined s _ _ [] [] (joined s _ _ [] [] opens (joined s _ _ [] [] (plain s content h) ends)) (plain s (codes "\n") refl)

-- nor in an attribute
attribute-none : (s : Sought) (name value : List ℕ) → list_any is_markup name ≡ false → list_any is_markup value ≡ false → Finds s (attribute name value) []
unfolding attribute opening
attribute-none s name value h k =
    joined s _ _ [] [] (plain s (codes " ") refl) (joined s _ _ [] [] (plain s name h)
    (joined s _ _ [] [] (none (codes "=\"") refl s)
    (joined s _ _ [] [] (plain s value k) (none (codes "\"") refl s))))

-- nor in the address
resource-none : (s : Sought) (url : List ℕ) → Finds s (online_resource url) []
unfolding online_resource markup opening
resource-none s url =
    joined s _ _ [] [] (none (markup part.Address) refl s)
    (joined s _ _ [] [] (attribute-none s (codes "xlink:href") (escaped url) refl (markup-law url)) (none (codes "/>") refl s))

-- nor in the first two lines
preamble-none : (s : Sought) (n : ℕ) → Finds s (preamble n) []
unfolding preamble markup opening
preamble-none s n =
    joined s _ _ [] [] (none (markup part.Declaration) refl s)
    (joined s _ _ [] [] (attribute-none s (codes "updateSequence") (decimal n) refl (decimal-plain n))
    (none (markup part.Namespaces) refl s))

-- what is found of a title, and of a name
abbrev titles_of : Sought → List ℕ → List (List ℕ)
titles_of Titles t = t ∷ []
titles_of Names t = []
titles_of West t = []
titles_of East t = []
titles_of South t = []
titles_of North t = []
titles_of Boxes t = []

abbrev names_of : Sought → List ℕ → List (List ℕ)
names_of Titles t = []
names_of Names t = t ∷ []
names_of West t = []
names_of East t = []
names_of South t = []
names_of North t = []
names_of Boxes t = []

title-none : (s : Sought) (t : List ℕ) → lacks (60 ∷ beginning s) (opening (codes "Title")) ≡ true → lacks (60 ∷ beginning s) (ending (codes "Title")) ≡ true → Finds s (element (codes "Title") (escaped t)) []
title-none s t opens ends = element-none s (codes "Title") (escaped t) (without s _ opens) (without s _ ends) (markup-law t)

title-found : (s : Sought) (t : List ℕ) → Finds s (element (codes "Title") (escaped t)) (titles_of s t)
unfolding opening ending
title-found Titles t = title-text t
title-found Names t = title-none Names t refl refl
title-found West t = title-none West t refl refl
title-found East t = title-none East t refl refl
title-found South t = title-none South t refl refl
title-found North t = title-none North t refl refl
title-found Boxes t = title-none Boxes t refl refl

name-none : (s : Sought) (t : List ℕ) → lacks (60 ∷ beginning s) (opening (codes "Name")) ≡ true → lacks (60 ∷ beginning s) (ending (codes "Name")) ≡ true → Finds s (element (codes "Name") (escaped t)) []
name-none s t opens ends = element-none s (codes "Name") (escaped t) (without s _ opens) (without s _ ends) (markup-law t)

name-found : (s : Sought) (t : List ℕ) → Finds s (element (codes "Name") (escaped t)) (names_of s t)
unfolding opening ending
name-found Titles t = name-none Titles t refl refl
name-found Names t = name-text t
name-found West t = name-none West t refl refl
name-found East t = name-none East t refl refl
name-found South t = name-none South t refl refl
name-found North t = name-none North t refl refl
name-found Boxes t = name-none Boxes t refl refl

service-part : (s : Sought) → Finds s (markup part.Service) (names_of s (codes "WMS"))
unfolding markup opening
service-part Titles = without Titles _ refl
service-part Names = record { is = λ rest. refl }
service-part West = without West _ refl
service-part East = without East _ refl
service-part South = without South _ refl
service-part North = without North _ refl
service-part Boxes = without Boxes _ refl

service-found : (s : Sought) (title url : List ℕ) → Finds s (service title url) (names_of s (codes "WMS") ++ (titles_of s title ++ []))
unfolding service markup opening
service-found s title url =
    joined s _ _ _ _ (service-part s)
    (joined s _ _ _ [] (title-found s title)
    (joined s _ _ [] [] (resource-none s url) (none (markup part.Limits) refl s)))

-- nothing in the requests
line-none : (s : Sought) (url : List ℕ) → Finds s (address_line url) []
unfolding address_line markup opening
line-none s url =
    joined s _ _ [] [] (none (markup part.Get) refl s)
    (joined s _ _ [] [] (resource-none s url) (none (markup part.GetEnd) refl s))

request-with : (s : Sought) (png : Bool) (o : Operation) (url : List ℕ) → Finds s (opening (name_of o)) [] → Finds s (format_lines png o) [] → Finds s (ending (name_of o)) [] → Finds s (request png o url) []
unfolding request
request-with s png o url opens formats ends =
    joined s _ _ [] [] opens (joined s _ _ [] [] (plain s (codes "\n") refl) (joined s _ _ [] [] formats
    (joined s _ _ [] [] (line-none s url) (joined s _ _ [] [] ends (plain s (codes "\n") refl)))))

-- nor in the formats of pictures
formats-none : (s : Sought) (png : Bool) → Finds s (format_lines png operation.Map) []
unfolding opening ending element enclosed mime_text
formats-none s true = none (format_lines true operation.Map) refl s
formats-none s false = none (format_lines false operation.Map) refl s

request-none : (s : Sought) (png : Bool) (o : Operation) (url : List ℕ) → Finds s (request png o url) []
unfolding opening ending element enclosed name_of mime_text
request-none s png operation.Capabilities url = request-with s png operation.Capabilities url
    (none (opening (name_of operation.Capabilities)) refl s)
    (none (format_lines png operation.Capabilities) refl s)
    (none (ending (name_of operation.Capabilities)) refl s)
request-none s png operation.Map url = request-with s png operation.Map url
    (none (opening (name_of operation.Map)) refl s)
    (formats-none s png)
    (none (ending (name_of operation.Map)) refl s)
request-none s png operation.Information url = request-with s png operation.Information url
    (none (opening (name_of operation.Information)) refl s)
    (none (format_lines png operation.Information) refl s)
    (none (ending (name_of operation.Information)) refl s)

requests-none : (s : Sought) (png : Bool) (url : List ℕ) → Finds s (requests png url) []
unfolding requests markup opening
requests-none s png url =
    joined s _ _ [] [] (none (markup part.Requests) refl s)
    (joined s _ _ [] [] (request-none s png operation.Capabilities url)
    (joined s _ _ [] [] (request-none s png operation.Map url)
    (joined s _ _ [] [] (request-none s png operation.Information url) (none (markup part.Exceptions) refl s))))

-- nothing in the line of web mercator
mercator-none : (s : Sought) (offered : Bool) → Finds s (mercator_line offered) []
unfolding markup opening
mercator-none s true = none (markup part.Mercator) refl s
mercator-none s false = record { is = λ rest. refl }

-- the boxes of the map's extent
abbrev extents_of : Sought → MapFields → List (List ℕ)
extents_of s m = extent_of s m.extent ++ metres_of s (has_metres m.mercator m.extent) (square_part m.extent)

-- the title and the extent of the outermost layer
outer-found : (s : Sought) (m : MapFields) → Finds s (outer m) (titles_of s m.title ++ extents_of s m)
unfolding outer markup opening
outer-found s m =
    joined s _ _ [] _ (none (markup part.Layer) refl s)
    (joined s _ _ _ _ (title-found s m.title)
    (joined s _ _ [] _ (none (markup part.Systems) refl s)
    (joined s _ _ [] _ (mercator-none s m.mercator)
    (joined s _ _ _ _ (boxes-found s m.extent) (metres-found s (has_metres m.mercator m.extent) (square_part m.extent))))))

-- nothing in a bound, whether there is one or not
bound-none : (s : Sought) (name : List ℕ) (number : Option ℤ) → Finds s (opening name) [] → Finds s (ending name) [] → Finds s (bound name number) []
bound-none s name None opens ends = record { is = λ rest. refl }
bound-none s name (Some z) opens ends = shown-or-not (int_lt (pos 0) z)
  where
    shown-or-not : (b : Bool) → Finds s (if b then element name (written z) else []) []
    shown-or-not true = element-none s name (written z) opens ends (written-plain z)
    shown-or-not false = record { is = λ rest. refl }

tag-none : (s : Sought) (queryable : Bool) → Finds s (markup (layer_tag queryable)) []
unfolding markup opening
tag-none s true = none (markup part.Queryable) refl s
tag-none s false = none (markup part.NotQueryable) refl s

-- the name and the title of a layer
entry-found : (s : Sought) (layer : LayerFields) → Finds s (layer_entry layer) (names_of s layer.name ++ (titles_of s layer.title ++ []))
unfolding layer_entry markup opening ending
entry-found s layer =
    joined s _ _ [] _ (tag-none s layer.queryable)
    (joined s _ _ _ _ (name-found s layer.name)
    (joined s _ _ _ [] (title-found s layer.title)
    (joined s _ _ [] [] (bound-none s (codes "MinScaleDenominator") layer.min
    (none (opening (codes "MinScaleDenominator")) refl s) (none (ending (codes "MinScaleDenominator")) refl s))
    (joined s _ _ [] [] (bound-none s (codes "MaxScaleDenominator") layer.max
    (none (opening (codes "MaxScaleDenominator")) refl s) (none (ending (codes "MaxScaleDenominator")) refl s))
    (none (markup part.LayerEnd) refl s)))))

-- the text of a layer that the reader seeks, if it does
abbrev texts_of : Sought → LayerFields → List (List ℕ)
texts_of Titles layer = layer.title ∷ []
texts_of Names layer = layer.name ∷ []
texts_of West layer = []
texts_of East layer = []
texts_of South layer = []
texts_of North layer = []
texts_of Boxes layer = []

entry-texts : (s : Sought) (layer : LayerFields) → Finds s (layer_entry layer) (texts_of s layer)
entry-texts Titles layer = entry-found Titles layer
entry-texts Names layer = entry-found Names layer
entry-texts West layer = entry-found West layer
entry-texts East layer = entry-found East layer
entry-texts South layer = entry-found South layer
entry-texts North layer = entry-found North layer
entry-texts Boxes layer = entry-found Boxes layer

-- those of the layers that are on
abbrev layers_of : Sought → List LayerFields → List (List ℕ)
layers_of s layers = flat_map (λ (layer : LayerFields). if layer.on then texts_of s layer else []) layers

shown-found : (s : Sought) (layer : LayerFields) (on : Bool) → Finds s (if on then layer_entry layer else []) (if on then texts_of s layer else [])
shown-found s layer true = entry-texts s layer
shown-found s layer false = record { is = λ rest. refl }

layers-found : (s : Sought) (layers : List LayerFields) → Finds s (flat_map shown_entry layers) (layers_of s layers)
layers-found s [] = record { is = λ rest. refl }
layers-found s (layer ∷ layers) = joined s _ _ _ _ (shown-found s layer layer.on) (layers-found s layers)

-- the whole document
abbrev found_of : Sought → MapFields → List (List ℕ)
found_of s m =
    (names_of s (codes "WMS") ++ (titles_of s m.title ++ [])) ++ ((titles_of s m.title ++ extents_of s m) ++ (layers_of s m.layers ++ []))

document-found : (s : Sought) (n : ℕ) (m : MapFields) → Finds s (document n m) (found_of s m)
unfolding document markup
document-found s n m =
    joined s _ _ [] _ (preamble-none s n)
    (joined s _ _ _ _ (service-found s m.title m.url)
    (joined s _ _ [] _ (requests-none s m.png m.url)
    (joined s _ _ _ _ (outer-found s m)
    (joined s _ _ _ [] (layers-found s m.layers) (none (markup part.End) refl s)))))

nothing-in : (s : Sought) → reading_of s [] ≡ []
nothing-in Titles = refl
nothing-in Names = refl
nothing-in West = refl
nothing-in East = refl
nothing-in South = refl
nothing-in North = refl
nothing-in Boxes = refl

document-reads : (s : Sought) (n : ℕ) (m : MapFields) → reading_of s (document n m) ≡ found_of s m
document-reads s n m =
    ap (reading_of s) (sym (append-nil (document n m)))
    ∙ (document-found s n m).is []
    ∙ ap (λ (r : List (List ℕ)). found_of s m ++ r) (nothing-in s)
    ∙ append-nil (found_of s m)

-- what is found of layers is a text of each that is on, where that is what is found of one
shown-texts : (s : Sought) (text : LayerFields → List ℕ) → ((layer : LayerFields) → texts_of s layer ≡ text layer ∷ []) → (layers : List LayerFields) →
    layers_of s layers ≡ map text (filter (λ (layer : LayerFields). layer.on) layers)
shown-texts s text h [] = refl
shown-texts s text h (layer ∷ layers) = one layer.on (shown-texts s text h layers)
  where
    one : (on : Bool) → layers_of s layers ≡ map text (filter (λ (l : LayerFields). l.on) layers) →
        (if on then texts_of s layer else []) ++ layers_of s layers
        ≡ map text (if on then layer ∷ filter (λ (l : LayerFields). l.on) layers else filter (λ (l : LayerFields). l.on) layers)
    one true more = rw (h layer, more) refl
    one false more = more

pub titles-law : TitlesAreRead
titles-law n m = document-reads Titles n m ∙ rw (append-nil, shown-texts Titles (λ (layer : LayerFields). layer.title) (λ layer. refl) m.layers) refl

pub names-law : NamesAreRead
names-law n m = document-reads Names n m ∙ rw (append-nil, shown-texts Names (λ (layer : LayerFields). layer.name) (λ layer. refl) m.layers) refl

-- nothing in layers where the reader seeks the extent
no-layers : (s : Sought) → ((layer : LayerFields) → texts_of s layer ≡ []) → (layers : List LayerFields) → layers_of s layers ≡ []
no-layers s h [] = refl
no-layers s h (layer ∷ layers) = one layer.on (no-layers s h layers)
  where
    one : (on : Bool) → layers_of s layers ≡ [] → (if on then texts_of s layer else []) ++ layers_of s layers ≡ []
    one true more = rw (h layer, more) refl
    one false more = more

pub west-read : (n : ℕ) (m : MapFields) → parts_behind (codes "westBoundLongitude>") (document n m) ≡ written m.extent.minx ∷ []
west-read n m = document-reads West n m ∙ rw (no-layers West (λ l. refl) m.layers) refl

pub east-read : (n : ℕ) (m : MapFields) → parts_behind (codes "eastBoundLongitude>") (document n m) ≡ written m.extent.maxx ∷ []
east-read n m = document-reads East n m ∙ rw (no-layers East (λ l. refl) m.layers) refl

pub south-read : (n : ℕ) (m : MapFields) → parts_behind (codes "southBoundLatitude>") (document n m) ≡ written m.extent.miny ∷ []
south-read n m = document-reads South n m ∙ rw (no-layers South (λ l. refl) m.layers) refl

pub north-read : (n : ℕ) (m : MapFields) → parts_behind (codes "northBoundLatitude>") (document n m) ≡ written m.extent.maxy ∷ []
north-read n m = document-reads North n m ∙ rw (no-layers North (λ l. refl) m.layers) refl

pub tags-read : (n : ℕ) (m : MapFields) →
    parts_behind (codes "BoundingBox") (document n m) ≡ tag84 m.extent ∷ tag4326 m.extent ∷ metres_of Boxes (has_metres m.mercator m.extent) (square_part m.extent)
tags-read n m =
    document-reads Boxes n m
    ∙ rw (no-layers Boxes (λ l. refl) m.layers) (
    ap (λ (tags : List (List ℕ)). tag84 m.extent ∷ tag4326 m.extent ∷ tags) (append-nil (metres_of Boxes (has_metres m.mercator m.extent) (square_part m.extent))))
