-- The document of the service's capabilities (OGC 06-042, 7.2; docs/WMS.md, "Capabilities").
use Rattle.std.specs.Prelude.{ℕ, Bool, true, false, List, [], ◌++◌, codes}
use Rattle.std.specs.List.{flat_map}
use Rattle.std.specs.Fmt.{decimal}
use Rattle.mapdefs.specs.declared.map.MapFields.{MapFields}
use Rattle.xmltext.specs.Escape.{escaped}
use Rattle.capabilities.specs.declared.markup.Markup.TheVariants as part
use Rattle.operations.specs.declared.mime.Mime.{Mime}
use Rattle.operations.specs.declared.mime.Mime.TheVariants as mime
use Rattle.operations.specs.declared.operation.Operation.{Operation}
use Rattle.operations.specs.declared.operation.Operation.TheVariants as operation
use Rattle.operations.specs.Mime.{mime_text}
use Rattle.operations.specs.Operation.{name_of}
use Rattle.capabilities.specs.Element.{opening, ending, element, attribute, online_resource}
use Rattle.capabilities.specs.Layer.{shown_entry}
use Rattle.capabilities.specs.Markup.{markup}
use Rattle.capabilities.specs.World.{boxes, mercator_box}

-- the first two lines
unfoldable pub preamble : ℕ → List ℕ
preamble sequence = markup part.Declaration ++ (attribute (codes "updateSequence") (decimal sequence) ++ markup part.Namespaces)

-- the service: its title, its address and its limits
unfoldable pub service : List ℕ → List ℕ → List ℕ
service title url =
    markup part.Service ++ (element (codes "Title") (escaped title) ++ (online_resource url ++ markup part.Limits))

-- the line of the address of a request
unfoldable pub address_line : List ℕ → List ℕ
address_line url = markup part.Get ++ (online_resource url ++ markup part.GetEnd)

-- the line of a format
abbrev pub format_line : Mime → List ℕ
format_line m = element (codes "Format") (mime_text m)

-- the line of PNG, where it is offered
abbrev pub png_line : Bool → List ℕ
png_line true = format_line mime.Png
png_line false = []

-- the formats of the answers to a request, a line each
abbrev pub format_lines : Bool → Operation → List ℕ
format_lines png operation.Capabilities = format_line mime.Xml
format_lines png operation.Map = png_line png ++ (format_line mime.Pixmap ++ format_line mime.ArbitraryMap)
format_lines png operation.Information = format_line mime.Plain

-- a request that is answered, with the formats of the answers and the address
unfoldable pub request : Bool → Operation → List ℕ → List ℕ
request png o url =
    opening (name_of o)
    ++ (codes "\n"
    ++ (format_lines png o
    ++ (address_line url
    ++ (ending (name_of o)
    ++ codes "\n"))))

-- the three requests, and the form of exceptions
unfoldable pub requests : Bool → List ℕ → List ℕ
requests png url =
    markup part.Requests
    ++ (request png operation.Capabilities url
    ++ (request png operation.Map url
    ++ (request png operation.Information url
    ++ markup part.Exceptions)))

-- the line of web mercator, where it is offered
abbrev pub mercator_line : Bool → List ℕ
mercator_line true = markup part.Mercator
mercator_line false = []

-- the outermost layer up to its inner layers
unfoldable pub outer : MapFields → List ℕ
outer map = markup part.Layer ++ (element (codes "Title") (escaped map.title) ++ (markup part.Systems ++ (mercator_line map.mercator ++ (boxes map.extent ++ mercator_box map.mercator map.extent))))

-- the document of a map at a sequence
unfoldable pub document : ℕ → MapFields → List ℕ
document sequence map =
    preamble sequence
    ++ (service map.title map.url
    ++ (requests map.png map.url
    ++ (outer map
    ++ (flat_map shown_entry map.layers
    ++ markup part.End))))
