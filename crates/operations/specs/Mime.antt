-- The mime types of answers (docs/WMS.md, "Pictures", "Exceptions", "Capabilities" and "Feature information").
use Rattle.std.specs.Prelude.{ℕ, List, codes}
use Rattle.operations.specs.declared.mime.Mime.{Mime}
use Rattle.operations.specs.declared.mime.Mime.TheVariants.{Png, Pixmap, ArbitraryMap, Xml, Plain}

-- a mime type as it is written
unfoldable pub mime_text : Mime → List ℕ
mime_text Png = codes "image/png"
mime_text Pixmap = codes "image/x-portable-pixmap"
mime_text ArbitraryMap = codes "image/x-portable-arbitrarymap"
mime_text Xml = codes "text/xml"
mime_text Plain = codes "text/plain"
