-- The picture that a portable arbitrary map shows (Netpbm, pam(5); docs/WMS.md, "Pictures").
use Rattle.std.specs.Prelude.{ℕ, zero, suc, ◌*◌, ◌==◌, ◌&&◌, Bool, if◌then◌else◌, List, [], ◌∷◌, length, take, drop, Option, None, Some, codes}
use Rattle.std.specs.List.{before_first, after_first}
use Rattle.std.specs.Option.{option_and_then}
use Rattle.geom.specs.Decimal.{number_of}
use Rattle.mapdefs.specs.Name.{is_same_name}
use Rattle.mapdefs.specs.declared.colour.Rgb.{Rgb}
use Rattle.mapdefs.specs.declared.picture.PictureFields.{PictureFields}

-- what a header says: width and height in tuples, how many samples a tuple has, their greatest value, and the type of the tuples
pub record PamHeader : Type 0 where
  pub width : ℕ
  pub height : ℕ
  pub depth : ℕ
  pub maxval : ℕ
  pub tupltype : List ℕ

-- a header that says nothing yet
abbrev pub no_header : PamHeader
no_header = record { width = 0; height = 0; depth = 0; maxval = 0; tupltype = [] }

abbrev pub is_line_feed : ℕ → Bool
is_line_feed b = b == 10

abbrev pub is_blank : ℕ → Bool
is_blank b = b == 32

-- a header with what one line says: a keyword, a space, and a number or the type of the tuples
unfoldable pub with_line : PamHeader → List ℕ → PamHeader
with_line header line =
    let keyword = before_first is_blank line in
    let value = after_first is_blank line in
    if is_same_name keyword (codes "WIDTH") then record header { width = number_of value }
    else if is_same_name keyword (codes "HEIGHT") then record header { height = number_of value }
    else if is_same_name keyword (codes "DEPTH") then record header { depth = number_of value }
    else if is_same_name keyword (codes "MAXVAL") then record header { maxval = number_of value }
    else if is_same_name keyword (codes "TUPLTYPE") then record header { tupltype = value }
    else header

-- the header of the lines up to ENDHDR, and the raster after that; there are fewer lines than bytes
unfoldable pub lines_within : ℕ → PamHeader → List ℕ → Option (PamHeader × List ℕ)
lines_within zero header bytes = None
lines_within (suc n) header bytes =
    let line = before_first is_line_feed bytes in
    let rest = after_first is_line_feed bytes in
    if is_same_name line (codes "ENDHDR") then Some (header, rest) else lines_within n (with_line header line) rest

-- what a pixel shows: nothing where its opacity is 0, its colour where it is the greatest value
abbrev pub shown : ℕ → Rgb → ℕ → Option (Option Rgb)
shown maxval colour opacity =
    if opacity == 0 then Some None else (if opacity == maxval then Some (Some colour) else None)

-- the pixels of tuples of red, green, blue and opacity
abbrev pub tuples_of : ℕ → List ℕ → Option (List (Option Rgb))
tuples_of maxval [] = Some []
tuples_of maxval (r ∷ g ∷ b ∷ a ∷ raster) =
    option_and_then (λ pixel. option_and_then (λ pixels. Some (pixel ∷ pixels)) (tuples_of maxval raster))
    (shown maxval (record { red = r; green = g; blue = b }) a)
tuples_of maxval _ = None

-- the picture of a header and a raster of as many tuples as the sides say, rows from the top, each from the left
abbrev pub picture_in : PamHeader → List ℕ → Option PictureFields
picture_in header raster =
    if is_same_name header.tupltype (codes "RGB_ALPHA") && header.depth == 4 && header.maxval == 255 && length raster == 4 * (header.width * header.height)
    then option_and_then (λ pixels. Some (record { width = header.width; height = header.height; pixels = pixels })) (tuples_of header.maxval raster)
    else None

-- the picture of some bytes: the magic number on a line, the header's lines, and the raster
abbrev pub picture_of : List ℕ → Option PictureFields
picture_of bytes =
    if is_same_name (take 3 bytes) (codes "P7\n")
    then option_and_then (λ (read : PamHeader × List ℕ). picture_in read.0 read.1) (lines_within (length bytes) no_header (drop 3 bytes))
    else None
