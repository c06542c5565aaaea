-- Pictures that are written are read.
use Rattle.std.proofs.Common.{◌≡◌, ◌∙◌, ℕ, suc, ◌*◌, ◌≤◌, Ok, List, [], ◌∷◌, ◌++◌, length, append_assoc, Option, map, take_all, refl, ap, arith}
use Rattle.std.proofs.lemmas.Bool.{le-ltb}
use Rattle.std.proofs.lemmas.List.Elements.{All-cons, All-nil}
use Rattle.std.specs.Fmt.{decimal}
use Rattle.std.specs.List.{flat_map}
use Rattle.geom.specs.Decimal.{number_of}
use Rattle.geom.proofs.Written.{numeral}
use Rattle.mapdefs.specs.declared.colour.Rgb.{Rgb}
use Rattle.mapdefs.specs.declared.limits.TheConstants.{MAX_SYMBOL_SIDE}
use Rattle.mapdefs.specs.declared.picture.PictureFields.{PictureFields}
use Rattle.symbols.specs.File.{File, IsFile, IsPiece, Space, file_bytes}
use Rattle.symbols.specs.Format.{colours_of, pixels_of, pixmap_of}
use Rattle.symbols.specs.Law.{ArePicturesRead}
use Rattle.symbols.specs.Netpbm.{pixmap_bytes, pixmap_colour, ppm}
use Rattle.symbols.proofs.Files.{files}

-- the bytes of pixels are three each, and are read as their colours
bytes-count : (pixels : List (Option Rgb)) → length (flat_map pixmap_bytes pixels) ≡ 3 * length pixels
bytes-count [] = refl
bytes-count (c ∷ cs) = ap (λ n. suc (suc (suc n))) (bytes-count cs) ∙ omega arith

colours-read : (pixels : List (Option Rgb)) → colours_of (flat_map pixmap_bytes pixels) ≡ map pixmap_colour pixels
colours-read [] = refl
colours-read (c ∷ cs) = ap (λ more. pixmap_colour c ∷ more) (colours-read cs)

-- a written picture as a file
abbrev file_of : PictureFields → File
file_of p = record {
  start = 10;
  first = [];
  width = decimal p.width;
  second = Space 32 ∷ [];
  height = decimal p.height;
  third = Space 10 ∷ [];
  greatest = 50 ∷ 53 ∷ 53 ∷ [];
  end = 10;
  pixels = flat_map pixmap_bytes p.pixels;
}

same-bytes : (p : PictureFields) → ppm p ≡ file_bytes (file_of p)
same-bytes p =
    let pixels = flat_map pixmap_bytes p.pixels in
    let tail = 10 ∷ 50 ∷ 53 ∷ 53 ∷ 10 ∷ [] in
    ap (λ more. 80 ∷ 54 ∷ 10 ∷ more)
    (append_assoc (decimal p.width) (32 ∷ (decimal p.height ++ tail)) pixels ∙ ap (λ more. decimal p.width ++ 32 ∷ more) (append_assoc (decimal p.height) tail pixels))

is-file : (p : PictureFields) → 1 ≤ p.width → p.width ≤ 256 → 1 ≤ p.height → p.height ≤ 256 → IsFile (file_of p)
is-file p some_columns columns some_rows rows =
    let across = numeral p.width (omega arith) in
    let down = numeral p.height (omega arith) in
    record {
      space = refl;
      one = All-nil IsPiece;
      two = All-cons IsPiece (Space 32) [] refl (All-nil IsPiece);
      three = All-cons IsPiece (Space 10) [] refl (All-nil IsPiece);
      apart = omega arith;
      after = omega arith;
      across = record { each = across.digits; some = across.some };
      down = record { each = down.digits; some = down.some };
      most = record { each = refl; some = omega arith };
      columns = omega (arith, across.number);
      rows = omega (arith, down.number);
      colours = refl;
      closed = refl;
    }

-- the pixmap of sides and as many colours
pixels-read : (width height : ℕ) (pixels : List (Option Rgb)) → width ≤ MAX_SYMBOL_SIDE → height ≤ MAX_SYMBOL_SIDE → length pixels ≡ width * height →
    pixels_of width height (flat_map pixmap_bytes pixels) ≡ Ok (record { width = width; height = height; pixels = map pixmap_colour pixels })
pixels-read width height pixels columns rows area =
    let count : length (flat_map pixmap_bytes pixels) ≡ 3 * (width * height) = bytes-count pixels ∙ ap (λ n. 3 * n) area in
    rw (
      le-ltb MAX_SYMBOL_SIDE width columns,
      le-ltb MAX_SYMBOL_SIDE height rows,
      le-ltb (length (flat_map pixmap_bytes pixels)) (3 * (width * height)) (omega (arith, count)),
      take_all (3 * (width * height)) (flat_map pixmap_bytes pixels) (omega (arith, count)),
      colours-read pixels,
    )

pub pictures : ArePicturesRead
pictures p within some_columns columns some_rows rows =
    let across = numeral p.width (omega arith) in
    let down = numeral p.height (omega arith) in
    let width : number_of (decimal p.width) ≡ p.width = across.number in
    let height : number_of (decimal p.height) ≡ p.height = down.number in
    ap pixmap_of (same-bytes p)
    ∙ (files (file_of p) (is-file p some_columns columns some_rows rows)
    ∙ rw (width, height) (pixels-read p.width p.height p.pixels columns rows within.area))
