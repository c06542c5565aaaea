-- Pictures that are written as portable arbitrary maps are read.
use Rattle.std.proofs.Common.{◌≡◌, ◌∙◌, ℕ, suc, ◌+◌, ◌*◌, ◌≤◌, ◌==◌, true, false, List, [], ◌∷◌, ◌++◌, length, take, drop, Option, None, Some, append_assoc, refl, sym, ap, arith}
use Rattle.std.proofs.lemmas.Bool.Decides.{nat_tests}
use Rattle.std.specs.Char.{is_ascii_digit}
use Rattle.std.specs.Fmt.{decimal}
use Rattle.std.proofs.lemmas.List.{drop-drop}
use Rattle.std.proofs.Math.Seq.{drop-append_seam, take-append_seam}
use Rattle.std.specs.List.{after_first, before_first, flat_map, list_all, list_any, position_or_len}
use Rattle.std.specs.Prelude.{codes}
use Rattle.geom.specs.Decimal.{number_of}
use Rattle.geom.proofs.Digits.{digit-range, digits-cons}
use Rattle.geom.proofs.Written.{numeral}
use Rattle.symbols.specs.Netpbm.{opacity_bytes}
use Rattle.mapdefs.specs.declared.colour.Rgb.{Rgb}
use Rattle.mapdefs.specs.Name.{is_same_name}
use Rattle.symbols.proofs.Files.{or-left, or-right}
use Rattle.symbols.specs.Law.{AreMapsRead}
use Rattle.symbols.specs.Netpbm.{pam}
use Rattle.symbols.specs.Pam.{PamHeader, is_line_feed, lines_within, no_header, picture_in, tuples_of, with_line}

-- the bytes of pixels are four each, and are read as the pixels
bytes-count : (pixels : List (Option Rgb)) → length (flat_map opacity_bytes pixels) ≡ 4 * length pixels
bytes-count [] = refl
bytes-count (None ∷ cs) = ap (λ n. suc (suc (suc (suc n)))) (bytes-count cs) ∙ omega arith
bytes-count (Some c ∷ cs) = ap (λ n. suc (suc (suc (suc n)))) (bytes-count cs) ∙ omega arith

tuples-read : (pixels : List (Option Rgb)) → tuples_of 255 (flat_map opacity_bytes pixels) ≡ Some pixels
tuples-read [] = refl
tuples-read (None ∷ cs) = rw (tuples-read cs) refl
tuples-read (Some c ∷ cs) = rw (tuples-read cs) refl

-- a digit is no LF, and none of some digits is one
digit-no-feed : (d : ℕ) → 48 ≤ d → d ≤ 57 → is_line_feed d ≡ false
digit-no-feed d h k = grind (arith, nat_tests)

no-feeds : (digits : List ℕ) → list_all is_ascii_digit digits ≡ true → list_any is_line_feed digits ≡ false
no-feeds [] all = refl
no-feeds (d ∷ ds) all =
    let parts = digits-cons d ds all in
    let range = digit-range d parts.0 in
    rw (digit-no-feed d range.0 range.1, no-feeds ds parts.1) refl

-- a line ends at its LF
line-len : (line rest : List ℕ) → list_any is_line_feed line ≡ false → position_or_len is_line_feed (line ++ 10 ∷ rest) ≡ length line
line-len [] rest none = refl
line-len (b ∷ bs) rest none =
    let goes_on : position_or_len is_line_feed (b ∷ (bs ++ 10 ∷ rest)) ≡ suc (position_or_len is_line_feed (bs ++ 10 ∷ rest)) =
    rw (or-left (is_line_feed b) (list_any is_line_feed bs) none) (omega arith) in
    goes_on ∙ ap suc (line-len bs rest (or-right (is_line_feed b) (list_any is_line_feed bs) none))

line-before : (line rest : List ℕ) → list_any is_line_feed line ≡ false → before_first is_line_feed (line ++ 10 ∷ rest) ≡ line
line-before line rest none = ap (λ n. take n (line ++ 10 ∷ rest)) (line-len line rest none) ∙ take-append_seam line (10 ∷ rest)

line-after : (line rest : List ℕ) → list_any is_line_feed line ≡ false → after_first is_line_feed (line ++ 10 ∷ rest) ≡ rest
line-after line rest none =
    ap (λ n. drop (n + 1) (line ++ 10 ∷ rest)) (line-len line rest none)
    ∙ sym (drop-drop 1 (length line) (line ++ 10 ∷ rest))
    ∙ ap (drop 1) (drop-append_seam line (10 ∷ rest))

-- a line before the last one
next-line : (n : ℕ) (header : PamHeader) (line rest : List ℕ) → list_any is_line_feed line ≡ false → is_same_name line (codes "ENDHDR") ≡ false →
    lines_within (suc n) header (line ++ 10 ∷ rest) ≡ lines_within n (with_line header line) rest
unfolding lines_within
next-line n header line rest none other = rw (line-before line rest none, line-after line rest none, other) refl

-- the last one
last-line : (n : ℕ) (header : PamHeader) (rest : List ℕ) → lines_within (suc n) header (codes "ENDHDR" ++ 10 ∷ rest) ≡ Some (header, rest)
unfolding lines_within
last-line n header rest = refl

-- what the lines of a written header say
says-width : (header : PamHeader) (digits : List ℕ) → with_line header (codes "WIDTH " ++ digits) ≡ record header { width = number_of digits }
unfolding with_line
says-width header digits = refl

says-height : (header : PamHeader) (digits : List ℕ) → with_line header (codes "HEIGHT " ++ digits) ≡ record header { height = number_of digits }
unfolding with_line
says-height header digits = refl

says-depth : (header : PamHeader) → with_line header (codes "DEPTH 4") ≡ record header { depth = 4 }
unfolding with_line
says-depth header = refl

says-maxval : (header : PamHeader) → with_line header (codes "MAXVAL 255") ≡ record header { maxval = 255 }
unfolding with_line
says-maxval header = refl

says-tupltype : (header : PamHeader) → with_line header (codes "TUPLTYPE RGB_ALPHA") ≡ record header { tupltype = codes "RGB_ALPHA" }
unfolding with_line
says-tupltype header = refl

-- the written header of two numbers
abbrev header_of : List ℕ → List ℕ → PamHeader
header_of across down = record { width = number_of across; height = number_of down; depth = 4; maxval = 255; tupltype = codes "RGB_ALPHA" }

-- its last four lines
abbrev last_lines : List ℕ → List ℕ
last_lines raster = codes "DEPTH 4\nMAXVAL 255\nTUPLTYPE RGB_ALPHA\nENDHDR\n" ++ raster

last-lines : (n : ℕ) (header : PamHeader) (raster : List ℕ) →
    lines_within (suc (suc (suc (suc n)))) header (last_lines raster) ≡ Some (record header { depth = 4; maxval = 255; tupltype = codes "RGB_ALPHA" }, raster)
last-lines n header raster =
    let one : PamHeader = record header { depth = 4 } in
    let two : PamHeader = record one { maxval = 255 } in
    let three : PamHeader = record two { tupltype = codes "RGB_ALPHA" } in
    next-line (suc (suc (suc n))) header (codes "DEPTH 4") (codes "MAXVAL 255\nTUPLTYPE RGB_ALPHA\nENDHDR\n" ++ raster) refl refl
    ∙ ap (λ h. lines_within (suc (suc (suc n))) h (codes "MAXVAL 255\nTUPLTYPE RGB_ALPHA\nENDHDR\n" ++ raster)) (says-depth header)
    ∙ next-line (suc (suc n)) one (codes "MAXVAL 255") (codes "TUPLTYPE RGB_ALPHA\nENDHDR\n" ++ raster) refl refl
    ∙ ap (λ h. lines_within (suc (suc n)) h (codes "TUPLTYPE RGB_ALPHA\nENDHDR\n" ++ raster)) (says-maxval one)
    ∙ next-line (suc n) two (codes "TUPLTYPE RGB_ALPHA") (codes "ENDHDR\n" ++ raster) refl refl
    ∙ ap (λ h. lines_within (suc n) h (codes "ENDHDR\n" ++ raster)) (says-tupltype two)
    ∙ last-line n three raster

-- the lines of the numbers, and the last four
all-lines : (n : ℕ) (across down raster : List ℕ) → list_all is_ascii_digit across ≡ true → list_all is_ascii_digit down ≡ true →
    lines_within (suc (suc (suc (suc (suc (suc n)))))) no_header ((codes "WIDTH " ++ across) ++ 10 ∷ ((codes "HEIGHT " ++ down) ++ 10 ∷ last_lines raster))
    ≡ Some (header_of across down, raster)
all-lines n across down raster a d =
    let one : PamHeader = record no_header { width = number_of across } in
    let two : PamHeader = record one { height = number_of down } in
    let later = (codes "HEIGHT " ++ down) ++ 10 ∷ last_lines raster in
    next-line (suc (suc (suc (suc (suc n))))) no_header (codes "WIDTH " ++ across) later (no-feeds across a) refl
    ∙ ap (λ h. lines_within (suc (suc (suc (suc (suc n))))) h later) (says-width no_header across)
    ∙ next-line (suc (suc (suc (suc n)))) one (codes "HEIGHT " ++ down) (last_lines raster) (no-feeds down d) refl
    ∙ ap (λ h. lines_within (suc (suc (suc (suc n)))) h (last_lines raster)) (says-height one down)
    ∙ last-lines n two raster

-- the bytes after the magic number are these lines
same-lines : (across down raster : List ℕ) →
    (across ++ (codes "\nHEIGHT " ++ (down ++ codes "\nDEPTH 4\nMAXVAL 255\nTUPLTYPE RGB_ALPHA\nENDHDR\n"))) ++ raster
    ≡ across ++ 10 ∷ ((codes "HEIGHT " ++ down) ++ 10 ∷ last_lines raster)
same-lines across down raster =
    let end = codes "\nDEPTH 4\nMAXVAL 255\nTUPLTYPE RGB_ALPHA\nENDHDR\n" in
    append_assoc across (codes "\nHEIGHT " ++ (down ++ end)) raster
    ∙ ap (λ more. across ++ (codes "\nHEIGHT " ++ more)) (append_assoc down end raster)

-- the pixels of a header with the right number of tuples
pixels-in : (width height : ℕ) (pixels : List (Option Rgb)) → length pixels ≡ width * height →
    picture_in (record { width = width; height = height; depth = 4; maxval = 255; tupltype = codes "RGB_ALPHA" }) (flat_map opacity_bytes pixels)
    ≡ Some (record { width = width; height = height; pixels = pixels })
pixels-in width height pixels area =
    let count : length (flat_map opacity_bytes pixels) ≡ 4 * (width * height) = bytes-count pixels ∙ ap (λ n. 4 * n) area in
    let counted : (length (flat_map opacity_bytes pixels) == 4 * (width * height)) ≡ true = grind (arith, nat_tests, count) in
    rw (counted, tuples-read pixels) refl

pub maps : AreMapsRead
maps p within columns rows =
    let across = numeral p.width (omega (arith, columns.most)) in
    let down = numeral p.height (omega (arith, rows.most)) in
    let raster = flat_map opacity_bytes p.pixels in
    let lines : lines_within (length (pam p)) no_header (drop 3 (pam p)) ≡ Some (header_of (decimal p.width) (decimal p.height), raster) =
    ap (λ more. lines_within (length (pam p)) no_header (codes "WIDTH " ++ more)) (same-lines (decimal p.width) (decimal p.height) raster)
    ∙ all-lines _ (decimal p.width) (decimal p.height) raster across.digits down.digits in
    rw lines (rw (across.number, down.number) (pixels-in p.width p.height p.pixels within.area))
