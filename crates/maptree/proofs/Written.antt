-- What a mapfile may say is read of it where it is written out.
use Rattle.std.proofs.Common.{◌≡◌, ℕ, zero, suc, ℤ, pos, negsuc, unsigned_abs, ◌/◌, ◌^◌, ◌+◌, ◌<◌, ◌≤◌, Bool, true, false, ◌||◌, List, [], ◌∷◌, ◌++◌, length, length-append, append_assoc, append-nil, refl, sym, ap, ◌∙◌, arith, codes, Option, None, Some, Ok}
use Rattle.std.specs.Prelude.{not, option_map, int_lt, ◌<ℤ◌}
use Rattle.std.proofs.lemmas.Int.{ints}
use Rattle.std.specs.Result.{result_ok}
use Rattle.std.specs.Char.{is_ascii_digit}
use Rattle.std.specs.Fmt.{decimal}
use Rattle.std.specs.List.{All, list_all, slice_split, join_with_byte}
use Rattle.std.proofs.lemmas.List.Splits.{slice_split_none, slice_split_at}
use Rattle.std.proofs.lemmas.Bool.{lt-ltb, lt-leb, le-leb, le-ltb}
use Rattle.geom.specs.declared.micro.TheConstants.{COORDINATE_LIMIT, NUMBER_LIMIT}
use Rattle.geom.specs.World.{Place, IsCoordinate}
use Rattle.geom.specs.Decimal.{nearest, whole_of}
use Rattle.geom.specs.Number.{count_of}
use Rattle.geom.specs.Written.{written, six_digits}
use Rattle.geom.proofs.Numerals.{numeral-read, whole-read}
use Rattle.geom.proofs.Digits.{digits-cons}
use Rattle.geom.proofs.Products.{is_lt}
use Rattle.geom.proofs.Written.{numeral, written-law as number-law, coordinate-size, coordinate-written}
use Rattle.maplex.specs.declared.fault.Tail.{Tail}
use Rattle.maplex.specs.declared.fault.Tail.TheVariants as tails
use Rattle.maplex.specs.Token.{TokenValue}
use Rattle.mapdefs.specs.declared.limits.TheConstants.{MAX_VERTICES, MAX_ITEMS}
use Rattle.mapdefs.specs.declared.layer.Geometry.TheVariants.{Point, Line, Polygon}
use Rattle.mapdefs.specs.declared.label.Position.{Position}
use Rattle.mapdefs.specs.declared.label.Position.TheVariants.{UpperLeft, UpperCentre, UpperRight, CentreLeft, Centre, CentreRight, LowerLeft, LowerCentre, LowerRight, Automatic}
use Rattle.mapwords.specs.Rule.{is_comma}
use Rattle.mapwords.specs.Setting.{setting_in}
use Rattle.mapwords.specs.Label.{position_of, flag_of}
use Rattle.mapwords.specs.declared.role.Block.{Block}
use Rattle.mapwords.specs.declared.role.Block.TheVariants as block
use Rattle.mapwords.specs.declared.role.Expected.{Expected}
use Rattle.mapwords.specs.declared.role.Expected.TheVariants as expected
use Rattle.mapwords.specs.declared.keyword.Keyword.TheVariants.{End}
use Rattle.mapwords.specs.declared.symbol.SymbolType.TheVariants.{Pixmap, Ellipse}
use Rattle.mapwords.specs.declared.table.CountKeyword.{CountKeyword}
use Rattle.mapwords.specs.declared.table.CountKeyword.TheVariants as counts
use Rattle.mapwords.specs.declared.table.ColourKeyword.{ColourKeyword}
use Rattle.mapwords.specs.declared.table.TextKeyword.{TextKeyword}
use Rattle.mapdefs.specs.declared.colour.Rgb.{Rgb}
use Rattle.mapwords.specs.declared.value.Value.{Value}
use Rattle.mapwords.specs.declared.value.Value.TheVariants as value
use Rattle.mapdefs.specs.declared.class.Rule.TheVariants.{OneOf}
use Rattle.mapwords.specs.Count.{number_in, read_count}
use Rattle.mapwords.specs.Table.{least_of, most_of}
use Rattle.maptree.specs.Data.{lacks_room}
use Rattle.maptree.specs.Tree.{files_used}
use Rattle.maptree.specs.Entries.{Entries, Nothing, Said, Vertex, Inside, values, with_said, vertex_count}
use Rattle.mapdefs.specs.Outcome.{and_then}
use Rattle.mapwords.specs.Keyword.{spelling, is_spelt}
use Rattle.mapwords.specs.Given.{value_in}
use Rattle.maptree.specs.Meaning.{block_in, alone}
use Rattle.maptree.specs.Says.{Takes, closing_fault, is_full, says}
use Rattle.maptree.specs.Smoothing.{is_smooth}
use Rattle.maptree.specs.Written.{bare, quoted, block_text, position_text, flag_text, HasNoComma, IsKeyword, IsKey, IsCount, least_count, most_count, map_name, style_colour, style_outline, label_colour, label_outline, service_wms_title, IsWritten, symbol_name, symbol_type, smooth_type, symbol_points, symbol_filled, symbol_image, text, table, font, formats, systems, smoothing, metadata, csv_x, csv_y, items, flag, scale, no_colour, some_colour, geometry, pixmap, smooth_symbol, radii, filled, position, equals, one_of, extent, IsBlockIn, symbol, layer, class, feature, style, points, label, web, web_metadata, layer_metadata, IsWrittenOut, nothing, said, vertex, inside, WrittenIsRead}
use Rattle.maptree.specs.Written as written_as
use Rattle.maptree.proofs.Blocks.{block-enough}
use Rattle.mapwords.proofs.Colours.{counts_of}

-- the first letter of END is no digit
starts-other : (d : ℕ) (ds : List ℕ) → is_ascii_digit d ≡ true → is_spelt (d ∷ ds) End ≡ false
unfolding spelling
starts-other d ds digit = grind arith

-- a coordinate that is written out isn't END
digits-not_end : (digits rest : List ℕ) → list_all is_ascii_digit digits ≡ true → 1 ≤ length digits → is_spelt (digits ++ rest) End ≡ false
digits-not_end [] rest h some = absurd (omega arith)
digits-not_end (d ∷ ds) rest h some = starts-other d (ds ++ rest) (digits-cons d ds h).0

-- nor is a count
count-not_end : (n : ℕ) → n < 2 ^ 64 → is_spelt (decimal n) End ≡ false
count-not_end n small =
    let is = numeral n small in
    ap (λ text. is_spelt text End) (sym (append-nil (decimal n))) ∙ digits-not_end (decimal n) [] is.digits is.some

-- a count is within the bounds of its keyword, and small
record IsBounded (keyword : CountKeyword) (n : ℕ) : Type 0 where
  least : least_of keyword ≤ n
  most : n ≤ most_of keyword
  small : n ≤ 65535

same-least : (keyword : CountKeyword) → least_of keyword ≡ least_count keyword
same-least counts.Width = refl
same-least _ = refl

same-most : (keyword : CountKeyword) → most_of keyword ≡ most_count keyword
same-most counts.Width = refl
same-most _ = refl

most-small : (keyword : CountKeyword) → most_count keyword ≤ 65535
most-small counts.Width = omega arith
most-small _ = omega arith

count-bounded : (keyword : CountKeyword) (n : ℕ) → IsCount keyword n → IsBounded keyword n
count-bounded keyword n is = record {
  least = rw (same-least keyword) is.least;
  most = rw (same-most keyword) is.most;
  small = omega (arith, is.most, most-small keyword);
}

-- a count that is written out is read as that count
count-read : (keyword : CountKeyword) (n : ℕ) → IsBounded keyword n → read_count keyword (decimal n) ≡ Some (record { keyword = keyword; number = n })
count-read keyword n is =
    let small : n ≤ 65535 = is.small in
    let written : count_of (decimal n) ≡ Some (pos n) =
    ap (λ r. option_map whole_of (result_ok r)) (numeral-read n NUMBER_LIMIT (omega arith) (omega arith)) ∙ ap (λ z. Some z) (whole-read n) in
    rw (written, le-leb (least_of keyword) n is.least, le-leb n (most_of keyword) is.most) refl

-- 1 is read as 1
one-read : number_in (decimal 1) ≡ Some (pos 1000000)
one-read = ap result_ok (numeral-read 1 NUMBER_LIMIT (omega arith) (omega arith))

size-not_end : (n : ℕ) → n < 2 ^ 64 → is_spelt (written (pos n)) End ≡ false
size-not_end n small =
    let whole = numeral (n / 1000000) (omega arith) in
    digits-not_end (decimal (n / 1000000)) (46 ∷ six_digits n) whole.digits whole.some

not_end : (z : ℤ) → IsCoordinate z → is_spelt (written z) End ≡ false
unfolding spelling
not_end (pos n) is = let size : n ≤ COORDINATE_LIMIT = coordinate-size (pos n) is in size-not_end n (omega arith)
not_end (negsuc n) is = refl

-- a number of any size that is written out isn't END
number-not_end : (z : ℤ) → unsigned_abs z ≤ NUMBER_LIMIT → is_spelt (written z) End ≡ false
unfolding spelling
number-not_end (pos n) small = size-not_end n (omega arith)
number-not_end (negsuc n) small = refl

-- and is read as that number
number-read : (z : ℤ) → unsigned_abs z ≤ NUMBER_LIMIT → number_in (written z) ≡ Some z
number-read z small = ap result_ok (number-law z NUMBER_LIMIT small (omega arith))

position-read : (position : Position) → position_of (position_text position) ≡ Some position
position-read UpperLeft = refl
position-read UpperCentre = refl
position-read UpperRight = refl
position-read CentreLeft = refl
position-read Centre = refl
position-read CentreRight = refl
position-read LowerLeft = refl
position-read LowerCentre = refl
position-read LowerRight = refl
position-read Automatic = refl

position-not_end : (position : Position) → is_spelt (position_text position) End ≡ false
unfolding spelling
position-not_end UpperLeft = refl
position-not_end UpperCentre = refl
position-not_end UpperRight = refl
position-not_end CentreLeft = refl
position-not_end Centre = refl
position-not_end CentreRight = refl
position-not_end LowerLeft = refl
position-not_end LowerCentre = refl
position-not_end LowerRight = refl
position-not_end Automatic = refl

flag-read : (flag : Bool) → flag_of (flag_text flag) ≡ Some flag
flag-read true = refl
flag-read false = refl

flag-not_end : (flag : Bool) → is_spelt (flag_text flag) End ≡ false
unfolding spelling
flag-not_end true = refl
flag-not_end false = refl

-- a list of names with commas between them is cut into these names
names-cut : (names : List (List ℕ)) → 1 ≤ length names → All HasNoComma names → slice_split is_comma (join_with_byte 44 names) ≡ names
names-cut [] some none = absurd (omega arith)
names-cut (name ∷ []) some none = slice_split_none is_comma name (none zero [] (omega arith))
names-cut (name ∷ other ∷ names) some none =
    slice_split_at is_comma name 44 (join_with_byte 44 (other ∷ names)) (none zero [] (omega arith)) refl
    ∙ ap (λ (rest : List (List ℕ)). name ∷ rest) (names-cut (other ∷ names) (omega arith) (λ k d below. none (suc k) d (omega arith)))

-- a setting is cut at its first equals sign
items-cut : (given : List ℕ) → setting_in (codes "ITEMS" ++ (61 ∷ given)) ≡ Some (codes "ITEMS", given)
items-cut given = rw (lt-ltb 5 (length (codes "ITEMS" ++ (61 ∷ given))) (omega arith)) refl

csv_x-cut : (given : List ℕ) → setting_in (codes "CSV_X" ++ (61 ∷ given)) ≡ Some (codes "CSV_X", given)
csv_x-cut given = rw (lt-ltb 5 (length (codes "CSV_X" ++ (61 ∷ given))) (omega arith)) refl

csv_y-cut : (given : List ℕ) → setting_in (codes "CSV_Y" ++ (61 ∷ given)) ≡ Some (codes "CSV_Y", given)
csv_y-cut given = rw (lt-ltb 5 (length (codes "CSV_Y" ++ (61 ∷ given))) (omega arith)) refl

-- a keyword takes what it takes in its block
keyword-says : (b : Block) (word : List ℕ) (e : Expected) (line : ℕ) (above own : Entries) (smooth : Bool) → is_smooth (values above) ≡ smooth → IsKeyword smooth b word e → says b above own (bare line word) ≡ Ok (Takes e)
unfolding spelling
keyword-says b word e line above own smooth same (map_name s) = refl
keyword-says b word e line above own true same (symbol_name s) = rw same refl
keyword-says b word e line above own false same (symbol_name s) = rw same refl
keyword-says b word e line above own smooth same symbol_type = rw same refl
keyword-says b word e line above own smooth same smooth_type = rw same refl
keyword-says b word e line above own smooth same symbol_points = rw same refl
keyword-says b word e line above own smooth same symbol_filled = rw same refl
keyword-says b word e line above own true same (symbol_image s) = rw same refl
keyword-says b word e line above own false same (symbol_image s) = rw same refl
keyword-says b word e line above own smooth same _ = refl

-- and so does a key of METADATA
key-says : (b : Block) (key : List ℕ) (keyword : TextKeyword) (line : ℕ) (above own : Entries) → IsKey b key keyword → says b above own (quoted line key) ≡ Ok (Takes (expected.Text keyword))
key-says b key keyword line above own service_wms_title = refl
key-says b key keyword line above own _ = refl

-- each colour of a keyword that a block has has an effect
colour-noted : (smooth : Bool) (b : Block) (word : List ℕ) (keyword : ColourKeyword) (colour : Option Rgb) (before : Entries) → IsKeyword smooth b word (expected.Colour keyword) →
    with_said (value.Colour keyword colour) before ≡ Said (value.Colour keyword colour) before
colour-noted smooth b word keyword colour before (style_colour s) = refl
colour-noted smooth b word keyword colour before (style_outline s) = refl
colour-noted smooth b word keyword colour before (label_colour s) = refl
colour-noted smooth b word keyword colour before (label_outline s) = refl

module _ (tail : Tail) (k : ℕ) where
  -- what is left is read with one token less in the bound
  on : (b : Block) (above own : Entries) (rest : List TokenValue) → length rest ≤ k → block_in tail k b above own rest ≡ block_in tail (suc k) b above own rest
  on b above own rest p = block-enough tail k (suc k) b above own rest p (omega arith)

  -- after a keyword its value is read
  keyword-takes : (b : Block) (above before : Entries) (word : List ℕ) (e : Expected) (line : ℕ) (ts : List TokenValue) (smooth : Bool) → is_smooth (values above) ≡ smooth → IsKeyword smooth b word e →
      block_in tail (suc k) b above before (bare line word ∷ ts) ≡ and_then (value_in tail (lacks_room b (files_used before)) e ts) (λ v. block_in tail k b above (with_said v.value before) v.rest)
  unfolding block_in
  keyword-takes b above before word e line ts smooth same is = rw (keyword-says b word e line above before smooth same is) refl

  -- a value is read in its block
  value-read : (b : Block) (above before : Entries) (v : Value) (ts rest : List TokenValue) (smooth : Bool) → is_smooth (values above) ≡ smooth → IsWritten smooth b v ts → length (ts ++ rest) ≤ suc k →
      block_in tail (suc k) b above before (ts ++ rest) ≡ block_in tail (suc k) b above (Said v before) rest
  unfolding block_in value_in spelling nearest
  value-read b above before v ts rest smooth same (text s c word w given line is) p =
      keyword-takes b above before word _ line _ smooth same is ∙ on b above (Said v before) rest (omega arith)
  value-read b above before v ts rest smooth same (table s c word given line is named) p =
      keyword-takes b above before word _ line _ smooth same is ∙ rw named (on b above (Said v before) rest (omega arith))
  value-read b above before v ts rest smooth same (font s given line) p = on b above (Said v before) rest (omega arith)
  value-read b above before v ts rest smooth same (formats s line) p = on b above (Said v before) rest (omega arith)
  value-read b above before v ts rest smooth same (systems s line) p = on b above (Said v before) rest (omega arith)
  value-read b above before v ts rest smooth same (smoothing s n line given is) p = rw is (on b above (Said v before) rest (omega arith))
  value-read b above before v ts rest smooth same (metadata s c key w given line is) p = rw (key-says b key w line above before is) (on b above (Said v before) rest (omega arith))
  value-read b above before v ts rest smooth same (csv_x s given line) p = rw (csv_x-cut given) (on b above (Said v before) rest (omega arith))
  value-read b above before v ts rest smooth same (csv_y s given line) p = rw (csv_y-cut given) (on b above (Said v before) rest (omega arith))
  value-read b above before v ts rest smooth same (items s names line some few none) p =
      rw (items-cut (join_with_byte 44 names), names-cut names some none, le-ltb MAX_ITEMS (length names) few)
      (on b above (Said v before) rest (omega arith))
  value-read b above before v ts rest smooth same (written_as.count s c word w n line is within) p =
      let bounded = count-bounded w n within in
      let small : n ≤ 65535 = bounded.small in
      keyword-takes b above before word _ line _ smooth same is
      ∙ rw (count-not_end n (omega arith), count-read w n bounded) (on b above (Said v before) rest (omega arith))
  value-read b above before v ts rest smooth same (flag s c word w f line is) p =
      keyword-takes b above before word _ line _ smooth same is ∙ rw (flag-not_end f, flag-read f) (on b above (Said v before) rest (omega arith))
  value-read b above before v ts rest smooth same (scale s c word w number line is small) p =
      keyword-takes b above before word _ line _ smooth same is ∙ rw (number-not_end number small, number-read number small) (on b above (Said v before) rest (omega arith))
  value-read b above before v ts rest smooth same (no_colour s c word w line is) p =
      keyword-takes b above before word _ line _ smooth same is ∙ rw (colour-noted smooth b word w None before is) (on b above (Said v before) rest (omega arith))
  value-read b above before v ts rest smooth same (some_colour s c word w rgb line is bytes) p =
      keyword-takes b above before word _ line _ smooth same is
      ∙ rw (counts_of w rgb.red rgb.green rgb.blue bytes.red bytes.green bytes.blue tail (lacks_room c (files_used before)) (bare line (decimal rgb.red)) (bare line (decimal rgb.green)) (bare line (decimal rgb.blue)) rest refl refl refl refl refl refl, colour-noted smooth b word w (Some rgb) before is)
      (on b above (Said v before) rest (omega arith))
  value-read b above before v ts rest smooth same (geometry s c word Point line is) p = keyword-takes b above before word _ line _ smooth same is ∙ on b above (Said v before) rest (omega arith)
  value-read b above before v ts rest smooth same (geometry s c word Line line is) p = keyword-takes b above before word _ line _ smooth same is ∙ on b above (Said v before) rest (omega arith)
  value-read b above before v ts rest smooth same (geometry s c word Polygon line is) p = keyword-takes b above before word _ line _ smooth same is ∙ on b above (Said v before) rest (omega arith)
  value-read b above before v ts rest smooth same (pixmap s c word line is) p = keyword-takes b above before word _ line _ smooth same is ∙ on b above (Said v before) rest (omega arith)
  value-read b above before v ts rest smooth same (smooth_symbol s c word Pixmap line is) p = keyword-takes b above before word _ line _ smooth same is ∙ on b above (Said v before) rest (omega arith)
  value-read b above before v ts rest smooth same (smooth_symbol s c word Ellipse line is) p = keyword-takes b above before word _ line _ smooth same is ∙ on b above (Said v before) rest (omega arith)
  value-read b above before v ts rest smooth same (radii s c word line is) p =
      keyword-takes b above before word _ line _ smooth same is
      ∙ rw (count-not_end 1 (omega arith), one-read, count-not_end 1 (omega arith), one-read) (on b above (Said v before) rest (omega arith))
  value-read b above before v ts rest smooth same (filled s c word line is) p = keyword-takes b above before word _ line _ smooth same is ∙ on b above (Said v before) rest (omega arith)
  value-read b above before v ts rest smooth same (position s c word at line is) p =
      keyword-takes b above before word _ line _ smooth same is ∙ rw (position-not_end at, position-read at) (on b above (Said v before) rest (omega arith))
  value-read b above before v ts rest smooth same (equals s c word given line is) p = keyword-takes b above before word _ line _ smooth same is ∙ on b above (Said v before) rest (omega arith)
  value-read b above before v ts rest smooth same (one_of s c word texts line is some none) p =
      keyword-takes b above before word _ line _ smooth same is
      ∙ ap (λ (cut : List (List ℕ)). block_in tail k b above (Said (value.Rule (OneOf cut)) before) rest) (names-cut texts some none)
      ∙ on b above (Said v before) rest (omega arith)
  value-read b above before v ts rest smooth same (extent s c word area line is within) p =
      keyword-takes b above before word _ line _ smooth same is
      ∙ rw (
        not_end area.minx within.world.west,
        coordinate-written area.minx within.world.west,
        not_end area.miny within.world.south,
        coordinate-written area.miny within.world.south,
        not_end area.maxx within.world.east,
        coordinate-written area.maxx within.world.east,
        is_lt area.minx area.maxx within.columns,
        not_end area.maxy within.world.north,
        coordinate-written area.maxy within.world.north,
        le-leb (unsigned_abs area.minx) COORDINATE_LIMIT (coordinate-size area.minx within.world.west),
        le-leb (unsigned_abs area.miny) COORDINATE_LIMIT (coordinate-size area.miny within.world.south),
        le-leb (unsigned_abs area.maxx) COORDINATE_LIMIT (coordinate-size area.maxx within.world.east),
        le-leb (unsigned_abs area.maxy) COORDINATE_LIMIT (coordinate-size area.maxy within.world.north),
        is_lt area.minx area.maxx within.columns,
        is_lt area.miny area.maxy within.rows,
      )
      (on b above (Said v before) rest (omega arith))

  -- a vertex is read in POINTS
  vertex-read : (above before : Entries) (place : Place) (rest : List TokenValue) → IsCoordinate place.x → IsCoordinate place.y → vertex_count above before < MAX_VERTICES → length rest + 2 ≤ suc k →
      block_in tail (suc k) block.Points above before (bare 1 (written place.x) ∷ bare 1 (written place.y) ∷ rest) ≡ block_in tail (suc k) block.Points above (Vertex place before) rest
  unfolding block_in
  vertex-read above before place rest x y room p =
      rw (not_end place.x x, lt-leb MAX_VERTICES (vertex_count above before) room, coordinate-written place.x x, not_end place.y y, coordinate-written place.y y)
      (on block.Points above (Vertex place before) rest (omega arith))

  -- the keyword of a block opens it
  block-opens : (b c : Block) (above before : Entries) (rest : List TokenValue) → IsBlockIn b c → is_full c before ≡ false →
      block_in tail (suc k) b above before (bare 1 (block_text c) ∷ rest) ≡ and_then (block_in tail k c before Nothing rest) (λ inner. block_in tail k b above (Inside c inner.0 before) inner.1)
  unfolding block_in spelling
  block-opens b c above before rest symbol room = rw room refl
  block-opens b c above before rest layer room = rw room refl
  block-opens b c above before rest class room = rw room refl
  block-opens b c above before rest feature room = rw room refl
  block-opens b c above before rest style room = rw room refl
  block-opens b c above before rest points room = refl
  block-opens b c above before rest label room = rw room refl
  block-opens b c above before rest web room = refl
  block-opens b c above before rest web_metadata room = refl
  block-opens b c above before rest layer_metadata room = refl

  -- END ends a SYMBOL, where nothing is wrong
  symbol-ends : (before inner : Entries) (rest : List TokenValue) (smooth : Bool) → is_smooth (values before) ≡ smooth → ((t : TokenValue) → closing_fault block.Symbol before inner t ≡ None) →
      block_in tail (suc k) block.Symbol before inner (bare 1 (codes "END") ∷ rest) ≡ Ok (inner, rest)
  unfolding block_in spelling
  symbol-ends before inner rest true same fine = rw (same, fine (bare 1 (codes "END"))) refl
  symbol-ends before inner rest false same fine = rw (same, fine (bare 1 (codes "END"))) refl

  -- and any block
  block-ends : (c : Block) (before inner : Entries) (rest : List TokenValue) → ((t : TokenValue) → closing_fault c before inner t ≡ None) →
      block_in tail (suc k) c before inner (bare 1 (codes "END") ∷ rest) ≡ Ok (inner, rest)
  unfolding block_in spelling
  block-ends block.Map before inner rest fine = rw (fine (bare 1 (codes "END"))) refl
  block-ends block.Symbol before inner rest fine = symbol-ends before inner rest (is_smooth (values before)) refl fine
  block-ends block.Layer before inner rest fine = rw (fine (bare 1 (codes "END"))) refl
  block-ends block.Class before inner rest fine = refl
  block-ends block.Style before inner rest fine = refl
  block-ends block.Feature before inner rest fine = rw (fine (bare 1 (codes "END"))) refl
  block-ends block.Validation before inner rest fine = refl
  block-ends block.Label before inner rest fine = refl
  block-ends block.Web before inner rest fine = refl
  block-ends block.WebMetadata before inner rest fine = refl
  block-ends block.LayerMetadata before inner rest fine = refl
  block-ends block.Projection before inner rest fine = refl
  block-ends block.Skipped before inner rest fine = refl
  block-ends block.SkippedLabel before inner rest fine = refl
  block-ends block.Points before inner rest fine = rw (fine (bare 1 (codes "END"))) refl

-- a value has a token
some-token : (smooth : Bool) (b : Block) (v : Value) (ts : List TokenValue) → IsWritten smooth b v ts → 1 ≤ length ts
some-token smooth b v ts (text s c word w given line is) = omega arith
some-token smooth b v ts (table s c word given line is named) = omega arith
some-token smooth b v ts (font s given line) = omega arith
some-token smooth b v ts (formats s line) = omega arith
some-token smooth b v ts (systems s line) = omega arith
some-token smooth b v ts (smoothing s n line given is) = omega arith
some-token smooth b v ts (metadata s c key w given line is) = omega arith
some-token smooth b v ts (csv_x s given line) = omega arith
some-token smooth b v ts (csv_y s given line) = omega arith
some-token smooth b v ts (items s names line some few none) = omega arith
some-token smooth b v ts (written_as.count s c word w n line is within) = omega arith
some-token smooth b v ts (flag s c word w f line is) = omega arith
some-token smooth b v ts (scale s c word w number line is small) = omega arith
some-token smooth b v ts (no_colour s c word w line is) = omega arith
some-token smooth b v ts (some_colour s c word w rgb line is bytes) = omega arith
some-token smooth b v ts (geometry s c word is_kind line is) = omega arith
some-token smooth b v ts (pixmap s c word line is) = omega arith
some-token smooth b v ts (smooth_symbol s c word type line is) = omega arith
some-token smooth b v ts (radii s c word line is) = omega arith
some-token smooth b v ts (filled s c word line is) = omega arith
some-token smooth b v ts (position s c word at line is) = omega arith
some-token smooth b v ts (equals s c word given line is) = omega arith
some-token smooth b v ts (one_of s c word texts line is some none) = omega arith
some-token smooth b v ts (extent s c word area line is within) = omega arith

-- a value in its block
value-here : (tail : Tail) (n : ℕ) (b : Block) (above before : Entries) (v : Value) (ts rest : List TokenValue) → IsWritten (is_smooth (values above)) b v ts → length (ts ++ rest) ≤ n →
    block_in tail n b above before (ts ++ rest) ≡ block_in tail n b above (Said v before) rest
value-here tail (suc k) b above before v ts rest is p = value-read tail k b above before v ts rest _ refl is p
value-here tail zero b above before v ts rest is p =
    let some : 1 ≤ length ts = some-token _ b v ts is in
    absurd (omega (arith, length-append ts rest))

vertex-here : (tail : Tail) (n : ℕ) (above before : Entries) (place : Place) (rest : List TokenValue) → IsCoordinate place.x → IsCoordinate place.y → vertex_count above before < MAX_VERTICES → length rest + 2 ≤ n →
    block_in tail n block.Points above before (bare 1 (written place.x) ∷ bare 1 (written place.y) ∷ rest) ≡ block_in tail n block.Points above (Vertex place before) rest
vertex-here tail zero above before place rest x y room p = absurd (omega arith)
vertex-here tail (suc k) above before place rest x y room p = vertex-read tail k above before place rest x y room p

-- the tokens of an inner block after its keyword, by those of its entries
abbrev inner_tokens : List TokenValue → List TokenValue
inner_tokens us = us ++ (bare 1 (codes "END") ∷ [])

-- an inner block, which is read as it is written out
inside-here : (tail : Tail) (k : ℕ) (b c : Block) (above before inner : Entries) (us rest : List TokenValue) → IsBlockIn b c → is_full c before ≡ false → ((t : TokenValue) → closing_fault c before inner t ≡ None) →
    length (us ++ (bare 1 (codes "END") ∷ rest)) ≤ k →
    block_in tail k c before Nothing (us ++ (bare 1 (codes "END") ∷ rest)) ≡ block_in tail k c before inner (bare 1 (codes "END") ∷ rest) →
    block_in tail (suc k) b above before (bare 1 (block_text c) ∷ (inner_tokens us ++ rest)) ≡ block_in tail (suc k) b above (Inside c inner before) rest
inside-here tail zero b c above before inner us rest in_b room fine p q = absurd (omega (arith, length-append us (bare 1 (codes "END") ∷ rest)))
inside-here tail (suc j) b c above before inner us rest in_b room fine p q =
    block-opens tail (suc j) b c above before (inner_tokens us ++ rest) in_b room
    ∙ ap (λ ts. and_then (block_in tail (suc j) c before Nothing ts) (λ e. block_in tail (suc j) b above (Inside c e.0 before) e.1)) (append_assoc us (bare 1 (codes "END") ∷ []) rest)
    ∙ ap (λ r. and_then r (λ e. block_in tail (suc j) b above (Inside c e.0 before) e.1)) (q ∙ block-ends tail j c before inner rest fine)
    ∙ on tail (suc j) b above (Inside c inner before) rest (omega (arith, length-append us (bare 1 (codes "END") ∷ rest)))

-- an inner block after its keyword
opened-here : (tail : Tail) (n : ℕ) (b c : Block) (above before inner : Entries) (us rest : List TokenValue) → IsBlockIn b c → is_full c before ≡ false → ((t : TokenValue) → closing_fault c before inner t ≡ None) →
    ((k : ℕ) (after : List TokenValue) → length (us ++ after) ≤ k → block_in tail k c before Nothing (us ++ after) ≡ block_in tail k c before inner after) →
    length (bare 1 (block_text c) ∷ (inner_tokens us ++ rest)) ≤ n →
    block_in tail n b above before (bare 1 (block_text c) ∷ (inner_tokens us ++ rest)) ≡ block_in tail n b above (Inside c inner before) rest
opened-here tail zero b c above before inner us rest in_b room fine read p = absurd (omega arith)
opened-here tail (suc k) b c above before inner us rest in_b room fine read p =
    let same = append_assoc us (bare 1 (codes "END") ∷ []) rest in
    let l : length (us ++ (bare 1 (codes "END") ∷ rest)) ≤ k = omega (arith, ap length same) in
    inside-here tail k b c above before inner us rest in_b room fine l (read k (bare 1 (codes "END") ∷ rest) l)

-- a block that is written out is read up to what comes after it
reading : (tail : Tail) (n : ℕ) (b : Block) (above own : Entries) (ts rest : List TokenValue) → IsWrittenOut b above own ts → length (ts ++ rest) ≤ n →
    block_in tail n b above Nothing (ts ++ rest) ≡ block_in tail n b above own rest
reading tail n b above own ts rest (nothing c over) p = refl
reading tail n b above own ts rest (said c over before us v vs may is) p =
    let same = append_assoc us vs rest in
    ap (block_in tail n b above Nothing) same
    ∙ reading tail n b above before us (vs ++ rest) may (omega (arith, ap length same))
    ∙ value-here tail n b above before v vs rest is (omega (arith, ap length same, length-append us (vs ++ rest)))
reading tail n b above own ts rest (vertex over before us place may x y room) p =
    let tokens = bare 1 (written place.x) ∷ bare 1 (written place.y) ∷ [] in
    let same = append_assoc us tokens rest in
    ap (block_in tail n b above Nothing) same
    ∙ reading tail n b above before us (tokens ++ rest) may (omega (arith, ap length same))
    ∙ vertex-here tail n above before place rest x y room (omega (arith, ap length same, length-append us (tokens ++ rest)))
reading tail n b above own ts rest (inside d c over before inner us vs may in_b room may_inner fine) p =
    let tokens = bare 1 (block_text c) ∷ inner_tokens vs in
    let same = append_assoc us tokens rest in
    ap (block_in tail n b above Nothing) same
    ∙ reading tail n b above before us (tokens ++ rest) may (omega (arith, ap length same))
    ∙ opened-here tail n b c above before inner vs rest in_b room fine (λ k after l. reading tail k c before inner vs after may_inner l) (omega (arith, ap length same, length-append us (tokens ++ rest)))

-- a mapfile that is written out is read as what it says
pub written-law : WrittenIsRead
unfolding spelling
written-law own ts line may fine =
    let tokens = ts ++ (bare 1 (codes "END") ∷ []) in
    ap (λ r. and_then r (λ e. alone (tails.Ends line) e.0 e.1)) (whole (length tokens) (omega arith))
  where
    whole : (n : ℕ) → length (ts ++ (bare 1 (codes "END") ∷ [])) ≤ n → block_in (tails.Ends line) n block.Map Nothing Nothing (ts ++ (bare 1 (codes "END") ∷ [])) ≡ Ok (own, [])
    whole zero p = absurd (omega (arith, length-append ts (bare 1 (codes "END") ∷ [])))
    whole (suc k) p = reading (tails.Ends line) (suc k) block.Map Nothing own ts (bare 1 (codes "END") ∷ []) may p ∙ block-ends (tails.Ends line) k block.Map Nothing own [] fine
