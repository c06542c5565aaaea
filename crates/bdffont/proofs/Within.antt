-- What is read keeps the limits of a font.
use Rattle.std.proofs.Common.{◌≡◌, ℕ, zero, suc, ◌+◌, ◌-◌, ◌*◌, ◌/◌, ◌<◌, ◌≤◌, Bool, true, false, List, [], ◌∷◌, ◌++◌, length, Option, None, Some, Result, Ok, Err, ℤ, refl, sym, ◌∙◌, ap, arith, length-append}
use Rattle.std.specs.Prelude.{◌==◌, nat_lt, max, pos, negsuc, unsigned_abs, if◌then◌else◌, All, IfOk}
use Rattle.std.proofs.Math.Nat.{le-max_left, le-max_right}
use Rattle.std.proofs.lemmas.Int.{ints}
use Rattle.std.proofs.lemmas.List.{length-take}
use Rattle.std.proofs.lemmas.List.Elements.{All-cons, All-nil, All-push}
use Rattle.std.proofs.lemmas.List.Sums.{fold-append}
use Rattle.std.proofs.lemmas.Bool.{and_parts, ltb-true, ltb-false, eqb-true}
use Rattle.std.proofs.lemmas.Result.{IfOk-at_ok}
use Rattle.geom.specs.Range.{IsWithin}
use Rattle.mapdefs.specs.declared.font.BitmapBox.{BitmapBox}
use Rattle.mapdefs.specs.declared.font.FontFields.{FontFields}
use Rattle.mapdefs.specs.declared.font.Glyph.{Glyph}
use Rattle.mapdefs.specs.declared.limits.TheConstants.{MAX_GLYPHS}
use Rattle.mapdefs.specs.FontLimits.{IsBoxWithin, IsGlyphWithin}
use Rattle.bdffont.specs.declared.fault.FontFault.{FontFault}
use Rattle.bdffont.specs.declared.fault.FontKind.{FontKind}
use Rattle.bdffont.specs.declared.fault.FontKind.TheVariants.{Row, Count, Limit}
use Rattle.bdffont.specs.declared.fields.Encoding.{Encoding}
use Rattle.bdffont.specs.declared.fields.Encoding.TheVariants.{NoCharacter, Character}
use Rattle.bdffont.specs.declared.keyword.Keyword.{Keyword}
use Rattle.bdffont.specs.declared.keyword.Keyword.TheVariants as word
use Rattle.bdffont.specs.declared.section.Draft.{Draft}
use Rattle.bdffont.specs.declared.section.FontHeader.{FontHeader}
use Rattle.bdffont.specs.declared.section.GlyphHeader.{GlyphHeader}
use Rattle.bdffont.specs.declared.section.Section.{Section}
use Rattle.bdffont.specs.declared.section.Section.TheVariants.{Before, InHeader, Between, InGlyph, InRows, Ended}
use Rattle.bdffont.specs.declared.section.GlyphRows.{GlyphRows}
use Rattle.bdffont.specs.declared.section.ReaderState.{ReaderState}
use Rattle.bdffont.specs.Bits.{bits, is_row, row_pixels}
use Rattle.bdffont.specs.Fields.{box_at, count_at}
use Rattle.bdffont.specs.Keyword.{keyword_in}
use Rattle.bdffont.specs.Sections.{opened, closed, draft_with, draft_of, before, in_header, between, rows_with, rows_of, encoded, advanced, bounded, in_glyph, with_encoded, after_rows, section_after, says, start}
use Rattle.bdffont.specs.Side.{box_side, side_of, with_sides}
use Rattle.mapdefs.specs.Outcome.{and_then}
use Rattle.std.specs.Str.Lines.{lines}
use Rattle.bdffont.specs.File.{SideIsOfBoxes, after_line, at_end, reads}

-- a glyph has a truth value for each pixel of its box
abbrev HasArea : Glyph → Type 0
HasArea g = length g.rows ≡ g.bounds.width * g.bounds.height

-- what is read of a file is within its limits
pub record IsGoodFile (f : FontFields) : Type 0 where
  pub side : f.side ≡ side_of f.bounds f.glyphs
  pub bounds : IsBoxWithin f.side f.bounds
  pub count : length f.glyphs ≤ MAX_GLYPHS
  pub each : All (IsGlyphWithin f.side) f.glyphs

-- a font so far, with so many glyphs that are not finished
record IsGoodDraft (d : Draft) (unfinished : ℕ) : Type 0 where
  side : d.side ≡ side_of d.bounds d.glyphs
  count : length d.glyphs + unfinished ≤ d.started
  most : d.started ≤ MAX_GLYPHS
  each : All HasArea d.glyphs

-- a glyph so far: its pixels, with those of the rows to come, fill its box
abbrev IsGoodRows : GlyphRows → Type 0
IsGoodRows r = length r.pixels + r.left * r.bounds.width ≡ r.bounds.width * r.bounds.height

abbrev IsGood : Section → Type 0
IsGood (Before most) = Unit {0}
IsGood (InHeader h) = Unit {0}
IsGood (Between d) = IsGoodDraft d 0
IsGood (InGlyph d g) = IsGoodDraft d 1
IsGood (InRows d r) = IsGoodDraft d 1 × IsGoodRows r
IsGood (Ended f) = IsGoodFile f

-- what follows from a result keeps what it keeps
follows-good : {X Y : Type 0} (P : X → Type 0) (Q : Y → Type 0) (r : Result X FontKind) (f : X → Result Y FontKind) → IfOk r P → ((x : X) → P x → IfOk (f x) Q) → IfOk (and_then r f) Q
follows-good P Q (Ok x) f h g = g x h
follows-good P Q (Err kind) f h g = tt

any : {X : Type 0} (r : Result X FontKind) → IfOk r (λ _. Unit {0})
any (Ok x) = tt
any (Err kind) = tt

-- boxes within a side
offset-within : (side : ℕ) (z : ℤ) → unsigned_abs z ≤ side → IsWithin side z
offset-within side (pos n) h = record { least = omega (arith, ints); most = omega (arith, ints) }
offset-within side (negsuc n) h = record { least = omega (arith, ints); most = omega (arith, ints) }

box-within : (side : ℕ) (b : BitmapBox) → box_side b ≤ side → IsBoxWithin side b
box-within side b h =
    let sides = le-max_left (max b.width b.height) (max (unsigned_abs b.xoff) (unsigned_abs b.yoff)) in
    let offsets = le-max_right (max b.width b.height) (max (unsigned_abs b.xoff) (unsigned_abs b.yoff)) in
    record {
      columns = omega (arith, h, sides, le-max_left b.width b.height);
      rows = omega (arith, h, sides, le-max_right b.width b.height);
      right = offset-within side b.xoff (omega (arith, h, offsets, le-max_left (unsigned_abs b.xoff) (unsigned_abs b.yoff)));
      up = offset-within side b.yoff (omega (arith, h, offsets, le-max_right (unsigned_abs b.xoff) (unsigned_abs b.yoff)));
    }

-- a side is at most what it grows to with glyphs, and so is that of each of these
sides-least : (side : ℕ) (glyphs : List Glyph) → side ≤ with_sides side glyphs
sides-least side [] = omega arith
sides-least side (g ∷ gs) = omega (arith, le-max_left side (box_side g.bounds), sides-least (max side (box_side g.bounds)) gs)

sides-each : (side : ℕ) (glyphs : List Glyph) → All (λ (g : Glyph). box_side g.bounds ≤ with_sides side glyphs) glyphs
sides-each side [] = All-nil _
sides-each side (g ∷ gs) =
    let grown = max side (box_side g.bounds) in
    All-cons (λ (h : Glyph). box_side h.bounds ≤ with_sides grown gs) g gs (omega (arith, le-max_right side (box_side g.bounds), sides-least grown gs)) (sides-each grown gs)

font-good : (side : ℕ) (bounds : BitmapBox) (glyphs : List Glyph) → side ≡ side_of bounds glyphs → length glyphs ≤ MAX_GLYPHS → All HasArea glyphs →
    IsGoodFile (record { side = side; bounds = bounds; glyphs = glyphs })
font-good side bounds glyphs e count areas = record {
  side = e;
  bounds = box-within side bounds (omega (arith, e, sides-least (box_side bounds) glyphs));
  count = count;
  each = λ k d less. record { bounds = box-within side _ (omega (arith, e, sides-each (box_side bounds) glyphs k d less)); area = areas k d less };
}

-- fonts that begin, go on and end
draft_with-good : (most : ℕ) (bounds : Option BitmapBox) (count : Option ℕ) → IfOk (draft_with most bounds count) (λ d. IsGoodDraft d 0)
draft_with-good most (Some b) (Some n) = record { side = refl; count = omega arith; most = omega arith; each = All-nil HasArea }
draft_with-good most (Some b) None = tt
draft_with-good most None count = tt

opened-if : (d : Draft) (room : Bool) → nat_lt d.started MAX_GLYPHS ≡ room → IsGoodDraft d 0 →
    IfOk (if room then Ok (InGlyph (record d { started = d.started + 1 }) (record { encoding = None; advance = None; bounds = None })) else Err Limit) IsGood
opened-if d true e good =
    let room : d.started < MAX_GLYPHS = ltb-true _ _ e in
    record { side = good.side; count = omega (arith, good.count); most = omega arith; each = good.each }
opened-if d false e good = tt

opened-good : (d : Draft) → IsGoodDraft d 0 → IfOk (opened d) IsGood
opened-good d good = opened-if d (nat_lt d.started MAX_GLYPHS) refl good

closed-if : (d : Draft) (same : Bool) → IsGoodDraft d 0 → IfOk (if same then Ok (Ended (record { side = d.side; bounds = d.bounds; glyphs = d.glyphs })) else Err Count) IsGood
closed-if d true good = font-good d.side d.bounds d.glyphs good.side (omega (arith, good.count, good.most)) good.each
closed-if d false good = tt

closed-good : (d : Draft) → IsGoodDraft d 0 → IfOk (closed d) IsGood
closed-good d good = closed-if d (d.started == d.count) good

-- lines by their sections
before-good : (most : ℕ) (keyword : Option Keyword) → IfOk (before most keyword) IsGood
before-good most (Some word.StartFont) = tt
before-good most _ = tt

in_header-good : (h : FontHeader) (keyword : Option Keyword) (line : List ℕ) → IfOk (in_header h keyword line) IsGood
in_header-good h None line = tt
in_header-good h (Some word.FontBoundingBox) line =
    follows-good (λ _. Unit {0}) IsGood (box_at h.most line) (λ b. Ok (InHeader (record h { bounds = Some b }))) (any (box_at h.most line)) (λ b g. tt)
in_header-good h (Some word.Chars) line =
    follows-good (λ _. Unit {0}) IsGood (count_at line) (λ n. Ok (InHeader (record h { count = Some n }))) (any (count_at line)) (λ n g. tt)
in_header-good h (Some word.StartChar) line = follows-good (λ d. IsGoodDraft d 0) IsGood (draft_of h) opened (draft_with-good h.most h.bounds h.count) opened-good
in_header-good h (Some word.EndFont) line = follows-good (λ d. IsGoodDraft d 0) IsGood (draft_of h) closed (draft_with-good h.most h.bounds h.count) closed-good
in_header-good h (Some _) line = tt

between-good : (d : Draft) (keyword : Option Keyword) → IsGoodDraft d 0 → IfOk (between d keyword) IsGood
between-good d None good = good
between-good d (Some word.StartChar) good = opened-good d good
between-good d (Some word.EndFont) good = closed-good d good
between-good d (Some _) good = tt

rows_with-good : (e : Option Encoding) (a : Option ℕ) (b : Option BitmapBox) → IfOk (rows_with e a b) IsGoodRows
rows_with-good (Some e) (Some a) (Some b) = omega arith
rows_with-good (Some e) (Some a) None = tt
rows_with-good (Some e) None b = tt
rows_with-good None a b = tt

-- a further field of a glyph's header
field-good : (d : Draft) (next : Result GlyphHeader FontKind) → IsGoodDraft d 1 → IfOk (and_then next (λ g. Ok (InGlyph d g))) IsGood
field-good d (Ok g) good = good
field-good d (Err kind) good = tt

in_glyph-good : (d : Draft) (g : GlyphHeader) (keyword : Option Keyword) (line : List ℕ) → IsGoodDraft d 1 → IfOk (in_glyph d g keyword line) IsGood
in_glyph-good d g None line good = good
in_glyph-good d g (Some word.Encoding) line good = field-good d (encoded g line) good
in_glyph-good d g (Some word.Dwidth) line good = field-good d (advanced g line) good
in_glyph-good d g (Some word.Bbx) line good = field-good d (bounded d.most g line) good
in_glyph-good d g (Some word.Bitmap) line good =
    follows-good IsGoodRows IsGood (rows_of g) (λ rows. Ok (InRows d rows)) (rows_with-good g.encoding g.advance g.bounds) (λ rows h. (good, h))
in_glyph-good d g (Some _) line good = tt

-- rows
bits-length : (digits : List ℕ) → length (bits digits) ≡ 4 * length digits
bits-length [] = refl
bits-length (d ∷ ds) = omega (arith, bits-length ds)

row-length : (width : ℕ) (line : List ℕ) → is_row width line ≡ true → length (row_pixels width line) ≡ width
row-length width line row =
    let digits : length line ≡ ((width + 7) / 8) * 2 = eqb-true _ _ (and_parts (length line == ((width + 7) / 8) * 2) _ row).0 in
    omega (arith, length-take width (bits line), bits-length line)

with_encoded-good : (d : Draft) (r : GlyphRows) (e : Encoding) → IsGoodDraft d 1 → IsGoodRows r → r.left ≡ 0 → IsGoodDraft (with_encoded d r e) 0
with_encoded-good d r NoCharacter good rows none = record { side = good.side; count = omega (arith, good.count); most = good.most; each = good.each }
with_encoded-good d r (Character n) good rows none =
    let glyph : Glyph = record { encoding = n; advance = r.advance; bounds = r.bounds; rows = r.pixels } in
    let grows : Glyph → ℕ → ℕ = λ g side. max side (box_side g.bounds) in
    record {
      side = ap (grows glyph) good.side ∙ sym (fold-append (λ most (g : Glyph). max most (box_side g.bounds)) (box_side d.bounds) d.glyphs (glyph ∷ []));
      count = omega (arith, good.count, length-append d.glyphs (glyph ∷ []));
      most = good.most;
      each = All-push HasArea d.glyphs glyph good.each (omega (arith, rw none at rows));
    }

after_rows-good : (d : Draft) (r : GlyphRows) (keyword : Option Keyword) → IsGoodDraft d 1 → IsGoodRows r → r.left ≡ 0 → IfOk (after_rows d r keyword) IsGood
after_rows-good d r (Some word.EndChar) good rows none = with_encoded-good d r r.encoding good rows none
after_rows-good d r _ good rows none = tt

row-area : (pixels row left width area : ℕ) → pixels + left * width ≡ area → row ≡ width → 0 < left → pixels + row + (left - 1) * width ≡ area
row-area pixels row zero width area h r some = absurd (omega arith)
row-area pixels row (suc left) width area h r some = let less : suc left - 1 ≡ left = omega arith in rw (less, r) (omega arith)

in_rows-if : (d : Draft) (r : GlyphRows) (line : List ℕ) (some row : Bool) → nat_lt 0 r.left ≡ some → is_row r.bounds.width line ≡ row → IsGoodDraft d 1 → IsGoodRows r →
    IfOk (if some
    then (if row then Ok (InRows d (record r { pixels = r.pixels ++ row_pixels r.bounds.width line; left = r.left - 1 })) else Err Row)
    else after_rows d r (keyword_in line)) IsGood
in_rows-if d r line true true s w good rows = (
  good,
  rw length-append (row-area (length r.pixels) (length (row_pixels r.bounds.width line)) r.left r.bounds.width _ rows (row-length r.bounds.width line w) (ltb-true _ _ s)),
)
in_rows-if d r line true false s w good rows = tt
in_rows-if d r line false row s w good rows = let none : r.left ≡ 0 = omega (arith, ltb-false _ _ s) in after_rows-good d r (keyword_in line) good rows none

section-good : (p : Section) (line : List ℕ) → IsGood p → IfOk (section_after p line) IsGood
section-good (Before most) line good = before-good most (keyword_in line)
section-good (InHeader h) line good = in_header-good h (keyword_in line) line
section-good (Between d) line good = between-good d (keyword_in line) good
section-good (InGlyph d g) line good = in_glyph-good d g (keyword_in line) line good
section-good (InRows d r) line good = in_rows-if d r line (nat_lt 0 r.left) (is_row r.bounds.width line) refl refl good.0 good.1
section-good (Ended f) line good = good

-- states
says-if : (s : ReaderState) (line : List ℕ) (skips opens closes : Bool) → IsGood s.section →
    IfOk (if skips then Ok (record s { in_properties = closes }) else (if opens then Ok (record s { in_properties = true }) else and_then (section_after s.section line) (λ next. Ok (record { section = next; in_properties = false })))) (λ (t : ReaderState). IsGood t.section)
says-if s line true opens closes good = good
says-if s line false true closes good = good
says-if s line false false closes good =
    follows-good IsGood (λ (t : ReaderState). IsGood t.section) (section_after s.section line) (λ next. Ok (record { section = next; in_properties = false })) (section-good s.section line good) (λ p h. h)

says-good : (s : ReaderState) (line : List ℕ) → IsGood s.section → IfOk (says s line) (λ (t : ReaderState). IsGood t.section)
says-good s line good = says-if s line s.in_properties _ _ good

-- files
end-good : (line : ℕ) (p : Section) → IsGood p → IfOk (at_end line p) IsGoodFile
end-good line (Ended f) good = good
end-good line (Before most) good = tt
end-good line (InHeader h) good = tt
end-good line (Between d) good = tt
end-good line (InGlyph d g) good = tt
end-good line (InRows d r) good = tt

line-good : (line : ℕ) (r : Result ReaderState FontKind) (others : ReaderState → Result FontFields FontFault) → IfOk r (λ (t : ReaderState). IsGood t.section) → ((t : ReaderState) → IsGood t.section → IfOk (others t) IsGoodFile) → IfOk (after_line line r others) IsGoodFile
line-good line (Ok t) others h g = g t h
line-good line (Err kind) others h g = tt

reads-good : (lines : List (List ℕ)) (s : ReaderState) (line : ℕ) → IsGood s.section → IfOk (reads s line lines) IsGoodFile
unfolding reads
reads-good [] s line good = end-good line s.section good
reads-good (text ∷ texts) s line good = line-good line (says s text) _ (says-good s text good) (λ t g. reads-good texts t (line + 1) g)

-- what is read of a file keeps the limits
pub file-good : (most line : ℕ) (lines : List (List ℕ)) (f : FontFields) → reads (start most) line lines ≡ Ok f → IsGoodFile f
file-good most line lines f h = IfOk-at_ok IsGoodFile h (reads-good lines (start most) line tt)

-- the law
pub side-is-of-boxes : SideIsOfBoxes
side-is-of-boxes most bytes f h = (file-good most 1 (lines bytes) f h).side
