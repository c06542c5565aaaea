-- A font that is written out is read as that font.
use Rattle.std.proofs.Common.{◌≡◌, ◌∙◌, ℕ, zero, suc, ◌+◌, ◌-◌, ◌*◌, ◌^◌, ◌<◌, ◌≤◌, Bool, true, false, not, ◌&&◌, if◌then◌else◌, List, [], ◌∷◌, ◌++◌, length, take, drop, filter, refl, subst, sym, ap, arith, Some, None, Ok}
use Rattle.std.proofs.Math.Nat.{min-eq_left}
use Rattle.std.proofs.lemmas.Bool.{and_from, and_parts, false≢true}
use Rattle.std.proofs.lemmas.Bool.Decides.{nat_tests}
use Rattle.std.proofs.lemmas.List.{append-nil, append_assoc, length-drop, length-take-le, take-append-drop}
use Rattle.std.proofs.lemmas.List.Elements.{All-cons, All-head, All-tail}
use Rattle.std.proofs.lemmas.List.Splits.{slice_split_at, slice_split_none}
use Rattle.std.specs.Char.{is_ascii_digit}
use Rattle.std.specs.Fmt.{decimal}
use Rattle.std.specs.List.{flat_map, list_all, slice_split}
use Rattle.std.specs.Prelude.{◌==◌, All, Option, Result, max, nat_le, nat_lt, unsigned_abs}
use lib.IntN.{ℤ, pos, negsuc}
use Rattle.geom.proofs.Digits.{digits-cons}
use Rattle.geom.proofs.Written.{IsNumeralOf, digit-not, numeral}
use Rattle.geom.specs.Decimal.{signed}
use Rattle.mapdefs.specs.declared.font.BitmapBox.{BitmapBox}
use Rattle.mapdefs.specs.declared.font.FontFields.{FontFields}
use Rattle.mapdefs.specs.declared.font.Glyph.{Glyph}
use Rattle.mapdefs.specs.declared.limits.TheConstants.{MAX_FINE_GLYPH_SIDE, MAX_GLYPHS}
use Rattle.bdffont.specs.declared.fault.FontKind.{FontKind}
use Rattle.bdffont.specs.declared.fields.BoxNumbers.{BoxNumbers}
use Rattle.bdffont.specs.declared.fields.Encoding.{Encoding}
use Rattle.bdffont.specs.declared.fields.Encoding.TheVariants.{Character}
use Rattle.bdffont.specs.declared.keyword.Keyword.{Keyword}
use Rattle.bdffont.specs.declared.keyword.Keyword.TheVariants as word
use Rattle.bdffont.specs.declared.number.WholeNumber.{WholeNumber}
use Rattle.bdffont.specs.declared.section.Draft.{Draft}
use Rattle.bdffont.specs.declared.section.FontHeader.{FontHeader}
use Rattle.bdffont.specs.declared.section.GlyphHeader.{GlyphHeader}
use Rattle.bdffont.specs.declared.section.GlyphRows.{GlyphRows}
use Rattle.bdffont.specs.declared.section.ReaderState.{ReaderState}
use Rattle.bdffont.specs.declared.section.Section.{Section}
use Rattle.bdffont.specs.declared.section.Section.TheVariants.{Before, InHeader, Between, InGlyph, InRows, Ended}
use Rattle.bdffont.specs.Bits.{filled, is_row, row_pixels, written}
use Rattle.bdffont.specs.Fields.{advance_at, box_at, box_of, count_at, encoding_at}
use Rattle.bdffont.specs.File.{reads}
use Rattle.bdffont.specs.Keyword.{keyword_in, keyword_of, spelling}
use Rattle.bdffont.specs.Number.{number_of, size_of}
use Rattle.bdffont.specs.Sections.{between, closed, has_properties, in_glyph, in_header, opened, opens_properties, says, section_after, start}
use Rattle.bdffont.specs.Side.{box_side, side_of, with_sides}
use Rattle.mapdefs.specs.Outcome.{and_then}
use Rattle.bdffont.specs.Words.{is_space, words}
use Rattle.bdffont.specs.Writing.{IsBox, IsGlyph, OtherLinesAreSkipped, WrittenFontIsRead, allows_others, box_words, font_lines, glyph_lines, line_of, row_lines, whole}
use Rattle.bdffont.proofs.Words.{kept-first}
use Rattle.bdffont.proofs.Written.{written-row-is-read}

-- a word: some bytes, none of them a space
record IsWord (w : List ℕ) : Type 0 where
  some : 0 < length w
  plain : list_all (λ b. not (is_space b)) w ≡ true

-- no words
none : All IsWord []
none k d h = absurd (omega arith)

plain-all : (w : List ℕ) → list_all (λ b. not (is_space b)) w ≡ true → All (λ b. is_space b ≡ false) w
plain-all [] h = λ k d less. absurd (omega arith)
plain-all (b ∷ bs) h =
    let parts = and_parts (not (is_space b)) (list_all (λ b. not (is_space b)) bs) h in
    All-cons (λ b. is_space b ≡ false) b bs (opposite (is_space b) parts.0) (plain-all bs parts.1)
  where
    opposite : (t : Bool) → not t ≡ true → t ≡ false
    opposite true e = absurd (false≢true e)
    opposite false e = refl

-- a word with words after it, each after a space, is cut into these
split-joined : (w : List ℕ) (ws : List (List ℕ)) → IsWord w → All IsWord ws → slice_split is_space (w ++ flat_map (λ v. 32 ∷ v) ws) ≡ w ∷ ws
split-joined w [] is are = rw (append-nil w) (slice_split_none is_space w (plain-all w is.plain))
split-joined w (v ∷ vs) is are =
    slice_split_at is_space w 32 (v ++ flat_map (λ v. 32 ∷ v) vs) (plain-all w is.plain) refl
    ∙ ap (λ (parts : List (List ℕ)). w ∷ parts) (split-joined v vs (All-head IsWord v vs are) (All-tail IsWord v vs are))

kept-all : (ws : List (List ℕ)) → All IsWord ws → filter (λ w. nat_lt 0 (length w)) ws ≡ ws
kept-all [] are = refl
kept-all (w ∷ ws) are = kept-first w ws (All-head IsWord w ws are).some ∙ ap (λ (vs : List (List ℕ)). w ∷ vs) (kept-all ws (All-tail IsWord w ws are))

spelt : (keyword : Keyword) → IsWord (spelling keyword)
unfolding spelling
spelt word.StartFont = record { some = omega arith; plain = refl }
spelt word.StartProperties = record { some = omega arith; plain = refl }
spelt word.EndProperties = record { some = omega arith; plain = refl }
spelt word.FontBoundingBox = record { some = omega arith; plain = refl }
spelt word.Chars = record { some = omega arith; plain = refl }
spelt word.StartChar = record { some = omega arith; plain = refl }
spelt word.Encoding = record { some = omega arith; plain = refl }
spelt word.Dwidth = record { some = omega arith; plain = refl }
spelt word.Bbx = record { some = omega arith; plain = refl }
spelt word.Bitmap = record { some = omega arith; plain = refl }
spelt word.EndChar = record { some = omega arith; plain = refl }
spelt word.EndFont = record { some = omega arith; plain = refl }

words-line : (keyword : Keyword) (ws : List (List ℕ)) → All IsWord ws → words (line_of keyword ws) ≡ spelling keyword ∷ ws
words-line keyword ws are =
    ap (filter (λ w. nat_lt 0 (length w))) (split-joined (spelling keyword) ws (spelt keyword) are)
    ∙ kept-all (spelling keyword ∷ ws) (All-cons IsWord (spelling keyword) ws (spelt keyword) are)

known : (keyword : Keyword) → keyword_of (spelling keyword) ≡ Some keyword
unfolding keyword_of spelling
known word.StartFont = refl
known word.StartProperties = refl
known word.EndProperties = refl
known word.FontBoundingBox = refl
known word.Chars = refl
known word.StartChar = refl
known word.Encoding = refl
known word.Dwidth = refl
known word.Bbx = refl
known word.Bitmap = refl
known word.EndChar = refl
known word.EndFont = refl

keyword-line : (keyword : Keyword) (ws : List (List ℕ)) → All IsWord ws → keyword_in (line_of keyword ws) ≡ Some keyword
keyword-line keyword ws are = rw (words-line keyword ws are) (known keyword)

-- digits are a word
digits-plain : (text : List ℕ) → list_all is_ascii_digit text ≡ true → list_all (λ b. not (is_space b)) text ≡ true
digits-plain [] h = refl
digits-plain (b ∷ bs) h =
    let cons = digits-cons b bs h in
    and_from (not (is_space b)) (list_all (λ b. not (is_space b)) bs) (ap not (digit-not b 32 cons.0 (omega arith))) (digits-plain bs cons.1)

decimal-word : (n : ℕ) → n < 2 ^ 32 → IsWord (decimal n)
decimal-word n h =
    let is = numeral n (omega (arith, h)) in
    record { some = omega (arith, is.some); plain = digits-plain (decimal n) is.digits }

whole-word : (z : ℤ) → unsigned_abs z < 2 ^ 32 → IsWord (whole z)
whole-word (pos n) h = decimal-word n h
whole-word (negsuc n) h = let is = decimal-word (suc n) h in record { some = omega arith; plain = is.plain }

-- and are read as their number
size-read : (n : ℕ) (text : List ℕ) → n < 2 ^ 32 → IsNumeralOf n text → size_of text ≡ Some n
size-read n text h is =
    let some : nat_lt 0 (length text) ≡ true = grind (arith, nat_tests, is.some) in
    rw (some, is.digits, is.number) (ap Some (min-eq_left (omega (arith, h))))

digits-read : (n : ℕ) (text : List ℕ) → n < 2 ^ 32 → IsNumeralOf n text → number_of text ≡ Some (record { is_negative = false; size = n })
digits-read n [] h is = absurd (omega (arith, is.some))
digits-read n (b ∷ bs) h is =
    let minus : (b == 45) ≡ false = digit-not b 45 (digits-cons b bs is.digits).0 (omega arith) in
    rw (minus, size-read n (b ∷ bs) h is) (ap (λ (t : Bool). Some (record { is_negative = t && nat_lt 0 n; size = n })) minus)

decimal-read : (n : ℕ) → n < 2 ^ 32 → number_of (decimal n) ≡ Some (record { is_negative = false; size = n })
decimal-read n h = digits-read n (decimal n) h (numeral n (omega (arith, h)))

-- a whole number as it is read
abbrev whole_of : ℤ → WholeNumber
whole_of (pos n) = record { is_negative = false; size = n }
whole_of (negsuc n) = record { is_negative = true; size = suc n }

whole-read : (z : ℤ) → unsigned_abs z < 2 ^ 32 → number_of (whole z) ≡ Some (whole_of z)
whole-read (pos n) h = decimal-read n h
whole-read (negsuc n) h =
    let some : nat_lt 0 (suc n) ≡ true = grind (arith, nat_tests) in
    rw (size-read (suc n) (decimal (suc n)) h (numeral (suc n) (omega (arith, h))), some) refl

whole-signed : (z : ℤ) → signed (whole_of z).is_negative (whole_of z).size ≡ z
whole-signed (pos n) = refl
whole-signed (negsuc n) = refl

whole-size : (z : ℤ) → (whole_of z).size ≡ unsigned_abs z
whole-size (pos n) = refl
whole-size (negsuc n) = refl

-- the words of a box, and what they are read as
box-are : (most : ℕ) (b : BitmapBox) → most ≤ MAX_FINE_GLYPH_SIDE → IsBox most b → All IsWord (box_words b)
box-are most b fine is =
    All-cons IsWord (decimal b.width) (decimal b.height ∷ whole b.xoff ∷ whole b.yoff ∷ []) (decimal-word b.width (omega (arith, fine, is.columns)))
    (All-cons IsWord (decimal b.height) (whole b.xoff ∷ whole b.yoff ∷ []) (decimal-word b.height (omega (arith, fine, is.rows)))
    (All-cons IsWord (whole b.xoff) (whole b.yoff ∷ []) (whole-word b.xoff (omega (arith, fine, is.right)))
    (All-cons IsWord (whole b.yoff) [] (whole-word b.yoff (omega (arith, fine, is.up))) none)))

-- the numbers of a box
abbrev numbers : BitmapBox → BoxNumbers
numbers b = record { width = record { is_negative = false; size = b.width }; height = record { is_negative = false; size = b.height }; xoff = whole_of b.xoff; yoff = whole_of b.yoff }

box-of : (most : ℕ) (b : BitmapBox) → IsBox most b → box_of most (numbers b) ≡ Ok b
box-of most b is =
    let columns : nat_le b.width most ≡ true = grind (arith, nat_tests, is.columns) in
    let rows : nat_le b.height most ≡ true = grind (arith, nat_tests, is.rows) in
    let right : nat_le (whole_of b.xoff).size most ≡ true = grind (arith, nat_tests, is.right, whole-size b.xoff) in
    let up : nat_le (whole_of b.yoff).size most ≡ true = grind (arith, nat_tests, is.up, whole-size b.yoff) in
    rw (columns, rows, right, up, whole-signed b.xoff, whole-signed b.yoff) refl

box-read : (most : ℕ) (keyword : Keyword) (b : BitmapBox) → most ≤ MAX_FINE_GLYPH_SIDE → IsBox most b → box_at most (line_of keyword (box_words b)) ≡ Ok b
box-read most keyword b fine is =
    rw (
      words-line keyword (box_words b) (box-are most b fine is),
      decimal-read b.width (omega (arith, fine, is.columns)),
      decimal-read b.height (omega (arith, fine, is.rows)),
      whole-read b.xoff (omega (arith, fine, is.right)),
      whole-read b.yoff (omega (arith, fine, is.up)),
    ) (box-of most b is)

one-word : (n : ℕ) → n < 2 ^ 32 → All IsWord (decimal n ∷ [])
one-word n h = All-cons IsWord (decimal n) [] (decimal-word n h) none

encoding-read : (n : ℕ) → n < 2 ^ 32 → encoding_at (line_of word.Encoding (decimal n ∷ [])) ≡ Ok (Character n)
encoding-read n h =
    let small : nat_le (2 ^ 32) n ≡ false = grind (arith, nat_tests, h) in
    rw (words-line word.Encoding (decimal n ∷ []) (one-word n h), decimal-read n h, small) refl

count-read : (n : ℕ) → n < 2 ^ 32 → count_at (line_of word.Chars (decimal n ∷ [])) ≡ Ok n
count-read n h = rw (words-line word.Chars (decimal n ∷ []) (one-word n h), decimal-read n h) refl

two-words : (n up : ℕ) → n < 256 → up < 2 ^ 32 → All IsWord (decimal n ∷ decimal up ∷ [])
two-words n up h k = All-cons IsWord (decimal n) (decimal up ∷ []) (decimal-word n (omega (arith, h))) (one-word up k)

advance-read : (n up : ℕ) → n < 256 → up < 2 ^ 32 → advance_at (line_of word.Dwidth (decimal n ∷ decimal up ∷ [])) ≡ Ok n
advance-read n up h k =
    let small : nat_lt n 256 ≡ true = grind (arith, nat_tests, h) in
    rw (words-line word.Dwidth (decimal n ∷ decimal up ∷ []) (two-words n up h k), decimal-read n (omega (arith, h)), decimal-read up k, small) refl

-- outside of properties
abbrev at : Section → ReaderState
at section = record { section = section; in_properties = false }

-- from a state on some lines are read as a font
abbrev Reads : ReaderState → List (List ℕ) → FontFields → Type 0
Reads s texts f = (line : ℕ) → reads s line texts ≡ Ok f

step : (s t : ReaderState) (text : List ℕ) (texts : List (List ℕ)) (f : FontFields) → says s text ≡ Ok t → Reads t texts f → Reads s (text ∷ texts) f
unfolding reads
step s t text texts f said next line = rw said (next (line + 1))

-- what a line says that opens no properties
says-by : (section next : Section) (text : List ℕ) → (opens_properties (keyword_in text) && has_properties section) ≡ false → section_after section text ≡ Ok next → says (at section) text ≡ Ok (at next)
says-by section next text plain after = go (opens_properties (keyword_in text) && has_properties section) (section_after section text) plain after
  where
    go : (t : Bool) (r : Result Section FontKind) → t ≡ false → r ≡ Ok next →
        (if t then Ok (record { section = section; in_properties = true }) else and_then r (λ next. Ok (record { section = next; in_properties = false }))) ≡ Ok (at next)
    go t r e f = rw (e, f) refl

-- a line of a keyword and its words
line-step : (section next : Section) (keyword : Keyword) (ws : List (List ℕ)) (texts : List (List ℕ)) (f : FontFields) → All IsWord ws → opens_properties (Some keyword) ≡ false →
    section_after section (line_of keyword ws) ≡ Ok next → Reads (at next) texts f → Reads (at section) (line_of keyword ws ∷ texts) f
line-step section next keyword ws texts f are plain after =
    step (at section) (at next) (line_of keyword ws) texts f (says-by section next (line_of keyword ws) (rw (keyword-line keyword ws are, plain) refl) after)

-- a glyph as far as its rows are read
abbrev rows_at : Encoding → ℕ → BitmapBox → List Bool → ℕ → GlyphRows
rows_at e a b pixels n = record { encoding = e; advance = a; bounds = b; pixels = pixels; left = n }

row-said : (d : Draft) (e : Encoding) (a : ℕ) (b : BitmapBox) (n : ℕ) (before row : List Bool) → length row ≡ b.width →
    says (at (InRows d (rows_at e a b before (suc n)))) (written (filled row)) ≡ Ok (at (InRows d (rows_at e a b (before ++ row) n)))
row-said d e a b n before row wide =
    let text = written (filled row) in
    let back = written-row-is-read row in
    let is : is_row b.width text ≡ true = subst (λ (w : ℕ). is_row w text ≡ true) wide back.0 in
    let pixels : row_pixels b.width text ≡ row = subst (λ (w : ℕ). row_pixels w text ≡ row) wide back.1 in
    let some : nat_lt 0 (suc n) ≡ true = grind (arith, nat_tests) in
    let less : suc n - 1 ≡ n = omega arith in
    says-by (InRows d (rows_at e a b before (suc n))) (InRows d (rows_at e a b (before ++ row) n)) text (never (opens_properties (keyword_in text))) (rw (some, is, pixels, less) refl)
  where
    never : (t : Bool) → (t && false) ≡ false
    never true = refl
    never false = refl

rows-read : (d : Draft) (e : Encoding) (a : ℕ) (b : BitmapBox) (texts : List (List ℕ)) (f : FontFields) (n : ℕ) (before pixels : List Bool) → length pixels ≡ n * b.width →
    Reads (at (InRows d (rows_at e a b (before ++ pixels) 0))) texts f → Reads (at (InRows d (rows_at e a b before n))) (row_lines b.width n pixels ++ texts) f
unfolding row_lines
rows-read d e a b texts f zero before [] area next = rw (append-nil before) at next
rows-read d e a b texts f zero before (x ∷ xs) area next = absurd (omega (arith, area))
rows-read d e a b texts f (suc n) before pixels area next =
    let row = take b.width pixels in
    let others = drop b.width pixels in
    let wide : length row ≡ b.width = length-take-le b.width pixels (omega (arith, area)) in
    let all : (before ++ row) ++ others ≡ before ++ pixels = append_assoc before row others ∙ ap (λ (bs : List Bool). before ++ bs) (take-append-drop b.width pixels) in
    let rest : Reads (at (InRows d (rows_at e a b ((before ++ row) ++ others) 0))) texts f = rw all next in
    step (at (InRows d (rows_at e a b before (suc n)))) (at (InRows d (rows_at e a b (before ++ row) n))) (written (filled row)) (row_lines b.width n others ++ texts) f
    (row-said d e a b n before row wide)
    (rows-read d e a b texts f n (before ++ row) others (omega (arith, area, length-drop b.width pixels)) rest)

-- a font with one glyph more
abbrev after : Draft → Glyph → Draft
after d g = record d { side = max d.side (box_side g.bounds); started = d.started + 1; glyphs = d.glyphs ++ g ∷ [] }

-- a glyph, from where STARTCHAR opens it on
glyph-read : (section : Section) (d : Draft) (up : ℕ) (g : Glyph) (texts : List (List ℕ)) (f : FontFields) → d.most ≤ MAX_FINE_GLYPH_SIDE → up < 2 ^ 32 → IsGlyph d.most g → nat_lt d.started MAX_GLYPHS ≡ true →
    section_after section (line_of word.StartChar []) ≡ opened d →
    Reads (at (Between (after d g))) texts f →
    Reads (at section) (glyph_lines up g ++ texts) f
glyph-read section d up g texts f fine small is room opens next =
    line-step section (InGlyph more fresh) word.StartChar [] _ f none refl (opens ∙ rw room refl)
    (line-step (InGlyph more fresh) (InGlyph more encoded) word.Encoding (decimal g.encoding ∷ []) _ f (one-word g.encoding is.encoding) refl
    (header word.Encoding (decimal g.encoding ∷ []) fresh (one-word g.encoding is.encoding) ∙ rw (encoding-read g.encoding is.encoding) refl)
    (line-step (InGlyph more encoded) (InGlyph more advanced) word.Dwidth (decimal g.advance ∷ decimal up ∷ []) _ f (two-words g.advance up is.advance small) refl
    (header word.Dwidth (decimal g.advance ∷ decimal up ∷ []) encoded (two-words g.advance up is.advance small) ∙ rw (advance-read g.advance up is.advance small) refl)
    (line-step (InGlyph more advanced) (InGlyph more bounded) word.Bbx (box_words g.bounds) _ f (box-are d.most g.bounds fine is.bounds) refl
    (header word.Bbx (box_words g.bounds) advanced (box-are d.most g.bounds fine is.bounds) ∙ rw (box-read d.most word.Bbx g.bounds fine is.bounds) refl)
    (line-step (InGlyph more bounded) (InRows more (rows_at (Character g.encoding) g.advance g.bounds [] g.bounds.height)) word.Bitmap [] _ f none refl
    (header word.Bitmap [] bounded none)
    (rw (append_assoc (row_lines g.bounds.width g.bounds.height g.rows) (line_of word.EndChar [] ∷ []) texts)
    (rows-read more (Character g.encoding) g.advance g.bounds (line_of word.EndChar [] ∷ texts) f g.bounds.height [] g.rows is.area
    (line-step (InRows more (rows_at (Character g.encoding) g.advance g.bounds g.rows 0)) (Between (after d g)) word.EndChar [] texts f none refl
    (rw (keyword-line word.EndChar [] none) refl) next)))))))
  where
    more : Draft
    more = record d { started = d.started + 1 }

    fresh : GlyphHeader
    fresh = record { encoding = None; advance = None; bounds = None }

    encoded : GlyphHeader
    encoded = record { encoding = Some (Character g.encoding); advance = None; bounds = None }

    advanced : GlyphHeader
    advanced = record { encoding = Some (Character g.encoding); advance = Some g.advance; bounds = None }

    bounded : GlyphHeader
    bounded = record { encoding = Some (Character g.encoding); advance = Some g.advance; bounds = Some g.bounds }

    header : (keyword : Keyword) (ws : List (List ℕ)) (h : GlyphHeader) → All IsWord ws →
        section_after (InGlyph more h) (line_of keyword ws) ≡ in_glyph more h (Some keyword) (line_of keyword ws)
    header keyword ws h are = ap (λ (k : Option Keyword). in_glyph more h k (line_of keyword ws)) (keyword-line keyword ws are)

-- all glyphs from one on, and the end of the font
glyphs-read : (section : Section) (d : Draft) (up : ℕ) (glyphs : List Glyph) → d.most ≤ MAX_FINE_GLYPH_SIDE → up < 2 ^ 32 → All (IsGlyph d.most) glyphs → d.started + length glyphs ≡ d.count → d.count ≤ MAX_GLYPHS →
    section_after section (line_of word.StartChar []) ≡ opened d → section_after section (line_of word.EndFont []) ≡ closed d →
    Reads (at section) (flat_map (glyph_lines up) glyphs ++ line_of word.EndFont [] ∷ []) (record { side = with_sides d.side glyphs; bounds = d.bounds; glyphs = d.glyphs ++ glyphs })
unfolding reads
glyphs-read section d up [] fine small are count most opens closes =
    let all : (d.started == d.count) ≡ true = grind (arith, nat_tests, count) in
    let font : FontFields = record { side = d.side; bounds = d.bounds; glyphs = d.glyphs } in
    rw (append-nil d.glyphs) (line-step section (Ended font) word.EndFont [] [] font none refl (closes ∙ rw all refl) (λ line. refl))
glyphs-read section d up (g ∷ gs) fine small are count most opens closes =
    let room : nat_lt d.started MAX_GLYPHS ≡ true = grind (arith, nat_tests, count, most) in
    let more = after d g in
    let rest = glyphs-read (Between more) more up gs fine small (All-tail (IsGlyph d.most) g gs are) (omega (arith, count)) most
    (ap (between more) (keyword-line word.StartChar [] none)) (ap (between more) (keyword-line word.EndFont [] none)) in
    let font : FontFields = record { side = with_sides more.side gs; bounds = d.bounds; glyphs = d.glyphs ++ g ∷ gs } in
    subst (λ (texts : List (List ℕ)). Reads (at section) texts font)
    (sym (append_assoc (glyph_lines up g) (flat_map (glyph_lines up) gs) (line_of word.EndFont [] ∷ [])))
    (glyph-read section d up g (flat_map (glyph_lines up) gs ++ line_of word.EndFont [] ∷ []) font fine small (All-head (IsGlyph d.most) g gs are) room opens
    (rw (append_assoc d.glyphs (g ∷ []) gs) at rest))

-- the law
pub written-font-is-read : WrittenFontIsRead
written-font-is-read most f up line fine small is =
    let few : length f.glyphs < 2 ^ 32 = omega (arith, is.count) in
    subst (λ (font : FontFields). reads (start most) line (font_lines up f) ≡ Ok font) (ap with_side (sym is.side))
    (line-step (Before most) (InHeader none_named) word.StartFont [] _ font none refl (rw (keyword-line word.StartFont [] none) refl)
    (line-step (InHeader none_named) (InHeader box_named) word.FontBoundingBox (box_words f.bounds) _ font (box-are most f.bounds fine is.bounds) refl
    (header none_named word.FontBoundingBox (box_words f.bounds) (box-are most f.bounds fine is.bounds) ∙ rw (box-read most word.FontBoundingBox f.bounds fine is.bounds) refl)
    (line-step (InHeader box_named) (InHeader both_named) word.Chars (decimal (length f.glyphs) ∷ []) _ font (one-word (length f.glyphs) few) refl
    (header box_named word.Chars (decimal (length f.glyphs) ∷ []) (one-word (length f.glyphs) few) ∙ rw (count-read (length f.glyphs) few) refl)
    (glyphs-read (InHeader both_named) (record { most = most; side = box_side f.bounds; bounds = f.bounds; count = length f.glyphs; started = 0; glyphs = [] }) up f.glyphs fine small is.each
    (omega arith) is.count (header both_named word.StartChar [] none) (header both_named word.EndFont [] none)))) line)
  where
    with_side : ℕ → FontFields
    with_side side = record { side = side; bounds = f.bounds; glyphs = f.glyphs }

    font : FontFields
    font = with_side (side_of f.bounds f.glyphs)

    none_named : FontHeader
    none_named = record { most = most; bounds = None; count = None }

    box_named : FontHeader
    box_named = record { most = most; bounds = Some f.bounds; count = None }

    both_named : FontHeader
    both_named = record { most = most; bounds = Some f.bounds; count = Some (length f.glyphs) }

    header : (h : FontHeader) (keyword : Keyword) (ws : List (List ℕ)) → All IsWord ws → section_after (InHeader h) (line_of keyword ws) ≡ in_header h (Some keyword) (line_of keyword ws)
    header h keyword ws are = ap (λ (k : Option Keyword). in_header h k (line_of keyword ws)) (keyword-line keyword ws are)

-- a line that begins with no keyword
skipped : (text : List ℕ) → keyword_in text ≡ None → (section : Section) (p : Bool) → allows_others section ≡ true →
    says (record { section = section; in_properties = p }) text ≡ Ok (record { section = section; in_properties = p })
skipped text missing section true h = rw missing refl
skipped text missing (InHeader header) false h = rw missing refl
skipped text missing (Between d) false h = rw missing refl
skipped text missing (InGlyph d g) false h = rw missing refl
skipped text missing (Ended font) false h = rw missing refl
skipped text missing (Before most) false h = absurd (false≢true h)
skipped text missing (InRows d r) false h = absurd (false≢true h)

pub others-are-skipped : OtherLinesAreSkipped
unfolding reads
others-are-skipped s line text texts allows missing = rw (skipped text missing s.section s.in_properties allows) refl
