-- The keywords of a BDF file (Glyph Bitmap Distribution Format 2.1).
use Rattle.std.specs.Prelude.{ℕ, Bool, List, [], ◌∷◌, Option, codes, find, nat_eq, slice_get}
use Rattle.std.specs.Option.{option_and_then}
use Rattle.std.specs.Cmp.Lexicographic.{pointwise}
use Rattle.bdffont.specs.declared.keyword.Keyword.{Keyword}
use Rattle.bdffont.specs.declared.keyword.Keyword.TheVariants.{StartFont, StartProperties, EndProperties, FontBoundingBox, Chars, StartChar, Encoding, Dwidth, Bbx, Bitmap, EndChar, EndFont}
use Rattle.bdffont.specs.Words.{words}

-- how a keyword is written
unfoldable pub spelling : Keyword → List ℕ
spelling StartFont = codes "STARTFONT"
spelling StartProperties = codes "STARTPROPERTIES"
spelling EndProperties = codes "ENDPROPERTIES"
spelling FontBoundingBox = codes "FONTBOUNDINGBOX"
spelling Chars = codes "CHARS"
spelling StartChar = codes "STARTCHAR"
spelling Encoding = codes "ENCODING"
spelling Dwidth = codes "DWIDTH"
spelling Bbx = codes "BBX"
spelling Bitmap = codes "BITMAP"
spelling EndChar = codes "ENDCHAR"
spelling EndFont = codes "ENDFONT"

-- all keywords that are read
abbrev pub keywords : List Keyword
keywords =
    StartFont ∷ StartProperties ∷ EndProperties ∷ FontBoundingBox ∷ Chars ∷ StartChar
    ∷ Encoding ∷ Dwidth ∷ Bbx ∷ Bitmap ∷ EndChar ∷ EndFont ∷ []

-- a word is a keyword, byte by byte
abbrev pub is_spelt : List ℕ → Keyword → Bool
is_spelt word keyword = pointwise nat_eq word (spelling keyword)

-- the keyword that a word is
unfoldable pub keyword_of : List ℕ → Option Keyword
keyword_of word = find (is_spelt word) keywords

-- the keyword that the first word of a line is
abbrev pub keyword_in : List ℕ → Option Keyword
keyword_in line = option_and_then keyword_of (slice_get (words line) 0)
