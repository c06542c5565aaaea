-- What a pixmap's file is made of (Netpbm, PPM; docs/FILES.md, "Pixmaps").
use Rattle.std.specs.Prelude.{◌≡◌, ℕ, ◌≤◌, true, false, List, [], ◌∷◌, ◌++◌, length, All}
use Rattle.std.specs.Char.{is_ascii_digit}
use Rattle.std.specs.List.{flat_map, list_all, list_any}
use Rattle.geom.specs.Decimal.{number_of}
use Rattle.symbols.specs.Format.{is_line_end, is_space}

-- a piece of blanks: a byte of white space, or a comment's text with the byte that ends its line
pub data Piece : Type 0 where
  Space : ℕ → Piece
  Comment : List ℕ → ℕ → Piece

-- its bytes
abbrev pub piece_bytes : Piece → List ℕ
piece_bytes (Space b) = b ∷ []
piece_bytes (Comment text end) = 35 ∷ (text ++ end ∷ [])

-- the byte is white space; no byte of the text ends a line, and the last one does
abbrev pub IsPiece : Piece → Type 0
IsPiece (Space b) = is_space b ≡ true
IsPiece (Comment text end) = (list_any is_line_end text ≡ false) × (is_line_end end ≡ true)

-- the bytes of blanks
abbrev pub blank_bytes : List Piece → List ℕ
blank_bytes pieces = flat_map piece_bytes pieces

-- a file: white space after the magic number, three numbers in digits after blanks, white space, and the pixels' bytes
pub record File : Type 0 where
  pub start : ℕ
  pub first : List Piece
  pub width : List ℕ
  pub second : List Piece
  pub height : List ℕ
  pub third : List Piece
  pub greatest : List ℕ
  pub end : ℕ
  pub pixels : List ℕ

-- the bytes of a file
abbrev pub file_bytes : File → List ℕ
file_bytes f =
    80 ∷ 54 ∷ f.start ∷ (blank_bytes f.first
    ++ (f.width
    ++ (blank_bytes f.second
    ++ (f.height
    ++ (blank_bytes f.third
    ++ (f.greatest
    ++ f.end ∷ f.pixels))))))

-- digits, one at least
pub record AreDigits (text : List ℕ) : Type 0 where
  pub each : list_all is_ascii_digit text ≡ true
  pub some : 1 ≤ length text

-- the file has the form of a pixmap's, with a greatest value of 255 and no side of 0
pub record IsFile (f : File) : Type 0 where
  pub space : is_space f.start ≡ true
  pub one : All IsPiece f.first
  pub two : All IsPiece f.second
  pub three : All IsPiece f.third
  pub apart : 1 ≤ length f.second
  pub after : 1 ≤ length f.third
  pub across : AreDigits f.width
  pub down : AreDigits f.height
  pub most : AreDigits f.greatest
  pub columns : 1 ≤ number_of f.width
  pub rows : 1 ≤ number_of f.height
  pub colours : number_of f.greatest ≡ 255
  pub closed : is_space f.end ≡ true
