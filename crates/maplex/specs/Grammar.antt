-- The grammar of a source: blanks and comments, and tokens, in turn (docs/MAPFILE.md, "Tokens").
use Rattle.std.specs.Prelude.{◌≡◌, ◌≢◌, ℕ, ◌+◌, ◌<◌, ◌≤◌, IsTrue, IsFalse, List, [], ◌∷◌, ◌++◌, length, take, All}
use Rattle.std.specs.Str.{IsUtf8}
use Rattle.maplex.specs.declared.fault.LexFault.{LexFault}
use Rattle.maplex.specs.declared.fault.LexKind.TheVariants.{OpenString, BadByte, TooLong}
use Rattle.maplex.specs.declared.fault.Tail.TheVariants.{Breaks}
use Rattle.maplex.specs.declared.token.Shape.{Shape}
use Rattle.maplex.specs.declared.token.Shape.TheVariants as shape
use Rattle.maplex.specs.declared.token.TheConstants.{TOKEN_LIMIT}
use Rattle.maplex.specs.Byte.{is_separator, is_quote, is_bracket, is_closing, is_control}
use Rattle.maplex.specs.Position.{line_ends}
use Rattle.maplex.specs.Token.{TokenValue, bad_at, fault}
use Rattle.maplex.specs.Lexed.{Lexed, stopped, ended, with_token, lexed}

-- blanks and comments before other bytes: separators, and comments, each from `#` up to its LF; where the source ends,
-- the last comment may have no LF
pub data AreBlanks (after : List ℕ) : List ℕ → Type 0 where
  nothing : AreBlanks after []
  separator : (b : ℕ) (bs : List ℕ) → IsTrue (is_separator b) → AreBlanks after bs → AreBlanks after (b ∷ bs)
  comment : (text bs : List ℕ) → All (λ c. c ≢ 10) text → AreBlanks after bs → AreBlanks after (35 ∷ (text ++ (10 ∷ bs)))
  last_comment : (text : List ℕ) → All (λ c. c ≢ 10) text → after ≡ [] → AreBlanks after (35 ∷ text)

-- a byte of a bare word: no separator, no quote, no `#` and no bracket
pub record IsPlain (b : ℕ) : Type 0 where
  pub separator : IsFalse (is_separator b)
  pub quote : IsFalse (is_quote b)
  pub comment : b ≢ 35
  pub bracket : IsFalse (is_bracket b)

-- a bare word is over before the end of the source, and before a byte that can't be its next one
abbrev pub IsOver : List ℕ → Type 0
IsOver [] = Unit {0}
IsOver (b ∷ bs) = IsPlain b → ⊥

-- a bare word is written as its text, of one byte or more, before bytes where it is over
pub record IsBareWord (text written after : List ℕ) : Type 0 where
  pub same : written ≡ text
  pub some : 0 < length text
  pub goes_on : All IsPlain text
  pub over : IsOver after

-- a quoted text is written as a quote, its text without that quote, and the quote again
pub record IsQuotedText (text written : List ℕ) : Type 0 where
  pub quote : ℕ
  pub opens : IsTrue (is_quote quote)
  pub between : written ≡ quote ∷ (text ++ (quote ∷ []))
  pub goes_on : All (λ b. b ≢ quote) text

-- bytes whose brackets match: none; a byte that is no quote and no round bracket, before others; a quoted part before
-- others; balanced bytes between brackets, before others
pub data AreBalanced : List ℕ → Type 0 where
  no_byte : AreBalanced []
  byte : (b : ℕ) (bs : List ℕ) → IsFalse (is_quote b) → b ≢ 40 → b ≢ 41 → AreBalanced bs → AreBalanced (b ∷ bs)
  quoted : (quote : ℕ) (part bs : List ℕ) → IsTrue (is_quote quote) → All (λ b. b ≢ quote) part → AreBalanced bs → AreBalanced (quote ∷ (part ++ (quote ∷ bs)))
  bracketed : (part bs : List ℕ) → AreBalanced part → AreBalanced bs → AreBalanced (40 ∷ (part ++ (41 ∷ bs)))

-- a logical expression is written as its text, which is balanced bytes between round brackets
pub record IsLogicText (text written : List ℕ) : Type 0 where
  pub same : written ≡ text
  pub inner : List ℕ
  pub balanced : AreBalanced inner
  pub between : text ≡ 40 ∷ (inner ++ (41 ∷ []))

-- a list is written as its text, without a `}`, between curly brackets
pub record IsListText (text written : List ℕ) : Type 0 where
  pub between : written ≡ 123 ∷ (text ++ (125 ∷ []))
  pub goes_on : All (λ b. b ≢ 125) text

-- how a token of a shape, with a text, is written before other bytes
abbrev pub IsWritten : Shape → List ℕ → List ℕ → List ℕ → Type 0
IsWritten shape.Word text written after = IsBareWord text written after
IsWritten shape.Text text written after = IsQuotedText text written
IsWritten shape.Logic text written after = IsLogicText text written
IsWritten shape.List text written after = IsListText text written

-- a `(` before some bytes is never closed: no prefix of them is balanced bytes and a `)`
abbrev pub IsNeverClosed : List ℕ → Type 0
IsNeverClosed bs = (inner after : List ℕ) → AreBalanced inner → bs ≢ inner ++ (41 ∷ after)

-- a text that a token may have
pub record IsGoodText (text : List ℕ) : Type 0 where
  pub utf8 : IsUtf8 text
  pub printable : All (λ b. IsFalse (is_control b)) text
  pub limit : length text ≤ TOKEN_LIMIT

-- some bytes begin with a token of a shape, with a text
pub record BeginsWith (bytes : List ℕ) (shape : Shape) (text : List ℕ) : Type 0 where
  pub written : List ℕ
  pub after : List ℕ
  pub whole : bytes ≡ written ++ after
  pub is_written : IsWritten shape text written after

-- The fault of some bytes, on the line on which they begin unless it is a bad byte of a text. It is a quote that
-- doesn't come again, a `(` that is never closed, a `{` without a `}`, or a bracket that closes nothing. It may also be
-- a text with a bad byte, or a text that is good but too long.
pub data IsFault (line : ℕ) : List ℕ → LexFault → Type 0 where
  open_text : (quote : ℕ) (bs : List ℕ) → IsTrue (is_quote quote) → All (λ b. b ≢ quote) bs → IsFault line (quote ∷ bs) (fault line OpenString)
  open_logic : (bs : List ℕ) → IsNeverClosed bs → IsFault line (40 ∷ bs) (fault line OpenString)
  open_list : (bs : List ℕ) → All (λ b. b ≢ 125) bs → IsFault line (123 ∷ bs) (fault line OpenString)
  bracket : (b : ℕ) (bs : List ℕ) → IsTrue (is_closing b) → IsFault line (b ∷ bs) (fault line BadByte)
  bad_byte : (bytes : List ℕ) (shape : Shape) (text : List ℕ) → BeginsWith bytes shape text → bad_at text < length text →
      IsFault line bytes (fault (line + line_ends (take (bad_at text) text)) BadByte)
  too_long : (bytes : List ℕ) (shape : Shape) (text : List ℕ) → BeginsWith bytes shape text → bad_at text ≡ length text → TOKEN_LIMIT < length text →
      IsFault line bytes (fault line TooLong)

-- the line after some bytes of a source
abbrev pub line_after : List ℕ → ℕ
line_after bytes = 1 + line_ends bytes

-- A reading of some bytes, after those before them. It is blanks and comments up to the end of the source or up to a
-- fault. Or it is blanks and comments, a token as it is written, and a reading of the bytes after it.
pub data IsReading : List ℕ → List ℕ → Lexed → Type 0 where
  ends : (before blanks : List ℕ) → AreBlanks [] blanks → IsReading before blanks (ended (line_after (before ++ blanks)))
  breaks : (before blanks after : List ℕ) (f : LexFault) → AreBlanks after blanks → IsFault (line_after (before ++ blanks)) after f →
      IsReading before (blanks ++ after) (stopped (Breaks f))
  reads : (before blanks written after : List ℕ) (t : TokenValue) (others : Lexed) →
      AreBlanks (written ++ after) blanks → IsWritten t.shape t.text written after → IsGoodText t.text → t.line ≡ line_after (before ++ blanks) →
      IsReading (before ++ (blanks ++ written)) after others → IsReading before (blanks ++ (written ++ after)) (with_token t others)

-- the law that what is lexed of a source is a reading of it, which accounts for each byte
abbrev pub LexedFollowsGrammar : Type 0
LexedFollowsGrammar = (source : List ℕ) → IsReading [] source (lexed source)

-- the law that the grammar has no other reading of a source
abbrev pub GrammarHasOneReading : Type 0
GrammarHasOneReading = (source : List ℕ) (left : Lexed) → IsReading [] source left → left ≡ lexed source
