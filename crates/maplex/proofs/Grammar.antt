-- What is lexed of a source accounts for each of its bytes, by the grammar.
use Rattle.std.proofs.Common.{◌≡◌, ◌≢◌, ℕ, zero, suc, ◌+◌, ◌<◌, ◌≤◌, Bool, true, false, not, cond, ◌||◌, ◌==◌, List, [], ◌∷◌, ◌++◌, length, take, drop, None, Some, Result, Ok, Err, All, refl, sym, ◌∙◌, ap, subst, arith, add-zero}
use Rattle.std.specs.Prelude.{IsFalse, nat_lt, if◌then◌else◌}
use Rattle.std.specs.List.{position_or_len}
use Rattle.std.specs.Str.{IsUtf8, is_utf8}
use Rattle.std.specs.Str.Lossy.{valid_len_up_to, utf8_valid_len}
use Rattle.std.proofs.Math.Numerals.{one-add}
use Rattle.std.proofs.lemmas.Bool.{true≢false, eqb-true, eqb-false, ltb-true, ltb-false, ne_eqb, or_parts, or_from, cond_both}
use Rattle.std.proofs.lemmas.List.{append-nil, append_assoc, take-append-drop, length-drop}
use Rattle.std.proofs.lemmas.List.Elements.{All-nil, All-cons, All-weaker}
use Rattle.std.proofs.lemmas.List.Sums.{sum_by-append, prefix_len-le-length}
use Rattle.std.proofs.lemmas.Str.{IsUtf8-nil, IsUtf8-from_is_utf8, utf8_valid_len_le}
use Rattle.std.proofs.Math.Seq.{take-length}
use Rattle.geom.proofs.Passing.{fails-before}
use Rattle.maplex.specs.declared.extent.Extent.{Extent}
use Rattle.maplex.specs.declared.fault.LexKind.{LexKind}
use Rattle.maplex.specs.declared.fault.LexKind.TheVariants.{BadByte, TooLong}
use Rattle.maplex.specs.declared.fault.Tail.TheVariants.{Ends, Breaks}
use Rattle.maplex.specs.declared.token.Shape.TheVariants as shape
use Rattle.maplex.specs.declared.token.TheConstants.{TOKEN_LIMIT}
use Rattle.maplex.specs.Token.{Step, Stops, Reads, step, step_of, checked_at, unless, token_at, extent_of, extent_by, closed_extent, word_extent, token_len, text_of, bad_at, fault}
use Rattle.maplex.specs.Byte.{is_separator, is_quote, is_bracket, is_closing, ends_word, is_control}
use Rattle.maplex.specs.Logic.{opened, inner_len}
use Rattle.maplex.specs.Position.{Position, start, line_ends, blank_len, after_blanks}
use Rattle.maplex.specs.Grammar.{AreBlanks, nothing, separator, comment, last_comment, IsPlain, IsOver, IsWritten, IsGoodText, BeginsWith, IsFault, open_text, open_logic, open_list, bracket, bad_byte, too_long, line_after, IsReading, ends, breaks, reads, LexedFollowsGrammar}
use Rattle.maplex.specs.Lexed.{Lexed, ended, lexed, lexed_within, EndIsOnLastLine}
use Rattle.maplex.proofs.Balanced.{balanced-before, closing-after, never-closed_from}
use Rattle.maplex.proofs.Lexing.{FitsPosition, step-fits, after_step, lexed_within-suc, lexed_within-empty, blank_len-after_blanks, nothing-left}

-- one more byte of a comment
longer : (after : List ℕ) (b : ℕ) (bytes : List ℕ) → b ≢ 10 → AreBlanks after (35 ∷ bytes) → AreBlanks after (35 ∷ (b ∷ bytes))
longer after b bytes h (separator c bs s rest) = absurd (true≢false (sym s))
longer after b bytes h (comment text bs goes_on rest) = comment (b ∷ text) bs (All-cons (λ c. c ≢ 10) b text h goes_on) rest
longer after b bytes h (last_comment text goes_on end) = last_comment (b ∷ text) (All-cons (λ c. c ≢ 10) b text h goes_on) end

-- blanks from a position on, or from within a comment, as if its `#` stood there
abbrev BlanksFrom : Bool → List ℕ → List ℕ → Type 0
BlanksFrom false after bytes = AreBlanks after bytes
BlanksFrom true after bytes = AreBlanks after (35 ∷ bytes)

comment-goes_on : (b : ℕ) (ends : Bool) (after bytes : List ℕ) → (b == 10) ≡ ends → BlanksFrom (not ends) after bytes → AreBlanks after (35 ∷ (b ∷ bytes))
comment-goes_on b true after bytes is rest = rw (eqb-true b 10 is) (comment [] bytes (All-nil (λ c. c ≢ 10)) rest)
comment-goes_on b false after bytes is rest = longer after b bytes (eqb-false b 10 is) rest

-- the bytes of blanks that are counted from a byte on, by what the byte is
abbrev blanks_at : Bool → Bool → List ℕ → ℕ
blanks_at is_comment is_blank bs = if is_comment then 1 + blank_len true bs else (if is_blank then 1 + blank_len false bs else 0)

blanks-at : (b : ℕ) (bs : List ℕ) (is_comment is_blank : Bool) → (b == 35) ≡ is_comment → is_separator b ≡ is_blank →
    BlanksFrom true (drop (blank_len true bs) bs) (take (blank_len true bs) bs) →
    BlanksFrom false (drop (blank_len false bs) bs) (take (blank_len false bs) bs) →
    AreBlanks (drop (blanks_at is_comment is_blank bs) (b ∷ bs)) (take (blanks_at is_comment is_blank bs) (b ∷ bs))
blanks-at b bs true is_blank c s commented others = rw (one-add, eqb-true b 35 c) commented
blanks-at b bs false true c s commented others = rw one-add (separator b _ s others)
blanks-at b bs false false c s commented others = nothing

blanks-from : (in_comment : Bool) (bytes : List ℕ) → BlanksFrom in_comment (drop (blank_len in_comment bytes) bytes) (take (blank_len in_comment bytes) bytes)
blanks-from true [] = last_comment [] (All-nil (λ c. c ≢ 10)) refl
blanks-from false [] = nothing
blanks-from true (b ∷ bs) = rw one-add (comment-goes_on b (b == 10) _ _ refl (blanks-from (not (b == 10)) bs))
blanks-from false (b ∷ bs) = blanks-at b bs (b == 35) (is_separator b) refl refl (blanks-from true bs) (blanks-from false bs)

-- a byte that doesn't end a bare word is one of its bytes, and only such a byte
pub plain-from : (b : ℕ) → IsFalse (ends_word b) → IsPlain b
plain-from b h =
    let parts = or_parts ((is_separator b || is_quote b) || (b == 35)) (is_bracket b) h in
    let others = or_parts (is_separator b || is_quote b) (b == 35) parts.0 in
    let first = or_parts (is_separator b) (is_quote b) others.0 in
    record { separator = first.0; quote = first.1; comment = eqb-false b 35 others.1; bracket = parts.1 }

pub plain-to : (b : ℕ) → IsPlain b → IsFalse (ends_word b)
plain-to b plain = or_from _ _ (or_from _ _ (or_from _ _ plain.separator plain.quote) (ne_eqb b 35 plain.comment)) plain.bracket

-- a bare word is over before the first byte that ends it
over-at_cons : (x : ℕ) (xs : List ℕ) (t : Bool) → ends_word x ≡ t → IsOver (drop (position_or_len ends_word xs) xs) →
    IsOver (drop (cond (not t) (1 + position_or_len ends_word xs) 0) (x ∷ xs))
over-at_cons x xs true e others = λ plain. true≢false (sym e ∙ plain-to x plain)
over-at_cons x xs false e others = rw one-add others

over-at : (xs : List ℕ) → IsOver (drop (position_or_len ends_word xs) xs)
over-at [] = tt
over-at (x ∷ xs) = over-at_cons x xs (ends_word x) refl (over-at xs)

-- where a byte comes again: it comes after the bytes before it
found-cons : (p : ℕ → Bool) (b x : ℕ) (xs : List ℕ) (t : Bool) → p x ≡ t → (p x ≡ true → x ≡ b) → cond (not t) (1 + position_or_len p xs) 0 < length (x ∷ xs) →
    (position_or_len p xs < length xs → take (suc (position_or_len p xs)) xs ≡ take (position_or_len p xs) xs ++ b ∷ []) →
    take (suc (cond (not t) (1 + position_or_len p xs) 0)) (x ∷ xs) ≡ take (cond (not t) (1 + position_or_len p xs) 0) (x ∷ xs) ++ b ∷ []
found-cons p b x xs true e same lt others = ap (λ c. c ∷ []) (same e)
found-cons p b x xs false e same lt others = rw one-add (ap (λ cs. x ∷ cs) (others (omega arith)))

found : (b : ℕ) (xs : List ℕ) → position_or_len (λ c. c == b) xs < length xs →
    take (suc (position_or_len (λ c. c == b) xs)) xs ≡ take (position_or_len (λ c. c == b) xs) xs ++ b ∷ []
found b [] lt = absurd (omega arith)
found b (x ∷ xs) lt = found-cons (λ c. c == b) b x xs (x == b) refl (eqb-true x b) lt (found b xs)

-- the bytes before one that doesn't come again are all of them
not-found : (p : ℕ → Bool) (xs : List ℕ) → length xs ≤ position_or_len p xs → All (λ c. IsFalse (p c)) xs
not-found p xs h =
    let all : position_or_len p xs ≡ length xs = omega (arith, prefix_len-le-length (λ c. not (p c)) xs) in
    rw (all, take-length) at (fails-before p xs)

-- an extent fits the bytes of its token: they are written as the grammar has it, and where there is none, so is the fault
abbrev ExtentFits : List ℕ → Result Extent LexKind → Type 0
ExtentFits bytes (Ok e) = IsWritten e.shape (text_of e bytes) (take (token_len e) bytes) (drop (token_len e) bytes)
ExtentFits bytes (Err kind) = (line : ℕ) → IsFault line bytes (fault line kind)

-- a token that goes from a byte to the next closing one
between : (b closing : ℕ) (bs : List ℕ) → position_or_len (λ c. c == closing) bs < length bs →
    take (position_or_len (λ c. c == closing) bs + 2) (b ∷ bs) ≡ b ∷ (take (position_or_len (λ c. c == closing) bs) bs ++ (closing ∷ []))
between b closing bs lt =
    let size = position_or_len (λ c. c == closing) bs in
    let both : size + 2 ≡ suc (suc size) = omega arith in
    ap (λ n. take n (b ∷ bs)) both ∙ ap (λ cs. b ∷ cs) (found closing bs lt)

no_quote : (b : ℕ) (bs : List ℕ) → All (λ c. IsFalse (c == b)) bs → All (λ c. c ≢ b) bs
no_quote b bs h = All-weaker (λ c. IsFalse (c == b)) (λ c. c ≢ b) (λ c e. eqb-false c b e) bs h

quoted-fits : (b : ℕ) (bs : List ℕ) (comes : Bool) → is_quote b ≡ true → nat_lt (position_or_len (λ c. c == b) bs) (length bs) ≡ comes →
    ExtentFits (b ∷ bs) (closed_extent shape.Text (cond comes (Some (position_or_len (λ c. c == b) bs)) None))
quoted-fits b bs true q e = record {
  quote = b;
  opens = q;
  between = between b b bs (ltb-true _ _ e);
  goes_on = no_quote b _ (fails-before (λ c. c == b) bs);
}
quoted-fits b bs false q e = λ line. open_text b bs q (no_quote b bs (not-found (λ c. c == b) bs (ltb-false _ _ e)))

list-fits : (bs : List ℕ) (comes : Bool) → nat_lt (position_or_len (λ c. c == 125) bs) (length bs) ≡ comes →
    ExtentFits (123 ∷ bs) (closed_extent shape.List (cond comes (Some (position_or_len (λ c. c == 125) bs)) None))
list-fits bs true e = record {
  between = between 123 125 bs (ltb-true _ _ e);
  goes_on = no_quote 125 _ (fails-before (λ c. c == 125) bs);
}
list-fits bs false e = λ line. open_list bs (no_quote 125 bs (not-found (λ c. c == 125) bs (ltb-false _ _ e)))

logic-fits : (bs : List ℕ) (closes : Bool) → nat_lt (inner_len (opened 0 None) bs) (length bs) ≡ closes →
    ExtentFits (40 ∷ bs) (closed_extent shape.Logic (if closes then Some (2 + inner_len (opened 0 None) bs) else None))
logic-fits bs true e =
    let at = inner_len (opened 0 None) bs in
    let both : 2 + at ≡ suc (suc at) = omega arith in
    record {
      same = ap (λ n. take n (40 ∷ bs)) (add-zero (2 + at));
      inner = take at bs;
      balanced = balanced-before bs (ltb-true _ _ e);
      between = ap (λ n. take n (40 ∷ bs)) both ∙ ap (λ cs. 40 ∷ cs) (closing-after bs (ltb-true _ _ e));
    }
logic-fits bs false e = λ line. open_logic bs (never-closed_from bs (ltb-false _ _ e))

word-fits : (b : ℕ) (bs : List ℕ) → ends_word b ≡ false → ExtentFits (b ∷ bs) (Ok (word_extent bs))
word-fits b bs goes_on = record {
  same = ap (λ n. take n (b ∷ bs)) (add-zero (1 + position_or_len ends_word bs));
  some = rw one-add (omega arith);
  goes_on =
      let others = take (position_or_len ends_word bs) bs in
      rw one-add (All-cons IsPlain b others (plain-from b goes_on) (All-weaker (λ c. IsFalse (ends_word c)) IsPlain plain-from others (fails-before ends_word bs)));
  over =
      let one : suc (position_or_len ends_word bs) ≡ 1 + position_or_len ends_word bs + 0 = omega arith in
      subst (λ n. IsOver (drop n (b ∷ bs))) one (over-at bs);
}

-- a byte before which there is no blank
record BeginsToken (b : ℕ) : Type 0 where
  pub separates : is_separator b ≡ false
  pub comments : (b == 35) ≡ false

-- the byte of a bare word is none that opens or closes
word-goes_on : (b : ℕ) → BeginsToken b → is_quote b ≡ false → (b == 40) ≡ false → (b == 123) ≡ false → is_closing b ≡ false → ends_word b ≡ false
word-goes_on b begins q round curly closing =
    let closes = or_parts (b == 41) (b == 125) closing in
    let brackets : is_bracket b ≡ false = or_from _ _ (or_from _ _ (or_from _ _ round closes.0) curly) closes.1 in
    or_from _ _ (or_from _ _ (or_from _ _ begins.separates q) begins.comments) brackets

extent-fits : (b : ℕ) (bs : List ℕ) (quote round curly closing : Bool) → is_quote b ≡ quote → (b == 40) ≡ round → (b == 123) ≡ curly → is_closing b ≡ closing →
    BeginsToken b → ExtentFits (b ∷ bs) (extent_by
    (if quote then Some shape.Text
    else (if round then Some shape.Logic
    else (if curly then Some shape.List
    else (if closing then None else Some shape.Word)))) b bs)
extent-fits b bs true round curly closing q r k c begins = quoted-fits b bs (nat_lt (position_or_len (λ c. c == b) bs) (length bs)) q refl
extent-fits b bs false true curly closing q r k c begins =
    let fits = logic-fits bs (nat_lt (inner_len (opened 0 None) bs) (length bs)) refl in rw (eqb-true b 40 r) fits
extent-fits b bs false false true closing q r k c begins =
    let fits = list-fits bs (nat_lt (position_or_len (λ c. c == 125) bs) (length bs)) refl in rw (eqb-true b 123 k) fits
extent-fits b bs false false false true q r k c begins = λ line. bracket b bs c
extent-fits b bs false false false false q r k c begins = word-fits b bs (word-goes_on b begins q r k c)

-- a position with no blank before its bytes
begins-token : (b : ℕ) (bs : List ℕ) (is_comment is_blank : Bool) → (b == 35) ≡ is_comment → is_separator b ≡ is_blank → blanks_at is_comment is_blank bs ≡ 0 → BeginsToken b
begins-token b bs true is_blank c s h = absurd (omega arith)
begins-token b bs false true c s h = absurd (omega arith)
begins-token b bs false false c s h = record { separates = s; comments = c }

-- the prefixes of a text that are UTF-8
valid_len-prefix : (bs : List ℕ) (m : ℕ) → IsUtf8 (take (valid_len_up_to bs m) bs)
valid_len-prefix bs zero = IsUtf8-nil
valid_len-prefix bs (suc m) =
    cond_both (is_utf8 (take (suc m) bs)) (suc m) (valid_len_up_to bs m) (λ n. IsUtf8 (take n bs)) (λ e. IsUtf8-from_is_utf8 _ e) (λ e. valid_len-prefix bs m)

IsUtf8-from_len : (bs : List ℕ) → length bs ≤ utf8_valid_len bs → IsUtf8 bs
unfolding utf8_valid_len
IsUtf8-from_len bs h =
    let all : utf8_valid_len bs ≡ length bs = omega (arith, utf8_valid_len_le bs) in
    rw (all, take-length) at (valid_len-prefix bs (length bs))

good-text : (text : List ℕ) → length text ≤ bad_at text → length text ≤ TOKEN_LIMIT → IsGoodText text
good-text text h limit = record {
  utf8 = IsUtf8-from_len text (omega arith);
  printable = not-found is_control text (omega arith);
  limit = limit;
}

-- a step fits its position: by the grammar it stops at the end or at a fault, or reads a token
abbrev StepFits : Position → Step → Type 0
StepFits p (Stops (Ends line)) = (line ≡ p.line) × (p.rest ≡ [])
StepFits p (Stops (Breaks f)) = IsFault p.line p.rest f
StepFits p (Reads t next) = (written : List ℕ) × (p.rest ≡ written ++ next.rest) × IsWritten t.shape t.text written next.rest × IsGoodText t.text × (t.line ≡ p.line) × (next.line ≡ p.line + line_ends written)

begins-with : (bytes : List ℕ) (e : Extent) → ExtentFits bytes (Ok e) → BeginsWith bytes e.shape (text_of e bytes)
begins-with bytes e written = record {
  written = take (token_len e) bytes;
  after = drop (token_len e) bytes;
  whole = sym (take-append-drop (token_len e) bytes);
  is_written = written;
}

checked-fits : (p : Position) (e : Extent) (bad long : Bool) →
    nat_lt (bad_at (text_of e p.rest)) (length (text_of e p.rest)) ≡ bad → nat_lt TOKEN_LIMIT (length (text_of e p.rest)) ≡ long →
    ExtentFits p.rest (Ok e) →
    StepFits p (unless
    (if bad then Some (fault (p.line + line_ends (take (bad_at (text_of e p.rest)) (text_of e p.rest))) BadByte) else (if long then Some (fault p.line TooLong) else None))
    (token_at p e))
checked-fits p e true long x y written = bad_byte p.rest e.shape (text_of e p.rest) (begins-with p.rest e written) (ltb-true _ _ x)
checked-fits p e false true x y written =
    let text = text_of e p.rest in
    too_long p.rest e.shape text (begins-with p.rest e written) (omega (arith, ltb-false _ _ x, utf8_valid_len_le text)) (ltb-true _ _ y)
checked-fits p e false false x y written =
    let text = text_of e p.rest in
    (take (token_len e) p.rest, sym (take-append-drop (token_len e) p.rest), written, good-text text (ltb-false _ _ x) (ltb-false _ _ y), refl, refl)

checked_at-fits : (p : Position) (r : Result Extent LexKind) → ExtentFits p.rest r → StepFits p (checked_at p r)
checked_at-fits p (Err kind) fits = fits p.line
checked_at-fits p (Ok e) fits = checked-fits p e (nat_lt (bad_at (text_of e p.rest)) (length (text_of e p.rest))) (nat_lt TOKEN_LIMIT (length (text_of e p.rest))) refl refl fits

step_of-fits : (p : Position) (bytes : List ℕ) → p.rest ≡ bytes → blank_len false bytes ≡ 0 → StepFits p (step_of p bytes)
step_of-fits p [] same no_blank = (refl, same)
step_of-fits p (b ∷ bs) same no_blank =
    let begins = begins-token b bs (b == 35) (is_separator b) refl refl no_blank in
    checked_at-fits p (extent_of b bs) (subst (λ bytes. ExtentFits bytes (extent_of b bs)) (sym same) (extent-fits b bs (is_quote b) (b == 40) (b == 123) (is_closing b) refl refl refl refl begins))

-- the line after more bytes
pub line_after-append : (before more : List ℕ) → line_after before + line_ends more ≡ line_after (before ++ more)
line_after-append before more = omega (arith, sum_by-append (λ b. cond (b == 10) 1 0) before more)

-- what is lexed by a step, after blanks, is by the grammar if what is lexed after it is
step-is_reading : (n : ℕ) (before blanks : List ℕ) (p : Position) (s : Step) → p.line ≡ line_after (before ++ blanks) → AreBlanks p.rest blanks →
    length p.rest ≤ suc n → FitsPosition p s → StepFits p s →
    ((passed : List ℕ) (next : Position) → next.line ≡ line_after passed → length next.rest ≤ n → IsReading passed next.rest (lexed_within n next)) →
    IsReading before (blanks ++ p.rest) (after_step n s)
step-is_reading n before blanks p (Stops (Ends last)) line are room fits written others =
    rw (written.0, line, written.1, append-nil) (ends before blanks (subst (λ bytes. AreBlanks bytes blanks) written.1 are))
step-is_reading n before blanks p (Stops (Breaks f)) line are room fits written others =
    breaks before blanks p.rest f are (rw line at written)
step-is_reading n before blanks p (Reads t next) line are room fits (written, whole, is_written, good, t_line, next_line) others =
    let passed = before ++ (blanks ++ written) in
    let reached : next.line ≡ line_after passed =
    next_line ∙ ap (λ l. l + line_ends written) line ∙ line_after-append (before ++ blanks) written ∙ ap line_after (append_assoc before blanks written) in
    rw whole
    (reads before blanks written next.rest t (lexed_within n next) (rw whole at are) is_written good (t_line ∙ line)
    (others passed next reached (omega (arith, fits.1))))

-- what is lexed from a position on is by the grammar
is_reading : (n : ℕ) (before : List ℕ) (p : Position) → p.line ≡ line_after before → length p.rest ≤ n → IsReading before p.rest (lexed_within n p)
is_reading zero before p line room =
    let here : ended (line_after (before ++ [])) ≡ lexed_within zero p = ap (λ bytes. ended (line_after bytes)) (append-nil before) ∙ ap ended (sym line) ∙ sym (lexed_within-empty zero p room) in
    rw (← here) (rw (nothing-left p.rest room) (ends before [] nothing))
is_reading (suc n) before p line room =
    let count = blank_len false p.rest in
    let q = after_blanks p in
    let there : q.line ≡ line_after (before ++ take count p.rest) = ap (λ l. l + line_ends (take count p.rest)) line ∙ line_after-append before (take count p.rest) in
    let shorter : length q.rest ≤ length p.rest = omega (arith, length-drop count p.rest) in
    let found = step-is_reading n before (take count p.rest) q (step q) there (blanks-from false p.rest) (omega arith)
    (step-fits q) (step_of-fits q q.rest refl (blank_len-after_blanks p)) (λ passed next l r. is_reading n passed next l r) in
    rw (lexed_within-suc n p) (subst (λ bytes. IsReading before bytes (after_step n (step q))) (take-append-drop count p.rest) found)

pub lexed-follows_grammar : LexedFollowsGrammar
lexed-follows_grammar source = is_reading (length source) [] (start source) refl (omega arith)

-- the end that is read is on the last line
reading-end : (before bytes : List ℕ) (left : Lexed) (line : ℕ) → IsReading before bytes left → left.tail ≡ Ends line → line ≡ line_after (before ++ bytes)
reading-end before bytes left line (ends before' blanks are) h = cc
reading-end before bytes left line (breaks before' blanks after f are faulty) h = cc
reading-end before bytes left line (reads before' blanks written after t others are is_written good at_line others_are) h =
    let whole = append_assoc before (blanks ++ written) after ∙ ap (λ bs. before ++ bs) (append_assoc blanks written after) in
    reading-end (before ++ (blanks ++ written)) after others line others_are h ∙ ap line_after whole

pub end-is-on-last-line : EndIsOnLastLine
end-is-on-last-line source line h = reading-end [] source (lexed source) line (lexed-follows_grammar source) h
