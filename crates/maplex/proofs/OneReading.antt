-- The grammar reads a source in one way, which is what is lexed of it.
use Rattle.std.proofs.Common.{◌≡◌, ◌≢◌, ℕ, ◌+◌, ◌≤◌, Bool, true, false, ◌==◌, List, [], ◌∷◌, ◌++◌, length, take, drop, None, Some, Ok, All, refl, sym, ◌∙◌, ap, arith, add-zero}
use Rattle.std.specs.Prelude.{IsFalse, nat_lt, ◌||◌, position}
use Rattle.std.specs.List.{position_or_len}
use Rattle.std.proofs.lemmas.Bool.{false≢true, lt-ltb, le-ltb, ne_eqb, eq-eqb, or_parts, or_from, true_from_ne_false}
use Rattle.std.proofs.lemmas.List.{append-nil, append_assoc, length-append}
use Rattle.std.proofs.lemmas.List.Elements.{All-head, All-tail, All-weaker}
use Rattle.std.proofs.lemmas.Bool.Decides.{nat_tests}
use Rattle.std.proofs.lemmas.Str.{utf8_valid_len-IsUtf8}
use Rattle.std.proofs.Math.Seq.{take-append_seam, drop-append_seam}
use Rattle.geom.proofs.Passing.{position_or_len-before}
use Rattle.maplex.specs.declared.extent.Extent.{Extent}
use Rattle.maplex.specs.declared.fault.LexFault.{LexFault}
use Rattle.maplex.specs.declared.fault.Tail.TheVariants.{Breaks}
use Rattle.maplex.specs.declared.token.Shape.{Shape}
use Rattle.maplex.specs.declared.token.Shape.TheVariants as shape
use Rattle.maplex.specs.declared.token.TheConstants.{TOKEN_LIMIT}
use Rattle.maplex.specs.Byte.{is_separator, is_quote, is_closing, ends_word, is_control}
use Rattle.maplex.specs.Logic.{opened, inner_len}
use Rattle.maplex.specs.Position.{Position, further, line_ends, blank_len}
use Rattle.maplex.specs.Token.{Stops, Reads, step, step_of, checked_at, unless, shape_of, extent_of, token_len, text_fault, text_of, bad_at}
use Rattle.maplex.specs.Lexed.{Lexed, with_token, lexed, lexed_from}
use Rattle.maplex.specs.Grammar.{AreBlanks, nothing, separator, comment, last_comment, IsPlain, IsOver, IsBareWord, IsQuotedText, IsLogicText, IsListText, IsWritten, IsGoodText, BeginsWith, IsFault, open_text, open_logic, open_list, bracket, bad_byte, too_long, line_after, IsReading, ends, breaks, reads, GrammarHasOneReading}
use Rattle.maplex.proofs.Lexing.{lexed_from-after_blanks, lexed_from-empty, lexed_from-stops, lexed_from-token}
use Rattle.maplex.proofs.Balanced.{inner_len-closed, never-closed_to}
use Rattle.maplex.proofs.Grammar.{line_after-append, plain-from, plain-to}

-- how many bytes of blanks are counted, by what the first byte is
not_comment : (b : ℕ) → is_separator b ≡ true → (b == 35) ≡ false
not_comment b s = ne_eqb b 35 (λ same. false≢true (rw same at s))

-- a comment goes on up to its LF, or to the end
blank_len-comment : (text bytes : List ℕ) → All (λ c. c ≢ 10) text → blank_len true (text ++ (10 ∷ bytes)) ≡ length text + (1 + blank_len false bytes)
blank_len-comment [] bytes h = omega arith
blank_len-comment (b ∷ text) bytes h = rw (ne_eqb b 10 (All-head (λ c. c ≢ 10) b text h), blank_len-comment text bytes (All-tail (λ c. c ≢ 10) b text h)) (omega arith)

blank_len-last : (text : List ℕ) → All (λ c. c ≢ 10) text → blank_len true text ≡ length text
blank_len-last [] h = refl
blank_len-last (b ∷ text) h = rw (ne_eqb b 10 (All-head (λ c. c ≢ 10) b text h), blank_len-last text (All-tail (λ c. c ≢ 10) b text h)) (omega arith)

-- blanks are counted whole, before bytes that begin with none
blank_len-blanks : (after blanks : List ℕ) → AreBlanks after blanks → blank_len false after ≡ 0 → blank_len false (blanks ++ after) ≡ length blanks
blank_len-blanks after blanks nothing none = none
blank_len-blanks after blanks (separator b bs s others) none = rw (not_comment b s, s, blank_len-blanks after bs others none) (omega arith)
blank_len-blanks after blanks (comment text bs goes_on others) none =
    rw (append_assoc text (10 ∷ bs) after, blank_len-comment text (bs ++ after) goes_on, blank_len-blanks after bs others none, length-append text (10 ∷ bs)) (omega arith)
blank_len-blanks after blanks (last_comment text goes_on end) none = rw (end, append-nil text, blank_len-last text goes_on) (omega arith)

-- after blanks, what is lexed is that of the bytes after them
lexed-after : (before blanks after : List ℕ) → AreBlanks after blanks → blank_len false after ≡ 0 →
    lexed_from (record { rest = blanks ++ after; line = line_after before }) ≡ lexed_from (record { rest = after; line = line_after (before ++ blanks) })
lexed-after before blanks after are none =
    let p : Position = record { rest = blanks ++ after; line = line_after before } in
    sym (lexed_from-after_blanks p)
    ∙ ap (λ n. lexed_from (further n p)) (blank_len-blanks after blanks are none)
    ∙ rw (drop-append_seam blanks after, take-append_seam blanks after, line_after-append before blanks) refl

position_or_len-none : (p : ℕ → Bool) (xs : List ℕ) → All (λ c. IsFalse (p c)) xs → position_or_len p xs ≡ length xs
position_or_len-none p xs h = ap (position_or_len p) (sym (append-nil xs)) ∙ position_or_len-before p xs [] h ∙ add-zero (length xs)

position_or_len-over : (ys : List ℕ) → IsOver ys → position_or_len ends_word ys ≡ 0
position_or_len-over [] h = refl
position_or_len-over (y ∷ ys) h = rw (true_from_ne_false (ends_word y) (λ e. h (plain-from y e))) refl

not-the-quote : (quote : ℕ) (xs : List ℕ) → All (λ b. b ≢ quote) xs → All (λ b. IsFalse (b == quote)) xs
not-the-quote quote xs h = All-weaker (λ b. b ≢ quote) (λ b. IsFalse (b == quote)) (λ b ne. ne_eqb b quote ne) xs h

-- the byte with which a token begins is no blank
record IsFirst (b : ℕ) : Type 0 where
  separates : is_separator b ≡ false
  comments : (b == 35) ≡ false

first-no_blank : (b : ℕ) (bs : List ℕ) → IsFirst b → blank_len false (b ∷ bs) ≡ 0
first-no_blank b bs first = rw (first.comments, first.separates) refl

quote-first : (b : ℕ) → is_quote b ≡ true → IsFirst b
quote-first b q = record { separates = grind (arith, nat_tests); comments = grind (arith, nat_tests) }

round-first : IsFirst 40
round-first = record { separates = refl; comments = refl }

curly-first : IsFirst 123
curly-first = record { separates = refl; comments = refl }

closing-first : (b : ℕ) → is_closing b ≡ true → IsFirst b
closing-first b k = record { separates = grind (arith, nat_tests); comments = grind (arith, nat_tests) }

-- a bracket that closes begins no token
closing-shape : (b : ℕ) → is_closing b ≡ true → shape_of b ≡ None
closing-shape b k =
    let quote : is_quote b ≡ false = grind (arith, nat_tests) in
    let round : (b == 40) ≡ false = grind (arith, nat_tests) in
    let curly : (b == 123) ≡ false = grind (arith, nat_tests) in
    rw (quote, round, curly, k) refl

-- a byte of a bare word begins one
plain-shape : (b : ℕ) → IsPlain b → shape_of b ≡ Some shape.Word
plain-shape b plain =
    let last = or_parts (b == 40 || b == 41 || b == 123) (b == 125) plain.bracket in
    let curly = or_parts (b == 40 || b == 41) (b == 123) last.0 in
    let round = or_parts (b == 40) (b == 41) curly.0 in
    let closing : is_closing b ≡ false = or_from _ _ round.1 last.1 in
    rw (plain.quote, round.0, curly.1, closing) refl

-- how the first step cuts a token that is written before other bytes
record IsCut (shape : Shape) (text written after : List ℕ) : Type 0 where
  first : ℕ
  others : List ℕ
  whole : written ++ after ≡ first ∷ others
  is_first : IsFirst first
  extent : extent_of first others ≡ Ok (record { shape = shape; size = length text })
  text_is : text_of (record { shape = shape; size = length text }) (written ++ after) ≡ text
  len : token_len (record { shape = shape; size = length text }) ≡ length written

cut-word : (text written after : List ℕ) → IsBareWord text written after → IsCut shape.Word text written after
cut-word [] written after word = absurd (omega (arith, word.some))
cut-word (b ∷ text) written after word =
    let plain = All-head IsPlain b text word.goes_on in
    let goes_on = All-weaker IsPlain (λ c. IsFalse (ends_word c)) plain-to text (All-tail IsPlain b text word.goes_on) in
    let size : 1 + position_or_len ends_word (text ++ after) ≡ length (b ∷ text) =
    rw (position_or_len-before ends_word text after goes_on, position_or_len-over after word.over) (omega arith) in
    record {
      first = b;
      others = text ++ after;
      whole = ap (λ w. w ++ after) word.same;
      is_first = record { separates = plain.separator; comments = ne_eqb b 35 plain.comment };
      extent = rw (plain-shape b plain) (ap (λ n. Ok (record { shape = shape.Word; size = n })) size);
      text_is = ap (λ w. take (length (b ∷ text)) (w ++ after)) word.same ∙ take-append_seam (b ∷ text) after;
      len = omega (arith, ap length word.same);
    }

-- the closing byte after a text without it
closes-index : (closes : ℕ) (text after : List ℕ) → All (λ b. b ≢ closes) text →
    position (λ c. c == closes) ((text ++ (closes ∷ [])) ++ after) ≡ Some (length text)
closes-index closes text after goes_on =
    let others = (text ++ (closes ∷ [])) ++ after in
    let apart : others ≡ text ++ (closes ∷ after) = append_assoc text (closes ∷ []) after in
    let index : position_or_len (λ c. c == closes) others ≡ length text =
    ap (position_or_len (λ c. c == closes)) apart ∙ position_or_len-before (λ c. c == closes) text (closes ∷ after) (not-the-quote closes text goes_on) ∙ rw (eq-eqb closes closes refl) (add-zero (length text)) in
    let within : nat_lt (length text) (length others) ≡ true = lt-ltb _ _ (omega (arith, ap length apart, length-append text (closes ∷ after))) in
    rw (index, within) refl

between-text : (opens closes : ℕ) (text written after : List ℕ) → written ≡ opens ∷ (text ++ (closes ∷ [])) → take (length text) (drop 1 (written ++ after)) ≡ text
between-text opens closes text written after between =
    ap (λ w. take (length text) (drop 1 (w ++ after))) between ∙ ap (take (length text)) (append_assoc text (closes ∷ []) after) ∙ take-append_seam text (closes ∷ after)

between-len : (opens closes : ℕ) (text written : List ℕ) → written ≡ opens ∷ (text ++ (closes ∷ [])) → length text + 2 ≡ length written
between-len opens closes text written between = omega (arith, ap length between, length-append text (closes ∷ []))

cut-text : (text written after : List ℕ) → IsQuotedText text written → IsCut shape.Text text written after
cut-text text written after quoted =
    let q = quoted.quote in
    record {
      first = q;
      others = (text ++ (q ∷ [])) ++ after;
      whole = ap (λ w. w ++ after) quoted.between;
      is_first = quote-first q quoted.opens;
      extent = rw (quoted.opens, closes-index q text after quoted.goes_on) refl;
      text_is = between-text q q text written after quoted.between;
      len = between-len q q text written quoted.between;
    }

cut-list : (text written after : List ℕ) → IsListText text written → IsCut shape.List text written after
cut-list text written after list = record {
  first = 123;
  others = (text ++ (125 ∷ [])) ++ after;
  whole = ap (λ w. w ++ after) list.between;
  is_first = curly-first;
  extent = rw (closes-index 125 text after list.goes_on) refl;
  text_is = between-text 123 125 text written after list.between;
  len = between-len 123 125 text written list.between;
}

cut-logic : (text written after : List ℕ) → IsLogicText text written → IsCut shape.Logic text written after
cut-logic text written after logic =
    let inner = logic.inner in
    let others = (inner ++ (41 ∷ [])) ++ after in
    let apart : others ≡ inner ++ (41 ∷ after) = append_assoc inner (41 ∷ []) after in
    let at : inner_len (opened 0 None) others ≡ length inner = ap (inner_len (opened 0 None)) apart ∙ inner_len-closed inner after logic.balanced in
    let within : nat_lt (length inner) (length others) ≡ true = lt-ltb _ _ (omega (arith, ap length apart, length-append inner (41 ∷ after))) in
    let size : 2 + length inner ≡ length text = omega (arith, ap length logic.between, length-append inner (41 ∷ [])) in
    record {
      first = 40;
      others = others;
      whole = ap (λ w. w ++ after) (logic.same ∙ logic.between);
      is_first = round-first;
      extent = rw (at, within) (ap (λ n. Ok (record { shape = shape.Logic; size = n })) size);
      text_is = ap (λ w. take (length text) (w ++ after)) logic.same ∙ take-append_seam text after;
      len = omega (arith, ap length logic.same);
    }

cut : (s : Shape) (text written after : List ℕ) → IsWritten s text written after → IsCut s text written after
cut shape.Word text written after is_written = cut-word text written after is_written
cut shape.Text text written after is_written = cut-text text written after is_written
cut shape.Logic text written after is_written = cut-logic text written after is_written
cut shape.List text written after is_written = cut-list text written after is_written

-- the step over such a token, unless its text has a fault
step-cut : (shape : Shape) (text written after : List ℕ) (line : ℕ) → IsCut shape text written after →
    step (record { rest = written ++ after; line = line })
    ≡ unless (text_fault line text) (Reads (record { shape = shape; text = text; line = line }) (record { rest = after; line = line + line_ends written }))
step-cut shape text written after line c =
    let e : Extent = record { shape = shape; size = length text } in
    let p : Position = record { rest = written ++ after; line = line } in
    ap (step_of p) c.whole
    ∙ ap (checked_at p) c.extent
    ∙ ap (λ cut. unless (text_fault line cut) (Reads (record { shape = shape; text = cut; line = line }) (further (token_len e) p))) c.text_is
    ∙ ap (λ n. unless (text_fault line text) (Reads (record { shape = shape; text = text; line = line }) (further n p))) c.len
    ∙ rw (drop-append_seam written after, take-append_seam written after) refl

-- a good text has no fault
good-no_fault : (line : ℕ) (text : List ℕ) → IsGoodText text → text_fault line text ≡ None
good-no_fault line text good =
    let all : length text ≤ bad_at text = omega (arith, position_or_len-none is_control text good.printable, utf8_valid_len-IsUtf8 text good.utf8) in
    rw (le-ltb (bad_at text) (length text) all, le-ltb TOKEN_LIMIT (length text) good.limit) refl

-- the step to a fault
record StopsAt (line : ℕ) (bytes : List ℕ) (f : LexFault) : Type 0 where
  no_blank : blank_len false bytes ≡ 0
  stops : step (record { rest = bytes; line = line }) ≡ Stops (Breaks f)

no_blank-cut : (shape : Shape) (text written after : List ℕ) → IsCut shape text written after → blank_len false (written ++ after) ≡ 0
no_blank-cut shape text written after c = ap (blank_len false) c.whole ∙ first-no_blank c.first c.others c.is_first

faulty-cut : (line : ℕ) (bytes : List ℕ) (shape : Shape) (text : List ℕ) (f : LexFault) → BeginsWith bytes shape text → text_fault line text ≡ Some f → StopsAt line bytes f
faulty-cut line bytes shape text f begins fault =
    let c = cut shape text begins.written begins.after begins.is_written in
    record {
      no_blank = rw begins.whole (no_blank-cut shape text begins.written begins.after c);
      stops =
          ap (λ bytes. step (record { rest = bytes; line = line })) begins.whole
          ∙ step-cut shape text begins.written begins.after line c
          ∙ ap (λ o. unless o (Reads (record { shape = shape; text = text; line = line }) (record { rest = begins.after; line = line + line_ends begins.written }))) fault;
    }

stops-at : (line : ℕ) (bytes : List ℕ) (f : LexFault) → IsFault line bytes f → StopsAt line bytes f
stops-at line bytes f (open_text quote bs q goes_on) =
    let none : nat_lt (position_or_len (λ c. c == quote) bs) (length bs) ≡ false =
    le-ltb _ _ (omega (arith, position_or_len-none (λ c. c == quote) bs (not-the-quote quote bs goes_on))) in
    record { no_blank = first-no_blank quote bs (quote-first quote q); stops = rw (q, none) refl }
stops-at line bytes f (open_logic bs never) = record { no_blank = first-no_blank 40 bs round-first; stops = rw (never-closed_to bs never) refl }
stops-at line bytes f (open_list bs goes_on) =
    let none : nat_lt (position_or_len (λ c. c == 125) bs) (length bs) ≡ false =
    le-ltb _ _ (omega (arith, position_or_len-none (λ c. c == 125) bs (not-the-quote 125 bs goes_on))) in
    record { no_blank = first-no_blank 123 bs curly-first; stops = rw none refl }
stops-at line bytes f (bracket b bs k) = record { no_blank = first-no_blank b bs (closing-first b k); stops = rw (closing-shape b k) refl }
stops-at line bytes f (bad_byte bytes' shape text begins bad) = faulty-cut line bytes shape text f begins (rw (lt-ltb (bad_at text) (length text) bad) refl)
stops-at line bytes f (too_long bytes' shape text begins good long) =
    faulty-cut line bytes shape text f begins (rw (le-ltb (bad_at text) (length text) (omega arith), lt-ltb TOKEN_LIMIT (length text) long) refl)

-- what the grammar reads of some bytes is what is lexed from their position on
reading-is_lexed : (before bytes : List ℕ) (left : Lexed) → IsReading before bytes left → left ≡ lexed_from (record { rest = bytes; line = line_after before })
reading-is_lexed before bytes left (ends before' blanks are) =
    sym (lexed_from-empty (line_after (before ++ blanks)))
    ∙ sym (lexed-after before blanks [] are refl)
    ∙ ap (λ bytes. lexed_from (record { rest = bytes; line = line_after before })) (append-nil blanks)
reading-is_lexed before bytes left (breaks before' blanks after f are faulty) =
    let at = stops-at (line_after (before ++ blanks)) after f faulty in
    sym (lexed_from-stops (record { rest = after; line = line_after (before ++ blanks) }) (Breaks f) at.no_blank at.stops)
    ∙ sym (lexed-after before blanks after are at.no_blank)
reading-is_lexed before bytes left (reads before' blanks written after t others are is_written good line lexed) =
    let c = cut t.shape t.text written after is_written in
    let here = line_after (before ++ blanks) in
    let next : Position = record { rest = after; line = here + line_ends written } in
    let no_blank = no_blank-cut t.shape t.text written after c in
    let passed : next.line ≡ line_after (before ++ (blanks ++ written)) = line_after-append (before ++ blanks) written ∙ ap line_after (append_assoc before blanks written) in
    let read = step-cut t.shape t.text written after here c ∙ ap (λ o. unless o (Reads (record { shape = t.shape; text = t.text; line = here }) next)) (good-no_fault here t.text good) in
    ap (with_token t) (reading-is_lexed (before ++ (blanks ++ written)) after others lexed ∙ ap (λ l. lexed_from (record { rest = after; line = l })) (sym passed))
    ∙ ap (λ l. with_token (record { shape = t.shape; text = t.text; line = l }) (lexed_from next)) line
    ∙ sym (lexed_from-token (record { rest = written ++ after; line = here }) (record { shape = t.shape; text = t.text; line = here }) next no_blank read)
    ∙ sym (lexed-after before blanks (written ++ after) are no_blank)

pub grammar-has_one_reading : GrammarHasOneReading
grammar-has_one_reading source left lexed = reading-is_lexed [] source left lexed
