-- Files that are made from their parts are read.
use Rattle.std.proofs.Common.{◌≡◌, ◌∙◌, ℕ, zero, suc, ◌+◌, ◌<◌, ◌≤◌, min, Bool, true, false, ◌||◌, ◌==◌, List, [], ◌∷◌, ◌++◌, length, drop, get_or, append_assoc, Some, refl, sym, ap, arith}
use Rattle.std.proofs.lemmas.Bool.{and_from, lt-ltb}
use Rattle.std.proofs.lemmas.List.Elements.{All-cons, All-head, All-tail}
use Rattle.std.proofs.lemmas.List.{drop-drop, get_or-drop, length-append, length-drop}
use Rattle.std.proofs.Math.Seq.{drop-append_seam, take-append_seam}
use Rattle.std.specs.Char.{is_ascii_digit}
use Rattle.std.specs.List.{list_all, list_any, prefix_len}
use Rattle.std.specs.Prelude.{All, nat_lt}
use Rattle.geom.specs.Decimal.{number_of}
use Rattle.geom.proofs.Digits.{digit-range, digits-cons}
use Rattle.geom.proofs.Written.{digit-not}
use Rattle.std.proofs.lemmas.Bool.Decides.{nat_tests}
use Rattle.symbols.specs.File.{AreDigits, IsPiece, Piece, Space, Comment, file_bytes, blank_bytes, piece_bytes}
use Rattle.mapdefs.specs.declared.limits.TheConstants.{MAX_SYMBOL_SIDE}
use Rattle.symbols.specs.Format.{capped, blanks_len, has_space_at, header_of, is_line_end, is_space, number_at, pixels_of}
use Rattle.symbols.specs.Law.{AreFilesRead}
use Rattle.symbols.proofs.Capping.{capped-same}

pub or-left : (t u : Bool) → (t || u) ≡ false → t ≡ false
or-left true u h = h
or-left false u h = refl

pub or-right : (t u : Bool) → (t || u) ≡ false → u ≡ false
or-right true u h = absurd (cc)
or-right false u h = h

comment-step : (b : ℕ) (xs : List ℕ) → is_line_end b ≡ false → blanks_len true (b ∷ xs) ≡ suc (blanks_len true xs)
comment-step b xs h = rw h

-- a comment is skipped up to the end of its line
comment-passed : (text : List ℕ) (end : ℕ) (rest : List ℕ) → list_any is_line_end text ≡ false → is_line_end end ≡ true →
    blanks_len true ((text ++ end ∷ []) ++ rest) ≡ length (text ++ end ∷ []) + blanks_len false rest
comment-passed [] end rest none e = rw e (omega arith)
comment-passed (b ∷ text) end rest none e =
    let step = comment-step b ((text ++ end ∷ []) ++ rest) (or-left (is_line_end b) (list_any is_line_end text) none) in
    let others = comment-passed text end rest (or-right (is_line_end b) (list_any is_line_end text) none) e in
    step ∙ (ap suc others ∙ next (length (text ++ end ∷ [])) (blanks_len false rest))
  where
    next : (n m : ℕ) → suc (n + m) ≡ suc n + m
    next n m = omega arith

-- so is each piece of blanks
piece-passed : (piece : Piece) (rest : List ℕ) → IsPiece piece → blanks_len false (piece_bytes piece ++ rest) ≡ length (piece_bytes piece) + blanks_len false rest
piece-passed (Space b) rest is = rw is (omega arith)
piece-passed (Comment text end) rest is = ap suc (comment-passed text end rest is.0 is.1) ∙ next (length (text ++ end ∷ [])) (blanks_len false rest)
  where
    next : (n m : ℕ) → suc (n + m) ≡ suc n + m
    next n m = omega arith

pub blanks-passed : (pieces : List Piece) (rest : List ℕ) → All IsPiece pieces → blanks_len false rest ≡ 0 → blanks_len false (blank_bytes pieces ++ rest) ≡ length (blank_bytes pieces)
blanks-passed [] rest all none = none
blanks-passed (piece ∷ pieces) rest all none =
    ap (blanks_len false) (append_assoc (piece_bytes piece) (blank_bytes pieces) rest)
    ∙ (piece-passed piece (blank_bytes pieces ++ rest) (All-head IsPiece piece pieces all)
    ∙ (ap (λ n. length (piece_bytes piece) + n) (blanks-passed pieces rest (All-tail IsPiece piece pieces all) none) ∙ sym (length-append (piece_bytes piece) (blank_bytes pieces))))

-- a digit is no white space, nor begins a comment
digit-no_space : (d : ℕ) → 48 ≤ d → d ≤ 57 → is_space d ≡ false
digit-no_space d h k = grind (arith, nat_tests)

-- so they are no blanks
digit-stays : (d : ℕ) (rest : List ℕ) → is_ascii_digit d ≡ true → blanks_len false (d ∷ rest) ≡ 0
digit-stays d rest h = let range = digit-range d h in rw (digit-no_space d range.0 range.1, digit-not d 35 h (omega arith))

pub digits-stay : (digits rest : List ℕ) → AreDigits digits → blanks_len false (digits ++ rest) ≡ 0
digits-stay [] rest are = absurd (omega (arith, are.some))
digits-stay (d ∷ ds) rest are = digit-stays d (ds ++ rest) (digits-cons d ds are.each).0

-- the leading digits are all of them, where no digit follows
digits-end : (digits rest : List ℕ) → list_all is_ascii_digit digits ≡ true → prefix_len is_ascii_digit rest ≡ 0 → prefix_len is_ascii_digit (digits ++ rest) ≡ length digits
digits-end [] rest all none = none
digits-end (d ∷ ds) rest all none =
    let parts = digits-cons d ds all in
    let more : prefix_len is_ascii_digit (d ∷ (ds ++ rest)) ≡ suc (prefix_len is_ascii_digit (ds ++ rest)) = rw parts.0 (omega arith) in
    more ∙ ap suc (digits-end ds rest parts.1 none)

-- blanks begin with no digit, and white space is no digit
space-no_digit : (b : ℕ) → is_space b ≡ true → is_ascii_digit b ≡ false
space-no_digit b h = go (is_ascii_digit b) refl
  where
    go : (t : Bool) → is_ascii_digit b ≡ t → t ≡ false
    go true e = let range = digit-range b e in sym h ∙ digit-no_space b range.0 range.1
    go false e = refl

pub blanks-no_digit : (pieces : List Piece) (rest : List ℕ) → All IsPiece pieces → 1 ≤ length pieces → prefix_len is_ascii_digit (blank_bytes pieces ++ rest) ≡ 0
blanks-no_digit [] rest all some = absurd (omega arith)
blanks-no_digit (Space b ∷ pieces) rest all some = rw (space-no_digit b (All-head IsPiece (Space b) pieces all))
blanks-no_digit (Comment text end ∷ pieces) rest all some = refl

-- a number after blanks
pub number-read : (bytes : List ℕ) (at : ℕ) (blanks digits rest : List ℕ) → drop at bytes ≡ blanks ++ (digits ++ rest) → blanks_len false (blanks ++ (digits ++ rest)) ≡ length blanks →
    AreDigits digits → prefix_len is_ascii_digit rest ≡ 0 → number_at bytes at ≡ Some (record { value = capped (number_of digits); end = at + length blanks + length digits })
number-read bytes at blanks digits rest here passed are ends =
    let blanks_is : blanks_len false (drop at bytes) ≡ length blanks = ap (blanks_len false) here ∙ passed in
    let start : drop (at + length blanks) bytes ≡ digits ++ rest = sym (drop-drop (length blanks) at bytes) ∙ (ap (drop (length blanks)) here ∙ drop-append_seam blanks (digits ++ rest)) in
    let count : prefix_len is_ascii_digit (digits ++ rest) ≡ length digits = digits-end digits rest are.each ends in
    let some : (length digits == 0) ≡ false = not-zero (length digits) are.some in
    rw (blanks_is, start, count, some, take-append_seam digits rest)
  where
    not-zero : (n : ℕ) → 1 ≤ n → (n == 0) ≡ false
    not-zero zero h = absurd (omega arith)
    not-zero (suc n) h = grind (arith, nat_tests)

-- what comes after it
pub after-number : (bytes : List ℕ) (at : ℕ) (blanks digits rest : List ℕ) → drop at bytes ≡ blanks ++ (digits ++ rest) → drop (at + length blanks + length digits) bytes ≡ rest
after-number bytes at blanks digits rest here =
    sym (drop-drop (length digits) (at + length blanks) bytes)
    ∙ (ap (drop (length digits)) (sym (drop-drop (length blanks) at bytes) ∙ (ap (drop (length blanks)) here ∙ drop-append_seam blanks (digits ++ rest))) ∙ drop-append_seam digits rest)

-- white space at an index
pub space-read : (bytes : List ℕ) (at b : ℕ) (rest : List ℕ) → drop at bytes ≡ b ∷ rest → is_space b ≡ true → has_space_at bytes at ≡ true
space-read bytes at b rest here is =
    let bound : at < length bytes = omega (arith, length-drop at bytes, ap length here) in
    let byte : get_or bytes at 0 ≡ b = ap (λ k. get_or bytes k 0) (omega arith) ∙ (sym (get_or-drop at bytes 0 0) ∙ ap (λ xs. get_or xs 0 0) here) in
    and_from (nat_lt at (length bytes)) (is_space (get_or bytes at 0)) (lt-ltb at (length bytes) bound) (ap is_space byte ∙ is)

-- capped numbers as a header tests them
capped-greatest : (n : ℕ) → n ≡ 255 → (capped n == 255) ≡ true
unfolding capped
capped-greatest n h = rw h

capped-some : (n : ℕ) → 1 ≤ n → nat_lt 0 (capped n) ≡ true
unfolding capped
capped-some n h = lt-ltb 0 (min n 1000) (omega arith)

-- the header of bytes whose numbers and white space are known
header-read : (bytes : List ℕ) (width height greatest one two three : ℕ) → has_space_at bytes 2 ≡ true →
    number_at bytes 2 ≡ Some (record { value = width; end = one }) → number_at bytes one ≡ Some (record { value = height; end = two }) →
    number_at bytes two ≡ Some (record { value = greatest; end = three }) → (greatest == 255) ≡ true → nat_lt 0 width ≡ true → nat_lt 0 height ≡ true →
    has_space_at bytes three ≡ true → header_of bytes ≡ Some (record { width = width; height = height; start = three + 1 })
header-read bytes width height greatest one two three begins first second third most across down ends = rw (begins, first, second, third, most, across, down, ends)

-- a side is past the limit where its capped number is, and sides within it are themselves
side-capped : (n : ℕ) → nat_lt MAX_SYMBOL_SIDE (capped n) ≡ nat_lt MAX_SYMBOL_SIDE n
unfolding capped
side-capped n = grind (arith, nat_tests)

side-within : (n : ℕ) → nat_lt MAX_SYMBOL_SIDE n ≡ false → n ≤ MAX_SYMBOL_SIDE
side-within n h = grind (arith, nat_tests)

sides-capped : (width height : ℕ) (bytes : List ℕ) → pixels_of (capped width) (capped height) bytes ≡ pixels_of width height bytes
sides-capped width height bytes = go (nat_lt MAX_SYMBOL_SIDE width || nat_lt MAX_SYMBOL_SIDE height) refl
  where
    go : (t : Bool) → (nat_lt MAX_SYMBOL_SIDE width || nat_lt MAX_SYMBOL_SIDE height) ≡ t → pixels_of (capped width) (capped height) bytes ≡ pixels_of width height bytes
    go true h = rw (side-capped width, side-capped height, h) refl
    go false h =
        let across = side-within width (or-left (nat_lt MAX_SYMBOL_SIDE width) (nat_lt MAX_SYMBOL_SIDE height) h) in
        let down = side-within height (or-right (nat_lt MAX_SYMBOL_SIDE width) (nat_lt MAX_SYMBOL_SIDE height) h) in
        rw (capped-same width (omega arith), capped-same height (omega arith)) refl

pub files : AreFilesRead
files f is =
    let bytes = file_bytes f in
    let closing = f.end ∷ f.pixels in
    let blanks = blank_bytes (Space f.start ∷ f.first) in
    let third = blank_bytes f.third ++ (f.greatest ++ closing) in
    let second = blank_bytes f.second ++ (f.height ++ third) in
    let pieces = All-cons IsPiece (Space f.start) f.first is.space is.one in
    let one = number-read bytes 2 blanks f.width second refl (blanks-passed (Space f.start ∷ f.first) (f.width ++ second) pieces (digits-stay f.width second is.across)) is.across
    (blanks-no_digit f.second (f.height ++ third) is.two is.apart) in
    let here = after-number bytes 2 blanks f.width second refl in
    let two = number-read bytes (2 + length blanks + length f.width) (blank_bytes f.second) f.height third here (blanks-passed f.second (f.height ++ third) is.two (digits-stay f.height third is.down)) is.down
    (blanks-no_digit f.third (f.greatest ++ closing) is.three is.after) in
    let there = after-number bytes (2 + length blanks + length f.width) (blank_bytes f.second) f.height third here in
    let past = 2 + length blanks + length f.width + length (blank_bytes f.second) + length f.height in
    let three = number-read bytes past (blank_bytes f.third) f.greatest closing there (blanks-passed f.third (f.greatest ++ closing) is.three (digits-stay f.greatest closing is.most)) is.most
    (rw (space-no_digit f.end is.closed)) in
    let end = after-number bytes past (blank_bytes f.third) f.greatest closing there in
    let last = past + length (blank_bytes f.third) + length f.greatest in
    let header = header-read bytes _ _ _ _ _ _ (space-read bytes 2 f.start (blank_bytes f.first ++ (f.width ++ second)) refl is.space) one two three
    (capped-greatest (number_of f.greatest) is.colours) (capped-some (number_of f.width) is.columns) (capped-some (number_of f.height) is.rows)
    (space-read bytes last f.end f.pixels end is.closed) in
    let pixels : drop (last + 1) bytes ≡ f.pixels = sym (drop-drop 1 last bytes) ∙ ap (drop 1) end in
    rw (header, pixels) (sides-capped (number_of f.width) (number_of f.height) f.pixels)
