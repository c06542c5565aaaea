-- How lines and words are split off.
use Rattle.std.proofs.Common.{◌≡◌, ℕ, zero, suc, ◌+◌, ◌<◌, ◌≤◌, Bool, true, false, not, List, [], ◌∷◌, length, take, drop, filter, refl, ◌∙◌, ap, arith, Some, None}
use Rattle.std.specs.Prelude.{◌==◌, nat_lt, slice_get}
use Rattle.std.specs.List.{position_or_len, before_first, after_first, slice_split}
use Rattle.std.specs.Str.Lines.{lines, lines_of_parts, strip_carriage_return}
use Rattle.std.proofs.Math.Numerals.{one-add}
use Rattle.std.proofs.lemmas.List.{length-drop, length-take}
use Rattle.std.proofs.lemmas.List.Splits.{slice_split_first, length-slice_split}
use Rattle.std.proofs.lemmas.List.Sums.{prefix_len-le-length}
use Rattle.std.proofs.lemmas.Bool.Decides.{nat_tests}
use Rattle.std.proofs.lemmas.Option.{slice_get_past}
use Rattle.bdffont.specs.Words.{is_space, words}

-- without a byte that passes there is one part
split-none_cons : (p : ℕ → Bool) (x : ℕ) (xs : List ℕ) (t : Bool) → p x ≡ t → position_or_len p (x ∷ xs) ≡ length (x ∷ xs) →
    (position_or_len p xs ≡ length xs → slice_split p xs ≡ xs ∷ []) → slice_split p (x ∷ xs) ≡ (x ∷ xs) ∷ []
split-none_cons p x xs true e h rest = absurd (omega (arith, rw e at h))
split-none_cons p x xs false e h rest =
    let none : position_or_len p xs ≡ length xs = omega (arith, rw e at h) in
    rw (e, rest none) refl

split-none : (p : ℕ → Bool) (xs : List ℕ) → position_or_len p xs ≡ length xs → slice_split p xs ≡ xs ∷ []
split-none p [] h = refl
split-none p (x ∷ xs) h = split-none_cons p x xs (p x) refl h (split-none p xs)

-- the last line, without an LF
pub lines-last : (bytes : List ℕ) (at : ℕ) → at ≡ position_or_len (λ b. b == 10) bytes → at ≡ length bytes → 0 < length bytes → lines bytes ≡ bytes ∷ []
lines-last [] at e h some = absurd (omega arith)
lines-last (b ∷ bs) at e h some =
    let some' : (suc (length bs) == 0) ≡ false = grind (arith, nat_tests) in
    rw (split-none (λ b. b == 10) (b ∷ bs) (omega arith), some') refl

-- parts after a first one
parts-after : (first : List ℕ) (parts : List (List ℕ)) → 0 < length parts → lines_of_parts (first ∷ parts) ≡ strip_carriage_return first ∷ lines_of_parts parts
parts-after first [] h = absurd (omega arith)
parts-after first (part ∷ parts) h = refl

-- a line that ends at an LF
pub lines-first : (bytes : List ℕ) (at : ℕ) → at ≡ position_or_len (λ b. b == 10) bytes → at < length bytes →
    lines bytes ≡ strip_carriage_return (take at bytes) ∷ lines (drop (at + 1) bytes)
lines-first bytes at e h =
    let split = slice_split_first (λ b. b == 10) bytes 0 (omega arith) in
    let others = slice_split (λ b. b == 10) (after_first (λ b. b == 10) bytes) in
    let some : 0 < length others = omega (arith, length-slice_split (λ b. b == 10) (after_first (λ b. b == 10) bytes)) in
    ap lines_of_parts split ∙ parts-after (before_first (λ b. b == 10) bytes) others some ∙ rw e refl

-- leading spaces of a line are no words
spaces-cons : (b : ℕ) (bs : List ℕ) (t : Bool) → is_space b ≡ t →
    (words bs ≡ words (drop (position_or_len (λ c. not (is_space c)) bs) bs)) →
    words (b ∷ bs) ≡ words (drop (position_or_len (λ c. not (is_space c)) (b ∷ bs)) (b ∷ bs))
spaces-cons b bs true e rest = rw (e, one-add) rest
spaces-cons b bs false e rest = rw (e, e) refl

words-spaces : (line : List ℕ) → words line ≡ words (drop (position_or_len (λ c. not (is_space c)) line) line)
words-spaces [] = refl
words-spaces (b ∷ bs) = spaces-cons b bs (is_space b) refl (words-spaces bs)

-- what follows the leading spaces begins with a word
over-cons : (b : ℕ) (bs : List ℕ) (t : Bool) → is_space b ≡ t →
    (0 < length (drop (position_or_len (λ c. not (is_space c)) bs) bs) → 0 < position_or_len is_space (drop (position_or_len (λ c. not (is_space c)) bs) bs)) →
    0 < length (drop (position_or_len (λ c. not (is_space c)) (b ∷ bs)) (b ∷ bs)) → 0 < position_or_len is_space (drop (position_or_len (λ c. not (is_space c)) (b ∷ bs)) (b ∷ bs))
over-cons b bs true e rest = rw (e, one-add) rest
over-cons b bs false e rest = λ h. rw (e, e) (omega arith)

spaces-over : (line : List ℕ) → 0 < length (drop (position_or_len (λ c. not (is_space c)) line) line) → 0 < position_or_len is_space (drop (position_or_len (λ c. not (is_space c)) line) line)
spaces-over [] h = absurd (omega arith)
spaces-over (b ∷ bs) h = over-cons b bs (is_space b) refl (spaces-over bs) h

-- the parts of a line between spaces: a first one, and others that are the words after it
record IsCut (line : List ℕ) : Type 0 where
  others : List (List ℕ)
  parts : slice_split is_space line ≡ take (position_or_len is_space line) line ∷ others
  after : filter (λ w. nat_lt 0 (length w)) others ≡ words (drop (position_or_len is_space line) line)

cut-cons : (b : ℕ) (bs : List ℕ) (t : Bool) → is_space b ≡ t → IsCut bs → IsCut (b ∷ bs)
cut-cons b bs true e cut = record {
  others = slice_split is_space bs;
  parts = rw e refl;
  after = rw (e, e) refl;
}
cut-cons b bs false e cut = record {
  others = cut.others;
  parts = rw (e, cut.parts, one-add) refl;
  after = rw (e, one-add) cut.after;
}

cut : (line : List ℕ) → IsCut line
cut [] = record { others = []; parts = refl; after = refl }
cut (b ∷ bs) = cut-cons b bs (is_space b) refl (cut bs)

-- a first part that is not empty is a word
pub kept-first : (word : List ℕ) (others : List (List ℕ)) → 0 < length word → filter (λ w. nat_lt 0 (length w)) (word ∷ others) ≡ word ∷ filter (λ w. nat_lt 0 (length w)) others
kept-first [] others h = absurd (omega arith)
kept-first (b ∷ bs) others h = let some : nat_lt 0 (suc (length bs)) ≡ true = grind (arith, nat_tests) in rw some refl

-- the first word of a line, after the leading spaces
pub words-first : (line : List ℕ) (spaces size : ℕ) → spaces ≡ position_or_len (λ c. not (is_space c)) line → size ≡ position_or_len is_space (drop spaces line) → size ≤ length (drop spaces line) →
    0 < length (drop spaces line) → words line ≡ take size (drop spaces line) ∷ words (drop size (drop spaces line))
words-first line spaces size e f within some =
    let rest = drop (position_or_len (λ c. not (is_space c)) line) line in
    let c = cut rest in
    let long : 0 < position_or_len is_space rest = spaces-over line (rw e at some) in
    let size_is : size ≡ position_or_len is_space rest = rw e at f in
    let within_rest : position_or_len is_space rest ≤ length rest = prefix_len-le-length (λ c. not (is_space c)) rest in
    let word : 0 < length (take (position_or_len is_space rest) rest) = omega (arith, length-take (position_or_len is_space rest) rest) in
    words-spaces line ∙ ap (filter (λ w. nat_lt 0 (length w))) c.parts ∙ kept-first _ c.others word ∙ ap (λ ws. take (position_or_len is_space rest) rest ∷ ws) c.after ∙ rw (size_is, e) refl

-- a line of spaces has no word
pub words-none : (line : List ℕ) (spaces : ℕ) → spaces ≡ position_or_len (λ c. not (is_space c)) line → length (drop spaces line) ≡ 0 → words line ≡ []
words-none line spaces e none = words-spaces line ∙ rw (← e) (nothing (drop spaces line) none)
  where
    nothing : (rest : List ℕ) → length rest ≡ 0 → words rest ≡ []
    nothing [] h = refl
    nothing (b ∷ bs) h = absurd (omega arith)

-- the word at an index, from the words from there on
pub word-here : (ws : List (List ℕ)) (index : ℕ) (word : List ℕ) (others : List (List ℕ)) → word ∷ others ≡ drop index ws → slice_get ws index ≡ Some word
word-here [] zero word others h = cc
word-here [] (suc index) word others h = cc
word-here (w ∷ ws) zero word others h = cc
word-here (w ∷ ws) (suc index) word others h = word-here ws index word others h

pub words-next : (ws : List (List ℕ)) (index : ℕ) (word : List ℕ) (others : List (List ℕ)) → word ∷ others ≡ drop index ws → others ≡ drop (index + 1) ws
words-next [] zero word others h = absurd cc
words-next [] (suc index) word others h = absurd cc
words-next (w ∷ ws) zero word others h = cc
words-next (w ∷ ws) (suc index) word others h = let next : suc index + 1 ≡ suc (index + 1) = omega arith in rw next (words-next ws index word others h)

-- past the last word there is none
pub no-word : (ws : List (List ℕ)) (at index : ℕ) → [] ≡ drop at ws → at ≤ index → slice_get ws index ≡ None
no-word ws at index h le = slice_get_past ws index (omega (arith, ap length h, length-drop at ws))
