-- What is in the grammar is read: operands and comparisons.
use Rattle.std.proofs.Common.{◌≡◌, ◌≢◌, ℕ, ◌==◌, ◌||◌, ◌&&◌, not, Bool, true, false, ℤ, List, [], ◌∷◌, ◌++◌, length, Option, Some, None, Ok, IfSome, IsTrue, All, codes, refl, ◌∙◌, ap, append_assoc, arith}
use Rattle.std.proofs.lemmas.Bool.{and_parts, and_from, lt-ltb}
use Rattle.std.proofs.lemmas.Bool.Decides.{nat_tests}
use Rattle.std.proofs.lemmas.List.Elements.{All-head}
use Rattle.std.proofs.Math.Seq.{take-append_seam, drop-append_seam}
use Rattle.std.specs.Char.{is_ascii_digit, to_ascii_lowercase}
use Rattle.std.specs.List.{list_all}
use Rattle.geom.specs.Decimal.{reading}
use Rattle.geom.specs.declared.micro.TheConstants.{NUMBER_LIMIT}
use Rattle.mapdefs.specs.declared.expr.Comparison.{Comparison}
use Rattle.mapdefs.specs.declared.expr.Comparison.TheVariants.{Equal, NotEqual, Less, Greater, AtMost, AtLeast, EqualIgnoringCase, In}
use Rattle.mapdefs.specs.declared.expr.Operand.{Operand}
use Rattle.mapdefs.specs.declared.expr.Operand.TheVariants as operand
use Rattle.expressions.specs.Grammar.{is_space, IsSpaced, IsWord, IsComparison, equal, equal_twice, eq, not_equal, ne, less, lt, greater, gt, at_most, le, at_least, ge, alike, one_of, IsName, IsQuoted, IsOperand, number, item, item_text, text, bracketed}
use Rattle.expressions.specs.Reading.{begins_q, is_of_number, number_len, number_at, is_name, item_at, name_of, quoted_at, quoted_as, operand_from, operand_at, after_spaces, comparison_of_two, comparison_of_one, comparison_from, comparison_at}
use Rattle.expressions.proofs.Cuts.{split-found}
use Rattle.expressions.proofs.Numbers.{is_numeric, reading-all}
use Rattle.expressions.proofs.Sound.{name_of-found, name_of-sound, IsItem}
use Rattle.expressions.proofs.Words.{spaced-skip, stays, not-space, word-first, one-letter, two-letters}

-- a literal number ends before these bytes
pub record Stops (after : List ℕ) : Type 0 where
  pub len : number_len after ≡ 0
  pub letter : begins_q after ≡ false

or-and : (x e q : Bool) → (x || e) ≡ false → (x || (e && q)) ≡ false
or-and true e q h = h
or-and false true q h = cc
or-and false false q h = refl

pub stops-at : (b : ℕ) (bs : List ℕ) → is_numeric b ≡ false → (to_ascii_lowercase b == 113) ≡ false → Stops (b ∷ bs)
stops-at b bs other letter =
    let no : is_of_number b bs ≡ false = or-and (is_ascii_digit b || b == 46 || b == 43 || b == 45) (to_ascii_lowercase b == 101) (not (begins_q bs)) other in
    record { len = rw no refl; letter = letter }

space-not_numeric : (b : ℕ) → is_space b ≡ true → is_numeric b ≡ false
space-not_numeric b h = grind (arith, nat_tests)

space-no_letter : (b : ℕ) → is_space b ≡ true → (to_ascii_lowercase b == 113) ≡ false
space-no_letter b h = grind (arith, nat_tests)

-- spaces, or else the bytes after them, end a number
pub stops-spaced : (spaces rest : List ℕ) → All (λ b. IsTrue (is_space b)) spaces → Stops rest → Stops (spaces ++ rest)
stops-spaced [] rest blank then_ = then_
stops-spaced (b ∷ bs) rest blank then_ =
    let space = All-head (λ b. IsTrue (is_space b)) b bs blank in stops-at b (bs ++ rest) (space-not_numeric b space) (space-no_letter b space)

-- a numeric byte goes on with a number, before a numeric byte or where a number stops
numeric-no_letter : (b : ℕ) → is_numeric b ≡ true → (to_ascii_lowercase b == 113) ≡ false
numeric-no_letter b h = grind (arith, nat_tests)

and-right : (x e q : Bool) → q ≡ true → (x || e) ≡ true → (x || (e && q)) ≡ true
and-right true e q h k = refl
and-right false true q h k = h
and-right false false q h k = k

numeric-goes_on : (b : ℕ) (bs : List ℕ) → is_numeric b ≡ true → begins_q bs ≡ false → is_of_number b bs ≡ true
numeric-goes_on b bs h letter = and-right (is_ascii_digit b || b == 46 || b == 43 || b == 45) (to_ascii_lowercase b == 101) (not (begins_q bs)) (ap not letter) h

begins-no_letter : (bs after : List ℕ) → list_all is_numeric bs ≡ true → Stops after → begins_q (bs ++ after) ≡ false
begins-no_letter [] after h stops = stops.letter
begins-no_letter (b ∷ bs) after h stops = numeric-no_letter b (and_parts (is_numeric b) (list_all is_numeric bs) h).0

number_len-all : (bs after : List ℕ) → list_all is_numeric bs ≡ true → Stops after → number_len (bs ++ after) ≡ length bs
number_len-all [] after h stops = stops.len
number_len-all (b ∷ bs) after h stops =
    let p = and_parts (is_numeric b) (list_all is_numeric bs) h in
    rw (numeric-goes_on b (bs ++ after) p.0 (begins-no_letter bs after p.1 stops), number_len-all bs after p.1 stops) (omega arith)

-- a byte with which an operand begins
abbrev pub opens : ℕ → Bool
opens b = is_numeric b || b == 91 || b == 34 || b == 39

opens-numeric : (b : ℕ) → is_numeric b ≡ true → opens b ≡ true
opens-numeric b h = rw h refl

opens-quote : (b : ℕ) → (b == 34 || b == 39) ≡ true → opens b ≡ true
opens-quote b h = grind (arith, nat_tests)

pub opens-not_space : (b : ℕ) → opens b ≡ true → is_space b ≡ false
opens-not_space b h = grind (arith, nat_tests)

-- the first byte of an operand
pub record Opens (written : List ℕ) : Type 0 where
  pub byte : ℕ
  pub rest : List ℕ
  pub whole : written ≡ byte ∷ rest
  pub first : opens byte ≡ true

numeral-opens : (bs : List ℕ) (value : ℤ) → reading bs NUMBER_LIMIT ≡ Ok value → Opens bs
numeral-opens [] value h = cc
numeral-opens (b ∷ bs) value h =
    record { byte = b; rest = bs; whole = refl; first = opens-numeric b (and_parts (is_numeric b) (list_all is_numeric bs) (reading-all (b ∷ bs) NUMBER_LIMIT value h)).0 }

quoted-opens : (text written : List ℕ) → IsQuoted text written → Opens written
quoted-opens t written q = record { byte = q.quote; rest = t ++ (q.quote ∷ []); whole = q.between; first = opens-quote q.quote q.opens }

pub operand-opens : (written : List ℕ) (a : Operand) → IsOperand written a → Opens written
operand-opens _ _ (number t value h) = numeral-opens t value h
operand-opens _ _ (item name is) = record { byte = 91; rest = name ++ (93 ∷ []); whole = refl; first = refl }
operand-opens _ _ (item_text name written is q) = quoted-opens (bracketed name) written q
operand-opens _ _ (text t written q other) = quoted-opens t written q

numeric-no_bracket : (b : ℕ) → is_numeric b ≡ true → (b == 91) ≡ false
numeric-no_bracket b h = grind (arith, nat_tests)

numeric-no_quote : (b : ℕ) → is_numeric b ≡ true → (b == 34 || b == 39) ≡ false
numeric-no_quote b h = grind (arith, nat_tests)

quote-no_bracket : (b : ℕ) → (b == 34 || b == 39) ≡ true → (b == 91) ≡ false
quote-no_bracket b h = grind (arith, nat_tests)

number-found : (bs after : List ℕ) (value : ℤ) → reading bs NUMBER_LIMIT ≡ Ok value → Stops after → number_at (bs ++ after) ≡ Some (operand.Number value bs, after)
unfolding number_at
number-found bs after value h stops =
    rw (number_len-all bs after (reading-all bs NUMBER_LIMIT value h) stops, take-append_seam bs after, drop-append_seam bs after, h) refl

quoted-found : (text written after : List ℕ) (q : IsQuoted text written) → operand_from (written ++ after) ≡ Some (quoted_as text (name_of text), after)
unfolding quoted_at
quoted-found t written after q =
    rw (q.between, quote-no_bracket q.quote q.opens, q.opens, append_assoc t (q.quote ∷ []) after, split-found q.quote t after q.goes_on, q.utf8) refl

item-found : (name after : List ℕ) → IsName name → item_at ((name ++ (93 ∷ [])) ++ after) ≡ Some (operand.Item name, after)
unfolding item_at
item-found name after is =
    let good : is_name name ≡ true = and_from _ _ (lt-ltb _ _ is.some) is.utf8 in
    rw (append_assoc name (93 ∷ []) after, split-found 93 name after is.goes_on, good) refl

no-name : (text : List ℕ) → ((name : List ℕ) → IsName name → text ≢ bracketed name) → name_of text ≡ None
no-name t other = by (name_of t) (name_of-sound t)
  where
    by : (r : Option (List ℕ)) → IfSome r (IsItem t) → r ≡ None
    by None is = refl
    by (Some name) is = absurd (other name is.0 is.1)

operand_from-found : (written after : List ℕ) (a : Operand) → IsOperand written a → Stops after → operand_from (written ++ after) ≡ Some (a, after)
operand_from-found _ after _ (number bs value h) stops = by bs h
  where
    by : (bs : List ℕ) → reading bs NUMBER_LIMIT ≡ Ok value → operand_from (bs ++ after) ≡ Some (operand.Number value bs, after)
    by [] h = cc
    by (b ∷ bs) h =
        let first = (and_parts (is_numeric b) (list_all is_numeric bs) (reading-all (b ∷ bs) NUMBER_LIMIT value h)).0 in
        rw (numeric-no_bracket b first, numeric-no_quote b first) (number-found (b ∷ bs) after value h stops)
operand_from-found _ after _ (item name is) stops = item-found name after is
operand_from-found _ after _ (item_text name written is q) stops =
    quoted-found (bracketed name) written after q ∙ ap (λ r. Some (quoted_as (bracketed name) r, after)) (name_of-found name is)
operand_from-found _ after _ (text t written q other) stops =
    quoted-found t written after q ∙ ap (λ r. Some (quoted_as t r, after)) (no-name t other)

-- an operand that is written is read, before bytes that end a number
pub operand-found : (written after : List ℕ) (a : Operand) → IsSpaced (λ w. IsOperand w a) written → Stops after → operand_at (written ++ after) ≡ Some (a, after)
unfolding operand_at
operand-found written after a s stops =
    let o = operand-opens s.part a s.is in
    let here : after_spaces (s.part ++ after) ≡ s.part ++ after = rw o.whole (stays o.byte (o.rest ++ after) (opens-not_space o.byte o.first)) in
    ap operand_from (spaced-skip (λ w. IsOperand w a) written after s here) ∙ operand_from-found s.part after a s.is stops

-- bytes that are no number's, by the first letter of a word
plain-first : (c : ℕ) (cs written after : List ℕ) → IsWord (c ∷ cs) written → is_numeric (to_ascii_lowercase c) ≡ false → (to_ascii_lowercase c == 113) ≡ false → Stops (written ++ after)
plain-first c cs written after is other letter =
    let (b, rest, e, f, more) = word-first c cs written is in
    rw e (stops-at b (rest ++ after) (same-numeric b c f other) (rw f letter))
  where
    same-numeric : (b c : ℕ) → to_ascii_lowercase b ≡ to_ascii_lowercase c → is_numeric (to_ascii_lowercase c) ≡ false → is_numeric b ≡ false
    same-numeric b c f other = grind (arith, nat_tests)

eq-first : (written after : List ℕ) → IsWord (codes "eq") written → Stops (written ++ after)
eq-first written after is =
    let (a, b, e, f, g) = two-letters 101 113 written is in
    rw e (record { len = no-number a b after f g; letter = rw f refl })
  where
    no-number : (a b : ℕ) (after : List ℕ) → to_ascii_lowercase a ≡ 101 → to_ascii_lowercase b ≡ 113 → number_len (a ∷ b ∷ after) ≡ 0
    no-number a b after f g =
        let others : (is_ascii_digit a || a == 46 || a == 43 || a == 45) ≡ false = grind (arith, nat_tests) in
        rw (others, f, g) refl

comparison-stops : (written after : List ℕ) (how : Comparison) → IsComparison written how → Stops (written ++ after)
comparison-stops w after _ (equal is) = plain-first 61 [] w after is refl refl
comparison-stops w after _ (equal_twice is) = plain-first 61 (61 ∷ []) w after is refl refl
comparison-stops w after _ (eq is) = eq-first w after is
comparison-stops w after _ (not_equal is) = plain-first 33 (61 ∷ []) w after is refl refl
comparison-stops w after _ (ne is) = plain-first 110 (101 ∷ []) w after is refl refl
comparison-stops w after _ (less is) = plain-first 60 [] w after is refl refl
comparison-stops w after _ (lt is) = plain-first 108 (116 ∷ []) w after is refl refl
comparison-stops w after _ (greater is) = plain-first 62 [] w after is refl refl
comparison-stops w after _ (gt is) = plain-first 103 (116 ∷ []) w after is refl refl
comparison-stops w after _ (at_most is) = plain-first 60 (61 ∷ []) w after is refl refl
comparison-stops w after _ (le is) = plain-first 108 (101 ∷ []) w after is refl refl
comparison-stops w after _ (at_least is) = plain-first 62 (61 ∷ []) w after is refl refl
comparison-stops w after _ (ge is) = plain-first 103 (101 ∷ []) w after is refl refl
comparison-stops w after _ (alike is) = plain-first 61 (42 ∷ []) w after is refl refl
comparison-stops w after _ (one_of is) = plain-first 73 (78 ∷ []) w after is refl refl

pub sign-stops : (sign after : List ℕ) (how : Comparison) → IsSpaced (λ w. IsComparison w how) sign → Stops (sign ++ after)
sign-stops sign after how s =
    rw (s.whole, append_assoc s.spaces s.part after) (stops-spaced s.spaces (s.part ++ after) s.blank (comparison-stops s.part after how s.is))

-- bytes with which no sign goes on
pub record IsApart (bytes : List ℕ) : Type 0 where
  pub byte : ℕ
  pub rest : List ℕ
  pub whole : bytes ≡ byte ∷ rest
  pub no_equal : (to_ascii_lowercase byte == 61) ≡ false
  pub no_star : (to_ascii_lowercase byte == 42) ≡ false

two-found : (c d : ℕ) (how : Comparison) (written after : List ℕ) → IsWord (c ∷ d ∷ []) written → comparison_of_two (to_ascii_lowercase c) (to_ascii_lowercase d) ≡ Some how →
    comparison_from (written ++ after) ≡ Some (how, after)
two-found c d how written after is found =
    let (a, b, e, f, g) = two-letters c d written is in rw (e, f, g, found) refl

one-found : (c : ℕ) (how : Comparison) (written after : List ℕ) → IsWord (c ∷ []) written → IsApart after → comparison_of_one c ≡ Some how →
    ((b : ℕ) → (b == 61) ≡ false → (b == 42) ≡ false → comparison_of_two (to_ascii_lowercase c) b ≡ None) → ((a : ℕ) → to_ascii_lowercase a ≡ to_ascii_lowercase c → a ≡ c) →
    comparison_from (written ++ after) ≡ Some (how, after)
one-found c how written after is apart found none same =
    let (a, e, f) = one-letter c written is in
    rw (e, apart.whole, f, none (to_ascii_lowercase apart.byte) apart.no_equal apart.no_star, same a f, found) refl

comparison_from-found : (written after : List ℕ) (how : Comparison) → IsComparison written how → IsApart after → comparison_from (written ++ after) ≡ Some (how, after)
unfolding comparison_of_two comparison_of_one
comparison_from-found w after _ (equal is) apart = one-found 61 Equal w after is apart refl (λ b x y. rw (x, y) refl) (λ a h. grind (arith, nat_tests))
comparison_from-found w after _ (equal_twice is) apart = two-found 61 61 Equal w after is refl
comparison_from-found w after _ (eq is) apart = two-found 101 113 Equal w after is refl
comparison_from-found w after _ (not_equal is) apart = two-found 33 61 NotEqual w after is refl
comparison_from-found w after _ (ne is) apart = two-found 110 101 NotEqual w after is refl
comparison_from-found w after _ (less is) apart = one-found 60 Less w after is apart refl (λ b x y. rw x refl) (λ a h. grind (arith, nat_tests))
comparison_from-found w after _ (lt is) apart = two-found 108 116 Less w after is refl
comparison_from-found w after _ (greater is) apart = one-found 62 Greater w after is apart refl (λ b x y. rw x refl) (λ a h. grind (arith, nat_tests))
comparison_from-found w after _ (gt is) apart = two-found 103 116 Greater w after is refl
comparison_from-found w after _ (at_most is) apart = two-found 60 61 AtMost w after is refl
comparison_from-found w after _ (le is) apart = two-found 108 101 AtMost w after is refl
comparison_from-found w after _ (at_least is) apart = two-found 62 61 AtLeast w after is refl
comparison_from-found w after _ (ge is) apart = two-found 103 101 AtLeast w after is refl
comparison_from-found w after _ (alike is) apart = two-found 61 42 EqualIgnoringCase w after is refl
comparison_from-found w after _ (one_of is) apart = two-found 73 78 In w after is refl

-- a comparison begins with no space
inks : (c : ℕ) (cs written after : List ℕ) → IsWord (c ∷ cs) written → is_space c ≡ false → after_spaces (written ++ after) ≡ written ++ after
inks c cs written after is ink =
    let (b, rest, e, f, more) = word-first c cs written is in rw e (stays b (rest ++ after) (not-space b c ink f))

comparison-inks : (w after : List ℕ) (how : Comparison) → IsComparison w how → after_spaces (w ++ after) ≡ w ++ after
comparison-inks w after _ (equal is) = inks 61 [] w after is refl
comparison-inks w after _ (equal_twice is) = inks 61 (61 ∷ []) w after is refl
comparison-inks w after _ (eq is) = inks 101 (113 ∷ []) w after is refl
comparison-inks w after _ (not_equal is) = inks 33 (61 ∷ []) w after is refl
comparison-inks w after _ (ne is) = inks 110 (101 ∷ []) w after is refl
comparison-inks w after _ (less is) = inks 60 [] w after is refl
comparison-inks w after _ (lt is) = inks 108 (116 ∷ []) w after is refl
comparison-inks w after _ (greater is) = inks 62 [] w after is refl
comparison-inks w after _ (gt is) = inks 103 (116 ∷ []) w after is refl
comparison-inks w after _ (at_most is) = inks 60 (61 ∷ []) w after is refl
comparison-inks w after _ (le is) = inks 108 (101 ∷ []) w after is refl
comparison-inks w after _ (at_least is) = inks 62 (61 ∷ []) w after is refl
comparison-inks w after _ (ge is) = inks 103 (101 ∷ []) w after is refl
comparison-inks w after _ (alike is) = inks 61 (42 ∷ []) w after is refl
comparison-inks w after _ (one_of is) = inks 73 (78 ∷ []) w after is refl

pub comparison-found : (written after : List ℕ) (how : Comparison) → IsSpaced (λ w. IsComparison w how) written → IsApart after → comparison_at (written ++ after) ≡ Some (how, after)
unfolding comparison_at
comparison-found written after how s apart =
    ap comparison_from (spaced-skip (λ w. IsComparison w how) written after s (comparison-inks s.part after how s.is)) ∙ comparison_from-found s.part after how s.is apart

-- an operand is apart from a sign before it
apart-byte : (b : ℕ) (bs : List ℕ) → (is_space b || opens b) ≡ true → IsApart (b ∷ bs)
apart-byte b bs h = record { byte = b; rest = bs; whole = refl; no_equal = no-equal b h; no_star = no-star b h }
  where
    no-equal : (b : ℕ) → (is_space b || opens b) ≡ true → (to_ascii_lowercase b == 61) ≡ false
    no-equal b h = grind (arith, nat_tests)

    no-star : (b : ℕ) → (is_space b || opens b) ≡ true → (to_ascii_lowercase b == 42) ≡ false
    no-star b h = grind (arith, nat_tests)

or-right : (x y : Bool) → y ≡ true → (x || y) ≡ true
or-right true y h = refl
or-right false y h = h

pub operand-apart : (written after : List ℕ) (a : Operand) → IsSpaced (λ w. IsOperand w a) written → IsApart (written ++ after)
operand-apart written after a s = rw (s.whole, append_assoc s.spaces s.part after) (by s.spaces s.blank)
  where
    by : (spaces : List ℕ) → All (λ b. IsTrue (is_space b)) spaces → IsApart (spaces ++ (s.part ++ after))
    by [] blank =
        let o = operand-opens s.part a s.is in
        rw o.whole (apart-byte o.byte (o.rest ++ after) (or-right (is_space o.byte) (opens o.byte) o.first))
    by (b ∷ bs) blank = apart-byte b (bs ++ (s.part ++ after)) (rw (All-head (λ b. IsTrue (is_space b)) b bs blank) refl)
