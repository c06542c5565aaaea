-- What is read is in the grammar.
use Rattle.std.proofs.Common.{◌≡◌, ◌≢◌, ℕ, ◌==◌, ◌||◌, Bool, true, false, if◌then◌else◌, ℤ, List, [], ◌∷◌, ◌++◌, length, take, drop, Option, Some, None, option_map, option_and_then, Result, Ok, Err, IfSome, All, inl, inr, refl, sym, ◌∙◌, ap, subst, append_assoc, take-append-drop}
use Rattle.std.proofs.lemmas.Bool.{and_parts, and_from, eqb-true, eq-eqb, ltb-true, lt-ltb}
use Rattle.std.specs.Prelude.{nat_lt, ◌⊎◌}
use Rattle.std.specs.Str.{is_utf8}
use Rattle.geom.specs.Decimal.{reading}
use Rattle.geom.specs.declared.micro.NumberFault.{NumberFault}
use Rattle.geom.specs.declared.micro.TheConstants.{NUMBER_LIMIT}
use Rattle.mapdefs.specs.declared.expr.Operand.{Operand}
use Rattle.mapdefs.specs.declared.expr.Operand.TheVariants.{Item}
use Rattle.expressions.specs.Grammar.{IsName, IsQuoted, IsOperand, number, item, item_text, text, bracketed}
use Rattle.expressions.specs.Reading.{number_len, literal_number, number_at, split_before, is_name, item_named, item_at, name_within, name_of, quoted_as, quoted_text, quoted_at, operand_from, operand_at, after_spaces}
use Rattle.expressions.proofs.Cuts.{IsCut, split-sound, split-found}
use Rattle.expressions.proofs.Words.{Found, spaced-sound}
use Rattle.expressions.specs.Grammar.{IsSpaced, IsWord, IsComparison, equal, equal_twice, eq, not_equal, ne, less, lt, greater, gt, at_most, le, at_least, ge, alike, one_of}
use Rattle.expressions.specs.Reading.{comparison_of_two, comparison_of_one, or_of_one, comparison_from, comparison_at}
use Rattle.mapdefs.specs.declared.expr.Comparison.{Comparison}
use Rattle.mapdefs.specs.declared.expr.Comparison.TheVariants.{Equal, NotEqual, Less, Greater, AtMost, AtLeast, EqualIgnoringCase, In}
use Rattle.expressions.specs.Reading.{is_pair}
use Rattle.std.specs.Char.{to_ascii_lowercase}

-- something is written as a prefix of some bytes
abbrev pub Reads : {A : Type 0} → (A → List ℕ → Type 0) → List ℕ → Option (A × List ℕ) → Type 0
Reads Is bytes None = Unit {0}
Reads Is bytes (Some p) = Found (Is p.0) bytes p.1

abbrev IsOperandAt : Operand → List ℕ → Type 0
IsOperandAt a written = IsOperand written a

number-sound : (bytes : List ℕ) → Reads IsOperandAt bytes (number_at bytes)
unfolding number_at
number-sound bytes = by (reading (take (number_len bytes) bytes) NUMBER_LIMIT) refl
  where
    by : (r : Result ℤ NumberFault) → reading (take (number_len bytes) bytes) NUMBER_LIMIT ≡ r →
        Reads IsOperandAt bytes (literal_number (take (number_len bytes) bytes) (drop (number_len bytes) bytes) r)
    by (Ok value) e = (take (number_len bytes) bytes, number (take (number_len bytes) bytes) value e, sym (take-append-drop (number_len bytes) bytes))
    by (Err fault) e = tt

name-is : (bytes : List ℕ) → All (λ b. b ≢ 93) bytes → is_name bytes ≡ true → IsName bytes
name-is bytes goes_on h =
    let p = and_parts (nat_lt 0 (length bytes)) (is_utf8 bytes) h in record { utf8 = p.1; some = ltb-true _ _ p.0; goes_on = goes_on }

-- an item, after its first bracket
item-sound : (bytes : List ℕ) → Reads IsOperandAt (91 ∷ bytes) (item_at bytes)
unfolding item_at
item-sound bytes = by (split_before 93 bytes) (split-sound 93 bytes)
  where
    named : (p : List ℕ × List ℕ) → IsCut 93 bytes p → (t : Bool) → is_name p.0 ≡ t → Reads IsOperandAt (91 ∷ bytes) (if t then Some (Item p.0, p.1) else None)
    named p cut true e = (bracketed p.0, item p.0 (name-is p.0 cut.0 e), ap (λ cs. 91 ∷ cs) (cut.1 ∙ sym (append_assoc p.0 (93 ∷ []) p.1)))
    named p cut false e = tt

    by : (r : Option (List ℕ × List ℕ)) → IfSome r (IsCut 93 bytes) → Reads IsOperandAt (91 ∷ bytes) (option_and_then item_named r)
    by None cut = tt
    by (Some p) cut = named p cut (is_name p.0) refl

-- the name of a text that is exactly an item
pub name_of-found : (name : List ℕ) → IsName name → name_of (bracketed name) ≡ Some name
unfolding name_of
name_of-found name is =
    let good : is_name name ≡ true = and_from _ _ (lt-ltb _ _ is.some) is.utf8 in
    rw (split-found 93 name [] is.goes_on, good) refl

abbrev pub IsItem : List ℕ → List ℕ → Type 0
IsItem bytes name = IsName name × (bytes ≡ bracketed name)

pub name_of-sound : (bytes : List ℕ) → IfSome (name_of bytes) (IsItem bytes)
unfolding name_of
name_of-sound [] = tt
name_of-sound (b ∷ bs) = opened (b == 91) refl
  where
    named : (name : List ℕ) → b ≡ 91 → IsCut 93 bs (name, []) → (t : Bool) → is_name name ≡ t → IfSome (if t then Some name else None) (IsItem (b ∷ bs))
    named name e cut true good = (name-is name cut.0 good, rw e (ap (λ cs. 91 ∷ cs) cut.1))
    named name e cut false good = tt

    within : (p : List ℕ × List ℕ) → b ≡ 91 → IsCut 93 bs p → IfSome (name_within p) (IsItem (b ∷ bs))
    within (name, []) e cut = named name e cut (is_name name) refl
    within (name, c ∷ cs) e cut = tt

    by : (r : Option (List ℕ × List ℕ)) → b ≡ 91 → IfSome r (IsCut 93 bs) → IfSome (option_and_then name_within r) (IsItem (b ∷ bs))
    by None e cut = tt
    by (Some p) e cut = within p e cut

    opened : (t : Bool) → (b == 91) ≡ t → IfSome (if t then option_and_then name_within (split_before 93 bs) else None) (IsItem (b ∷ bs))
    opened true e = by (split_before 93 bs) (eqb-true b 91 e) (split-sound 93 bs)
    opened false e = tt

-- what a quoted text is
quoted-sound : (quote : ℕ) (bytes : List ℕ) → (quote == 34 || quote == 39) ≡ true → Reads IsOperandAt (quote ∷ bytes) (quoted_at quote bytes)
unfolding quoted_at
quoted-sound quote bytes opens = by (split_before quote bytes) (split-sound quote bytes)
  where
    written : List ℕ × List ℕ → List ℕ
    written p = quote ∷ (p.0 ++ (quote ∷ []))

    whole : (p : List ℕ × List ℕ) → IsCut quote bytes p → quote ∷ bytes ≡ (quote ∷ (p.0 ++ (quote ∷ []))) ++ p.1
    whole p cut = ap (λ cs. quote ∷ cs) (cut.1 ∙ sym (append_assoc p.0 (quote ∷ []) p.1))

    quoted : (p : List ℕ × List ℕ) → IsCut quote bytes p → is_utf8 p.0 ≡ true → IsQuoted p.0 (quote ∷ (p.0 ++ (quote ∷ [])))
    quoted p cut good = record { quote = quote; opens = opens; between = refl; goes_on = cut.0; utf8 = good }

    named : (p : List ℕ × List ℕ) → IsCut quote bytes p → is_utf8 p.0 ≡ true → (r : Option (List ℕ)) → name_of p.0 ≡ r → IfSome r (IsItem p.0) →
        Found (IsOperandAt (quoted_as p.0 r)) (quote ∷ bytes) p.1
    named p cut good None e found = (
      quote ∷ (p.0 ++ (quote ∷ [])),
      text p.0 (quote ∷ (p.0 ++ (quote ∷ []))) (quoted p cut good) (λ name is same. let found_name = sym (ap name_of same ∙ name_of-found name is) ∙ e in cc),
      whole p cut,
    )
    named p cut good (Some name) e found = (
      quote ∷ (p.0 ++ (quote ∷ [])),
      item_text name (quote ∷ (p.0 ++ (quote ∷ []))) found.0 (subst (λ x. IsQuoted x (quote ∷ (p.0 ++ (quote ∷ [])))) found.1 (quoted p cut good)),
      whole p cut,
    )

    checked : (p : List ℕ × List ℕ) → IsCut quote bytes p → (t : Bool) → is_utf8 p.0 ≡ t → Reads IsOperandAt (quote ∷ bytes) (if t then Some (quoted_as p.0 (name_of p.0), p.1) else None)
    checked p cut true good = named p cut good (name_of p.0) refl (name_of-sound p.0)
    checked p cut false good = tt

    by : (r : Option (List ℕ × List ℕ)) → IfSome r (IsCut quote bytes) → Reads IsOperandAt (quote ∷ bytes) (option_and_then quoted_text r)
    by None cut = tt
    by (Some p) cut = checked p cut (is_utf8 p.0) refl

operand_from-sound : (bytes : List ℕ) → Reads IsOperandAt bytes (operand_from bytes)
operand_from-sound [] = tt
operand_from-sound (b ∷ bs) = by (b == 91) refl
  where
    quotes : (t : Bool) → (b == 34 || b == 39) ≡ t → Reads IsOperandAt (b ∷ bs) (if t then quoted_at b bs else number_at (b ∷ bs))
    quotes true e = quoted-sound b bs e
    quotes false e = number-sound (b ∷ bs)

    by : (t : Bool) → (b == 91) ≡ t → Reads IsOperandAt (b ∷ bs) (if t then item_at bs else (if b == 34 || b == 39 then quoted_at b bs else number_at (b ∷ bs)))
    by true e = rw (eqb-true b 91 e) (item-sound bs)
    by false e = quotes (b == 34 || b == 39) refl

abbrev pub IsSpacedOperand : Operand → List ℕ → Type 0
IsSpacedOperand a written = IsSpaced (λ w. IsOperand w a) written

pub operand-sound : (bytes : List ℕ) → Reads IsSpacedOperand bytes (operand_at bytes)
unfolding operand_at
operand-sound bytes = by (operand_from (after_spaces bytes)) (operand_from-sound (after_spaces bytes))
  where
    by : (r : Option (Operand × List ℕ)) → Reads IsOperandAt (after_spaces bytes) r → Reads IsSpacedOperand bytes r
    by None found = tt
    by (Some p) found = spaced-sound (λ w. IsOperand w p.0) bytes p.1 found

-- the comparison of two bytes, and of one
same-pair : (a b first second : ℕ) → is_pair a b first second ≡ true → (a ≡ first) × (b ≡ second)
same-pair a b first second h = let p = and_parts (a == first) (b == second) h in (eqb-true a first p.0, eqb-true b second p.1)

-- two bytes that are written as a keyword of two letters
written-two : (a b c d : ℕ) → to_ascii_lowercase a ≡ to_ascii_lowercase c → to_ascii_lowercase b ≡ to_ascii_lowercase d → IsWord (c ∷ d ∷ []) (a ∷ b ∷ [])
written-two a b c d e f = and_from _ _ (eq-eqb _ _ e) (and_from _ _ (eq-eqb _ _ f) refl)

either-true : (x y : Bool) → (x || y) ≡ true → (x ≡ true) ⊎ (y ≡ true)
either-true true y h = inl refl
either-true false y h = inr h

-- one of two spellings of two letters
two-of : (a b c d e f : ℕ) (P : Type 0) → (is_pair (to_ascii_lowercase a) (to_ascii_lowercase b) (to_ascii_lowercase c) (to_ascii_lowercase d) || is_pair (to_ascii_lowercase a) (to_ascii_lowercase b) (to_ascii_lowercase e) (to_ascii_lowercase f)) ≡ true →
    (IsWord (c ∷ d ∷ []) (a ∷ b ∷ []) → P) → (IsWord (e ∷ f ∷ []) (a ∷ b ∷ []) → P) → P
two-of a b c d e f P h first second = elim (either-true _ _ h) [
  | inl p ↦ let q = same-pair _ _ _ _ p in first (written-two a b c d q.0 q.1)
  | inr p ↦ let q = same-pair _ _ _ _ p in second (written-two a b e f q.0 q.1)
]

one-of : (a b c d : ℕ) (P : Type 0) → is_pair (to_ascii_lowercase a) (to_ascii_lowercase b) (to_ascii_lowercase c) (to_ascii_lowercase d) ≡ true →
    (IsWord (c ∷ d ∷ []) (a ∷ b ∷ []) → P) → P
one-of a b c d P h first = let q = same-pair _ _ _ _ h in first (written-two a b c d q.0 q.1)

-- the first of two comparisons, or another
choose : (w : List ℕ) (how : Comparison) (t : Bool) (other : Option Comparison) → (t ≡ true → IsComparison w how) → IfSome other (IsComparison w) →
    IfSome (if t then Some how else other) (IsComparison w)
choose w how true other this that = this refl
choose w how false other this that = that

two-sound : (a b : ℕ) → IfSome (comparison_of_two (to_ascii_lowercase a) (to_ascii_lowercase b)) (IsComparison (a ∷ b ∷ []))
unfolding comparison_of_two
two-sound a b =
    let w : List ℕ = a ∷ b ∷ [] in
    choose w Equal _ _ (λ e. two-of a b 61 61 101 113 _ e equal_twice eq)
    (choose w NotEqual _ _ (λ e. two-of a b 33 61 110 101 _ e not_equal ne)
    (choose w AtMost _ _ (λ e. two-of a b 60 61 108 101 _ e at_most le)
    (choose w AtLeast _ _ (λ e. two-of a b 62 61 103 101 _ e at_least ge)
    (choose w Less _ _ (λ e. one-of a b 108 116 _ e lt)
    (choose w Greater _ _ (λ e. one-of a b 103 116 _ e gt)
    (choose w EqualIgnoringCase _ _ (λ e. one-of a b 61 42 _ e alike)
    (choose w In _ None (λ e. one-of a b 73 78 _ e one_of) tt)))))))

written-one : (a c : ℕ) → (a == c) ≡ true → IsWord (c ∷ []) (a ∷ [])
written-one a c e = and_from _ _ (eq-eqb _ _ (ap to_ascii_lowercase (eqb-true a c e))) refl

one-sound : (a : ℕ) → IfSome (comparison_of_one a) (IsComparison (a ∷ []))
unfolding comparison_of_one
one-sound a =
    let w : List ℕ = a ∷ [] in
    choose w Equal (a == 61) _ (λ e. equal (written-one a 61 e))
    (choose w Less (a == 60) _ (λ e. less (written-one a 60 e))
    (choose w Greater (a == 62) None (λ e. greater (written-one a 62 e)) tt))

abbrev IsComparisonAt : Comparison → List ℕ → Type 0
IsComparisonAt how written = IsComparison written how

after-one : (a : ℕ) (bs : List ℕ) (r : Option Comparison) → IfSome r (IsComparison (a ∷ [])) → Reads IsComparisonAt (a ∷ bs) (option_map (λ how. (how, bs)) r)
after-one a bs None is = tt
after-one a bs (Some how) is = (a ∷ [], is, refl)

comparison_from-sound : (bytes : List ℕ) → Reads IsComparisonAt bytes (comparison_from bytes)
comparison_from-sound [] = tt
comparison_from-sound (a ∷ []) = after-one a [] (comparison_of_one a) (one-sound a)
comparison_from-sound (a ∷ b ∷ bs) = by (comparison_of_two (to_ascii_lowercase a) (to_ascii_lowercase b)) (two-sound a b)
  where
    by : (r : Option Comparison) → IfSome r (IsComparison (a ∷ b ∷ [])) → Reads IsComparisonAt (a ∷ b ∷ bs) (or_of_one a (b ∷ bs) r bs)
    by (Some how) is = (a ∷ b ∷ [], is, refl)
    by None is = after-one a (b ∷ bs) (comparison_of_one a) (one-sound a)

abbrev pub IsSpacedComparison : Comparison → List ℕ → Type 0
IsSpacedComparison how written = IsSpaced (λ w. IsComparison w how) written

pub comparison-sound : (bytes : List ℕ) → Reads IsSpacedComparison bytes (comparison_at bytes)
unfolding comparison_at
comparison-sound bytes = by (comparison_from (after_spaces bytes)) (comparison_from-sound (after_spaces bytes))
  where
    by : (r : Option (Comparison × List ℕ)) → Reads IsComparisonAt (after_spaces bytes) r → Reads IsSpacedComparison bytes r
    by None found = tt
    by (Some p) found = spaced-sound (λ w. IsComparison w p.0) bytes p.1 found
