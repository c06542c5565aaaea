-- Fields that are texts, and texts without the spaces at their ends.
use Rattle.std.proofs.Common.{◌≡◌, ◌<◌, ◌≤◌, ◌+◌, ◌-◌, ℕ, zero, suc, Bool, true, false, List, [], ◌∷◌, ◌++◌, length, take, drop, get_or, None, Some, refl, ap, sym, arith, rules, ◌∙◌}
use Rattle.std.specs.Prelude.{◌==◌, reverse, Ok, Err, IsUtf8, nat_lt}
use Rattle.std.specs.List.{list_all}
use Rattle.std.specs.Str.{is_utf8}
use Rattle.std.proofs.lemmas.List.{append-nil, append_assoc, reverse-append, reverse-reverse, take_more}
use Rattle.std.proofs.lemmas.Grind.{reverse_onto}
use Rattle.std.proofs.lemmas.Str.{is_utf8-from_IsUtf8, IsUtf8-from_is_utf8}
use Rattle.csv.specs.Records.{field_at}
use Rattle.csvpoints.proofs.Records.{one-more}
use Rattle.csvpoints.specs.declared.fault.CsvKind.TheVariants.{Limit, NotText}
use Rattle.csvpoints.specs.Row.{after_spaces, before_spaces, columns_of, texts_of}
use Rattle.mapdefs.specs.declared.limits.TheConstants.{MAX_ITEMS}

-- two numbers that differ
not-equal : (a b : ℕ) → ¬ (a ≡ b) → (a == b) ≡ false
not-equal a b h = search rules

-- a space at the end
pub space-at_end : (text : List ℕ) (n : ℕ) → n < length text → get_or text n 0 ≡ 32 → before_spaces (take (n + 1) text) ≡ before_spaces (take n text)
unfolding before_spaces after_spaces
space-at_end text n h e = rw (take_more text n 0 h, reverse-append (take n text) (get_or text n 0 ∷ []), e) refl

-- another byte at the end
pub other-at_end : (text : List ℕ) (n : ℕ) → n < length text → (get_or text n 0 == 32) ≡ false → before_spaces (take (n + 1) text) ≡ take (n + 1) text
unfolding before_spaces after_spaces
other-at_end text n h e = rw (take_more text n 0 h, reverse-append (take n text) (get_or text n 0 ∷ []), e) (reverse_onto (reverse (take n text)) (get_or text n 0) [] ∙ ap (λ (t : List ℕ). t ++ get_or text n 0 ∷ []) (reverse-reverse (take n text)))

-- a step from the end towards the beginning
pub back-step : (text : List ℕ) (k : ℕ) → k < length text → get_or text (length text - k - 1) 0 ≡ 32 →
    before_spaces (take (length text - k) text) ≡ before_spaces text → before_spaces (take (length text - (k + 1)) text) ≡ before_spaces text
back-step text k h e so_far =
    let n = length text - k - 1 in
    let before : length text - (k + 1) ≡ n = omega arith in
    let now : length text - k ≡ n + 1 = omega arith in
    rw before (sym (space-at_end text n (omega arith) e) ∙ (rw now at so_far))

pub back-end : (text : List ℕ) (k : ℕ) → k < length text → ¬ (get_or text (length text - k - 1) 0 ≡ 32) →
    before_spaces (take (length text - k) text) ≡ before_spaces text → take (length text - k) text ≡ before_spaces text
back-end text k h e so_far =
    let n = length text - k - 1 in
    let now : length text - k ≡ n + 1 = omega arith in
    rw now (sym (other-at_end text n (omega arith) (not-equal (get_or text n 0) 32 e)) ∙ (rw now at so_far))

pub back-all : (text : List ℕ) (k : ℕ) → length text ≤ k → before_spaces (take (length text - k) text) ≡ before_spaces text → [] ≡ before_spaces text
unfolding before_spaces after_spaces
back-all text k h so_far = let n : length text - k ≡ 0 = omega arith in rw n at so_far

-- a field that is there is the first of those from its index on
pub field-some : (xs : List (List ℕ)) (i : ℕ) (f : List ℕ) → field_at xs i ≡ Some f → drop i xs ≡ f ∷ drop (suc i) xs
unfolding field_at
field-some [] i f h = absurd (cc h)
field-some (x ∷ xs) zero f h = cc h
field-some (x ∷ xs) (suc i) f h = field-some xs i f h

pub field-none : (xs : List (List ℕ)) (i : ℕ) → field_at xs i ≡ None → drop i xs ≡ []
unfolding field_at
field-none [] zero h = refl
field-none [] (suc i) h = refl
field-none (x ∷ xs) zero h = absurd (cc h)
field-none (x ∷ xs) (suc i) h = field-none xs i h

-- the texts so far, with the fields that are left, are all fields, and all are UTF-8 if the latter are
abbrev pub AreSoFar : List (List ℕ) → List (List ℕ) → List (List ℕ) → Type 0
AreSoFar fields texts rest = (texts ++ rest ≡ fields) × (list_all is_utf8 rest ≡ list_all is_utf8 fields)

pub one-text : (fields texts : List (List ℕ)) (i : ℕ) (f : List ℕ) → field_at fields i ≡ Some f → IsUtf8 f →
    AreSoFar fields texts (drop i fields) → AreSoFar fields (texts ++ f ∷ []) (drop (i + 1) fields)
one-text fields texts i f at text h =
    let (all, utf8) = rw (field-some fields i f at) at h in
    rw (one-more i) (append_assoc texts (f ∷ []) (drop (suc i) fields) ∙ all, rw (is_utf8-from_IsUtf8 f text) at utf8)

pub all-texts : (fields texts : List (List ℕ)) (i : ℕ) → field_at fields i ≡ None → AreSoFar fields texts (drop i fields) → texts_of fields ≡ Ok texts
all-texts fields texts i at h =
    let (all, utf8) = rw (field-none fields i at) at h in
    rw (← utf8) (ap Ok (sym (rw (append-nil texts) at all)))

not-text : (f : List ℕ) → ¬ (IsUtf8 f) → is_utf8 f ≡ false
not-text f h = by (is_utf8 f) refl
  where
    by : (b : Bool) → is_utf8 f ≡ b → b ≡ false
    by true e = absurd (h (IsUtf8-from_is_utf8 f e))
    by false e = refl

pub other-bytes : (fields texts : List (List ℕ)) (i : ℕ) (f : List ℕ) → field_at fields i ≡ Some f → ¬ (IsUtf8 f) →
    AreSoFar fields texts (drop i fields) → texts_of fields ≡ Err NotText
other-bytes fields texts i f at bytes h =
    let (all, utf8) = rw (field-some fields i f at, not-text f bytes) at h in
    rw (← utf8) refl

-- a field that is added to the texts so far leaves those after it
pub one-added : (fields texts all : List (List ℕ)) (i : ℕ) (f : List ℕ) → field_at fields i ≡ Some f → texts ++ drop i fields ≡ all →
    (texts ++ f ∷ []) ++ drop (i + 1) fields ≡ all
one-added fields texts all i f at h = rw (one-more i) (append_assoc texts (f ∷ []) (drop (suc i) fields) ∙ (rw (field-some fields i f at) at h))

pub all-added : (fields texts all : List (List ℕ)) (i : ℕ) → field_at fields i ≡ None → texts ++ drop i fields ≡ all → texts ≡ all
all-added fields texts all i at h = rw (field-none fields i at, append-nil texts) at h

-- where each field was passed, all are texts, and where one isn't UTF-8 they aren't
pub all-passed : (fields : List (List ℕ)) (i : ℕ) → field_at fields i ≡ None → list_all is_utf8 (drop i fields) ≡ list_all is_utf8 fields → texts_of fields ≡ Ok fields
all-passed fields i at h = let utf8 = rw (field-none fields i at) at h in rw (← utf8) refl

pub not-all-texts : (fields : List (List ℕ)) (i : ℕ) (f : List ℕ) → field_at fields i ≡ Some f → ¬ (IsUtf8 f) →
    list_all is_utf8 (drop i fields) ≡ list_all is_utf8 fields → texts_of fields ≡ Err NotText
not-all-texts fields i f at bytes h = let utf8 = rw (field-some fields i f at, not-text f bytes) at h in rw (← utf8) refl

-- the field of a column
pub field-read : (fields : List (List ℕ)) (column : ℕ) (f : List ℕ) → field_at fields column ≡ Some f → get_or fields column [] ≡ f
unfolding field_at
field-read [] column f h = absurd (cc h)
field-read (x ∷ xs) zero f h = cc h
field-read (x ∷ xs) (suc column) f h = field-read xs column f h

pub field-there : (fields : List (List ℕ)) (column : ℕ) → column < length fields → ¬ (field_at fields column ≡ None)
unfolding field_at
field-there [] column h e = absurd (omega (arith, h))
field-there (x ∷ xs) zero h e = absurd (cc e)
field-there (x ∷ xs) (suc column) h e = field-there xs column (omega (arith, h)) e

-- a field that is UTF-8 leaves it to those after it whether all fields are
pub one-passed : (fields : List (List ℕ)) (i : ℕ) (f : List ℕ) → field_at fields i ≡ Some f → IsUtf8 f →
    list_all is_utf8 (drop i fields) ≡ list_all is_utf8 fields → list_all is_utf8 (drop (i + 1) fields) ≡ list_all is_utf8 fields
one-passed fields i f at text h = rw (one-more i) (rw (is_utf8-from_IsUtf8 f text) at (rw (field-some fields i f at) at h))

-- a header with a field that isn't UTF-8 is refused for that, and one with too many columns otherwise
pub passed-not-text : (fields : List (List ℕ)) (i : ℕ) (f : List ℕ) → field_at fields i ≡ Some f → ¬ (IsUtf8 f) →
    list_all is_utf8 (drop i fields) ≡ list_all is_utf8 fields → (x y : List ℕ) → columns_of x y fields ≡ Err NotText
passed-not-text fields i f at bytes h x y = let utf8 = rw (field-some fields i f at, not-text f bytes) at h in rw (← utf8) refl

pub passed-too-many : (fields : List (List ℕ)) (i : ℕ) → field_at fields i ≡ None → list_all is_utf8 (drop i fields) ≡ list_all is_utf8 fields →
    MAX_ITEMS < length fields → (x y : List ℕ) → columns_of x y fields ≡ Err Limit
passed-too-many fields i at h long x y =
    let utf8 = rw (field-none fields i at) at h in
    let many : nat_lt MAX_ITEMS (length fields) ≡ true = search rules in
    rw (← utf8, many) refl
