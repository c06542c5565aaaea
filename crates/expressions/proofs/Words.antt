-- Keywords with which texts begin, and spaces before them.
use Rattle.std.proofs.Common.{◌≡◌, ℕ, ◌<◌, ◌==◌, Bool, true, false, if◌then◌else◌, List, [], ◌∷◌, ◌++◌, length, drop, Option, Some, None, IfSome, IsTrue, All, inl, inr, refl, sym, ◌∙◌, ap, append_assoc, drop-cons, arith}
use Rattle.std.proofs.lemmas.Bool.{and_parts, and_from, eqb-true, eq-eqb}
use Rattle.std.proofs.lemmas.Bool.Decides.{nat_tests}
use Rattle.std.proofs.lemmas.List.Elements.{All-nil, All-cons, All-head, All-tail}
use Rattle.std.specs.Char.{to_ascii_lowercase}
use Rattle.std.specs.Option.{option_or}
use Rattle.std.specs.Prelude.{◌⊎◌}
use Rattle.std.specs.Str.{str_eq_ignore_ascii_case}
use Rattle.expressions.specs.Grammar.{is_space, IsSpaced, IsWord}
use Rattle.expressions.specs.Reading.{after_spaces, after_word, after_spaced, after_either}

-- nothing begins with a letter that has none
pub after_word-short : (word rest : List ℕ) (i : ℕ) → i < length word → length rest < 1 → after_word (drop i word) rest ≡ None
after_word-short word [] i h short = rw (drop-cons word i 0 h) refl
after_word-short word (b ∷ bs) i h short = absurd (omega arith)

-- something is written as a prefix of some bytes, before a rest
abbrev pub Found : (List ℕ → Type 0) → List ℕ → List ℕ → Type 0
Found IsPart bytes rest = (written : List ℕ) × IsPart written × (bytes ≡ written ++ rest)

-- the leading spaces of some bytes
spaces-sound : (bytes : List ℕ) → (spaces : List ℕ) × All (λ b. IsTrue (is_space b)) spaces × (bytes ≡ spaces ++ after_spaces bytes)
spaces-sound [] = ([], All-nil (λ b. IsTrue (is_space b)), refl)
spaces-sound (b ∷ bs) = by (spaces-sound bs) (is_space b) refl
  where
    by : (spaces : List ℕ) × All (λ b. IsTrue (is_space b)) spaces × (bs ≡ spaces ++ after_spaces bs) → (t : Bool) → is_space b ≡ t →
        (spaces : List ℕ) × All (λ b. IsTrue (is_space b)) spaces × (b ∷ bs ≡ spaces ++ (if t then after_spaces bs else b ∷ bs))
    by s true e = (b ∷ s.0, All-cons (λ b. IsTrue (is_space b)) b s.0 e s.1, ap (λ cs. b ∷ cs) s.2)
    by s false e = ([], All-nil (λ b. IsTrue (is_space b)), refl)

-- what is written after spaces
pub spaced-sound : (IsPart : List ℕ → Type 0) (bytes rest : List ℕ) → Found IsPart (after_spaces bytes) rest → Found (IsSpaced IsPart) bytes rest
spaced-sound IsPart bytes rest found =
    let s = spaces-sound bytes in (
      s.0 ++ found.0,
      record { spaces = s.0; part = found.0; whole = refl; blank = s.1; is = found.1 },
      s.2 ∙ ap (λ cs. s.0 ++ cs) found.2 ∙ sym (append_assoc s.0 found.0 rest),
    )

-- the keyword with which some bytes begin
pub word-sound : (word bytes : List ℕ) → IfSome (after_word word bytes) (Found (IsWord word) bytes)
word-sound [] bytes = ([], refl, refl)
word-sound (c ∷ cs) [] = tt
word-sound (c ∷ cs) (b ∷ bs) = by (word-sound cs bs) (to_ascii_lowercase b == to_ascii_lowercase c) refl
  where
    longer : (r : Option (List ℕ)) → (to_ascii_lowercase b == to_ascii_lowercase c) ≡ true → IfSome r (Found (IsWord cs) bs) → IfSome r (Found (IsWord (c ∷ cs)) (b ∷ bs))
    longer None e found = tt
    longer (Some rest) e found = (b ∷ found.0, and_from _ _ e found.1, ap (λ x. b ∷ x) found.2)

    by : IfSome (after_word cs bs) (Found (IsWord cs) bs) → (t : Bool) → (to_ascii_lowercase b == to_ascii_lowercase c) ≡ t →
        IfSome (if t then after_word cs bs else None) (Found (IsWord (c ∷ cs)) (b ∷ bs))
    by found true e = longer (after_word cs bs) e found
    by found false e = tt

pub after_spaced-sound : (word bytes : List ℕ) → IfSome (after_spaced word bytes) (Found (IsSpaced (IsWord word)) bytes)
unfolding after_spaced
after_spaced-sound word bytes = by (after_word word (after_spaces bytes)) (word-sound word (after_spaces bytes))
  where
    by : (r : Option (List ℕ)) → IfSome r (Found (IsWord word) (after_spaces bytes)) → IfSome r (Found (IsSpaced (IsWord word)) bytes)
    by None found = tt
    by (Some rest) found = spaced-sound (IsWord word) bytes rest found

pub after_either-sound : (word sign bytes : List ℕ) → IfSome (after_either word sign bytes) (Found (IsSpaced (λ w. IsWord word w ⊎ IsWord sign w)) bytes)
unfolding after_either
after_either-sound word sign bytes = by (after_word word (after_spaces bytes)) (after_word sign (after_spaces bytes)) (word-sound word (after_spaces bytes)) (word-sound sign (after_spaces bytes))
  where
    by : (r s : Option (List ℕ)) → IfSome r (Found (IsWord word) (after_spaces bytes)) → IfSome s (Found (IsWord sign) (after_spaces bytes)) →
        IfSome (option_or r s) (Found (IsSpaced (λ w. IsWord word w ⊎ IsWord sign w)) bytes)
    by (Some rest) s found other = spaced-sound (λ w. IsWord word w ⊎ IsWord sign w) bytes rest (found.0, inl found.1, found.2)
    by None (Some rest) found other = spaced-sound (λ w. IsWord word w ⊎ IsWord sign w) bytes rest (other.0, inr other.1, other.2)
    by None None found other = tt

-- spaces are skipped
spaces-skip : (spaces rest : List ℕ) → All (λ b. IsTrue (is_space b)) spaces → after_spaces (spaces ++ rest) ≡ after_spaces rest
spaces-skip [] rest blank = refl
spaces-skip (b ∷ bs) rest blank =
    rw (All-head (λ b. IsTrue (is_space b)) b bs blank) (spaces-skip bs rest (All-tail (λ b. IsTrue (is_space b)) b bs blank))

pub spaced-skip : (IsPart : List ℕ → Type 0) (written after : List ℕ) (s : IsSpaced IsPart written) → after_spaces (s.part ++ after) ≡ s.part ++ after → after_spaces (written ++ after) ≡ s.part ++ after
spaced-skip IsPart written after s stays =
    ap after_spaces (ap (λ w. w ++ after) s.whole ∙ append_assoc s.spaces s.part after) ∙ spaces-skip s.spaces (s.part ++ after) s.blank ∙ stays

-- the letters of a keyword
pub word-first : (c : ℕ) (cs written : List ℕ) → IsWord (c ∷ cs) written → (b : ℕ) × (rest : List ℕ) × (written ≡ b ∷ rest) × (to_ascii_lowercase b ≡ to_ascii_lowercase c) × IsWord cs rest
word-first c cs [] is = cc
word-first c cs (b ∷ rest) is =
    let p = and_parts (to_ascii_lowercase b == to_ascii_lowercase c) (str_eq_ignore_ascii_case rest cs) is in (b, rest, refl, eqb-true _ _ p.0, p.1)

word-none : (written : List ℕ) → IsWord [] written → written ≡ []
word-none [] is = refl
word-none (b ∷ rest) is = cc

pub one-letter : (c : ℕ) (written : List ℕ) → IsWord (c ∷ []) written → (a : ℕ) × (written ≡ a ∷ []) × (to_ascii_lowercase a ≡ to_ascii_lowercase c)
one-letter c written is =
    let (a, rest, e, f, over) = word-first c [] written is in (a, e ∙ ap (λ r. a ∷ r) (word-none rest over), f)

pub two-letters : (c d : ℕ) (written : List ℕ) → IsWord (c ∷ d ∷ []) written →
    (a : ℕ) × (b : ℕ) × (written ≡ a ∷ b ∷ []) × (to_ascii_lowercase a ≡ to_ascii_lowercase c) × (to_ascii_lowercase b ≡ to_ascii_lowercase d)
two-letters c d written is =
    let (a, rest, e, f, more) = word-first c (d ∷ []) written is in
    let (b, g, h) = one-letter d rest more in (a, b, e ∙ ap (λ r. a ∷ r) g, f, h)

-- a keyword is found where it is written
pub word-found : (word written after : List ℕ) → IsWord word written → after_word word (written ++ after) ≡ Some after
word-found [] written after is = rw (word-none written is) refl
word-found (c ∷ cs) written after is =
    let (b, rest, e, f, more) = word-first c cs written is in
    rw (e, f, eq-eqb (to_ascii_lowercase c) (to_ascii_lowercase c) refl) (word-found cs rest after more)

-- a byte that is a letter of a keyword, but for its case, is no space if the letter is none
pub not-space : (b c : ℕ) → is_space c ≡ false → to_ascii_lowercase b ≡ to_ascii_lowercase c → is_space b ≡ false
not-space b c h e = grind (arith, nat_tests)

pub stays : (b : ℕ) (bs : List ℕ) → is_space b ≡ false → after_spaces (b ∷ bs) ≡ b ∷ bs
stays b bs h = rw h refl

word-stays : (c : ℕ) (cs written after : List ℕ) → is_space c ≡ false → IsWord (c ∷ cs) written → after_spaces (written ++ after) ≡ written ++ after
word-stays c cs written after ink is =
    let (b, rest, e, f, more) = word-first c cs written is in rw e (stays b (rest ++ after) (not-space b c ink f))

pub spaced-found : (c : ℕ) (cs written after : List ℕ) → is_space c ≡ false → IsSpaced (IsWord (c ∷ cs)) written → after_spaced (c ∷ cs) (written ++ after) ≡ Some after
unfolding after_spaced
spaced-found c cs written after ink s =
    ap (after_word (c ∷ cs)) (spaced-skip (IsWord (c ∷ cs)) written after s (word-stays c cs s.part after ink s.is)) ∙ word-found (c ∷ cs) s.part after s.is

-- a keyword isn't found before another letter
pub spaced-none : (c : ℕ) (cs bytes : List ℕ) (b : ℕ) (bs : List ℕ) → after_spaces bytes ≡ b ∷ bs → (to_ascii_lowercase b == to_ascii_lowercase c) ≡ false → after_spaced (c ∷ cs) bytes ≡ None
unfolding after_spaced
spaced-none c cs bytes b bs e other = rw (e, other) refl

pub either-none : (c : ℕ) (cs : List ℕ) (d : ℕ) (ds bytes : List ℕ) (b : ℕ) (bs : List ℕ) → after_spaces bytes ≡ b ∷ bs →
    (to_ascii_lowercase b == to_ascii_lowercase c) ≡ false → (to_ascii_lowercase b == to_ascii_lowercase d) ≡ false → after_either (c ∷ cs) (d ∷ ds) bytes ≡ None
unfolding after_either
either-none c cs d ds bytes b bs e other another = rw (e, other, another) refl

pub either-found : (c : ℕ) (cs : List ℕ) (d : ℕ) (ds written after : List ℕ) → is_space c ≡ false → is_space d ≡ false → (to_ascii_lowercase d == to_ascii_lowercase c) ≡ false →
    IsSpaced (λ w. IsWord (c ∷ cs) w ⊎ IsWord (d ∷ ds) w) written → after_either (c ∷ cs) (d ∷ ds) (written ++ after) ≡ Some after
unfolding after_either
either-found c cs d ds written after ink ink' apart s = by s.part s.is (spaced-skip (λ w. IsWord (c ∷ cs) w ⊎ IsWord (d ∷ ds) w) written after s)
  where
    by : (part : List ℕ) → IsWord (c ∷ cs) part ⊎ IsWord (d ∷ ds) part → (after_spaces (part ++ after) ≡ part ++ after → after_spaces (written ++ after) ≡ part ++ after) →
        option_or (after_word (c ∷ cs) (after_spaces (written ++ after))) (after_word (d ∷ ds) (after_spaces (written ++ after))) ≡ Some after
    by part (inl is) skip = rw (skip (word-stays c cs part after ink is), word-found (c ∷ cs) part after is) refl
    by part (inr is) skip =
        let (b, rest, e, f, more) = word-first d ds part is in
        let none : after_word (c ∷ cs) (part ++ after) ≡ None = rw (e, f, apart) refl in
        rw (skip (word-stays d ds part after ink' is), none, word-found (d ∷ ds) part after is) refl
