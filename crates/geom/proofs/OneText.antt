-- Only one text of the form is read as a number, which is the one that is written.
use Rattle.std.proofs.Common.{◌≡◌, ℕ, zero, suc, ℤ, pos, negsuc, ◌+◌, ◌-◌, ◌*◌, ◌/◌, ◌%◌, ◌^◌, ◌<◌, ◌≤◌, ◌++◌, ◌&&◌, Bool, true, false, if◌then◌else◌, Result, Ok, Err, nat_le, List, [], ◌∷◌, length, slice_index_or, refl, sym, ◌∙◌, ap, subst, arith}
use Rattle.std.proofs.lemmas.Bool.Decides.{nat_tests}
use Rattle.std.proofs.lemmas.Fmt.{decimal-digits_value}
use Rattle.std.proofs.lemmas.Int.{ints}
use Rattle.std.proofs.lemmas.Str.Parse.{IsNumeralModel, numerals_by_fold, tells_all_ascii_digits}
use Rattle.std.specs.Char.{is_ascii_digit}
use Rattle.std.specs.Fmt.{decimal}
use Rattle.std.specs.List.{fold, list_all}
use Rattle.std.specs.Str.{all_ascii_digits}
use Rattle.geom.specs.declared.micro.NumberFault.{NumberFault}
use Rattle.geom.specs.declared.micro.NumberFault.TheVariants.{TooLarge}
use Rattle.geom.specs.Decimal.{number_of, with_digit, unsigned, decimal_of, limited, found, reading, signed}
use Rattle.geom.specs.Written.{OneText, six_digits, written_size}
use Rattle.geom.proofs.Digits.{number_of-append, number_of-below, digits-cons, digit-range}
use Rattle.geom.proofs.Written.{parts-read, six-millionths, no-sign}

-- both definitions of digits
same-test : (ds : List ℕ) → all_ascii_digits ds ≡ list_all is_ascii_digit ds
same-test [] = refl
same-test (d ∷ ds) = ap (λ (b : Bool). is_ascii_digit d && b) (same-test ds)

-- the number of digits is what std reads them as
pub digits-model : IsNumeralModel (λ ds. all_ascii_digits ds ≡ true) number_of
digits-model = numerals_by_fold (λ ds. all_ascii_digits ds ≡ true) tells_all_ascii_digits (λ n ds. fold with_digit n ds) (record { empty = λ n. refl; more = λ n c cs r. refl })

-- digits without a needless zero are those that are written
whole-is : (whole : List ℕ) (n : ℕ) → list_all is_ascii_digit whole ≡ true → 1 ≤ length whole → (slice_index_or whole 0 0 ≡ 48 → length whole ≡ 1) →
    number_of whole ≡ n → n < 2 ^ 64 → whole ≡ decimal n
whole-is whole n digits some needed is small =
    sym (decimal-digits_value digits-model whole (same-test whole ∙ digits) (omega (arith, some)) needed (omega (arith, is, small))) ∙ ap decimal is

-- a digit of a number of six
six-is : (a b c d e f n w : ℕ) → (48 ≤ a) × (a ≤ 57) → (48 ≤ b) × (b ≤ 57) → (48 ≤ c) × (c ≤ 57) → (48 ≤ d) × (d ≤ 57) → (48 ≤ e) × (e ≤ 57) → (48 ≤ f) × (f ≤ 57) →
    n ≡ w * 1000000 + ((((((a - 48) * 10 + (b - 48)) * 10 + (c - 48)) * 10 + (d - 48)) * 10 + (e - 48)) * 10 + (f - 48)) →
    (a ∷ b ∷ c ∷ d ∷ e ∷ f ∷ []) ≡ six_digits n
six-is a b c d e f n w ra rb rc rd re rf is =
    let ea : a ≡ 48 + n / 100000 % 10 = omega (arith, ra, rb, rc, rd, re, rf, is) in
    let eb : b ≡ 48 + n / 10000 % 10 = omega (arith, ra, rb, rc, rd, re, rf, is) in
    let ec : c ≡ 48 + n / 1000 % 10 = omega (arith, ra, rb, rc, rd, re, rf, is) in
    let ed : d ≡ 48 + n / 100 % 10 = omega (arith, ra, rb, rc, rd, re, rf, is) in
    let ee : e ≡ 48 + n / 10 % 10 = omega (arith, ra, rb, rc, rd, re, rf, is) in
    let ef : f ≡ 48 + n % 10 = omega (arith, ra, rb, rc, rd, re, rf, is) in
    cc

-- six digits are the last ones of a number
places-are : (decimals : List ℕ) (n w : ℕ) → length decimals ≡ 6 → list_all is_ascii_digit decimals ≡ true → n ≡ w * 1000000 + number_of decimals → decimals ≡ six_digits n
places-are (a ∷ b ∷ c ∷ d ∷ e ∷ f ∷ []) n w six digits is =
    let pa = digits-cons a (b ∷ c ∷ d ∷ e ∷ f ∷ []) digits in
    let pb = digits-cons b (c ∷ d ∷ e ∷ f ∷ []) pa.1 in
    let pc = digits-cons c (d ∷ e ∷ f ∷ []) pb.1 in
    let pd = digits-cons d (e ∷ f ∷ []) pc.1 in
    let pe = digits-cons e (f ∷ []) pd.1 in
    let pf = digits-cons f [] pe.1 in
    six-is a b c d e f n w (digit-range a pa.0) (digit-range b pb.0) (digit-range c pc.0) (digit-range d pd.0) (digit-range e pe.0) (digit-range f pf.0) (is ∙ omega arith)
places-are [] n w six digits is = absurd (omega (arith, six))
places-are (a ∷ []) n w six digits is = absurd (omega (arith, six))
places-are (a ∷ b ∷ []) n w six digits is = absurd (omega (arith, six))
places-are (a ∷ b ∷ c ∷ []) n w six digits is = absurd (omega (arith, six))
places-are (a ∷ b ∷ c ∷ d ∷ []) n w six digits is = absurd (omega (arith, six))
places-are (a ∷ b ∷ c ∷ d ∷ e ∷ []) n w six digits is = absurd (omega (arith, six))
places-are (a ∷ b ∷ c ∷ d ∷ e ∷ f ∷ g ∷ rest) n w six digits is = absurd (omega (arith, six))

-- the text of a size without its sign
size-is : (whole decimals : List ℕ) (n : ℕ) → list_all is_ascii_digit whole ≡ true → 1 ≤ length whole → (slice_index_or whole 0 0 ≡ 48 → length whole ≡ 1) →
    list_all is_ascii_digit decimals ≡ true → length decimals ≡ 6 → number_of (whole ++ decimals) ≡ n → n < 2 ^ 64 → (whole ++ 46 ∷ decimals) ≡ written_size n
size-is whole decimals n digits some needed places six number small =
    let below : number_of decimals < 1000000 = subst (λ k. number_of decimals < 10 ^ k) six (number_of-below decimals places) in
    let sum : number_of whole * 1000000 + number_of decimals ≡ n = ap (λ k. number_of whole * 10 ^ k + number_of decimals) (sym six) ∙ sym (number_of-append whole decimals) ∙ number in
    let front : whole ≡ decimal (n / 1000000) = whole-is whole (n / 1000000) digits some needed (omega (arith, sum, below)) (omega (arith, small)) in
    let back : decimals ≡ six_digits n = places-are decimals n (number_of whole) six places (sym sum) in
    ap (λ (w : List ℕ). w ++ 46 ∷ decimals) front ∙ ap (λ (ds : List ℕ). decimal (n / 1000000) ++ 46 ∷ ds) back

-- a choice that is a number
abbrev or-large : Bool → ℤ → Result ℤ NumberFault
or-large t x = if t then Ok x else Err TooLarge

chosen : (t : Bool) (x z : ℤ) → or-large t x ≡ Ok z → (x ≡ z) × (t ≡ true)
chosen true x z h = (cc, refl)
chosen false x z h = (cc, cc)

-- a size that is within the limit
size-within : (m limit : ℕ) → nat_le m limit ≡ true → m ≤ limit
size-within m limit h = grind (arith, nat_tests)

pos-is : (m n : ℕ) → pos m ≡ pos n → m ≡ n
pos-is m n h = omega (arith, ints, h)

neg-is : (m n : ℕ) → signed true m ≡ negsuc n → m ≡ suc n
neg-is zero n h = omega (arith, ints, h)
neg-is (suc m) n h = omega (arith, ints, h)

-- what the digits on both sides of the point are read as
size-reads : (negative : Bool) (whole decimals : List ℕ) (limit : ℕ) → list_all is_ascii_digit whole ≡ true → 1 ≤ length whole →
    list_all is_ascii_digit decimals ≡ true → length decimals ≡ 6 →
    found limit negative (decimal_of (whole ++ 46 ∷ decimals)) ≡ limited limit negative (number_of (whole ++ decimals))
size-reads negative whole decimals limit digits some places six =
    ap (found limit negative) (parts-read whole decimals digits places some)
    ∙ ap (limited limit negative) (six-millionths whole decimals (number_of (whole ++ decimals)) six refl)

plain-reads : (whole decimals : List ℕ) (limit : ℕ) → list_all is_ascii_digit whole ≡ true → 1 ≤ length whole →
    reading (whole ++ 46 ∷ decimals) limit ≡ found limit false (decimal_of (whole ++ 46 ∷ decimals))
plain-reads whole decimals limit digits some =
    let plain = no-sign whole (46 ∷ decimals) digits some in
    ap (λ (b : Bool). found limit b (decimal_of (unsigned (whole ++ 46 ∷ decimals)))) plain.0
    ∙ ap (λ (text : List ℕ). found limit false (decimal_of text)) plain.1

-- a text of the form that is read as a number is the one that is written
pub one-text : OneText
one-text (pos n) limit text small form read =
    let m : ℕ = number_of (form.whole ++ form.decimals) in
    let is = chosen (nat_le m limit) (pos m) (pos n)
    (sym (size-reads false form.whole form.decimals limit form.digits form.some form.places form.six)
    ∙ sym (plain-reads form.whole form.decimals limit form.digits form.some)
    ∙ sym (ap (λ (t : List ℕ). reading t limit) form.parts) ∙ read) in
    form.parts
    ∙ size-is form.whole form.decimals n form.digits form.some form.needed form.places form.six (pos-is m n is.0)
    (omega (arith, small, size-within m limit is.1, pos-is m n is.0))
one-text (negsuc n) limit text small form read =
    let m : ℕ = number_of (form.whole ++ form.decimals) in
    let is = chosen (nat_le m limit) (signed true m) (negsuc n)
    (sym (size-reads true form.whole form.decimals limit form.digits form.some form.places form.six)
    ∙ sym (ap (λ (t : List ℕ). reading t limit) form.parts) ∙ read) in
    form.parts
    ∙ ap (λ (t : List ℕ). 45 ∷ t)
    (size-is form.whole form.decimals (suc n) form.digits form.some form.needed form.places form.six (neg-is m n is.0)
    (omega (arith, small, size-within m limit is.1, neg-is m n is.0)))
