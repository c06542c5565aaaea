-- Rows of glyphs that are written out are read as themselves.
use Rattle.std.proofs.Common.{◌≡◌, ℕ, zero, suc, ◌+◌, ◌-◌, ◌*◌, ◌/◌, Bool, true, false, List, [], ◌∷◌, ◌++◌, length, refl, ◌∙◌, ap, arith, length-append}
use Rattle.std.specs.Prelude.{◌==◌, replicate}
use Rattle.std.specs.List.{list_all}
use Rattle.std.specs.Char.{is_ascii_hexdigit}
use Rattle.std.proofs.lemmas.Bool.Decides.{nat_tests}
use Rattle.std.proofs.Math.Seq.{take-append_seam}
use Rattle.std.proofs.lemmas.List.{length-replicate}
use Rattle.bdffont.specs.Bits.{hex_value, hex_digit, bits_of, bit, bits, written, filled, WrittenRowIsRead}

-- four pixels and their digit
record IsDigit (a b c d : Bool) : Type 0 where
  read : bits_of (hex_value (hex_digit (8 * bit a + 4 * bit b + 2 * bit c + bit d))) ≡ a ∷ b ∷ c ∷ d ∷ []
  digit : is_ascii_hexdigit (hex_digit (8 * bit a + 4 * bit b + 2 * bit c + bit d)) ≡ true

digit-of : (a b c d : Bool) → IsDigit a b c d
digit-of false false false false = record { read = refl; digit = refl }
digit-of false false false true = record { read = refl; digit = refl }
digit-of false false true false = record { read = refl; digit = refl }
digit-of false false true true = record { read = refl; digit = refl }
digit-of false true false false = record { read = refl; digit = refl }
digit-of false true false true = record { read = refl; digit = refl }
digit-of false true true false = record { read = refl; digit = refl }
digit-of false true true true = record { read = refl; digit = refl }
digit-of true false false false = record { read = refl; digit = refl }
digit-of true false false true = record { read = refl; digit = refl }
digit-of true false true false = record { read = refl; digit = refl }
digit-of true false true true = record { read = refl; digit = refl }
digit-of true true false false = record { read = refl; digit = refl }
digit-of true true false true = record { read = refl; digit = refl }
digit-of true true true false = record { read = refl; digit = refl }
digit-of true true true true = record { read = refl; digit = refl }

-- pixels of whole digits, written and read
record IsWritten (digits_count : ℕ) (pixels : List Bool) : Type 0 where
  read : bits (written pixels) ≡ pixels
  count : length (written pixels) ≡ digits_count
  digits : list_all is_ascii_hexdigit (written pixels) ≡ true

written-back : (count : ℕ) (pixels : List Bool) → length pixels ≡ 4 * count → IsWritten count pixels
written-back zero [] h = record { read = refl; count = refl; digits = refl }
written-back zero (a ∷ others) h = absurd (omega arith)
written-back (suc n) [] h = absurd (omega arith)
written-back (suc n) (a ∷ []) h = absurd (omega arith)
written-back (suc n) (a ∷ b ∷ []) h = absurd (omega arith)
written-back (suc n) (a ∷ b ∷ c ∷ []) h = absurd (omega arith)
written-back (suc n) (a ∷ b ∷ c ∷ d ∷ others) h =
    let digit = digit-of a b c d in
    let rest = written-back n others (omega arith) in
    record {
      read = ap (λ (bs : List Bool). bs ++ bits (written others)) digit.read ∙ ap (λ (bs : List Bool). a ∷ b ∷ c ∷ d ∷ bs) rest.read;
      count = ap suc rest.count;
      digits = rw (digit.digit) rest.digits;
    }

filled-length : (row : List Bool) → length (filled row) ≡ 4 * (((length row + 7) / 8) * 2)
filled-length row = omega (arith, length-append row (replicate (((length row + 7) / 8) * 8 - length row) false), length-replicate (((length row + 7) / 8) * 8 - length row) false)

pub written-row-is-read : WrittenRowIsRead
written-row-is-read row =
    let back = written-back (((length row + 7) / 8) * 2) (filled row) (filled-length row) in
    let as_long : (length (written (filled row)) == ((length row + 7) / 8) * 2) ≡ true = grind (arith, nat_tests, back.count) in
    (rw (as_long, back.digits) refl, rw back.read (take-append_seam row (replicate (((length row + 7) / 8) * 8 - length row) false)))
