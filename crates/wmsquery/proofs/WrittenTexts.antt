-- What is written out is text: bytes, and UTF-8.
use Rattle.std.proofs.Common.{◌≡◌, ℕ, ◌/◌, ◌%◌, ◌<◌, ◌++◌, true, nat_lt, List, [], ◌∷◌, All, codes, refl, arith, IsUtf8}
use Rattle.std.proofs.lemmas.Bool.{and_parts, ltb-true}
use Rattle.std.proofs.lemmas.List.Elements.{All-nil, All-cons, All-append, All-head, All-tail, All-weaker}
use Rattle.std.proofs.lemmas.Str.{IsUtf8-from_ascii, IsUtf8-append}
use Rattle.std.proofs.lemmas.Str.Ascii.{IsAscii-from_all}
use Rattle.std.specs.List.{list_all, slice_index}
use Rattle.hex.specs.Hex.{encode_lower, encode_with, lower_digits}
use Rattle.mapdefs.specs.declared.map.MapFields.{MapFields}
use Rattle.wmsquery.specs.Written.{AreNamed, with_commas}
use Rattle.wmsquery.proofs.WrittenPairs.{IsTextPair}

-- a byte of ASCII
abbrev pub IsAsciiByte : ℕ → Type 0
IsAsciiByte b = b < 128

-- a text: bytes, and UTF-8
pub record IsText (bs : List ℕ) : Type 0 where
  pub bytes : All (λ b. b < 256) bs
  pub utf8 : IsUtf8 bs

-- ASCII is text
pub ascii-text : (bs : List ℕ) → All IsAsciiByte bs → IsText bs
ascii-text bs h = record {
  bytes = All-weaker IsAsciiByte (λ b. b < 256) (λ b l. omega (arith, l)) bs h;
  utf8 = IsUtf8-from_ascii bs (IsAscii-from_all bs h);
}

-- bytes that were tested are ASCII
ascii-tested : (bs : List ℕ) → list_all (λ b. nat_lt b 128) bs ≡ true → All IsAsciiByte bs
ascii-tested [] h = All-nil IsAsciiByte
ascii-tested (b ∷ bs) h =
    let parts = and_parts (nat_lt b 128) (list_all (λ c. nat_lt c 128) bs) h in
    All-cons IsAsciiByte b bs (ltb-true b 128 parts.0) (ascii-tested bs parts.1)

-- and are text
pub tested-text : (bs : List ℕ) → list_all (λ b. nat_lt b 128) bs ≡ true → IsText bs
tested-text bs h = ascii-text bs (ascii-tested bs h)

-- two texts make a pair of them
pub text-pair : (name value : List ℕ) → IsText name → IsText value → IsTextPair (name, value)
text-pair name value n v = record { bytes = (n.bytes, v.bytes); name = n.utf8; value = v.utf8 }

-- one text after the other is text
text-append : (a b : List ℕ) → IsText a → IsText b → IsText (a ++ b)
text-append a b ha hb = record {
  bytes = All-append (λ c. c < 256) a b ha.bytes hb.bytes;
  utf8 = IsUtf8-append a b ha.utf8 hb.utf8;
}

-- texts with commas between them are text
pub joined-text : (texts : List (List ℕ)) → All IsText texts → IsText (with_commas texts)
joined-text [] h = tested-text [] refl
joined-text (t ∷ []) h = All-head IsText t [] h
joined-text (t ∷ u ∷ ts) h =
    text-append t (44 ∷ with_commas (u ∷ ts)) (All-head IsText t (u ∷ ts) h)
    (text-append (44 ∷ []) (with_commas (u ∷ ts)) (tested-text (44 ∷ []) refl) (joined-text (u ∷ ts) (All-tail IsText t (u ∷ ts) h)))

-- the names of layers are texts
pub names-text : (map : MapFields) (indices : List ℕ) (names : List (List ℕ)) → AreNamed map indices names → All IsText names
names-text map [] [] are = All-nil IsText
names-text map (i ∷ is) (n ∷ ns) are =
    All-cons IsText n ns (record { bytes = are.0.bytes; utf8 = are.0.text }) (names-text map is ns are.1)
names-text map [] (n ∷ ns) are = absurd are
names-text map (i ∷ is) [] are = absurd are

-- a hexadecimal digit is ASCII
digit-ascii : (n : ℕ) → slice_index lower_digits n < 128
digit-ascii n = IsAscii-from_all lower_digits (ascii-tested lower_digits refl) n

-- and so are hexadecimal digits
hex-ascii : (bytes : List ℕ) → All IsAsciiByte (encode_lower bytes)
unfolding encode_with
hex-ascii [] = All-nil IsAsciiByte
hex-ascii (b ∷ bs) =
    All-cons IsAsciiByte (slice_index lower_digits (b / 16)) (slice_index lower_digits (b % 16) ∷ encode_lower bs) (digit-ascii (b / 16))
    (All-cons IsAsciiByte (slice_index lower_digits (b % 16)) (encode_lower bs) (digit-ascii (b % 16)) (hex-ascii bs))

-- a colour is text
pub hex-text : (bytes : List ℕ) → IsText (codes "0x" ++ encode_lower bytes)
hex-text bytes = text-append (codes "0x") (encode_lower bytes) (tested-text (codes "0x") refl) (ascii-text _ (hex-ascii bytes))
