-- The pairs of a query that is written out.
use Rattle.std.proofs.Common.{◌≡◌, ℕ, List, [], ◌∷◌, All, map, ap, refl, ◌∙◌, IsUtf8}
use Rattle.std.proofs.lemmas.List.Elements.{All-nil, All-cons, All-head, All-tail}
use Rattle.std.proofs.lemmas.Str.{utf8_lossy-IsUtf8}
use Rattle.std.specs.Str.Lossy.{utf8_lossy}
use Rattle.form_urlencoded.specs.Form.{raw_pairs, decode, extend_pairs}
use Rattle.form_urlencoded.proofs.FormLemmas.{IsBytePair, round_trip}
use Rattle.wmsquery.specs.Pairs.{Pair, text_of, pair_of, pairs_of}

-- a pair of texts: bytes, and UTF-8
pub record IsTextPair (pair : List ℕ × List ℕ) : Type 0 where
  pub bytes : IsBytePair pair
  pub name : IsUtf8 pair.0
  pub value : IsUtf8 pair.1

-- a name and a value as they are
abbrev pub plain_pair : List ℕ × List ℕ → Pair
plain_pair pair = record { name = pair.0; value = pair.1 }

-- and with a replacement character for each sequence of bytes that is not UTF-8
abbrev lossy_pair : List ℕ × List ℕ → Pair
lossy_pair pair = record { name = utf8_lossy pair.0; value = utf8_lossy pair.1 }

-- pairs are decoded, and then read as texts
pairs-parsed : (raw : List (List ℕ × List ℕ)) → map pair_of raw ≡ map lossy_pair (map (λ (name, value). (decode name, decode value)) raw)
unfolding text_of
pairs-parsed [] = refl
pairs-parsed (p ∷ ps) = ap (λ rest. pair_of p ∷ rest) (pairs-parsed ps)

-- texts stay as they are
texts-plain : (pairs : List (List ℕ × List ℕ)) → All IsTextPair pairs → map lossy_pair pairs ≡ map plain_pair pairs
texts-plain [] are = refl
texts-plain (p ∷ ps) are =
    let one = All-head IsTextPair p ps are in
    rw (utf8_lossy-IsUtf8 p.0 one.name, utf8_lossy-IsUtf8 p.1 one.value) (ap (λ rest. plain_pair p ∷ rest) (texts-plain ps (All-tail IsTextPair p ps are)))

-- the bytes of some pairs
all-bytes : (pairs : List (List ℕ × List ℕ)) → All IsTextPair pairs → All IsBytePair pairs
all-bytes [] are = All-nil IsBytePair
all-bytes (p ∷ ps) are =
    All-cons IsBytePair p ps (All-head IsTextPair p ps are).bytes (all-bytes ps (All-tail IsTextPair p ps are))

-- pairs that are written out are the pairs of the query
pub pairs-written : (pairs : List (List ℕ × List ℕ)) → All IsTextPair pairs → pairs_of (extend_pairs [] pairs) ≡ map plain_pair pairs
pairs-written pairs are =
    pairs-parsed (raw_pairs (extend_pairs [] pairs)) ∙ ap (map lossy_pair) (round_trip pairs (all-bytes pairs are)) ∙ texts-plain pairs are
