-- What a reader of a document may look for, and the pieces in which it isn't.
use Rattle.std.proofs.Common.{◌≡◌, ◌++◌, ◌&&◌, ℕ, nat_eq, Bool, true, false, if◌then◌else◌, List, [], ◌∷◌, length, take, codes, refl, ◌∙◌, ap, sym, arith}
use Rattle.std.proofs.lemmas.Bool.Decides.{nat_tests}
use Rattle.std.proofs.lemmas.List.{append_assoc}
use Rattle.std.proofs.Math.Seq.{take-append_seam}
use Rattle.std.specs.List.{list_any, starts_with, before_first, position_or_len}
use Rattle.xmltext.specs.Escape.{is_markup}
use Rattle.std.proofs.lemmas.Bool.{or_parts}
use Rattle.capabilities.specs.Boxes.{is_edge, parts_behind}
use Rattle.capabilities.specs.Element.{opening}
use Rattle.capabilities.specs.Texts.{contents_of}

-- what the reader seeks: the titles, the names, the sides of the geographic box, or the boxes
pub data Sought : Type 0 where
  Titles : Sought
  Names : Sought
  West : Sought
  East : Sought
  South : Sought
  North : Sought
  Boxes : Sought

-- how it begins, after its `<`
abbrev pub beginning : Sought → List ℕ
beginning Titles = codes "Title>"
beginning Names = codes "Name>"
beginning West = codes "westBoundLongitude>"
beginning East = codes "eastBoundLongitude>"
beginning South = codes "southBoundLatitude>"
beginning North = codes "northBoundLatitude>"
beginning Boxes = codes "BoundingBox"

-- how it is read
abbrev pub reading_of : Sought → List ℕ → List (List ℕ)
reading_of Titles xs = contents_of (codes "Title") xs
reading_of Names xs = contents_of (codes "Name") xs
reading_of West xs = parts_behind (beginning West) xs
reading_of East xs = parts_behind (beginning East) xs
reading_of South xs = parts_behind (beginning South) xs
reading_of North xs = parts_behind (beginning North) xs
reading_of Boxes xs = parts_behind (beginning Boxes) xs

-- what a reader finds in a piece, whatever comes after it
pub record Finds (sought : Sought) (xs : List ℕ) (found : List (List ℕ)) : Type 0 where
  pub is : (rest : List ℕ) → reading_of sought (xs ++ rest) ≡ found ++ reading_of sought rest

-- in a piece after another one
pub joined : (s : Sought) (xs ys : List ℕ) (a b : List (List ℕ)) → Finds s xs a → Finds s ys b → Finds s (xs ++ ys) (a ++ b)
joined s xs ys a b front back = record {
  is = λ rest. rw (append_assoc xs ys rest, front.is (ys ++ rest), back.is rest) (sym (append_assoc a b (reading_of s rest)));
}

-- a byte at which it doesn't begin is skipped
pub passed : (s : Sought) (b : ℕ) (bs : List ℕ) → starts_with nat_eq (b ∷ bs) (60 ∷ beginning s) ≡ false → reading_of s (b ∷ bs) ≡ reading_of s bs
unfolding opening
passed Titles b bs h = rw h refl
passed Names b bs h = rw h refl
passed West b bs h = rw h refl
passed East b bs h = rw h refl
passed South b bs h = rw h refl
passed North b bs h = rw h refl
passed Boxes b bs h = rw h refl

-- the bytes don't begin so, whatever comes after them
abbrev pub differs : List ℕ → List ℕ → Bool
differs [] xs = false
differs (m ∷ ms) [] = false
differs (m ∷ ms) (b ∷ bs) = if nat_eq m b then differs ms bs else true

pub differs-law : (ms xs rest : List ℕ) → differs ms xs ≡ true → starts_with nat_eq (xs ++ rest) ms ≡ false
differs-law [] xs rest h = cc
differs-law (m ∷ ms) [] rest h = cc
differs-law (m ∷ ms) (b ∷ bs) rest h = by-first (nat_eq m b) (differs-law ms bs rest) h
  where
    by-first : (x : Bool) → (differs ms bs ≡ true → starts_with nat_eq (bs ++ rest) ms ≡ false) →
        (if x then differs ms bs else true) ≡ true → (x && starts_with nat_eq (bs ++ rest) ms) ≡ false
    by-first true more k = more k
    by-first false more k = refl

-- no part of the bytes begins so, whatever comes after them
abbrev pub lacks : List ℕ → List ℕ → Bool
lacks ms [] = true
lacks ms (b ∷ bs) = differs ms (b ∷ bs) && lacks ms bs

-- nor does any tag that the reader seeks
abbrev pub lacks-all : List ℕ → Bool
lacks-all xs =
    lacks (60 ∷ beginning Titles) xs && (lacks (60 ∷ beginning Names) xs && (lacks (60 ∷ beginning West) xs && (lacks (60 ∷ beginning East) xs
    && (lacks (60 ∷ beginning South) xs && (lacks (60 ∷ beginning North) xs && lacks (60 ∷ beginning Boxes) xs)))))

pub both : (x y : Bool) → (x && y) ≡ true → (x ≡ true) × (y ≡ true)
both true y h = (refl, h)
both false y h = cc

pub lacks-each : (s : Sought) (xs : List ℕ) → lacks-all xs ≡ true → lacks (60 ∷ beginning s) xs ≡ true
lacks-each s xs h =
    let t = both _ _ h in
    let n = both _ _ t.1 in
    let w = both _ _ n.1 in
    let e = both _ _ w.1 in
    let o = both _ _ e.1 in
    let r = both _ _ o.1 in
    each s t.0 n.0 w.0 e.0 o.0 r.0 r.1
  where
    at : Sought → Type 0
    at sought = lacks (60 ∷ beginning sought) xs ≡ true

    each : (sought : Sought) → at Titles → at Names → at West → at East → at South → at North → at Boxes → at sought
    each Titles t n w e o r b = t
    each Names t n w e o r b = n
    each West t n w e o r b = w
    each East t n w e o r b = e
    each South t n w e o r b = o
    each North t n w e o r b = r
    each Boxes t n w e o r b = b

-- nothing in bytes that lack it
pub lacks-is : (s : Sought) (xs rest : List ℕ) → lacks (60 ∷ beginning s) xs ≡ true → reading_of s (xs ++ rest) ≡ reading_of s rest
lacks-is s [] rest h = refl
lacks-is s (b ∷ bs) rest h =
    let parts = both (differs (60 ∷ beginning s) (b ∷ bs)) (lacks (60 ∷ beginning s) bs) h in
    passed s b (bs ++ rest) (differs-law (60 ∷ beginning s) (b ∷ bs) rest parts.0) ∙ lacks-is s bs rest parts.1

pub without : (s : Sought) (xs : List ℕ) → lacks (60 ∷ beginning s) xs ≡ true → Finds s xs []
without s xs h = record { is = λ rest. lacks-is s xs rest h }

pub none : (xs : List ℕ) → lacks-all xs ≡ true → (s : Sought) → Finds s xs []
none xs h s = without s xs (lacks-each s xs h)

-- nothing in bytes where no tag begins or ends
pub inside-lacks : (s : Sought) (xs : List ℕ) → list_any is_edge xs ≡ false → lacks (60 ∷ beginning s) xs ≡ true
inside-lacks s [] h = refl
inside-lacks s (b ∷ bs) h =
    let parts = or_parts (is_edge b) (list_any is_edge bs) h in
    let other : nat_eq 60 b ≡ false = grind (arith, nat_tests) in
    rw other (inside-lacks s bs parts.1)

-- so in those without markup
pub markup-inside : (xs : List ℕ) → list_any is_markup xs ≡ false → list_any is_edge xs ≡ false
markup-inside [] h = refl
markup-inside (b ∷ bs) h =
    let parts = or_parts (is_markup b) (list_any is_markup bs) h in
    let other : is_edge b ≡ false = grind (arith, nat_tests) in
    rw other (markup-inside bs parts.1)

pub plain-lacks : (s : Sought) (xs : List ℕ) → list_any is_markup xs ≡ false → lacks (60 ∷ beginning s) xs ≡ true
plain-lacks s xs h = inside-lacks s xs (markup-inside xs h)

pub plain : (s : Sought) (xs : List ℕ) → list_any is_markup xs ≡ false → Finds s xs []
plain s xs h = without s xs (plain-lacks s xs h)

-- up to the first such byte
pub first-at : (p : ℕ → Bool) (xs rest : List ℕ) (b : ℕ) → list_any p xs ≡ false → p b ≡ true → position_or_len p (xs ++ b ∷ rest) ≡ length xs
first-at p [] rest b h m = rw m refl
first-at p (x ∷ xs) rest b h m =
    let parts = or_parts (p x) (list_any p xs) h in
    rw parts.0 (omega (arith, first-at p xs rest b parts.1 m))

pub before-at : (p : ℕ → Bool) (xs rest : List ℕ) (b : ℕ) → list_any p xs ≡ false → p b ≡ true → before_first p (xs ++ b ∷ rest) ≡ xs
before-at p xs rest b h m = ap (λ n. take n (xs ++ b ∷ rest)) (first-at p xs rest b h m) ∙ take-append_seam xs (b ∷ rest)
