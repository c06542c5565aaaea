-- Pixels whose bytes are added many at once.
use Rattle.std.proofs.Common.{◌≡◌, ◌∙◌, ℕ, zero, suc, ◌+◌, ◌*◌, ◌/◌, ◌<◌, ◌≤◌, List, [], ◌∷◌, ◌++◌, length, take, drop, get_or, Option, None, Some, append_assoc, refl, sym, ap, arith}
use Rattle.std.proofs.lemmas.Grind.{flat_map-append, take-set_at}
use Rattle.std.proofs.lemmas.List.{append-nil, length-set, take-append-drop, take_more}
use Rattle.std.proofs.Math.Seq.{take-add}
use Rattle.std.specs.List.{flat_map}
use Rattle.std.specs.Prelude.{slice_index_or, slice_set}
use Rattle.std.specs.Simd.{first_chunks}
use Rattle.symbols.specs.Netpbm.{opacity_bytes}
use Rattle.mapdefs.specs.declared.colour.Rgb.{Rgb}

-- three bytes are set one after another, and follow the bytes that were set before
pub put-three : (xs : List ℕ) (at a b c : ℕ) → at + 3 ≤ length xs →
    take (at + 3) (slice_set (slice_set (slice_set xs at a) (at + 1) b) (at + 2) c) ≡ take at xs ++ a ∷ b ∷ c ∷ []
put-three xs at a b c h =
    let one : List ℕ = slice_set xs at a in
    let two : List ℕ = slice_set one (at + 1) b in
    let n : length one ≡ length xs = length-set xs at a in
    let m : length two ≡ length xs = length-set one (at + 1) b ∙ n in
    take-set_at two (at + 2) (at + 3) c (omega arith) (omega (arith, m))
    ∙ ap (λ front. front ++ c ∷ []) (take-set_at one (at + 1) (at + 2) b (omega arith) (omega (arith, n)) ∙ ap (λ front. front ++ b ∷ []) (take-set_at xs at (at + 1) a refl (omega arith)))
    ∙ ap (λ front. front ++ c ∷ []) (append_assoc (take at xs) (a ∷ []) (b ∷ []))
    ∙ append_assoc (take at xs) (a ∷ b ∷ []) (c ∷ [])

-- and four
pub put-four : (xs : List ℕ) (at a b c d : ℕ) → at + 4 ≤ length xs →
    take (at + 4) (slice_set (slice_set (slice_set (slice_set xs at a) (at + 1) b) (at + 2) c) (at + 3) d) ≡ take at xs ++ a ∷ b ∷ c ∷ d ∷ []
put-four xs at a b c d h =
    let three : List ℕ = slice_set (slice_set (slice_set xs at a) (at + 1) b) (at + 2) c in
    let n : length three ≡ length xs =
    length-set (slice_set (slice_set xs at a) (at + 1) b) (at + 2) c ∙ (length-set (slice_set xs at a) (at + 1) b ∙ length-set xs at a) in
    take-set_at three (at + 3) (at + 4) d (omega arith) (omega (arith, n))
    ∙ ap (λ front. front ++ d ∷ []) (put-three xs at a b c (omega arith))
    ∙ append_assoc (take at xs) (a ∷ b ∷ c ∷ []) (d ∷ [])

-- the bytes of one more element
pub one-more : {X : Type 0} (f : X → List ℕ) (xs : List X) (i : ℕ) (x : X) → i < length xs → get_or xs i x ≡ x →
    flat_map f (take (i + 1) xs) ≡ flat_map f (take i xs) ++ f x
one-more f xs i x h e =
    rw (take_more xs i x h, e, flat_map-append f (take i xs) (x ∷ []), append-nil (f x)) refl

-- the bytes of some blocks of 32 are those of as many elements
blocks-joined : {X : Type 0} (f : X → List ℕ) (k : ℕ) (xs : List X) → flat_map (flat_map f) (first_chunks 32 k xs) ≡ flat_map f (take (k * 32) xs)
blocks-joined f zero xs = refl
blocks-joined f (suc k) xs =
    let many : suc k * 32 ≡ 32 + k * 32 = omega arith in
    ap (λ more. flat_map f (take 32 xs) ++ more) (blocks-joined f k (drop 32 xs))
    ∙ sym (flat_map-append f (take 32 xs) (take (k * 32) (drop 32 xs)))
    ∙ ap (flat_map f) (sym (take-add 32 (k * 32) xs))
    ∙ ap (λ n. flat_map f (take n xs)) (sym many)

-- with those of the elements after them they are the bytes of all
pub blocks-and-rest : {X : Type 0} (f : X → List ℕ) (xs : List X) →
    flat_map (flat_map f) (first_chunks 32 (length xs / 32) xs) ++ flat_map f (drop (length xs / 32 * 32) xs) ≡ flat_map f xs
blocks-and-rest f xs =
    let n : ℕ = length xs / 32 * 32 in
    ap (λ front. front ++ flat_map f (drop n xs)) (blocks-joined f (length xs / 32) xs)
    ∙ sym (flat_map-append f (take n xs) (drop n xs))
    ∙ ap (flat_map f) (take-append-drop n xs)

-- bytes that were added in two steps are those of all
pub added : {X : Type 0} (f : X → List ℕ) (xs : List X) (old mid new : List ℕ) (blocks : List (List X)) (rest : List X) →
    blocks ≡ first_chunks 32 (length xs / 32) xs → rest ≡ drop (length xs / 32 * 32) xs →
    mid ≡ old ++ flat_map (flat_map f) blocks → new ≡ mid ++ flat_map f rest → new ≡ old ++ flat_map f xs
added f xs old mid new blocks rest front back first last =
    let n : ℕ = length xs / 32 in
    last
    ∙ ap (λ more. more ++ flat_map f rest) first
    ∙ append_assoc old (flat_map (flat_map f) blocks) (flat_map f rest)
    ∙ ap (λ bs. old ++ (flat_map (flat_map f) bs ++ flat_map f rest)) front
    ∙ ap (λ r. old ++ (flat_map (flat_map f) (first_chunks 32 n xs) ++ flat_map f r)) back
    ∙ ap (λ bytes. old ++ bytes) (blocks-and-rest f xs)

-- four bytes of a pixel are its bytes
four-bytes : (pixel : Option Rgb) (four : List ℕ) → four ≡ opacity_bytes pixel →
    slice_index_or four 0 0 ∷ slice_index_or four 1 0 ∷ slice_index_or four 2 0 ∷ slice_index_or four 3 0 ∷ [] ≡ opacity_bytes pixel
four-bytes None four is = rw is refl
four-bytes (Some colour) four is = rw is refl

-- the bytes of one more pixel are set
pub four-more : (pixels : List (Option Rgb)) (i : ℕ) (pixel : Option Rgb) (bytes four : List ℕ) → i < length pixels → get_or pixels i pixel ≡ pixel →
    four ≡ opacity_bytes pixel → 4 * i + 4 ≤ length bytes → take (4 * i) bytes ≡ flat_map opacity_bytes (take i pixels) →
    take (4 * (i + 1)) (slice_set (slice_set (slice_set (slice_set bytes (4 * i) (slice_index_or four 0 0)) (4 * i + 1) (slice_index_or four 1 0)) (4 * i + 2) (slice_index_or four 2 0)) (4 * i + 3) (slice_index_or four 3 0))
    ≡ flat_map opacity_bytes (take (i + 1) pixels)
four-more pixels i pixel bytes four h e is room front =
    let set : List ℕ =
    slice_set (slice_set (slice_set (slice_set bytes (4 * i) (slice_index_or four 0 0)) (4 * i + 1) (slice_index_or four 1 0)) (4 * i + 2) (slice_index_or four 2 0)) (4 * i + 3) (slice_index_or four 3 0) in
    let more : 4 * (i + 1) ≡ 4 * i + 4 = omega arith in
    ap (λ n. take n set) more
    ∙ put-four bytes (4 * i) (slice_index_or four 0 0) (slice_index_or four 1 0) (slice_index_or four 2 0) (slice_index_or four 3 0) room
    ∙ ap (λ p. take (4 * i) bytes ++ p) (four-bytes pixel four is)
    ∙ ap (λ before. before ++ opacity_bytes pixel) front
    ∙ sym (one-more opacity_bytes pixels i pixel h e)
