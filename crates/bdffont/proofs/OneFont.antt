-- A file has one font.
use Rattle.std.proofs.Common.{◌≡◌, ℕ, suc, ◌<◌, Bool, true, false, List, [], ◌∷◌, None, Some, refl, sym, ◌∙◌, ap, subst, inl, inr, arith}
use Rattle.std.specs.Prelude.{◌==◌, find}
use Rattle.std.proofs.lemmas.Bool.{cases_lt}
use Rattle.std.proofs.lemmas.Bool.Decides.{nat_tests}
use Rattle.std.proofs.lemmas.Option.{same_Some, none-some}
use Rattle.mapdefs.specs.declared.font.BitmapBox.{BitmapBox}
use Rattle.mapdefs.specs.declared.font.FontFields.{FontFields}
use Rattle.mapdefs.specs.declared.font.Glyph.{Glyph}
use Rattle.mapdefs.specs.FontLimits.{IsRising}
use Rattle.bdffont.specs.File.{has_encoding, FileHasOneFont}
use Rattle.bdffont.proofs.Search.{find-none}

-- the first of glyphs that rise
found-head : (x : Glyph) (xs : List Glyph) → find (has_encoding x.encoding) (x ∷ xs) ≡ Some x
found-head x xs = let same : (x.encoding == x.encoding) ≡ true = grind (arith, nat_tests) in rw same refl

-- an encoding below the first one is none of theirs
below-none : (x : Glyph) (xs : List Glyph) (e : ℕ) → IsRising (x ∷ xs) → e < x.encoding → find (has_encoding e) (x ∷ xs) ≡ None
below-none x xs e rising lt = find-none (x ∷ xs) e (λ k d within same. elim (cases_lt 0 k) [
  | inl later ↦ omega (arith, rising 0 k d later within)
  | inr first ↦ (let is : k ≡ 0 = omega arith in omega (arith, rw is at same))
])

-- none of those after the first has its encoding
tail-none : (x : Glyph) (xs : List Glyph) → IsRising (x ∷ xs) → find (has_encoding x.encoding) xs ≡ None
tail-none x xs rising = find-none xs x.encoding (λ k d within same. omega (arith, rising 0 (suc k) d (omega arith) (omega arith)))

-- an encoding that the first one doesn't have is searched for after it
skip-head : (x : Glyph) (xs : List Glyph) (e : ℕ) → (x.encoding == e) ≡ false → find (has_encoding e) (x ∷ xs) ≡ find (has_encoding e) xs
skip-head x xs e other = rw other refl

rising-tail : (x : Glyph) (xs : List Glyph) → IsRising (x ∷ xs) → IsRising xs
rising-tail x xs rising i j d lt within = rising (suc i) (suc j) d (omega arith) (omega arith)

-- the first ones are the same
same-heads : (x y : Glyph) (xs ys : List Glyph) → IsRising (x ∷ xs) → IsRising (y ∷ ys) → ((e : ℕ) → find (has_encoding e) (x ∷ xs) ≡ find (has_encoding e) (y ∷ ys)) → x ≡ y
same-heads x y xs ys rising_x rising_y same = elim (cases_lt x.encoding y.encoding) [
  | inl before ↦ absurd (none-some x (sym (below-none y ys x.encoding rising_y before) ∙ sym (same x.encoding) ∙ found-head x xs))
  | inr after ↦ elim (cases_lt y.encoding x.encoding) [
    | inl past ↦ absurd (none-some y (sym (below-none x xs y.encoding rising_x past) ∙ same y.encoding ∙ found-head y ys))
    | inr equal ↦ (let is : x.encoding ≡ y.encoding = omega arith in
        same_Some x y (sym (found-head x xs) ∙ same x.encoding ∙ ap (λ e. find (has_encoding e) (y ∷ ys)) is ∙ found-head y ys))
  ]
]

-- so are those after them
same-tails-at : (x y : Glyph) (xs ys : List Glyph) (e : ℕ) (is : Bool) → (x.encoding == e) ≡ is → x ≡ y → IsRising (x ∷ xs) → IsRising (y ∷ ys) →
    find (has_encoding e) (x ∷ xs) ≡ find (has_encoding e) (y ∷ ys) → find (has_encoding e) xs ≡ find (has_encoding e) ys
same-tails-at x y xs ys e true i head rising_x rising_y same =
    let is : x.encoding ≡ e = grind (arith, nat_tests) in
    let is_y : y.encoding ≡ e = ap (λ (g : Glyph). g.encoding) (sym head) ∙ is in
    subst (λ n. find (has_encoding n) xs ≡ None) is (tail-none x xs rising_x) ∙ sym (subst (λ n. find (has_encoding n) ys ≡ None) is_y (tail-none y ys rising_y))
same-tails-at x y xs ys e false i head rising_x rising_y same =
    sym (skip-head x xs e i) ∙ same ∙ skip-head y ys e (subst (λ (g : Glyph). (g.encoding == e) ≡ false) head i)

same-glyphs : (xs ys : List Glyph) → IsRising xs → IsRising ys → ((e : ℕ) → find (has_encoding e) xs ≡ find (has_encoding e) ys) → xs ≡ ys
same-glyphs [] [] rising_x rising_y same = refl
same-glyphs [] (y ∷ ys) rising_x rising_y same = absurd (none-some y (same y.encoding ∙ found-head y ys))
same-glyphs (x ∷ xs) [] rising_x rising_y same = absurd (none-some x (sym (same x.encoding) ∙ found-head x xs))
same-glyphs (x ∷ xs) (y ∷ ys) rising_x rising_y same =
    let head = same-heads x y xs ys rising_x rising_y same in
    let tail = same-glyphs xs ys (rising-tail x xs rising_x) (rising-tail y ys rising_y) (λ e. same-tails-at x y xs ys e (x.encoding == e) refl head rising_x rising_y (same e)) in
    ap (λ g. g ∷ xs) head ∙ ap (λ gs. y ∷ gs) tail

pub file-has-one-font : FileHasOneFont
file-has-one-font file a b of_a of_b =
    let glyphs = same-glyphs a.glyphs b.glyphs of_a.glyphs.rising of_b.glyphs.rising (λ e. of_a.glyphs.firsts e ∙ sym (of_b.glyphs.firsts e)) in
    let with_side : ℕ → FontFields = λ side. record { side = side; bounds = a.bounds; glyphs = a.glyphs } in
    let with_bounds : BitmapBox → FontFields = λ bounds. record { side = b.side; bounds = bounds; glyphs = a.glyphs } in
    let with_glyphs : List Glyph → FontFields = λ glyphs. record { side = b.side; bounds = b.bounds; glyphs = glyphs } in
    ap with_side (of_a.side ∙ sym of_b.side) ∙ ap with_bounds (of_a.bounds ∙ sym of_b.bounds) ∙ ap with_glyphs glyphs
