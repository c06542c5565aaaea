-- Glyphs that a binary search finds.
use Rattle.std.proofs.Common.{◌≡◌, ◌≢◌, ℕ, suc, ◌<◌, ◌≤◌, false, List, [], ◌∷◌, length, get_or, None, Some, Ok, Err, refl, sym, ◌∙◌, ap, subst, inl, inr, arith}
use Rattle.std.specs.Prelude.{◌==◌, find}
use Rattle.std.specs.List.Sorted.{IsBinarySearchResult, IsNonDecreasingBy}
use Rattle.std.specs.Ordering.{nat_cmp, ordering_index}
use Rattle.std.proofs.lemmas.Cmp.{ranked}
use Rattle.std.proofs.lemmas.Bool.{cases_lt}
use Rattle.std.proofs.lemmas.Bool.Decides.{nat_tests}
use Rattle.mapdefs.specs.declared.font.Glyph.{Glyph}
use Rattle.mapdefs.specs.FontLimits.{IsRising}
use Rattle.bdffont.specs.File.{has_encoding}
use Rattle.bdffont.proofs.Firsts.{rising-find}

-- the comparisons with an encoding rise along the glyphs
comparisons-rise : (glyphs : List Glyph) (e : ℕ) → IsRising glyphs → IsNonDecreasingBy (λ (glyph : Glyph). ordering_index (nat_cmp glyph.encoding e)) glyphs
comparisons-rise glyphs e rising i j d le within =
    let rise : (get_or glyphs i d).encoding ≤ (get_or glyphs j d).encoding = grind (arith, rising i j d, λ (same : i ≡ j). ap (λ n. (get_or glyphs n d).encoding) same) in
    grind (arith, nat_tests)

-- the glyph that a search ends at
pub found-glyph : (glyphs : List Glyph) (e index : ℕ) (g : Glyph) → IsRising glyphs → index < length glyphs →
    IsBinarySearchResult (λ (glyph : Glyph). nat_cmp glyph.encoding e) glyphs (Ok index) → g ≡ get_or glyphs index g → find (has_encoding e) glyphs ≡ Some g
found-glyph glyphs e index g rising within equal is =
    let same : (get_or glyphs index g).encoding ≡ e = ranked _ e _ (sym (equal g)) in
    subst (λ n. find (has_encoding n) glyphs ≡ Some (get_or glyphs index g)) same (rising-find glyphs rising index g within) ∙ ap Some (sym is)

-- without a glyph of that encoding
none-cons : (e : ℕ) (x : Glyph) (xs : List Glyph) → x.encoding ≢ e → find (has_encoding e) xs ≡ None → find (has_encoding e) (x ∷ xs) ≡ None
none-cons e x xs other h = let differs : (x.encoding == e) ≡ false = grind (arith, nat_tests) in rw differs h

pub find-none : (glyphs : List Glyph) (e : ℕ) → ((k : ℕ) (d : Glyph) → k < length glyphs → (get_or glyphs k d).encoding ≢ e) → find (has_encoding e) glyphs ≡ None
find-none [] e other = refl
find-none (x ∷ xs) e other = none-cons e x xs (other 0 x (omega arith)) (find-none xs e (λ k d within. other (suc k) d (omega arith)))

-- a search that ends between two glyphs
pub no-glyph : (glyphs : List Glyph) (e index : ℕ) → IsRising glyphs → IsBinarySearchResult (λ (glyph : Glyph). nat_cmp glyph.encoding e) glyphs (Err index) → find (has_encoding e) glyphs ≡ None
no-glyph glyphs e index rising parted =
    let point = parted (comparisons-rise glyphs e rising) in
    find-none glyphs e (λ k d within same. elim (cases_lt k index) [
      | inl before ↦ (let less : (get_or glyphs k d).encoding < e = ranked _ e _ (sym (point.0 k d (omega arith) before)) in omega arith)
      | inr after ↦ (let more : e < (get_or glyphs k d).encoding = ranked _ e _ (sym (point.1 k d after within)) in omega arith)
    ])
