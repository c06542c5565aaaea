-- The outline of a glyph by the runs of its ink, row by row.
use Rattle.std.proofs.Common.{◌≡◌, ◌∙◌, ℕ, ◌+◌, ◌<◌, ◌≤◌, Bool, true, false, ◌&&◌, ◌||◌, List, [], ◌∷◌, ◌++◌, length, take, get_or, Some, ◌⊎◌, refl, sym, ap, inl, inr, ⊎_elim, arith}
use Rattle.std.specs.List.{list_any}
use Rattle.std.specs.Prelude.{int_le, int_lt, nat_le, nat_lt, unsigned_abs}
use Rattle.std.proofs.lemmas.Bool.{and_parts, cases_Bool, cases_lt, leb-true, le-leb, lt-ltb, ltb-true, le-ltb}
use Rattle.std.proofs.lemmas.Int.{ints}
use lib.IntN.{ℤ, pos, ◌+ℤ◌, ◌-ℤ◌}
use lib.Signed.{◌<ℤ◌}
use Rattle.std.proofs.lemmas.List.Folds.{list_any-append, list_any_more}
use Rattle.mapdefs.specs.declared.font.Glyph.{Glyph}
use Rattle.geom.proofs.Products.{same_test}
use Rattle.geom.specs.Device.{PixelValue}
use Rattle.bdffont.specs.Ink.{inks, past}
use Rattle.scanfill.specs.declared.span.Span.{Span}
use Rattle.scanfill.specs.Runs.{AreRunsFrom, has_column, is_in_spans}
use Rattle.scanfill.proofs.Covering.{spans-test}
use Rattle.labelink.specs.Disc.{RunValue, disc, has_pixel, outlines_run, run_at}
use Rattle.labelink.specs.Ink.{GlyphValue, covers_glyph, outlines_glyph}
use Rattle.labelink.specs.declared.reach.Reach.TheVariants.{Disc}
use Rattle.labelink.proofs.Boxed.{above, below, left-of, right-of}
use Rattle.labelink.proofs.Discs.{any-none}
use Rattle.labelink.proofs.Inked.{any-exchange, any-same}

-- the glyph covers a pixel of its first n rows, or of row n
abbrev pub covers_above : GlyphValue → ℕ → ℤ → ℤ → Bool
covers_above g n a b = covers_glyph g a b && int_lt b (g.top +ℤ pos n)

abbrev pub covers_row : GlyphValue → ℕ → ℤ → ℤ → Bool
covers_row g n a b = covers_glyph g a b && (int_le (g.top +ℤ pos n) b && int_le b (g.top +ℤ pos n))

and-false : (b : Bool) → (b && false) ≡ false
and-false true = refl
and-false false = refl

and-true : (b : Bool) → (b && true) ≡ b
and-true true = refl
and-true false = refl

and-or : (b c d : Bool) → (b && (c || d)) ≡ ((b && c) || (b && d))
and-or true c d = refl
and-or false c d = refl

-- before the first row there is none
pub above-none : (g : GlyphValue) (a b : ℤ) → covers_above g 0 a b ≡ false
above-none g a b = elim (cases_Bool (int_lt b (g.top +ℤ pos 0))) [
  | inl up ↦ (let off = above g a b (omega (arith, ints, sym up)) in rw off refl)
  | inr down ↦ rw down (and-false (covers_glyph g a b))
]

-- before the row behind the last there is all
pub above-all : (g : GlyphValue) (a b : ℤ) → covers_above g g.glyph.bounds.height a b ≡ covers_glyph g a b
above-all g a b = elim (cases_Bool (int_lt b (g.top +ℤ pos g.glyph.bounds.height))) [
  | inl up ↦ rw up (and-true (covers_glyph g a b))
  | inr down ↦ (let off = below g a b (omega (arith, ints, sym down)) in rw off refl)
]

next-row : (top b : ℤ) (n : ℕ) → int_lt b (top +ℤ pos (n + 1)) ≡ (int_lt b (top +ℤ pos n) || (int_le (top +ℤ pos n) b && int_le b (top +ℤ pos n)))
next-row top b n = elim (cases_Bool (int_lt b (top +ℤ pos n))) [
  | inl up ↦ (let still : int_lt b (top +ℤ pos (n + 1)) ≡ true = sym (omega (arith, ints, sym up)) in rw (up, still) refl)
  | inr down ↦ rest (cases_Bool (int_le b (top +ℤ pos n))) (sym down) down
]
  where
    rest : (int_le b (top +ℤ pos n) ≡ true) ⊎ (int_le b (top +ℤ pos n) ≡ false) → false ≡ int_lt b (top +ℤ pos n) → int_lt b (top +ℤ pos n) ≡ false →
        int_lt b (top +ℤ pos (n + 1)) ≡ (int_lt b (top +ℤ pos n) || (int_le (top +ℤ pos n) b && int_le b (top +ℤ pos n)))
    rest (inl at) from down =
        let next : int_lt b (top +ℤ pos (n + 1)) ≡ true = sym (omega (arith, ints, sym at)) in
        let low : int_le (top +ℤ pos n) b ≡ true = sym (omega (arith, ints, from)) in
        rw (next, down, low, at) refl
    rest (inr past) from down =
        let next : int_lt b (top +ℤ pos (n + 1)) ≡ false = sym (omega (arith, ints, sym past)) in
        rw (next, down, past) (sym (and-false (int_le (top +ℤ pos n) b)))

pub above-next : (g : GlyphValue) (n : ℕ) (a b : ℤ) → covers_above g (n + 1) a b ≡ (covers_above g n a b || covers_row g n a b)
above-next g n a b = rw (next-row g.top b n) (and-or (covers_glyph g a b) (int_lt b (g.top +ℤ pos n)) (int_le (g.top +ℤ pos n) b && int_le b (g.top +ℤ pos n)))

any-or : {X : Type 0} (p q : X → Bool) (xs : List X) → (list_any p xs || list_any q xs) ≡ list_any (λ x. p x || q x) xs
any-or p q [] = refl
any-or p q (x ∷ xs) = four (p x) (list_any p xs) (q x) (list_any q xs) ∙ ap (λ b. (p x || q x) || b) (any-or p q xs)
  where
    four : (a b c d : Bool) → ((a || b) || (c || d)) ≡ ((a || c) || (b || d))
    four true b c d = refl
    four false true true d = refl
    four false true false d = refl
    four false false c d = refl

-- no run of a row goes past its end
runs-within : (test : ℕ → Bool) (from end i : ℕ) (spans : List Span) → AreRunsFrom test from end spans → end ≤ i → is_in_spans spans i ≡ false
runs-within test from end i [] runs off = refl
runs-within test from end i (span ∷ spans) runs off =
    let past : nat_lt i span.to ≡ false = le-ltb i span.to (omega (arith, off, runs.0.within)) in
    rw (past, and-false (nat_le span.from i)) (runs-within test span.to end i spans runs.1 off)

module _ (g : GlyphValue) (n r : ℕ) (ink : List Span) (runs : AreRunsFrom (λ k. inks g.glyph k n) 0 g.glyph.bounds.width ink) where
  -- in another row no run has a pixel
  row-off : (a b : ℤ) → (int_le (g.top +ℤ pos n) b && int_le b (g.top +ℤ pos n)) ≡ false → list_any (λ span. has_pixel (run_at r g.left (g.top +ℤ pos n) span) a b) ink ≡ covers_row g n a b
  row-off a b off = any-none (λ span. has_pixel (run_at r g.left (g.top +ℤ pos n) span) a b) ink (λ span. rw off refl) ∙ sym (rw off (and-false (covers_glyph g a b)))

  -- left of the glyph neither
  row-left : (a b : ℤ) → a <ℤ g.left → list_any (λ span. has_pixel (run_at r g.left (g.top +ℤ pos n) span) a b) ink ≡ covers_row g n a b
  row-left a b left =
      any-none (λ span. has_pixel (run_at r g.left (g.top +ℤ pos n) span) a b) ink
      (λ span. let before : int_le (g.left +ℤ pos span.from) a ≡ false = sym (omega (arith, ints, left)) in rw before (and-false _))
      ∙ sym (let off = left-of g a b left in rw off refl)

  column-is : (k : ℕ) (b : ℤ) → (int_le (g.top +ℤ pos n) b && int_le b (g.top +ℤ pos n)) ≡ true → (span : Span) →
      has_pixel (run_at r g.left (g.top +ℤ pos n) span) (g.left +ℤ pos k) b ≡ has_column span k
  column-is k b on span =
      let first : int_le (g.left +ℤ pos span.from) (g.left +ℤ pos k) ≡ nat_le span.from k = same-le span.from k in
      let last : int_lt (g.left +ℤ pos k) (g.left +ℤ pos span.to) ≡ nat_lt k span.to = same-lt k span.to in
      rw (on, first, last) refl
    where
      same-le : (m k : ℕ) → int_le (g.left +ℤ pos m) (g.left +ℤ pos k) ≡ nat_le m k
      same-le m k = same_test (int_le (g.left +ℤ pos m) (g.left +ℤ pos k)) (nat_le m k)
          (λ e. le-leb m k (omega (arith, ints, sym e)))
          (λ e. sym (omega (arith, ints, leb-true m k e)))

      same-lt : (k m : ℕ) → int_lt (g.left +ℤ pos k) (g.left +ℤ pos m) ≡ nat_lt k m
      same-lt k m = same_test (int_lt (g.left +ℤ pos k) (g.left +ℤ pos m)) (nat_lt k m)
          (λ e. lt-ltb k m (omega (arith, ints, sym e)))
          (λ e. sym (omega (arith, ints, ltb-true k m e)))

  past-is : (from : ℤ) (k : ℕ) → past from (from +ℤ pos k) ≡ Some k
  past-is from k =
      let after : int_lt (from +ℤ pos k) from ≡ false = sym (omega (arith, ints)) in
      let far : unsigned_abs ((from +ℤ pos k) -ℤ from) ≡ k = omega (arith, ints) in
      rw (after, far) refl

  row-at : (k : ℕ) → list_any (λ span. has_pixel (run_at r g.left (g.top +ℤ pos n) span) (g.left +ℤ pos k) (g.top +ℤ pos n)) ink ≡ covers_row g n (g.left +ℤ pos k) (g.top +ℤ pos n)
  row-at k =
      let self : int_le (g.top +ℤ pos n) (g.top +ℤ pos n) ≡ true = sym (omega (arith, ints)) in
      let on : (int_le (g.top +ℤ pos n) (g.top +ℤ pos n) && int_le (g.top +ℤ pos n) (g.top +ℤ pos n)) ≡ true = rw self refl in
      any-same (λ span. has_pixel (run_at r g.left (g.top +ℤ pos n) span) (g.left +ℤ pos k) (g.top +ℤ pos n)) (λ span. has_column span k) ink (column-is k (g.top +ℤ pos n) on)
      ∙ (inside k ∙ sym (rw on (and-true (covers_glyph g (g.left +ℤ pos k) (g.top +ℤ pos n)))))
    where
      inside : (k : ℕ) → is_in_spans ink k ≡ covers_glyph g (g.left +ℤ pos k) (g.top +ℤ pos n)
      inside k = ⊎_elim
          (λ (lt : k < g.glyph.bounds.width). spans-test (λ k. inks g.glyph k n) 0 g.glyph.bounds.width k ink runs (omega arith) lt ∙ sym (rw (past-is g.left k, past-is g.top n) refl))
          (λ (ge : g.glyph.bounds.width ≤ k). runs-within (λ k. inks g.glyph k n) 0 g.glyph.bounds.width k ink runs ge
          ∙ sym (right-of g (g.left +ℤ pos k) (g.top +ℤ pos n) (omega (arith, ints, ge))))
          (cases_lt k g.glyph.bounds.width)

  -- the runs of a row have the pixels that the glyph covers there
  pub row-ink : (a b : ℤ) → list_any (λ span. has_pixel (run_at r g.left (g.top +ℤ pos n) span) a b) ink ≡ covers_row g n a b
  row-ink a b = elim (cases_Bool (int_le (g.top +ℤ pos n) b && int_le b (g.top +ℤ pos n))) [
    | inl on ↦ level (level-is on) (cases_Bool (int_lt a g.left))
    | inr off ↦ row-off a b off
  ]
    where
      level-is : (int_le (g.top +ℤ pos n) b && int_le b (g.top +ℤ pos n)) ≡ true → b ≡ g.top +ℤ pos n
      level-is on =
          let both = and_parts (int_le (g.top +ℤ pos n) b) (int_le b (g.top +ℤ pos n)) on in
          omega (arith, ints, sym both.0, sym both.1)

      level : b ≡ g.top +ℤ pos n → (int_lt a g.left ≡ true) ⊎ (int_lt a g.left ≡ false) → list_any (λ span. has_pixel (run_at r g.left (g.top +ℤ pos n) span) a b) ink ≡ covers_row g n a b
      level same (inl left) = row-left a b (omega (arith, ints, sym left))
      level same (inr right) =
          let column : a ≡ g.left +ℤ pos (unsigned_abs (a -ℤ g.left)) = omega (arith, ints, sym right) in
          rw (same, column) (row-at (unsigned_abs (a -ℤ g.left)))

  -- one more row's runs outline what one more row of the glyph does
  pub rows-next : (before : Bool) (i j : ℤ) → before ≡ list_any (λ step. covers_above g n (i +ℤ step.i) (j +ℤ step.j)) (disc r) →
      (before || list_any (λ span. outlines_run (run_at r g.left (g.top +ℤ pos n) span) i j) ink) ≡ list_any (λ step. covers_above g (n + 1) (i +ℤ step.i) (j +ℤ step.j)) (disc r)
  unfolding outlines_run
  rows-next before i j is =
      let rows = any-exchange (λ (span : Span) (step : PixelValue). has_pixel (run_at r g.left (g.top +ℤ pos n) span) (i +ℤ step.i) (j +ℤ step.j)) ink (disc r)
      ∙ any-same (λ step. list_any (λ span. has_pixel (run_at r g.left (g.top +ℤ pos n) span) (i +ℤ step.i) (j +ℤ step.j)) ink) (λ step. covers_row g n (i +ℤ step.i) (j +ℤ step.j)) (disc r)
      (λ step. row-ink (i +ℤ step.i) (j +ℤ step.j)) in
      rw (is, rows) (any-or (λ step. covers_above g n (i +ℤ step.i) (j +ℤ step.j)) (λ step. covers_row g n (i +ℤ step.i) (j +ℤ step.j)) (disc r)
      ∙ any-same (λ step. covers_above g n (i +ℤ step.i) (j +ℤ step.j) || covers_row g n (i +ℤ step.i) (j +ℤ step.j)) (λ step. covers_above g (n + 1) (i +ℤ step.i) (j +ℤ step.j)) (disc r)
      (λ step. sym (above-next g n (i +ℤ step.i) (j +ℤ step.j))))

-- before the first row nothing is outlined
pub rows-none : (g : GlyphValue) (r : ℕ) (i j : ℤ) → false ≡ list_any (λ step. covers_above g 0 (i +ℤ step.i) (j +ℤ step.j)) (disc r)
rows-none g r i j = sym (any-none (λ step. covers_above g 0 (i +ℤ step.i) (j +ℤ step.j)) (disc r) (λ step. above-none g (i +ℤ step.i) (j +ℤ step.j)))

-- all rows outline what the glyph does
pub rows-all : (g : GlyphValue) (r : ℕ) (i j : ℤ) → list_any (λ step. covers_above g g.glyph.bounds.height (i +ℤ step.i) (j +ℤ step.j)) (disc r) ≡ outlines_glyph (Disc r) g i j
rows-all g r i j = any-same (λ step. covers_above g g.glyph.bounds.height (i +ℤ step.i) (j +ℤ step.j)) (λ step. covers_glyph g (i +ℤ step.i) (j +ℤ step.j)) (disc r) (λ step. above-all g (i +ℤ step.i) (j +ℤ step.j))

-- runs of what passes one test are runs of what passes one like it
pub runs-same : (p q : ℕ → Bool) (from end : ℕ) (spans : List Span) → ((k : ℕ) → p k ≡ q k) → AreRunsFrom p from end spans → AreRunsFrom q from end spans
runs-same p q from end [] same runs = λ k first last. sym (same k) ∙ runs k first last
runs-same p q from end (span ∷ spans) same runs = (
  record {
    begins = runs.0.begins;
    some = runs.0.some;
    within = runs.0.within;
    before = λ k first last. sym (same k) ∙ runs.0.before k first last;
    inside = λ k first last. sym (same k) ∙ runs.0.inside k first last;
    after = λ less. sym (same span.to) ∙ runs.0.after less;
  },
  runs-same p q span.to end spans same runs.1,
)

-- a glyph whose box begins at the corner of the picture covers its own ink
pub alone-inks : (glyph : Glyph) (n k : ℕ) → covers_glyph (record { glyph = glyph; left = pos 0; top = pos 0 }) (pos k) (pos n) ≡ inks glyph k n
alone-inks glyph n k = rw (from-start k, from-start n) refl
  where
    from-start : (m : ℕ) → past (pos 0) (pos m) ≡ Some m
    from-start m =
        let after : int_lt (pos m) (pos 0) ≡ false = sym (omega (arith, ints)) in
        let far : unsigned_abs (pos m -ℤ pos 0) ≡ m = omega (arith, ints) in
        rw (after, far) refl

-- one more run, as at a step of a loop
pub runs-more : (f : Span → Bool) (p : RunValue → Bool) (xs : List Span) (k : ℕ) (d : Span) (y : RunValue) (old now new : List RunValue) → k < length xs → f (get_or xs k d) ≡ p y →
    new ≡ now ++ y ∷ [] → list_any p now ≡ (list_any p old || list_any f (take k xs)) → list_any p new ≡ (list_any p old || list_any f (take (k + 1) xs))
runs-more f p xs k d y old now new bound same pushed before =
    rw (pushed, list_any-append p now (y ∷ []), before, list_any_more f xs k d bound, same) (three (list_any p old) (list_any f (take k xs)) (p y))
  where
    three : (a b c : Bool) → ((a || b) || (c || false)) ≡ (a || (b || c))
    three true b c = refl
    three false true c = refl
    three false false true = refl
    three false false false = refl

-- one more row, whose runs were added
pub row-added : (g : GlyphValue) (n r : ℕ) (i j : ℤ) (before after : Bool) (left row : ℤ) (spans ink : List Span) →
    after ≡ (before || list_any (λ span. outlines_run (run_at r left row span) i j) spans) → before ≡ list_any (λ step. covers_above g n (i +ℤ step.i) (j +ℤ step.j)) (disc r) →
    AreRunsFrom (λ k. inks g.glyph k n) 0 g.glyph.bounds.width ink → spans ≡ ink → left ≡ g.left → row ≡ g.top +ℤ pos n →
    after ≡ list_any (λ step. covers_above g (n + 1) (i +ℤ step.i) (j +ℤ step.j)) (disc r)
row-added g n r i j before after left row spans ink added is runs same across down = (rw (same, across, down) at added) ∙ rows-next g n r ink runs before i j is
