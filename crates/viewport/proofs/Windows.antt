-- Places near the picture lie in its window.
use Rattle.std.proofs.Common.{◌≡◌, ◌∙◌, ℕ, ◌+◌, ◌*◌, ◌<◌, ◌≤◌, ap, arith, ⊎_elim}
use Rattle.std.proofs.Math.Nat.{mul-le-mul_right}
use Rattle.std.proofs.lemmas.Bool.{cases_lt}
use Rattle.std.proofs.lemmas.Grind.{div_ceil_times}
use Rattle.std.proofs.lemmas.Int.{ints, by_lt_z}
use Rattle.std.specs.Int.{div_ceil, int_div_euclid}
use Rattle.std.specs.Int.RustNames.{unsigned_abs}
use borrow.Author.Differences.{up, down}
use lib.IntN.{ℤ, pos, negsuc, neg_ℤ, ◌-ℤ◌, ◌*ℤ◌}
use lib.Signed.{◌<ℤ◌, ◌≤ℤ◌}
use Rattle.viewport.specs.View.{height_of, shown_before, shown_by, sixteenths, BeginningsAreRoundedDown, BlocksArePartsOfTheWhole, IsOnSide, MarginsAreRoundedUp, WindowHasNearPlaces}
use Rattle.geom.proofs.Products.{mul-comm, mul-left_comm, product_nonneg, sub-mul}
use Rattle.geom.proofs.Quotients.{at_most-by_product, quotient_parts}
use Rattle.viewport.proofs.Rising.{bounded-law}
use Rattle.viewport.proofs.Quotients.{sixteenths-law}

-- the millionths that so many pixels show are enough for them
pub shown-enough : (margin pixels span : ℕ) → 0 < pixels → margin * span ≤ shown_by margin pixels span * pixels
unfolding shown_by
shown-enough margin pixels span some = (div_ceil_times (margin * span) pixels some).0

-- and the fewest
pub margins-law : MarginsAreRoundedUp
unfolding shown_by
margins-law margin pixels span some = record {
  enough = (div_ceil_times (margin * span) pixels (omega (arith, some))).0;
  fewest = λ m h. ⊎_elim
      (λ (more : m < div_ceil (margin * span) pixels). absurd (omega (
        arith,
        h,
        (div_ceil_times (margin * span) pixels (omega (arith, some))).1,
        mul-le-mul_right {m = m + 1} {n = div_ceil (margin * span) pixels} pixels (omega arith),
      )))
      (λ (le : div_ceil (margin * span) pixels ≤ m). le)
      (cases_lt m (div_ceil (margin * span) pixels));
}

-- the millionths before a column are the most that are at most its share
pub beginnings-law : BeginningsAreRoundedDown
unfolding shown_before
beginnings-law column pixels span some =
    let n = column *ℤ pos span in
    let parts = quotient_parts n (pos pixels) (omega (arith, ints, some)) in
    record {
      at_most = parts.0;
      greatest = λ m most. at_most-by_product m (int_div_euclid n (pos pixels)) (pos pixels) (omega (arith, ints, some)) (omega (arith, ints, parts.1, most));
    }

-- a part whose sixteenths are at or right of a column is not less than what lies before that
pub not-short : (column : ℤ) (pixels : ℕ) (part whole : ℤ) → 0 < pixels → pos 0 <ℤ whole → (pos 16 *ℤ column) ≤ℤ sixteenths pixels part whole →
    shown_before column pixels (unsigned_abs whole) ≤ℤ part
not-short column pixels part (pos span) some h least =
    let n = sixteenths pixels part (pos span) in
    let law = sixteenths-law pixels part (pos span) h in
    let before = shown_before column pixels span in
    let parts = beginnings-law column pixels span (omega (arith, some)) in
    let more : pos 0 ≤ℤ ((n -ℤ pos 16 *ℤ column) *ℤ pos span) = product_nonneg (n -ℤ pos 16 *ℤ column) (pos span) (omega (arith, ints, least)) (omega (arith, ints)) in
    let split : (n -ℤ pos 16 *ℤ column) *ℤ pos span ≡ n *ℤ pos span -ℤ pos 16 *ℤ (column *ℤ pos span) =
    sub-mul n (pos 16 *ℤ column) (pos span) ∙ ap (λ z. n *ℤ pos span -ℤ z) (mul-assoc16 column (pos span)) in
    at_most-by_product before part (pos pixels) (omega (arith, ints, some))
    (omega (arith, ints, parts.at_most, law.at_most, more, split, times16 pixels part, some))
  where
    mul-assoc16 : (a b : ℤ) → (pos 16 *ℤ a) *ℤ b ≡ pos 16 *ℤ (a *ℤ b)
    mul-assoc16 a b = mul-comm (pos 16 *ℤ a) b ∙ (mul-left_comm b (pos 16) a ∙ ap (λ z. pos 16 *ℤ z) (mul-comm b a))

    times16 : (pixels : ℕ) (part : ℤ) → pos (16 * pixels) *ℤ part ≡ pos 16 *ℤ (part *ℤ pos pixels)
    times16 pixels part =
        let product : pos (16 * pixels) ≡ pos 16 *ℤ pos pixels = omega (arith, ints) in
        ap (λ z. z *ℤ part) product ∙ (mul-assoc16 (pos pixels) part ∙ ap (λ z. pos 16 *ℤ z) (mul-comm (pos pixels) part))
not-short column pixels part (negsuc span) some h least = absurd (omega (arith, ints))

-- and one whose sixteenths end left of a column is at most what so many columns show
pub not-past : (count pixels : ℕ) (part whole : ℤ) → 0 < pixels → pos 0 <ℤ whole → sixteenths pixels part whole <ℤ pos (16 * count) →
    part ≤ℤ pos (shown_by count pixels (unsigned_abs whole))
not-past count pixels part (pos span) some h most =
    let n = sixteenths pixels part (pos span) in
    let law = sixteenths-law pixels part (pos span) h in
    let shown = shown_by count pixels span in
    let enough = shown-enough count pixels span some in
    by_lt_z (pos shown) part
    (λ (past : pos shown <ℤ part).
    let more : (pos (16 * count) *ℤ pos span) ≤ℤ (pos (16 * pixels) *ℤ part) = omega (
      arith,
      ints,
      mul-le-mul_right {m = down part + shown} {n = up part} pixels (omega (arith, ints)),
    ) in
    absurd (omega (arith, ints, law.greatest (pos (16 * count)) more)))
    (λ (h : part ≤ℤ pos shown). h)
not-past count pixels part (negsuc span) some h most = absurd (omega (arith, ints))

-- what lies before a canvas and a margin is no more than what they show
pub in-order : (first count margin pixels span : ℕ) → 0 < pixels → shown_before (pos first -ℤ pos margin) pixels span ≤ℤ pos (shown_by (first + count + margin) pixels span)
in-order first count margin pixels span some =
    let column = pos first -ℤ pos margin in
    let shown = shown_by (first + count + margin) pixels span in
    let parts = beginnings-law column pixels span (omega (arith, some)) in
    let enough = shown-enough (first + count + margin) pixels span some in
    let more : pos 0 ≤ℤ ((pos (first + count + margin) -ℤ column) *ℤ pos span) =
    product_nonneg (pos (first + count + margin) -ℤ column) (pos span) (omega (arith, ints)) (omega (arith, ints)) in
    at_most-by_product (shown_before column pixels span) (pos shown) (pos pixels) (omega (arith, ints, some))
    (omega (arith, ints, parts.at_most, enough, more, sub-mul (pos (first + count + margin)) column (pos span), some))

-- both on one axis of a canvas that begins with a column: the pixel of a part lies so near to it
pub near-part : (margin first count pixels : ℕ) (part whole : ℤ) → 0 < pixels → pos 0 <ℤ whole →
    neg_ℤ (pos margin) ≤ℤ int_div_euclid (sixteenths pixels part whole -ℤ pos (16 * first)) (pos 16) →
    int_div_euclid (sixteenths pixels part whole -ℤ pos (16 * first)) (pos 16) <ℤ pos (count + margin) →
    (shown_before (pos first -ℤ pos margin) pixels (unsigned_abs whole) ≤ℤ part) × (part ≤ℤ pos (shown_by (first + count + margin) pixels (unsigned_abs whole)))
near-part margin first count pixels part whole some h least most =
    let n = sixteenths pixels part whole in
    let q = quotient_parts (n -ℤ pos (16 * first)) (pos 16) (omega (arith, ints)) in (
      not-short (pos first -ℤ pos margin) pixels part whole some h (omega (arith, ints, q.0, least)),
      not-past (first + count + margin) pixels part whole some h (omega (arith, ints, q.1, most)),
    )

-- a whole picture has some pixels
pub some-pixels : (pixels first count : ℕ) → IsOnSide pixels first count → 0 < pixels
some-pixels pixels first count is = omega (arith, is.some, is.within)

-- the law
pub window-law : WindowHasNearPlaces
window-law view margin place is near =
    let area = view.area in
    let columns = some-pixels view.columns view.left view.width is.across in
    let rows = some-pixels view.rows view.top view.height is.down in
    let x = near-part margin view.left view.width view.columns (place.x -ℤ area.minx) (area.maxx -ℤ area.minx) columns (omega (arith, ints, is.area.columns)) near.left near.right in
    let y = near-part margin view.top view.height view.rows (area.maxy -ℤ height_of view.heights place.y) (area.maxy -ℤ area.miny) rows (omega (arith, ints, is.area.rows)) near.top near.bottom in
    let span = unsigned_abs (area.maxy -ℤ area.miny) in
    let bottom = pos (shown_by (view.top + view.height + margin) view.rows span) in
    let top = shown_before (pos view.top -ℤ pos margin) view.rows span in
    let between = bounded-law view.heights (area.maxy -ℤ bottom) (area.maxy -ℤ top) place.y (omega (arith, ints, y.1)) (omega (arith, ints, y.0)) in
    record {
      west = omega (arith, ints, x.0);
      east = omega (arith, ints, x.1);
      south = between.0;
      north = between.1;
    }

-- the law of blocks: a block's first column and row are all that its points lack
pub blocks-law : BlocksArePartsOfTheWhole
blocks-law view across down place = record { across = omega (arith, ints); down = omega (arith, ints) }
