-- Views by a picture of their own.
use Rattle.std.proofs.Common.{◌≡◌, ◌∙◌, ℕ, ◌+◌, ◌-◌, ◌*◌, ◌<◌, ◌≤◌, ap, arith, ⊎_elim}
use Rattle.std.proofs.Math.Nat.{mul-le-mul_left, mul-le-mul_right}
use Rattle.std.proofs.lemmas.Bool.{cases_lt}
use Rattle.std.proofs.lemmas.Int.{ints}
use Rattle.std.specs.Int.RustNames.{unsigned_abs}
use lib.IntN.{ℤ, pos, negsuc, neg_ℤ, ◌+ℤ◌, ◌-ℤ◌, ◌*ℤ◌}
use lib.Signed.{◌≤ℤ◌}
use Rattle.geom.proofs.Products.{neg-mul}
use Rattle.geom.specs.Device.{DevicePoint}
use Rattle.geom.specs.World.{Area}
use Rattle.viewport.proofs.Products.{abs-is}
use Rattle.viewport.proofs.Windows.{beginnings-law, margins-law}
use Rattle.viewport.specs.Plain.{PlainViewsShowTheirArea}
use Rattle.viewport.specs.View.{height_of, north_of, shown_before, shown_by, sixteenths, south_of}

-- what lies before a margin on the left is what it shows
before-side : (margin pixels span : ℕ) → 1 ≤ pixels → shown_before (pos 0 -ℤ pos margin) pixels span ≡ neg_ℤ (pos (shown_by margin pixels span))
before-side margin pixels span some =
    let b = shown_before (pos 0 -ℤ pos margin) pixels span in
    let n = shown_by margin pixels span in
    let before = beginnings-law (pos 0 -ℤ pos margin) pixels span some in
    let shown = margins-law margin pixels span some in
    let minus : pos 0 -ℤ pos margin ≡ neg_ℤ (pos margin) = omega (arith, ints) in
    let product : pos margin *ℤ pos span ≡ pos (margin * span) = omega (arith, ints) in
    let left : (pos 0 -ℤ pos margin) *ℤ pos span ≡ neg_ℤ (pos (margin * span)) = ap (λ z. z *ℤ pos span) minus ∙ (neg-mul (pos margin) (pos span) ∙ ap neg_ℤ product) in
    let least : neg_ℤ (pos n) ≤ℤ b = before.greatest (neg_ℤ (pos n)) (omega (arith, ints, shown.enough, left, neg-mul (pos n) (pos pixels))) in
    let most = below b n before.at_most left shown.fewest in
    omega (arith, ints, least, most)
  where
    below : (b : ℤ) (n : ℕ) → (b *ℤ pos pixels) ≤ℤ ((pos 0 -ℤ pos margin) *ℤ pos span) → (pos 0 -ℤ pos margin) *ℤ pos span ≡ neg_ℤ (pos (margin * span)) →
        ((m : ℕ) → margin * span ≤ m * pixels → n ≤ m) → b ≤ℤ neg_ℤ (pos n)
    below (pos k) n at_most left fewest =
        let more : k * 1 ≤ k * pixels = mul-le-mul_left k some in
        let none : n ≤ 0 = fewest 0 (omega (arith, ints, at_most, left)) in
        omega (arith, ints, at_most, left, more, none)
    below (negsuc k) n at_most left fewest =
        let enough : n ≤ k + 1 = fewest (k + 1) (omega (arith, ints, at_most, left)) in
        omega (arith, ints, enough)

-- what lies before a margin on the right is the whole and what the margin shows
after-side : (margin pixels span : ℕ) → 1 ≤ pixels → shown_by (0 + pixels + margin) pixels span ≡ span + shown_by margin pixels span
after-side margin pixels span some =
    let a = shown_by (0 + pixels + margin) pixels span in
    let n = shown_by margin pixels span in
    let all = margins-law (0 + pixels + margin) pixels span some in
    let shown = margins-law margin pixels span some in
    let most : a ≤ span + n = all.fewest (span + n) (omega (arith, shown.enough)) in
    let least : span + n ≤ a = ⊎_elim
    (λ (lt : a < span). absurd (omega (arith, all.enough, some, mul-le-mul_right {m = a + 1} {n = span} pixels (omega (arith, lt)))))
    (λ (ge : span ≤ a).
    let k : ℕ = a - span in
    let split : a ≡ span + k = omega (arith, ge) in
    let product : a * pixels ≡ (span + k) * pixels = ap (λ m. m * pixels) split in
    omega (arith, split, shown.fewest k (omega (arith, all.enough, product))))
    (cases_lt a span) in
    omega (arith, most, least)

-- nothing lies before a first column or row
from-first : (z : ℤ) → z -ℤ pos (16 * 0) ≡ z
from-first z = omega (arith, ints)

abbrev the-point : ℤ → ℤ → DevicePoint
the-point x y = record { x = x; y = y }

abbrev the-area : ℤ → ℤ → ℤ → ℤ → Area
the-area minx miny maxx maxy = record { minx = minx; miny = miny; maxx = maxx; maxy = maxy }

same-area : (a b p q x y z w : ℤ) → a ≡ b → p ≡ q → x ≡ y → z ≡ w → the-area a p x z ≡ the-area b q y w
same-area a b p q x y z w e f g h = ap (λ k. the-area k p x z) e ∙ (ap (λ k. the-area b k x z) f ∙ (ap (λ k. the-area b q k z) g ∙ ap (λ k. the-area b q y k) h))

-- a side of an area, by the low one and its size
low-less : (low shown n : ℤ) → shown ≡ neg_ℤ n → low +ℤ shown ≡ low -ℤ n
low-less low shown n e = omega (arith, ints, e)

high-more : (low high : ℤ) (shown span n : ℕ) → pos span ≡ high -ℤ low → shown ≡ span + n → low +ℤ pos shown ≡ high +ℤ pos n
high-more low high shown span n e f = omega (arith, ints, e, f)

high-less : (low high : ℤ) (shown span n : ℕ) → pos span ≡ high -ℤ low → shown ≡ span + n → high -ℤ pos shown ≡ low -ℤ pos n
high-less low high shown span n e f = omega (arith, ints, e, f)

low-more : (high shown n : ℤ) → shown ≡ neg_ℤ n → high -ℤ shown ≡ high +ℤ n
low-more high shown n e = omega (arith, ints, e)

-- the law
pub plain-law : PlainViewsShowTheirArea
plain-law heights area width height extent columns rows = record {
  points = λ p.
      let x = sixteenths width (p.x -ℤ area.minx) (area.maxx -ℤ area.minx) in
      let y = sixteenths height (area.maxy -ℤ height_of heights p.y) (area.maxy -ℤ area.miny) in
      ap (λ k. the-point k (y -ℤ pos (16 * 0))) (from-first x) ∙ ap (the-point x) (from-first y);
  windows = λ margin.
      let across = unsigned_abs (area.maxx -ℤ area.minx) in
      let down = unsigned_abs (area.maxy -ℤ area.miny) in
      let wide : pos across ≡ area.maxx -ℤ area.minx = abs-is (area.maxx -ℤ area.minx) (omega (arith, ints, extent.columns)) in
      let high : pos down ≡ area.maxy -ℤ area.miny = abs-is (area.maxy -ℤ area.miny) (omega (arith, ints, extent.rows)) in
      let west = before-side margin width across columns.some in
      let east = after-side margin width across columns.some in
      let south = after-side margin height down rows.some in
      let north = before-side margin height down rows.some in
      same-area _ _ _ _ _ _ _ _
      (low-less area.minx (shown_before (pos 0 -ℤ pos margin) width across) (pos (shown_by margin width across)) west)
      (ap (south_of heights) (high-less area.miny area.maxy (shown_by (0 + height + margin) height down) down (shown_by margin height down) high south))
      (high-more area.minx area.maxx (shown_by (0 + width + margin) width across) across (shown_by margin width across) wide east)
      (ap (north_of heights) (low-more area.maxy (shown_before (pos 0 -ℤ pos margin) height down) (pos (shown_by margin height down)) north));
}
