-- Points on all sides of the canvas have a box that meets its window.
use Rattle.std.proofs.Common.{ℕ, ◌+◌, ◌*◌, List, ◌⊎◌, inl, inr, ⊎_elim, arith}
use Rattle.std.proofs.lemmas.Int.{ints, by_lt_z}
use Rattle.std.specs.Int.RustNames.{unsigned_abs}
use Rattle.std.specs.List.{Any}
use lib.IntN.{ℤ, pos, neg_ℤ, ◌-ℤ◌}
use lib.Signed.{◌<ℤ◌, ◌≤ℤ◌}
use Rattle.geom.specs.World.{Area, Place, HasPlace}
use Rattle.viewport.specs.View.{IsView, ViewValue, across_of, device_point, down_of, height_of, shown_before, shown_by, window}
use Rattle.viewport.proofs.Rising.{north-of-south, ordered-law, south-of-north}
use Rattle.viewport.proofs.Windows.{in-order, not-past, not-short, some-pixels}
use Rattle.mapdefs.specs.Near.{LiesInBoxOf}

-- a place whose device point is not beyond the margin right of the canvas is not east of the window, and so on for its other sides
pub at-east : (view : ViewValue) (margin : ℕ) (longitude : ℤ) → IsView view → across_of view longitude <ℤ pos (16 * (view.width + margin)) → longitude ≤ℤ (window view margin).maxx
at-east view margin longitude is most =
    let area = view.area in
    omega (
      arith,
      ints,
      not-past (view.left + view.width + margin) view.columns (longitude -ℤ area.minx) (area.maxx -ℤ area.minx) (some-pixels view.columns view.left view.width is.across)
          (omega (arith, ints, is.area.columns)) (omega (arith, ints, most)),
    )

pub at-west : (view : ViewValue) (margin : ℕ) (longitude : ℤ) → IsView view → neg_ℤ (pos (16 * margin)) ≤ℤ across_of view longitude → (window view margin).minx ≤ℤ longitude
at-west view margin longitude is least =
    let area = view.area in
    omega (
      arith,
      ints,
      not-short (pos view.left -ℤ pos margin) view.columns (longitude -ℤ area.minx) (area.maxx -ℤ area.minx) (some-pixels view.columns view.left view.width is.across)
          (omega (arith, ints, is.area.columns)) (omega (arith, ints, least)),
    )

pub at-south : (view : ViewValue) (margin : ℕ) (latitude : ℤ) → IsView view → down_of view latitude <ℤ pos (16 * (view.height + margin)) → (window view margin).miny ≤ℤ latitude
at-south view margin latitude is most =
    let area = view.area in
    let bottom = pos (shown_by (view.top + view.height + margin) view.rows (unsigned_abs (area.maxy -ℤ area.miny))) in
    let part = not-past (view.top + view.height + margin) view.rows (area.maxy -ℤ height_of view.heights latitude) (area.maxy -ℤ area.miny)
    (some-pixels view.rows view.top view.height is.down) (omega (arith, ints, is.area.rows)) (omega (arith, ints, most)) in
    north-of-south view.heights (area.maxy -ℤ bottom) latitude (omega (arith, ints, part))

pub at-north : (view : ViewValue) (margin : ℕ) (latitude : ℤ) → IsView view → neg_ℤ (pos (16 * margin)) ≤ℤ down_of view latitude → latitude ≤ℤ (window view margin).maxy
at-north view margin latitude is least =
    let area = view.area in
    let top = shown_before (pos view.top -ℤ pos margin) view.rows (unsigned_abs (area.maxy -ℤ area.miny)) in
    let part = not-short (pos view.top -ℤ pos margin) view.rows (area.maxy -ℤ height_of view.heights latitude) (area.maxy -ℤ area.miny)
    (some-pixels view.rows view.top view.height is.down) (omega (arith, ints, is.area.rows)) (omega (arith, ints, least)) in
    south-of-north view.heights (area.maxy -ℤ top) latitude (omega (arith, ints, part))

-- the sides of a window are in their order
pub ordered-window : (view : ViewValue) (margin : ℕ) → IsView view → ((window view margin).minx ≤ℤ (window view margin).maxx) × ((window view margin).miny ≤ℤ (window view margin).maxy)
ordered-window view margin is =
    let area = view.area in
    let across = unsigned_abs (area.maxx -ℤ area.minx) in
    let down = unsigned_abs (area.maxy -ℤ area.miny) in
    let bottom = pos (shown_by (view.top + view.height + margin) view.rows down) in
    let top = shown_before (pos view.top -ℤ pos margin) view.rows down in (
      omega (arith, ints, in-order view.left view.width margin view.columns across (some-pixels view.columns view.left view.width is.across)),
      ordered-law view.heights (area.maxy -ℤ bottom) (area.maxy -ℤ top) (omega (arith, ints, in-order view.top view.height margin view.rows down (some-pixels view.rows view.top view.height is.down))),
    )

-- a number of a range that lies between two others, if they lie on both sides of it or in it
pick : (least most a b : ℤ) → least ≤ℤ most → a ≤ℤ most → least ≤ℤ b → (z : ℤ) × (least ≤ℤ z) × (z ≤ℤ most) × (a ≤ℤ z) × ((z ≤ℤ a) ⊎ (z ≤ℤ b))
pick least most a b h f g =
    by_lt_z a least
    (λ (lt : a <ℤ least). (least, omega (arith, ints), h, omega (arith, ints), inr g))
    (λ (ge : least ≤ℤ a). (a, ge, f, omega (arith, ints), inl (omega (arith, ints))))

-- some point's device point is not beyond the right of the margin, some not beyond the left, the bottom and the top
pub record AreRound (view : ViewValue) (margin : ℕ) (points : List Place) : Type 0 where
  pub right : Any (λ q. (device_point view q).x <ℤ pos (16 * (view.width + margin))) points
  pub left : Any (λ q. neg_ℤ (pos (16 * margin)) ≤ℤ (device_point view q).x) points
  pub bottom : Any (λ q. (device_point view q).y <ℤ pos (16 * (view.height + margin))) points
  pub top : Any (λ q. neg_ℤ (pos (16 * margin)) ≤ℤ (device_point view q).y) points

-- so their box meets the window
pub box-in : (view : ViewValue) (margin : ℕ) (points : List Place) → IsView view → AreRound view margin points →
    (place : Place) × HasPlace (window view margin) place × LiesInBoxOf points place
box-in view margin points is round =
    let (ka, a, ha, ea, pa) = round.right in
    let (kb, b, hb, eb, pb) = round.left in
    let (kc, c, hc, ec, pc) = round.bottom in
    let (kd, d, hd, ed, pd) = round.top in
    let w : Area = window view margin in
    let order = ordered-window view margin is in
    let x = pick w.minx w.maxx a.x b.x order.0 (at-east view margin a.x is pa) (at-west view margin b.x is pb) in
    let y = pick w.miny w.maxy d.y c.y order.1 (at-north view margin d.y is pd) (at-south view margin c.y is pc) in (
      record { x = x.0; y = y.0 },
      record { west = x.1; east = x.2; south = y.1; north = y.2 },
      record {
        west = (ka, a, ha, ea, x.3);
        east = ⊎_elim (λ (h : x.0 ≤ℤ a.x). (ka, a, ha, ea, h)) (λ (h : x.0 ≤ℤ b.x). (kb, b, hb, eb, h)) x.4;
        south = (kd, d, hd, ed, y.3);
        north = ⊎_elim (λ (h : y.0 ≤ℤ d.y). (kd, d, hd, ed, h)) (λ (h : y.0 ≤ℤ c.y). (kc, c, hc, ec, h)) y.4;
      },
    )
