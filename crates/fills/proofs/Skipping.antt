-- Blocks of vertices that are skipped: what their box in the world says of the chain along them.
use Rattle.std.proofs.Common.{◌≡◌, ◌∙◌, ℕ, ◌*◌, ◌<◌, Bool, true, false, List, [], ◌∷◌, map, refl, sym, ap, arith}
use Rattle.std.proofs.lemmas.Bool.{eqb-true}
use Rattle.std.proofs.lemmas.Int.{ints}
use Rattle.std.specs.List.{AllByRecursion, count_by}
use Rattle.std.specs.Prelude.{int_le, nat_le}
use lib.IntN.{ℤ, pos, ◌-ℤ◌, ◌*ℤ◌}
use lib.Signed.{◌<ℤ◌, ◌≤ℤ◌}
use Rattle.geom.specs.Device.{DevicePoint, centre, pixel_centre}
use Rattle.geom.specs.Edge.{EdgeEnds, crosses_at_or_left}
use Rattle.geom.specs.EvenOdd.{edge_between, is_covered, is_odd}
use Rattle.geom.specs.Laws.{is_one_of}
use Rattle.geom.specs.World.{Area, HasPlace, IsExtent, Place}
use Rattle.geom.proofs.Products.{le_of, not_le_of}
use Rattle.geom.proofs.Quotients.{at_most-by_product, quotient_parts}
use Rattle.std.specs.Int.{int_div_euclid}
use Rattle.clip.proofs.Rowed.{first_row-at_most}
use Rattle.clip.proofs.Sides.{right-crosses}
use Rattle.viewport.specs.View.{IsView, ViewValue, across_of, device_point, sixteenths}
use Rattle.scanfill.specs.Flips.{is_pixel_flipped}
use Rattle.fills.specs.declared.run.Run.{Run}
use Rattle.canvas.specs.Latitudes.{row_of}
use Rattle.fills.specs.Flipped.{AddsEdge, IsRun, AddsChain, ChainsInAColumnCoverLikeTheirChord, column_of, is_in_column, is_left, is_right}
use Rattle.vertices.specs.Chain.{HasChain, chain_edges, chain_end}
use Rattle.vertices.proofs.Chains.{beside, end-has, high-has, left, low-has, right}
use Rattle.vertices.proofs.Placing.{across-rising, end-placed}
use Rattle.fills.proofs.Flipping.{one-false, row-between}

-- what follows for the device point of each place of a box holds for all of a block
all-placed : (view : ViewValue) (box : Area) (P : DevicePoint → Type 0) (f : (place : Place) → HasPlace box place → P (device_point view place)) (places : List Place) →
    AllByRecursion (HasPlace box) places → AllByRecursion P (map (device_point view) places)
all-placed view box P f [] all = all
all-placed view box P f (place ∷ places) all = (f place all.0, all-placed view box P f places all.1)

-- flips that stay the same add a chain that is crossed nowhere
adds-nothing : (view : ViewValue) (flips : List ℕ) (from : Place) (rest : List Place) →
    ((i j : ℕ) → i < view.width → j < view.height → count_by (crosses_at_or_left (pixel_centre (pos i) (pos j))) (chain_edges (device_point view from) (map (device_point view) rest)) ≡ 0) →
    AddsChain view flips from rest flips
adds-nothing view flips from rest none = record {
  same = λ i j column below. sym (ap (λ n. is_one_of (is_pixel_flipped flips i j) (is_odd n)) (none i j column below) ∙ one-false (is_pixel_flipped flips i j));
}

-- a block between two latitudes of one row crosses no row
pub in-row : (view : ViewValue) (box : Area) (from : Place) (rest : List Place) (flips : List ℕ) → view.area.miny <ℤ view.area.maxy → HasChain box from rest →
    row_of view box.miny ≡ row_of view box.maxy → AddsChain view flips from rest flips
in-row view box from rest flips rows all same = adds-nothing view flips from rest (λ i j column below.
    let p = pixel_centre (pos i) (pos j) in
    let row = row_of view box.miny in
    beside p (device_point view from) (map (device_point view) rest) (nat_le row j)
    (all-placed view box (λ v. int_le v.y p.y ≡ nat_le row j)
    (λ place inside.
    let of_row : row_of view place.y ≡ row = row-between view box.miny box.maxy place.y row rows refl (sym same) inside.south inside.north in
    sym (first_row-at_most (device_point view place).y view.height j below) ∙ ap (λ n. nat_le n j) of_row)
    (from ∷ rest) all))

-- the whole of a side has all its sixteenths, and none of it has none
sixteenths-whole : (pixels : ℕ) (whole : ℤ) → pos 0 <ℤ whole → pos (16 * pixels) ≤ℤ sixteenths pixels whole whole
unfolding sixteenths
sixteenths-whole pixels whole some =
    let times = pos (16 * pixels) in
    at_most-by_product times (int_div_euclid (times *ℤ whole) whole) whole some (quotient_parts (times *ℤ whole) whole some).1

sixteenths-none : (pixels : ℕ) (whole : ℤ) → pos 0 <ℤ whole → sixteenths pixels (pos 0) whole ≤ℤ pos 0
unfolding sixteenths
sixteenths-none pixels whole some =
    let times = pos (16 * pixels) in
    let none : times *ℤ pos 0 ≡ pos 0 = omega (arith, ints) in
    at_most-by_product (int_div_euclid (times *ℤ pos 0) whole) (pos 0) whole some (omega (arith, ints, (quotient_parts (times *ℤ pos 0) whole some).0, none, some))

-- the right side of the whole picture is no further left than that of the canvas, and its left side no further right
east-side : (view : ViewValue) → IsView view → pos (16 * view.width) ≤ℤ across_of view view.area.maxx
east-side view is =
    let whole = view.area.maxx -ℤ view.area.minx in
    omega (arith, ints, sixteenths-whole view.columns whole (omega (arith, ints, is.area.columns)), is.across.within)

west-side : (view : ViewValue) → IsView view → across_of view view.area.minx ≤ℤ pos 0
west-side view is =
    let none : view.area.minx -ℤ view.area.minx ≡ pos 0 = omega (arith, ints) in
    let begin : sixteenths view.columns (view.area.minx -ℤ view.area.minx) (view.area.maxx -ℤ view.area.minx) ≤ℤ pos 0 =
    rw none (sixteenths-none view.columns (view.area.maxx -ℤ view.area.minx) (omega (arith, ints, is.area.columns))) in
    omega (arith, ints, begin)

-- a block right of the whole picture is crossed left of none of the canvas' pixel centres
pub right-of : (view : ViewValue) (box : Area) (from : Place) (rest : List Place) (flips : List ℕ) → IsView view → HasChain box from rest →
    is_right view box ≡ true → AddsChain view flips from rest flips
right-of view box from rest flips limits all is = adds-nothing view flips from rest (λ i j column below.
    let p = pixel_centre (pos i) (pos j) in
    right p (device_point view from) (map (device_point view) rest)
    (all-placed view box (λ v. p.x <ℤ v.x)
    (λ place inside.
    let more = across-rising view view.area.maxx place.x limits.area.columns (omega (arith, ints, inside.west, is)) in
    omega (arith, ints, east-side view limits, more, column))
    (from ∷ rest) all))

-- a block left of the whole picture counts like its chord
pub by-chord : (view : ViewValue) (box : Area) (from : Place) (rest : List Place) (old new : List ℕ) → IsView view → HasChain box from rest →
    is_left view box ≡ true → AddsEdge view old from (chain_end from rest) new → AddsChain view old from rest new
by-chord view box from rest old new limits all is adds = record {
  same = λ i j column below.
      let p = pixel_centre (pos i) (pos j) in
      let inside-left : (place : Place) → HasPlace box place → (device_point view place).x ≤ℤ p.x = λ place inside.
      let less = across-rising view place.x view.area.minx limits.area.columns (omega (arith, ints, inside.east, le_of box.maxx view.area.minx is)) in
      omega (arith, ints, less, west-side view limits) in
      let covered : is_covered (chain_edges (device_point view from) (map (device_point view) rest)) p ≡ crosses_at_or_left p (edge_between (device_point view from, device_point view (chain_end from rest))) =
      left p (device_point view from) (map (device_point view) rest) (all-placed view box (λ v. v.x ≤ℤ p.x) inside-left (from ∷ rest) all)
      ∙ ap (λ (end : DevicePoint). crosses_at_or_left p (edge_between (device_point view from, end))) (end-placed view from rest) in
      adds i j column below ∙ ap (λ b. is_one_of (is_pixel_flipped old i j) b) (sym covered);
}

-- the law: right of the column's pixel centre the chain counts like its chord, left of it neither has a crossing
pub column-law : ChainsInAColumnCoverLikeTheirChord
column-law view box from rest i j extent all same column =
    go (nat_le (column_of view box.minx) i) refl
  where
    p : DevicePoint
    p = pixel_centre (pos i) (pos j)

    point : Place → DevicePoint
    point = device_point view

    chain-chord : Type 0
    chain-chord = is_covered (chain_edges (point from) (map point rest)) p ≡ crosses_at_or_left p (edge_between (point from, point (chain_end from rest)))

    rising : (a b : ℤ) → a ≤ℤ b → across_of view a ≤ℤ across_of view b
    rising a b le = across-rising view a b extent.columns le

    go : (t : Bool) → nat_le (column_of view box.minx) i ≡ t → chain-chord
    go true e =
        let one : column_of view box.minx ≡ column_of view box.maxx = eqb-true (column_of view box.minx) (column_of view box.maxx) same in
        let east : int_le (across_of view box.maxx) (centre (pos i)) ≡ true = sym (first_row-at_most (across_of view box.maxx) view.width i column) ∙ (ap (λ n. nat_le n i) (sym one) ∙ e) in
        let reached : across_of view box.maxx ≤ℤ p.x = le_of (across_of view box.maxx) (centre (pos i)) east in
        let inside-left : (place : Place) → HasPlace box place → (point place).x ≤ℤ p.x = λ place inside.
        omega (arith, ints, reached, rising place.x box.maxx inside.east) in
        left p (point from) (map point rest) (all-placed view box (λ v. v.x ≤ℤ p.x) inside-left (from ∷ rest) all)
        ∙ ap (λ (end : DevicePoint). crosses_at_or_left p (edge_between (point from, end))) (end-placed view from rest)
    go false e =
        let west : int_le (across_of view box.minx) (centre (pos i)) ≡ false = sym (first_row-at_most (across_of view box.minx) view.width i column) ∙ e in
        let before : p.x <ℤ across_of view box.minx = not_le_of (across_of view box.minx) (centre (pos i)) west in
        let inside-right : (place : Place) → HasPlace box place → p.x <ℤ (point place).x = λ place inside.
        omega (arith, ints, before, rising box.minx place.x inside.west) in
        let last : HasPlace box (chain_end from rest) = end-has (HasPlace box) from rest all in
        let chord : EdgeEnds = edge_between (point from, point (chain_end from rest)) in
        let a = inside-right from all.0 in
        let b = inside-right (chain_end from rest) last in
        ap is_odd (right p (point from) (map point rest) (all-placed view box (λ v. p.x <ℤ v.x) inside-right (from ∷ rest) all))
        ∙ sym (right-crosses chord p (low-has (λ v. p.x <ℤ v.x) chord a b) (high-has (λ v. p.x <ℤ v.x) chord a b))

-- so the flips of its chord serve
pub in-column : (view : ViewValue) (box : Area) (from : Place) (rest : List Place) (old new : List ℕ) → IsExtent view.area → HasChain box from rest →
    is_in_column view box ≡ true → AddsEdge view old from (chain_end from rest) new → AddsChain view old from rest new
in-column view box from rest old new extent all is adds = record {
  same = λ i j column below. adds i j column below ∙ ap (λ b. is_one_of (is_pixel_flipped old i j) b) (sym (column-law view box from rest i j extent all is column));
}

-- a block between the two latitudes of a run is skipped, and the run goes on from its last vertex
pub record IsOver (view : ViewValue) (flips : List ℕ) (run : Run) (rest : List Place) : Type 0 where
  pub adds : AddsChain view flips run.from rest flips
  pub valid : IsRun view (record { from = chain_end run.from rest; row = run.row; low = run.low; high = run.high })

pub within-run : (view : ViewValue) (run : Run) (box : Area) (rest : List Place) (flips : List ℕ) → IsRun view run → HasChain box run.from rest →
    int_le run.low box.miny ≡ true → int_le box.maxy run.high ≡ true → IsOver view flips run rest
within-run view run box rest flips is all low high =
    let least = le_of run.low box.miny low in
    let most = le_of box.maxy run.high high in
    let first = all.0 in
    let south : row_of view box.miny ≡ run.row = row-between view run.low run.high box.miny run.row is.rows is.low is.high least (omega (arith, ints, most, first.south, first.north)) in
    let north : row_of view box.maxy ≡ run.row = row-between view run.low run.high box.maxy run.row is.rows is.low is.high (omega (arith, ints, least, first.south, first.north)) most in
    let last : HasPlace box (chain_end run.from rest) = end-has (HasPlace box) run.from rest all in
    record {
      adds = in-row view box run.from rest flips is.rows all (south ∙ sym north);
      valid = record { low = is.low; high = is.high; least = omega (arith, ints, least, last.south); most = omega (arith, ints, most, last.north); rows = is.rows };
    }
