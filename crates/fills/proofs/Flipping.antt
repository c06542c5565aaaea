-- Flips that stand for the edges of rings.
use Rattle.std.proofs.Common.{◌≡◌, ◌∙◌, ℕ, ◌+◌, ◌<◌, ◌≤◌, max, min, Bool, true, false, not, if◌then◌else◌, cond, List, [], ◌∷◌, ◌++◌, map, take, append-nil, append_assoc, length, get_or, refl, sym, ap, arith}
use Rattle.std.proofs.lemmas.Bool.{and_left}
use Rattle.std.proofs.lemmas.List.{take_more}
use Rattle.std.proofs.lemmas.Int.{ints}
use Rattle.std.proofs.lemmas.List.Sums.{sum_by-append, sum_by-cons}
use Rattle.std.specs.Int.{int_div_euclid}
use Rattle.std.specs.List.{count_by}
use Rattle.std.specs.Prelude.{int_le, nat_le}
use lib.IntN.{ℤ, pos, negsuc, ◌+ℤ◌}
use lib.Signed.{◌<ℤ◌, ◌≤ℤ◌}
use Rattle.geom.specs.Device.{DevicePoint, centre, pixel_centre}
use Rattle.geom.specs.Edge.{EdgeEnds, crosses_height, crosses_at_or_left, meets_at_or_left}
use Rattle.geom.specs.EvenOdd.{edge_between, edges, is_covered, is_odd, ring_edges}
use Rattle.geom.specs.Laws.{is_one_of}
use Rattle.geom.specs.World.{Place}
use Rattle.geom.proofs.Products.{le_of, not_le_of}
use Rattle.geom.proofs.Rings.{closing_edges}
use Rattle.geom.proofs.Quotients.{quotient_parts}
use Rattle.geom.proofs.Together.{odd-add}
use Rattle.clip.specs.EdgeClass.{at_least_zero, first_row, rows_of}
use Rattle.clip.specs.declared.rows.RowRange.{RowRange}
use Rattle.clip.proofs.Rowed.{first_row-at_most}
use Rattle.viewport.specs.View.{ViewValue, device_point}
use Rattle.scanfill.specs.Flips.{is_pixel_flipped, flips_by}
use Rattle.fills.specs.declared.run.Run.{Run}
use Rattle.canvas.specs.Latitudes.{row_of}
use Rattle.fills.specs.Flipped.{Adds, AddsEdge, IsRun, StandFor}
use Rattle.vertices.specs.Chain.{chain_edges, chain_end}
use Rattle.vertices.proofs.Chains.{odd-one}
use Rattle.vertices.proofs.Placing.{down-falling}

-- an edge whose ends are of one row crosses no row
same-tests : (s t : Bool) → s ≡ t → (if s then not t else t) ≡ false
same-tests true true e = refl
same-tests false false e = refl
same-tests true false e = absurd (cc)
same-tests false true e = absurd (cc)

pub row-missed : (e : EdgeEnds) (h i j : ℕ) → first_row e.from.y h ≡ first_row e.to.y h → j < h → crosses_at_or_left (pixel_centre (pos i) (pos j)) e ≡ false
row-missed e h i j same below =
    let tests : int_le e.from.y (centre (pos j)) ≡ int_le e.to.y (centre (pos j)) =
    sym (first_row-at_most e.from.y h j below) ∙ (ap (λ n. nat_le n j) same ∙ first_row-at_most e.to.y h j below) in
    and_left (crosses_height e (centre (pos j))) (meets_at_or_left (pixel_centre (pos i) (pos j)) e)
    (same-tests (int_le e.from.y (centre (pos j))) (int_le e.to.y (centre (pos j))) tests)

-- rows go up as heights do
pub first_row-rising : (y z : ℤ) (h : ℕ) → y ≤ℤ z → first_row y h ≤ first_row z h
unfolding first_row
first_row-rising y z h le =
    let one = quotient_parts (y +ℤ pos 7) (pos 16) (omega (arith, ints)) in
    let other = quotient_parts (z +ℤ pos 7) (pos 16) (omega (arith, ints)) in
    cut (int_div_euclid (y +ℤ pos 7) (pos 16)) (int_div_euclid (z +ℤ pos 7) (pos 16)) h (omega (arith, ints, one.0, one.1, other.0, other.1))
  where
    cut : (q r : ℤ) (h : ℕ) → q ≤ℤ r → min (at_least_zero q) h ≤ min (at_least_zero r) h
    cut (pos m) (pos n) h le = omega (arith, ints)
    cut (negsuc m) (pos n) h le = omega (arith, ints)
    cut (negsuc m) (negsuc n) h le = omega (arith, ints)
    cut (pos m) (negsuc n) h le = absurd (omega (arith, ints))

-- a latitude between two of one row is of that row
pub row-between : (view : ViewValue) (low high latitude : ℤ) (row : ℕ) → view.area.miny <ℤ view.area.maxy → row_of view low ≡ row → row_of view high ≡ row →
    low ≤ℤ latitude → latitude ≤ℤ high → row_of view latitude ≡ row
row-between view low high latitude row some e f least most =
    let up : row_of view high ≤ row_of view latitude = first_row-rising _ _ view.height (down-falling view latitude high some most) in
    let down : row_of view latitude ≤ row_of view low = first_row-rising _ _ view.height (down-falling view low latitude some least) in
    omega (arith, e, f, up, down)

-- nothing more is the same
pub one-false : (b : Bool) → is_one_of b false ≡ b
one-false true = refl
one-false false = refl

one-assoc : (a b c : Bool) → is_one_of (is_one_of a b) c ≡ is_one_of a (is_one_of b c)
one-assoc true true true = refl
one-assoc true true false = refl
one-assoc true false true = refl
one-assoc true false false = refl
one-assoc false true true = refl
one-assoc false true false = refl
one-assoc false false true = refl
one-assoc false false false = refl

pub covered-append : (xs ys : List EdgeEnds) (p : DevicePoint) → is_covered (xs ++ ys) p ≡ is_one_of (is_covered xs p) (is_covered ys p)
covered-append xs ys p =
    ap is_odd (sum_by-append (λ e. cond {A = ℕ} (crosses_at_or_left p e) 1 0) xs ys)
    ∙ odd-add (count_by (crosses_at_or_left p) xs) (count_by (crosses_at_or_left p) ys)

pub covered-cons : (e : EdgeEnds) (es : List EdgeEnds) (p : DevicePoint) → is_covered (e ∷ es) p ≡ is_one_of (crosses_at_or_left p e) (is_covered es p)
covered-cons e es p =
    ap is_odd (sum_by-cons (λ x. cond {A = ℕ} (crosses_at_or_left p x) 1 0) e es)
    ∙ (odd-add (cond {A = ℕ} (crosses_at_or_left p e) 1 0) (count_by (crosses_at_or_left p) es)
    ∙ ap (λ b. is_one_of b (is_covered es p)) (odd-one (crosses_at_or_left p e)))

-- the rows that an edge crosses lie between those of its ends
abbrev pub between : ℕ → ℕ → RowRange
between a b = record { from = min a b; to = max a b }

pub rows-crossed : (p q : DevicePoint) (h : ℕ) → between (first_row p.y h) (first_row q.y h) ≡ rows_of (edge_between (p, q)) h
rows-crossed p q h = go (int_le p.y q.y) refl
  where
    go : (t : Bool) → int_le p.y q.y ≡ t → between (first_row p.y h) (first_row q.y h) ≡ rows_of (edge_between (p, q)) h
    go true e =
        let up : first_row p.y h ≤ first_row q.y h = first_row-rising p.y q.y h (le_of p.y q.y e) in
        let least : min (first_row p.y h) (first_row q.y h) ≡ first_row p.y h = omega (arith, up) in
        let most : max (first_row p.y h) (first_row q.y h) ≡ first_row q.y h = omega (arith, up) in
        rw (least, most, e) refl
    go false e =
        let below : q.y ≤ℤ p.y = omega (arith, ints, not_le_of p.y q.y e) in
        let down : first_row q.y h ≤ first_row p.y h = first_row-rising q.y p.y h below in
        let least : min (first_row p.y h) (first_row q.y h) ≡ first_row q.y h = omega (arith, down) in
        let most : max (first_row p.y h) (first_row q.y h) ≡ first_row p.y h = omega (arith, down) in
        rw (least, most, e) refl

-- the row of a run is that of its last vertex
pub run-row : (view : ViewValue) (run : Run) → IsRun view run → row_of view run.from.y ≡ run.row
run-row view run is = row-between view run.low run.high run.from.y run.row is.rows is.low is.high is.least is.most

-- a vertex of the run's row adds nothing
pub run-missed : (view : ViewValue) (run : Run) (to : Place) (flips : List ℕ) → IsRun view run → row_of view to.y ≡ run.row → AddsEdge view flips run.from to flips
run-missed view run to flips is row i j column below =
    let from : row_of view run.from.y ≡ run.row = run-row view run is in
    sym (ap (λ b. is_one_of (is_pixel_flipped flips i j) b) (row-missed (edge_between (device_point view run.from, device_point view to)) view.height i j (from ∙ sym row) below)
    ∙ one-false (is_pixel_flipped flips i j))

-- the edges that are left of some are those that are to be added
pub record IsLeft (view : ViewValue) (old flips : List ℕ) (whole left : List EdgeEnds) : Type 0 where
  pub same : (i j : ℕ) → i < view.width → j < view.height →
      is_one_of (is_pixel_flipped flips i j) (is_covered left (pixel_centre (pos i) (pos j)))
      ≡ is_one_of (is_pixel_flipped old i j) (is_covered whole (pixel_centre (pos i) (pos j)))

pub left-all : (view : ViewValue) (old : List ℕ) (whole left : List EdgeEnds) → whole ≡ left → IsLeft view old old whole left
left-all view old whole left e = record {
  same = λ i j column below. ap (λ es. is_one_of (is_pixel_flipped old i j) (is_covered es (pixel_centre (pos i) (pos j)))) (sym e);
}

-- edges that were added need to be added no more
pub left-next : (view : ViewValue) (old flips new : List ℕ) (whole left more rest : List EdgeEnds) → left ≡ more ++ rest →
    IsLeft view old flips whole left → Adds view flips more new → IsLeft view old new whole rest
left-next view old flips new whole left more rest e is adds = record {
  same = λ i j column below.
      let p = pixel_centre (pos i) (pos j) in
      ap (λ b. is_one_of b (is_covered rest p)) (adds.same i j column below)
      ∙ (one-assoc (is_pixel_flipped flips i j) (is_covered more p) (is_covered rest p)
      ∙ (ap (λ b. is_one_of (is_pixel_flipped flips i j) b) (sym (covered-append more rest p))
      ∙ (ap (λ es. is_one_of (is_pixel_flipped flips i j) (is_covered es p)) (sym e)
      ∙ is.same i j column below)));
}

pub left-none : (view : ViewValue) (old flips : List ℕ) (whole left : List EdgeEnds) → left ≡ [] → IsLeft view old flips whole left → Adds view old whole flips
left-none view old flips whole left e is = record {
  same = λ i j column below.
      let p = pixel_centre (pos i) (pos j) in
      sym (one-false (is_pixel_flipped flips i j))
      ∙ (ap (λ es. is_one_of (is_pixel_flipped flips i j) (is_covered es p)) (sym e)
      ∙ is.same i j column below);
}

-- one edge
pub adds-edge : (view : ViewValue) (old new : List ℕ) (from to : Place) → AddsEdge view old from to new →
    Adds view old (edge_between (device_point view from, device_point view to) ∷ []) new
adds-edge view old new from to adds = record {
  same = λ i j column below.
      let p = pixel_centre (pos i) (pos j) in
      let e : EdgeEnds = edge_between (device_point view from, device_point view to) in
      adds i j column below
      ∙ ap (λ b. is_one_of (is_pixel_flipped old i j) b) (sym (covered-cons e [] p ∙ one-false (crosses_at_or_left p e)));
}

-- one flip more in the count turns a pixel over where the edge crosses
pub added : (old new : List ℕ) (i j : ℕ) (b : Bool) → count_by (flips_by i j) new ≡ count_by (flips_by i j) old + cond {A = ℕ} b 1 0 →
    is_pixel_flipped new i j ≡ is_one_of (is_pixel_flipped old i j) b
added old new i j b e =
    ap is_odd e ∙ (odd-add (count_by (flips_by i j) old) (cond {A = ℕ} b 1 0) ∙ ap (λ x. is_one_of (is_pixel_flipped old i j) x) (odd-one b))

-- a ring without vertices adds nothing
pub adds-none : (view : ViewValue) (flips : List ℕ) (more : List EdgeEnds) → more ≡ [] → Adds view flips more flips
adds-none view flips more e = record {
  same = λ i j column below. sym (ap (λ es. is_one_of (is_pixel_flipped flips i j) (is_covered es (pixel_centre (pos i) (pos j)))) e ∙ one-false (is_pixel_flipped flips i j));
}

-- no flips stand for no edges
pub stand-none : (view : ViewValue) (flips : List ℕ) → flips ≡ [] → StandFor view flips []
stand-none view flips e = record { same = λ i j column below. ap (λ ts. is_pixel_flipped ts i j) e }

-- rings one after another
pub adds-ring : (view : ViewValue) (flips new : List ℕ) (whole more : List EdgeEnds) → StandFor view flips whole → Adds view flips more new → StandFor view new (whole ++ more)
adds-ring view flips new whole more is adds = record {
  same = λ i j column below.
      let p = pixel_centre (pos i) (pos j) in
      adds.same i j column below ∙ (ap (λ b. is_one_of b (is_covered more p)) (is.same i j column below) ∙ sym (covered-append whole more p));
}

-- the edges of one ring more
edges-one : (view : ViewValue) (rings : List (List Place)) (ring : List Place) →
    edges (map (map (device_point view)) (rings ++ ring ∷ [])) ≡ edges (map (map (device_point view)) rings) ++ ring_edges (map (device_point view) ring)
edges-one view [] ring = append-nil (ring_edges (map (device_point view) ring))
edges-one view (r ∷ rings) ring =
    ap (λ es. ring_edges (map (device_point view) r) ++ es) (edges-one view rings ring)
    ∙ sym (append_assoc (ring_edges (map (device_point view) r)) (edges (map (map (device_point view)) rings)) (ring_edges (map (device_point view) ring)))

pub ring-next : (view : ViewValue) (rings : List (List Place)) (i : ℕ) (ring : List Place) (flips new : List ℕ) → i < length rings → ring ≡ get_or rings i ring →
    StandFor view flips (edges (map (map (device_point view)) (take i rings))) → Adds view flips (ring_edges (map (device_point view) ring)) new →
    StandFor view new (edges (map (map (device_point view)) (take (i + 1) rings)))
ring-next view rings i ring flips new below e is adds =
    let here : get_or rings i ring ∷ [] ≡ ring ∷ [] = ap (λ y. y ∷ []) (sym e) in
    rw (take_more rings i ring below, here, edges-one view (take i rings) ring)
    (adds-ring view flips new (edges (map (map (device_point view)) (take i rings))) (ring_edges (map (device_point view) ring)) is adds)

-- the edges of a ring are those over the vertices of a chain and those that are left of it
pub closing-append : (first from : DevicePoint) (chain rest : List DevicePoint) →
    closing_edges first from (chain ++ rest) ≡ chain_edges from chain ++ closing_edges first (chain_end from chain) rest
closing-append first from [] rest = refl
closing-append first from (to ∷ chain) rest = ap (λ es. record { from = from; to = to } ∷ es) (closing-append first to chain rest)
