use Rattle.std.proofs.Common.{◌≡◌, ◌∙◌, refl, sym, ap, arith}
use Rattle.geom.specs.Device.{DevicePoint, pixel_centre}
use Rattle.geom.specs.Edge.{EdgeEnds, crosses_at_or_left}
use Rattle.geom.specs.EvenOdd.{edge_between}
use Rattle.geom.specs.World.{Place}
use Rattle.clip.specs.EdgeClass.{first_row}
use lib.IntN.{pos}
use Rattle.viewport.specs.View.{ViewValue, device_point}
use Rattle.canvas.specs.Latitudes.{row_of}
use Rattle.fills.specs.Flipped.{IsCorner}
use Rattle.fills.specs.declared.run.Corner.{Corner}
use Rattle.fills.proofs.Flipping.{added, between, rows-crossed, run-missed, run-row}
use Rattle.fills.proofs.ring_flips.go_on.Goals as goal

-- the vertex is where its place lies, and of that row
where-at : (view : ViewValue) (corner : Corner) (to : Place) → IsCorner view corner → corner.from ≡ to → corner.at ≡ device_point view to
where-at view corner to is from = is.at ∙ ap (device_point view) from

of-row : (view : ViewValue) (corner : Corner) (to : Place) → IsCorner view corner → corner.from ≡ to → row_of view to.y ≡ corner.row
of-row view corner to is from = sym (is.row ∙ ap (λ (p : DevicePoint). first_row p.y view.height) (where-at view corner to is from))

pub returns-then-corner-run-clause-edge : goal.returns-then-corner-run-clause-edge
returns-then-corner-run-clause-edge c =
    let view = c.args.rows.now in
    let row : row_of view c.args.to.y ≡ c.args.run.row = of-row view c.corner-corner.result c.args.to c.corner-corner.ensures.corner c.corner-corner.ensures.from ∙ c.if-corner-run.true in
    run-missed view c.args.run c.args.to c.args.flips.now.flips c.requires.run row

pub add-requires : goal.add-requires
add-requires c =
    let view = c.args.rows.now in
    let p : DevicePoint = device_point view c.args.run.from in
    let q : DevicePoint = device_point view c.args.to in
    let at : c.corner-corner.result.at ≡ q = where-at view c.corner-corner.result c.args.to c.corner-corner.ensures.corner c.corner-corner.ensures.from in
    let same : c.new-edge.result ≡ edge_between (p, q) = rw (c.new-edge.ensures, c.device.ensures, at, c.projection.ensures) refl in
    let from : row_of view c.args.run.from.y ≡ c.args.run.row = run-row view c.args.run c.requires.run in
    let to : row_of view c.args.to.y ≡ c.corner-corner.result.row = of-row view c.corner-corner.result c.args.to c.corner-corner.ensures.corner c.corner-corner.ensures.from in
    let is : c.rows_between.result ≡ between (row_of view c.args.run.from.y) (row_of view c.args.to.y) = rw (from, to) c.rows_between.ensures in
    is ∙ (rows-crossed p q view.height ∙ rw (same, c.requires.height) refl)

pub returns-clause-edge : goal.returns-clause-edge
returns-clause-edge c = λ i j column below.
    let view = c.args.rows.now in
    let e : EdgeEnds = edge_between (device_point view c.args.run.from, device_point view c.args.to) in
    let at : c.corner-corner.result.at ≡ device_point view c.args.to = where-at view c.corner-corner.result c.args.to c.corner-corner.ensures.corner c.corner-corner.ensures.from in
    let same : c.new-edge.result ≡ e = rw (c.new-edge.ensures, c.device.ensures, at, c.projection.ensures) refl in
    added c.args.flips.now.flips c.add.new.self.flips i j (crosses_at_or_left (pixel_centre (pos i) (pos j)) e)
    (rw same at (c.in_ok-add.ensures.counts i j (omega (arith, column, c.requires.width)) (omega (arith, below, c.requires.height))))
