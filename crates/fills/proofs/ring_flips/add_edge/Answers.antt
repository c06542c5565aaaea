use Rattle.std.proofs.Common.{◌≡◌, ◌∙◌, refl, sym, ap}
use Rattle.std.proofs.lemmas.Result.{on_ok_weaker}
use lib.IntN.{pos}
use Rattle.geom.specs.Device.{DevicePoint, pixel_centre}
use Rattle.geom.specs.Edge.{crosses_at_or_left}
use Rattle.geom.specs.EvenOdd.{edge_between}
use Rattle.geom.specs.Laws.{is_one_of}
use Rattle.clip.specs.EdgeClass.{first_row}
use Rattle.scanfill.specs.Flips.{is_pixel_flipped}
use Rattle.fills.proofs.Flipping.{added, between, one-false, row-missed, rows-crossed}
use Rattle.fills.proofs.ring_flips.add_edge.Goals as goal

pub returns-then-from-to-clause-edge : goal.returns-then-from-to-clause-edge
returns-then-from-to-clause-edge c = λ i j column below.
    let flips = c.args.flips.now in
    let p : DevicePoint = c.args.from.now.at in
    let q : DevicePoint = c.args.to.now.at in
    let same : first_row p.y flips.height ≡ first_row q.y flips.height = sym c.requires.from ∙ (c.if-from-to.true ∙ c.requires.to) in
    sym (ap (λ b. is_one_of (is_pixel_flipped flips.flips i j) b) (row-missed (edge_between (p, q)) flips.height i j same below) ∙ one-false (is_pixel_flipped flips.flips i j))

pub add-requires : goal.add-requires
add-requires c =
    let height = c.args.flips.now.height in
    let p : DevicePoint = c.args.from.now.at in
    let q : DevicePoint = c.args.to.now.at in
    let is : c.rows_between.result ≡ between (first_row p.y height) (first_row q.y height) = rw (sym c.requires.from, sym c.requires.to) c.rows_between.ensures in
    is ∙ (rows-crossed p q height ∙ rw c.new.ensures refl)

pub returns-clause-edge : goal.returns-clause-edge
returns-clause-edge c = on_ok_weaker c.add.result
    (λ counts. λ i j column below.
    added c.args.flips.now.flips c.add.new.self.flips i j (crosses_at_or_left (pixel_centre (pos i) (pos j)) (edge_between (c.args.from.now.at, c.args.to.now.at)))
    (rw c.new.ensures at (counts i j column below)))
    c.add.ensures.counts
