use Rattle.std.proofs.Common.{◌∙◌, ℕ, ap, sym}
use Rattle.std.proofs.lemmas.List.{take_all}
use Rattle.std.proofs.lemmas.Result.{on_ok_weaker}
use lib.IntN.{pos}
use Rattle.std.specs.List.{count_by}
use Rattle.geom.specs.Device.{pixel_centre}
use Rattle.geom.specs.Edge.{crosses_at_or_left}
use Rattle.geom.specs.EvenOdd.{is_covered, is_odd}
use Rattle.scanfill.specs.RowFlips.{is_flipped, flip_if}
use Rattle.scanfill.proofs.Parity.{parity-more}
use Rattle.scanfill.proofs.Readings.{runs-same}
use Rattle.scanfill.proofs.polygon.read_row.Goals as goal

pub loop-edge-preserved : goal.loop-edge-preserved
loop-edge-preserved c = record {
  width = c.flip_edge.ensures.width;
  all = λ i h.
      let p = crosses_at_or_left (pixel_centre (pos i) (pos c.args.j)) in
      let xs = c.args.edges.now.items in
      let is = rw c.deref-edge-items.ensures.value at c.edge-item.is in
      let bound = rw c.deref-edge-items.ensures.value at c.loop-edge-test.true in
      c.flip_edge.ensures.all i h
      ∙ (ap (flip_if (p c.edge-item.result)) (c.loop-edge.invariant.all i h) ∙ sym (parity-more p xs c.loop-edge.edge-index c.edge-item.result bound is));
}

pub returns : goal.returns
returns c =
    let xs = c.args.edges.now.items in
    let past = rw c.deref-edge-items.ensures.value at c.loop-edge-test.false in
    on_ok_weaker c.read.result (λ runs. runs-same
    (is_flipped c.loop-edge.flips) (λ (i : ℕ). is_covered xs (pixel_centre (pos i) (pos c.args.j))) 0 c.args.width c.read.new.out
    (λ i h. c.loop-edge.invariant.all i h ∙ ap (λ ys. is_odd (count_by (crosses_at_or_left (pixel_centre (pos i) (pos c.args.j))) ys)) (take_all c.loop-edge.edge-index xs past))
    (rw c.loop-edge.invariant.width at runs)) c.read.ensures
