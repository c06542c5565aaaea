use Rattle.std.proofs.Common.{◌≡◌, ◌∙◌, ◌*◌, ◌<◌, List, [], ◌∷◌, ◌++◌, length, arith, map, refl, sym, ap, rules}
use Rattle.std.proofs.lemmas.List.{length-drop, take-append-drop}
use Rattle.geom.specs.EvenOdd.{ring_edges}
use Rattle.geom.specs.World.{Place}
use Rattle.geom.proofs.Rings.{ring_edges-closing}
use Rattle.mapdefs.proofs.BlockBoxes.{block-has}
use Rattle.viewport.specs.View.{ViewValue, device_point}
use Rattle.fills.proofs.Flipping.{adds-none, left-all}
use Rattle.vertices.proofs.Blocks.{block-next, empty-of}
use Rattle.fills.proofs.RingBlocks.{ring-block, ring-none}
use Rattle.fills.proofs.ring_flips.add_blocks.Goals as goal

-- a ring without vertices has no edges
none-of : (view : ViewValue) (ring : List Place) → length ring ≡ 0 → ring_edges (map (device_point view) ring) ≡ []
none-of view [] e = refl
none-of view (p ∷ ring) e = absurd (omega arith)

pub loop-area-init : goal.loop-area-init
loop-area-init c =
    let view = c.args.rows.now in
    let ring = c.args.ring.now in
    let whole : ring ≡ c.in-Some.first.now ∷ c.in-Some.rest.now = sym c.as_slice.ensures ∙ c.in-Some.ensures.cases.0 in
    record {
      sides = refl;
      edges = rw c.begin-run.ensures.from (left-all view c.args.flips.now.flips (ring_edges (map (device_point view) ring)) _
          (ring_edges-closing (map (device_point view) ring) (device_point view c.in-Some.first.now) (map (device_point view) c.in-Some.rest.now) (ap (map (device_point view)) whole)));
      valid = c.begin-run.ensures.run;
      rest = omega (arith, ap length whole);
      here = λ h. rw c.begin-run.ensures.from (sym whole);
    }

pub add_block-requires-clause-has : goal.add_block-requires-clause-has
add_block-requires-clause-has c =
    let l = c.loop-area in
    let boxes = c.boxes-area-items.ensures in
    let below : 32 * l.area-index < length c.args.ring.now = omega (arith, c.loop-area-test.true, boxes.count) in
    rw c.split_block.ensures.block (block-has c.args.ring.now c.boxes-area-items.result.now l.area-index c.area-item.result l.run.from l.left.now boxes c.loop-area-test.true c.area-item.is
    (l.invariant.here below))

pub loop-area-preserved : goal.loop-area-preserved
loop-area-preserved c =
    let l = c.loop-area in
    let view = c.args.rows.now in
    let ring = c.args.ring.now in
    let split = c.split_block.ensures in
    let next = c.in_ok-run.ensures in
    let below : 32 * l.area-index < length ring = omega (arith, c.loop-area-test.true, c.boxes-area-items.ensures.count) in
    let parted : l.left.now ≡ c.split_block.result.0.now ++ c.split_block.result.1.now = rw (split.block, split.behind) (sym (take-append-drop 32 l.left.now)) in
    record {
      sides = search (rules, next.sides, l.invariant.sides);
      edges = ring-block view c.args.flips.now.flips l.flips.flips c.add_block.new.flips.flips (ring_edges (map (device_point view) ring)) c.in-Some.first.now l.run.from c.in_ok-run.run'.from
          l.left.now c.split_block.result.0.now c.split_block.result.1.now parted next.from l.invariant.edges next.adds;
      valid = next.run;
      rest = omega (arith, ap length split.behind, length-drop 32 l.left.now, l.invariant.rest);
      here = block-next ring l.area-index l.run.from c.in_ok-run.run'.from l.left.now c.split_block.result.1.now below (l.invariant.here below)
          (rw split.block at next.from) split.behind;
    }

pub returns-in_default-clause-adds : goal.returns-in_default-clause-adds
returns-in_default-clause-adds c = adds-none c.args.rows.now c.args.flips.now.flips _ (none-of c.args.rows.now c.args.ring.now (sym (ap length c.as_slice.ensures) ∙ c.in_default.ensures.cases))

pub returns-clause-adds : goal.returns-clause-adds
returns-clause-adds c =
    let l = c.loop-area in
    let none : length l.left.now ≡ 0 = omega (arith, l.invariant.rest, c.loop-area-test.false, c.boxes-area-items.ensures.count) in
    ring-none c.args.rows.now c.args.flips.now.flips l.flips.flips c.go_on.new.flips.flips (ring_edges (map (device_point c.args.rows.now) c.args.ring.now)) c.in-Some.first.now l.run.from l.left.now
    (empty-of l.left.now none) l.invariant.edges c.in_ok-go_on.ensures.edge
