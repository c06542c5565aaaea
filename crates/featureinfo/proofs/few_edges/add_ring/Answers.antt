use Rattle.std.proofs.Common.{◌≡◌, ◌∙◌, ◌*◌, ◌<◌, List, [], ◌∷◌, ◌++◌, length, arith, map, refl, sym, ap}
use Rattle.std.proofs.lemmas.List.{append-nil, length-drop, take-append-drop}
use Rattle.geom.specs.Edge.{EdgeEnds}
use Rattle.geom.specs.EvenOdd.{edge_between, ring_edges}
use Rattle.geom.specs.World.{Place}
use Rattle.geom.proofs.Rings.{closing_edges, ring_edges-closing}
use Rattle.mapdefs.proofs.BlockBoxes.{block-has}
use Rattle.viewport.specs.View.{ViewValue, device_point}
use Rattle.vertices.proofs.Blocks.{block-next, empty-of}
use Rattle.featureinfo.proofs.FewEdges.{alike-same, left-last, ring-block}
use Rattle.featureinfo.proofs.few_edges.add_ring.Goals as goal

-- a ring without vertices has no edges
none-of : (view : ViewValue) (ring : List Place) → length ring ≡ 0 → ring_edges (map (device_point view) ring) ≡ []
none-of view [] e = refl
none-of view (p ∷ ring) e = absurd (omega arith)

pub loop-area-init : goal.loop-area-init
loop-area-init c =
    let near = c.args.near.now in
    let view = near.projection.now in
    let ring = c.args.ring.now in
    let whole : ring ≡ c.in-Some.first.now ∷ c.in-Some.rest.now = sym c.as_slice.ensures ∙ c.in-Some.ensures.cases.0 in
    record {
      covers = alike-same near.nearby _ _ (ap (λ (es : List EdgeEnds). c.args.edges.now.items ++ es)
          (sym (ring_edges-closing (map (device_point view) ring) (device_point view c.in-Some.first.now) (map (device_point view) c.in-Some.rest.now) (ap (map (device_point view)) whole))));
      rest = omega (arith, ap length whole);
      here = λ h. sym whole;
    }

pub add_block-requires : goal.add_block-requires
add_block-requires c =
    let l = c.loop-area in
    let boxes = c.boxes-area-items.ensures in
    let below : 32 * l.area-index < length c.args.ring.now = omega (arith, c.loop-area-test.true, boxes.count) in
    rw c.split_block.ensures.block (block-has c.args.ring.now c.boxes-area-items.result.now l.area-index c.area-item.result l.from l.left.now boxes c.loop-area-test.true c.area-item.is
    (l.invariant.here below))

pub loop-area-preserved : goal.loop-area-preserved
loop-area-preserved c =
    let l = c.loop-area in
    let near = c.args.near.now in
    let view = near.projection.now in
    let ring = c.args.ring.now in
    let split = c.split_block.ensures in
    let below : 32 * l.area-index < length ring = omega (arith, c.loop-area-test.true, c.boxes-area-items.ensures.count) in
    let parted : l.left.now ≡ c.split_block.result.0.now ++ c.split_block.result.1.now = rw (split.block, split.behind) (sym (take-append-drop 32 l.left.now)) in
    record {
      covers = rw c.last_of-from.ensures (ring-block near.nearby view l.edges.items c.add_block.new.edges.items _ c.in-Some.first.now l.from l.left.now c.split_block.result.0.now c.split_block.result.1.now parted
          l.invariant.covers c.in_ok-add_block.ensures);
      rest = omega (arith, ap length split.behind, length-drop 32 l.left.now, l.invariant.rest);
      here = block-next ring l.area-index l.from c.last_of-from.result l.left.now c.split_block.result.1.now below (l.invariant.here below)
          (rw split.block at c.last_of-from.ensures) split.behind;
    }

pub returns-in_default : goal.returns-in_default
returns-in_default c =
    let none = none-of c.args.near.now.projection.now c.args.ring.now (sym (ap length c.as_slice.ensures) ∙ c.in_default.ensures.cases) in
    alike-same c.args.near.now.nearby _ _ (sym (append-nil c.args.edges.now.items) ∙ ap (λ (es : List EdgeEnds). c.args.edges.now.items ++ es) (sym none))

pub returns : goal.returns
returns c =
    let l = c.loop-area in
    let near = c.args.near.now in
    let point : Place → _ = device_point near.projection.now in
    let none : length l.left.now ≡ 0 = omega (arith, l.invariant.rest, c.loop-area-test.false, c.boxes-area-items.ensures.count) in
    left-last near.nearby l.edges.items c.add_edge.new.edges.items _
    (closing_edges (point c.in-Some.first.now) (point l.from) (map point l.left.now))
    (edge_between (c.device-last.result, c.device.result) ∷ [])
    (ap (λ (ps : List Place). closing_edges (point c.in-Some.first.now) (point l.from) (map point ps)) (empty-of l.left.now none)
    ∙ rw (c.device-last.ensures, c.device.ensures) refl)
    l.invariant.covers c.in_ok-add_edge.ensures
