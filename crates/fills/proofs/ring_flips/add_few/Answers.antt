use Rattle.std.proofs.Common.{◌≡◌, ◌∙◌, ◌+◌, List, [], drop, map, refl, sym, ap, arith, rules}
use Rattle.std.proofs.Math.ListN.{drop_of_length-le}
use Rattle.geom.specs.World.{Place}
use Rattle.clip.specs.EdgeClass.{first_row}
use Rattle.scanfill.specs.Flips.{FlipsValue}
use Rattle.viewport.specs.View.{device_point}
use Rattle.vertices.specs.Chain.{chain_edges, chain_end}
use Rattle.fills.specs.Flipped.{AddsEdge}
use Rattle.vertices.proofs.Blocks.{rest-next}
use Rattle.fills.proofs.Flipping.{left-all}
use Rattle.fills.proofs.RingBlocks.{chain-next, chain-none}
use Rattle.fills.proofs.ring_flips.add_few.Goals as goal

pub loop-to-init : goal.loop-to-init
loop-to-init c = record {
  sides = refl;
  end = refl;
  left = left-all c.args.rows.now c.args.flips.now.flips _ _ refl;
  corner = c.requires.corner;
}

pub add_edge-requires-clause-from : goal.add_edge-requires-clause-from
add_edge-requires-clause-from c =
    let height : c.loop-to.flips.height ≡ c.args.rows.now.height = ap (λ (f : FlipsValue). f.height) c.loop-to.invariant.sides ∙ c.requires.height in
    c.loop-to.invariant.corner.row ∙ ap (first_row c.loop-to.corner.at.y) (sym height)

pub add_edge-requires-clause-to : goal.add_edge-requires-clause-to
add_edge-requires-clause-to c =
    let height : c.loop-to.flips.height ≡ c.args.rows.now.height = ap (λ (f : FlipsValue). f.height) c.loop-to.invariant.sides ∙ c.requires.height in
    c.corner-next.ensures.corner.row ∙ ap (first_row c.corner-next.result.at.y) (sym height)

pub loop-to-preserved : goal.loop-to-preserved
loop-to-preserved c =
    let l = c.loop-to in
    let view = c.args.rows.now in
    let to : Place = c.to-item.result in
    let next = rest-next c.args.rest.now l.to-index to c.loop-to-test.true c.to-item.is in
    let here : c.corner-next.result.at ≡ device_point view to = c.corner-next.ensures.corner.at ∙ ap (device_point view) c.corner-next.ensures.from in
    let width : l.flips.width ≡ view.width = ap (λ (f : FlipsValue). f.width) l.invariant.sides ∙ c.requires.width in
    let height : l.flips.height ≡ view.height = ap (λ (f : FlipsValue). f.height) l.invariant.sides ∙ c.requires.height in
    let adds : AddsEdge view l.flips.flips l.corner.from to c.add_edge.new.flips.flips = λ i j column below.
    rw (l.invariant.corner.at, here) at (c.in_ok-add_edge.ensures.edge i j (omega (arith, column, width)) (omega (arith, below, height))) in
    let whole = chain_edges (device_point view c.args.start.now.from) (map (device_point view) c.args.rest.now) in
    rw c.corner-next.ensures.from (record {
      sides = search (rules, c.in_ok-add_edge.ensures.sides, l.invariant.sides);
      end = sym (ap (λ (ps : List Place). chain_end l.corner.from ps) next) ∙ l.invariant.end;
      left = chain-next view c.args.flips.now.flips l.flips.flips c.add_edge.new.flips.flips whole l.corner.from to (drop l.to-index c.args.rest.now) (drop (l.to-index + 1) c.args.rest.now) next
          l.invariant.left adds;
      corner = record { at = here; row = c.corner-next.ensures.corner.row };
    })

pub returns-clause-from : goal.returns-clause-from
returns-clause-from c =
    let none : drop c.loop-to.to-index c.args.rest.now ≡ [] = drop_of_length-le c.args.rest.now c.loop-to-test.false in
    sym (ap (λ (ps : List Place). chain_end c.loop-to.corner.from ps) none) ∙ c.loop-to.invariant.end

pub returns-clause-adds : goal.returns-clause-adds
returns-clause-adds c =
    let view = c.args.rows.now in
    chain-none view c.args.flips.now.flips c.loop-to.flips.flips (chain_edges (device_point view c.args.start.now.from) (map (device_point view) c.args.rest.now))
    c.loop-to.corner.from (drop c.loop-to.to-index c.args.rest.now) (drop_of_length-le c.args.rest.now c.loop-to-test.false) c.loop-to.invariant.left
