use Rattle.std.proofs.Common.{◌≡◌, ◌∙◌, ◌+◌, List, [], drop, map, refl, sym, ap, rules}
use Rattle.std.proofs.Math.ListN.{drop_of_length-le}
use Rattle.geom.specs.World.{Place}
use Rattle.viewport.specs.View.{device_point}
use Rattle.vertices.specs.Chain.{chain_edges, chain_end}
use Rattle.vertices.proofs.Blocks.{rest-next}
use Rattle.fills.proofs.Flipping.{left-all}
use Rattle.fills.proofs.RingBlocks.{chain-next, chain-none, step-within}
use Rattle.fills.proofs.ring_flips.add_vertices.Goals as goal
use Rattle.fills.proofs.ring_flips.add_vertices.Goals.{then-has, else-has+in_ok-run}

pub loop-to-init : goal.loop-to-init
loop-to-init c = record {
  sides = refl;
  end = refl;
  left = left-all c.args.rows.now c.args.flips.now.flips _ _ refl;
  valid = c.requires.run;
}

pub loop-to-preserved : goal.loop-to-preserved
loop-to-preserved c =
    let next = rest-next c.args.block.now c.loop-to.to-index c.to-item.result c.loop-to-test.true c.to-item.is in
    let l = c.loop-to in
    let view = c.args.rows.now in
    let whole = chain_edges (device_point view c.args.run.from) (map (device_point view) c.args.block.now) in
    let rest = drop l.to-index c.args.block.now in
    let more = drop (l.to-index + 1) c.args.block.now in
    let end = sym (ap (λ (ps : List Place). chain_end l.run.from ps) next) ∙ l.invariant.end in
    elim c.if-has.branch [
      | then-has w ↦
          let has = rw c.y.ensures at (sym c.has.ensures ∙ w.if-has.true) in
          let step = step-within view l.run c.to-item.result l.flips.flips l.invariant.valid has in
          rw (w.flips-is, w.run-is) (record {
            sides = l.invariant.sides;
            end = end;
            left = chain-next view c.args.flips.now.flips l.flips.flips l.flips.flips whole l.run.from c.to-item.result rest more next l.invariant.left step.0;
            valid = step.1;
          })
      | else-has+in_ok-run w ↦
          let left = chain-next view c.args.flips.now.flips l.flips.flips w.go_on.new.flips.flips whole l.run.from c.to-item.result rest more next l.invariant.left w.in_ok-run.ensures.edge in
          rw (w.flips-is, w.run-is) (record {
            sides = search (rules, w.in_ok-run.ensures.sides, l.invariant.sides);
            end = rw w.in_ok-run.ensures.from end;
            left = rw w.in_ok-run.ensures.from left;
            valid = w.in_ok-run.ensures.run;
          })
    ]

pub returns-clause-from : goal.returns-clause-from
returns-clause-from c =
    let none : drop c.loop-to.to-index c.args.block.now ≡ [] = drop_of_length-le c.args.block.now c.loop-to-test.false in
    sym (ap (λ (ps : List Place). chain_end c.loop-to.run.from ps) none) ∙ c.loop-to.invariant.end

pub returns-clause-adds : goal.returns-clause-adds
returns-clause-adds c =
    let view = c.args.rows.now in
    chain-none view c.args.flips.now.flips c.loop-to.flips.flips (chain_edges (device_point view c.args.run.from) (map (device_point view) c.args.block.now))
    c.loop-to.run.from (drop c.loop-to.to-index c.args.block.now) (drop_of_length-le c.args.block.now c.loop-to-test.false) c.loop-to.invariant.left
