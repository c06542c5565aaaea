use Rattle.std.proofs.Common.{◌<◌, length, arith}
use Rattle.std.proofs.lemmas.List.Elements.{All-tail}
use Rattle.compose.proofs.Mentions.{drawn-to-first, drawn-to-last, drawn-to-next}
use Rattle.compose.proofs.paint.draw_chosen.Goals as goal

pub loop-index-init : goal.loop-index-init
loop-index-init g c = record {
  drawn = drawn-to-first c.args.scene.now c.args.chosen.now c.args.drawing.now;
  layers = c.requires.layers;
}

pub draw_mention-requires-clause-index : goal.draw_mention-requires-clause-index
draw_mention-requires-clause-index g c =
    let layers = rw c.in-Some.ensures.cases.0 at c.loop-index.invariant.layers in
    layers 0 0 (omega arith)

pub loop-index-preserved : goal.loop-index-preserved
loop-index-preserved g c =
    let scene = c.args.scene.now in
    let index = c.in-Some.index.now in
    let after = c.in-Some.after.now in
    let is = c.in-Some.ensures.cases.0 in
    record {
      drawn = drawn-to-next scene c.args.chosen.now index after c.args.drawing.now c.loop-index.drawing c.draw_mention.new.drawing
          (rw is at c.loop-index.invariant.drawn) c.in_ok-draw_mention.ensures;
      layers = All-tail (λ k. k < length scene.map.layers) index after (rw is at c.loop-index.invariant.layers);
    }

pub returns : goal.returns
returns g c =
    drawn-to-last c.args.scene.now c.args.chosen.now c.loop-index.rest.now c.args.drawing.now c.loop-index.drawing c.in_default.ensures.cases c.loop-index.invariant.drawn
