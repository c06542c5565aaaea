use Rattle.std.proofs.Common.{◌∙◌, ◌+◌, ◌∷◌, List, ap, drop, false, map, refl, sym}
use Rattle.std.proofs.Math.ListN.{drop_of_length-le}
use Rattle.geom.specs.Device.{DevicePoint}
use Rattle.geom.specs.World.{Place}
use Rattle.viewport.specs.View.{device_point}
use Rattle.inking.specs.Rounded.{round_chain_covers}
use Rattle.inking.proofs.RoundBlocks.{chain-begin}
use Rattle.inking.proofs.RoundStroking.{round-next, round-open}
use Rattle.vertices.proofs.Blocks.{rest-next}
use Rattle.inking.proofs.round_stroke.paint_round_chain.Goals as goal

pub loop-place-init : goal.loop-place-init
loop-place-init c = record {
  way = chain-begin c.args.pen.now c.args.from c.device-at.result c.args.rest.now c.args.canvas.now c.device-at.ensures;
  tip = λ h. absurd (cc);
}

pub loop-place-preserved : goal.loop-place-preserved
loop-place-preserved c =
    let l = c.loop-place in
    let pen = c.args.pen.now in
    let at : Place → DevicePoint = device_point pen.view in
    let rest = c.args.rest.now in
    let next = rest-next rest l.place-index c.place-item.result c.loop-place-test.true c.place-item.is in
    let gone = c.in_ok-tip.ensures in
    record {
      way = rw gone.at (round-next false pen (at c.args.from) l.tip.at c.device-to.result (map at (drop l.place-index rest)) (map at (drop (l.place-index + 1) rest))
          (round_chain_covers pen c.args.from rest) c.args.canvas.now l.canvas c.paint_next.new.canvas
          (ap (λ (ps : List Place). map at ps) next ∙ ap (λ (p : DevicePoint). p ∷ map at (drop (l.place-index + 1) rest)) (sym c.device-to.ensures))
          l.invariant.way gone.filled);
      tip = gone.tip;
    }

pub returns-clause-filled : goal.returns-clause-filled
returns-clause-filled c =
    let l = c.loop-place in
    let pen = c.args.pen.now in
    let at : Place → DevicePoint = device_point pen.view in
    round-open false pen (at c.args.from) l.tip.at (map at (drop l.place-index c.args.rest.now)) (round_chain_covers pen c.args.from c.args.rest.now)
    c.args.canvas.now l.canvas refl (ap (λ (ps : List Place). map at ps) (drop_of_length-le c.args.rest.now c.loop-place-test.false)) l.invariant.way
