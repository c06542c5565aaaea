use Rattle.std.proofs.Common.{◌≡◌, ◌∙◌, ◌+◌, ℕ, [], List, Option, Some, ap, drop, false, refl, sym}
use Rattle.std.proofs.Math.ListN.{drop_of_length-le}
use Rattle.geom.specs.World.{Place}
use Rattle.mapdefs.specs.declared.colour.Rgb.{Rgb}
use Rattle.viewport.specs.View.{ViewValue, device_point}
use Rattle.vertices.specs.Chain.{chain_end}
use Rattle.canvas.specs.Painted.{IsFilled}
use Rattle.inking.specs.Stroked.{chain_covers, pen_covers}
use Rattle.inking.proofs.Stroking.{filled-area, vertex-after, way-next, way-open}
use Rattle.vertices.proofs.Blocks.{rest-next}
use Rattle.inking.proofs.stroke.paint_few.Goals as goal

pub loop-to-init : goal.loop-to-init
loop-to-init c = record {
  way = record { sides = c.requires.sides; goes = λ new g. g };
  tip = c.requires.tip;
  end = refl;
}

pub loop-to-preserved : goal.loop-to-preserved
loop-to-preserved c =
    let l = c.loop-to in
    let pen = c.args.pen.now in
    let to : Place = c.to-item.result in
    let colour : ℕ → ℕ → Option Rgb = λ i j. Some pen.colour in
    let next = rest-next c.args.rest.now l.to-index to c.loop-to-test.true c.to-item.is in
    let here : c.device-at.result ≡ device_point pen.view to = c.device-at.ensures ∙ ap (λ (view : ViewValue). device_point view to) c.projection.ensures in
    let filled : IsFilled (pen_covers pen l.tip.from to) colour l.canvas c.paint_step.new.canvas = rw (l.invariant.tip.at, here) at c.in_ok-paint_step.ensures in
    let area = filled-area (pen_covers pen l.tip.from to) colour l.canvas c.paint_step.new.canvas filled l.invariant.tip.area in
    record {
      way = way-next false pen c.args.tip.from l.tip.from to (drop l.to-index c.args.rest.now) (drop (l.to-index + 1) c.args.rest.now)
          (chain_covers pen c.args.tip.from c.args.rest.now) c.args.canvas.now l.canvas c.paint_step.new.canvas next l.invariant.way filled;
      tip = record {
        at = here;
        area = area;
        already = vertex-after pen l.tip.at c.device-at.result l.canvas c.paint_step.new.canvas area c.in_ok-paint_step.ensures;
      };
      end = sym (ap (λ (ps : List Place). chain_end l.tip.from ps) next) ∙ l.invariant.end;
    }

pub returns-clause-from : goal.returns-clause-from
returns-clause-from c =
    let none : drop c.loop-to.to-index c.args.rest.now ≡ [] = drop_of_length-le c.args.rest.now c.loop-to-test.false in
    sym (ap (λ (ps : List Place). chain_end c.loop-to.tip.from ps) none) ∙ c.loop-to.invariant.end

pub returns-clause-filled : goal.returns-clause-filled
returns-clause-filled c =
    way-open false c.args.pen.now c.args.tip.from c.loop-to.tip.from (drop c.loop-to.to-index c.args.rest.now) (chain_covers c.args.pen.now c.args.tip.from c.args.rest.now)
    c.args.canvas.now c.loop-to.canvas refl (drop_of_length-le c.args.rest.now c.loop-to-test.false) c.loop-to.invariant.way
