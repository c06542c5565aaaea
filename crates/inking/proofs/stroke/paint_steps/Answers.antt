use Rattle.std.proofs.Common.{◌≡◌, ◌∙◌, ◌+◌, [], List, ap, drop, false, refl, sym, true}
use Rattle.std.proofs.Math.ListN.{drop_of_length-le}
use Rattle.geom.specs.World.{Place}
use Rattle.vertices.specs.Chain.{chain_end}
use Rattle.inking.specs.Stroked.{chain_covers, has_place}
use Rattle.inking.proofs.Stroking.{trail-by, way-next, way-open}
use Rattle.vertices.proofs.Blocks.{rest-next}
use Rattle.inking.proofs.stroke.paint_steps.Goals as goal
use Rattle.inking.proofs.stroke.paint_steps.Goals.{then-has_place, else-has_place+in_ok-trail}

pub loop-to-init : goal.loop-to-init
loop-to-init c = record {
  way = record { sides = c.requires.sides; goes = λ new g. g };
  trail = c.requires.trail;
  end = refl;
}

pub go_on-requires-clause-sides : goal.go_on-requires-clause-sides
go_on-requires-clause-sides c = c.loop-to.invariant.way.sides

pub loop-to-preserved : goal.loop-to-preserved
loop-to-preserved c =
    let l = c.loop-to in
    let pen = c.args.pen.now in
    let rest = drop l.to-index c.args.block.now in
    let more = drop (l.to-index + 1) c.args.block.now in
    let next = rest-next c.args.block.now l.to-index c.to-item.result c.loop-to-test.true c.to-item.is in
    let whole = chain_covers pen c.args.trail.from c.args.block.now in
    let end = sym (ap (λ (ps : List Place). chain_end l.trail.from ps) next) ∙ l.invariant.end in
    elim c.if-has_place.branch [
      | then-has_place w ↦
          let has : has_place l.trail.quiet c.to-item.result ≡ true = sym c.has_place.ensures ∙ w.if-has_place.true in
          rw (w.canvas-is, w.trail-is) (record {
            way = way-next false pen c.args.trail.from l.trail.from c.to-item.result rest more whole c.args.canvas.now l.canvas l.canvas next
                l.invariant.way (l.invariant.trail.quiet l.trail.from c.to-item.result l.invariant.trail.on has);
            trail = trail-by pen l.canvas l.trail c.to-item.result has l.invariant.trail;
            end = end;
          })
      | else-has_place+in_ok-trail w ↦
          rw (w.canvas-is, w.trail-is) (record {
            way = rw w.in_ok-trail.ensures.from (way-next false pen c.args.trail.from l.trail.from c.to-item.result rest more whole c.args.canvas.now
                l.canvas w.go_on.new.canvas next l.invariant.way w.in_ok-trail.ensures.filled);
            trail = w.in_ok-trail.ensures.trail;
            end = rw w.in_ok-trail.ensures.from end;
          })
    ]

pub returns-clause-from : goal.returns-clause-from
returns-clause-from c =
    let none : drop c.loop-to.to-index c.args.block.now ≡ [] = drop_of_length-le c.args.block.now c.loop-to-test.false in
    sym (ap (λ (ps : List Place). chain_end c.loop-to.trail.from ps) none) ∙ c.loop-to.invariant.end

pub returns-clause-filled : goal.returns-clause-filled
returns-clause-filled c =
    way-open false c.args.pen.now c.args.trail.from c.loop-to.trail.from (drop c.loop-to.to-index c.args.block.now) (chain_covers c.args.pen.now c.args.trail.from c.args.block.now)
    c.args.canvas.now c.loop-to.canvas refl (drop_of_length-le c.args.block.now c.loop-to-test.false) c.loop-to.invariant.way
