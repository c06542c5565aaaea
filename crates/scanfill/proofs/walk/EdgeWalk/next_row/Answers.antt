use Rattle.std.proofs.Common.{◌∙◌, ap, arith}
use Rattle.clip.proofs.Sides.{crosses-rise}
use Rattle.geom.specs.Device.{centre}
use lib.IntN.{pos}
use Rattle.scanfill.proofs.Sizes.{sizes-at}
use Rattle.scanfill.proofs.Steps.{next_crossing-at}
use Rattle.scanfill.specs.Walk.{WalkValue, next_crossing, crossing_at}
use Rattle.scanfill.proofs.walk.EdgeWalk.next_row.Goals as goal

pub next-self-inside-requires : goal.next-self-inside-requires
next-self-inside-requires c =
    let w = c.self.inside in
    let i = c.self.invariant in
    rw (i.at, i.goes) (sizes-at w.edge w.row i.device (i.crosses.each w.row (omega arith) (omega arith)))

pub invariant_of-self : goal.invariant_of-self
invariant_of-self c =
    let w = c.self.inside in
    let i = c.self.invariant in
    let some = crosses-rise w.edge (centre (pos w.row)) (i.crosses.each w.row (omega arith) (omega arith)) in
    record {
      device = i.device;
      some = omega (arith, c.requires, ap (λ (v : WalkValue). v.row) c.self.view_is, ap (λ (v : WalkValue). v.end) c.self.view_is);
      below = i.below;
      crosses = record { each = λ j from past. i.crosses.each j (omega arith) past };
      at = c.next-self-inside.ensures ∙ (ap (λ p. next_crossing p w.slope) i.at ∙ (ap (λ s. next_crossing (crossing_at w.edge w.row) s) i.goes ∙ next_crossing-at w.edge w.row some));
      goes = i.goes;
    }
