use Rattle.std.proofs.Common.{◌++◌, ap, sym}
use Rattle.geom.proofs.Rings.{ring_edges-closing}
use Rattle.scanfill.proofs.polygon.push_edges.Goals as goal

pub loop-to-init : goal.loop-to-init
loop-to-init c =
    ap (λ more. c.args.edges.now.items ++ more) (sym (ring_edges-closing c.args.ring.now c.in-Some.first.now c.in-Some.rest.now c.in-Some.ensures.cases.0))
