use Rattle.std.proofs.Common.{◌++◌, ap, map, sym}
use Rattle.strokes.specs.Line.{segment_along}
use Rattle.strokes.proofs.Parts.{edges_of-following}
use Rattle.strokes.proofs.line.push_segments.Goals as goal

pub loop-to-init : goal.loop-to-init
loop-to-init c =
    ap (λ more. c.args.segments.now.items ++ map (segment_along c.args.width) more)
    (sym (edges_of-following c.args.closed c.args.part.now c.in-Some.first.now c.in-Some.rest.now c.in-Some.ensures.cases.0))
