use Rattle.std.proofs.Common.{◌≡◌, ◌∙◌, ◌++◌, List, [], ◌∷◌, ap, map, sym}
use Rattle.std.proofs.lemmas.List.{append_assoc}
use Rattle.geom.specs.Edge.{EdgeEnds}
use Rattle.strokes.specs.Line.{segment_along}
use Rattle.strokes.specs.Round.{point_edge}
use Rattle.strokes.specs.Segment.{SegmentValue}
use Rattle.strokes.proofs.Parts.{following, round_edges-following}
use Rattle.strokes.proofs.round_line.push_segments.Goals as goal

pub loop-to-init : goal.loop-to-init
loop-to-init c =
    let first = c.in-Some.first.now in
    let rest = c.in-Some.rest.now in
    let old : List SegmentValue = c.args.segments.now.items in
    let more : List SegmentValue = map (segment_along c.args.width) (following c.args.closed first first rest) in
    let pushed : c.push.new.self.items ≡ old ++ (segment_along c.args.width (point_edge first) ∷ []) =
    c.in_ok-push.ensures.items ∙ ap (λ (s : SegmentValue). old ++ (s ∷ [])) c.new.ensures in
    ap (λ (xs : List SegmentValue). xs ++ more) pushed
    ∙ (append_assoc old (segment_along c.args.width (point_edge first) ∷ []) more
    ∙ ap (λ (edges : List EdgeEnds). old ++ map (segment_along c.args.width) edges)
    (sym (round_edges-following c.args.closed c.args.part.now first rest c.in-Some.ensures.cases.0)))
