use Rattle.std.proofs.Common.{◌≡◌, ◌∙◌, ◌∷◌, sym, ap, arith}
use Rattle.std.proofs.lemmas.Result.{on_ok_weaker}
use Rattle.clip.specs.EdgeClass.{first_row}
use Rattle.scanfill.specs.Flips.{FlipsValue}
use Rattle.viewport.specs.View.{device_point}
use Rattle.fills.specs.Flipped.{AddsEdge}
use Rattle.fills.proofs.RingBlocks.{ring-whole}
use Rattle.fills.proofs.ring_flips.add_small.Goals as goal

pub add_edge-requires-clause-from : goal.add_edge-requires-clause-from
add_edge-requires-clause-from c =
    let height : c.add_few.new.flips.height ≡ c.args.rows.now.height = ap (λ (f : FlipsValue). f.height) c.in_ok-end.ensures.sides ∙ c.requires.height in
    c.in_ok-end.ensures.corner.row ∙ ap (first_row c.in_ok-end.end.at.y) (sym height)

pub add_edge-requires-clause-to : goal.add_edge-requires-clause-to
add_edge-requires-clause-to c =
    let height : c.add_few.new.flips.height ≡ c.args.rows.now.height = ap (λ (f : FlipsValue). f.height) c.in_ok-end.ensures.sides ∙ c.requires.height in
    c.corner-start.ensures.corner.row ∙ ap (first_row c.corner-start.result.at.y) (sym height)

pub returns-clause-adds : goal.returns-clause-adds
returns-clause-adds c = on_ok_weaker c.add_edge.result
    (λ edge.
    let view = c.args.rows.now in
    let first = c.in-Some.first.now in
    let end = c.in_ok-end.end in
    let whole : c.args.ring.now ≡ first ∷ c.in-Some.rest.now = c.in-Some.ensures.cases.0 in
    let here : c.corner-start.result.at ≡ device_point view first = c.corner-start.ensures.corner.at ∙ ap (device_point view) c.corner-start.ensures.from in
    let width : c.add_few.new.flips.width ≡ view.width = ap (λ (f : FlipsValue). f.width) c.in_ok-end.ensures.sides ∙ c.requires.width in
    let height : c.add_few.new.flips.height ≡ view.height = ap (λ (f : FlipsValue). f.height) c.in_ok-end.ensures.sides ∙ c.requires.height in
    let last : AddsEdge view c.add_few.new.flips.flips end.from first c.add_edge.new.flips.flips = λ i j column below.
    rw (c.in_ok-end.ensures.corner.at, here) at (edge i j (omega (arith, column, width)) (omega (arith, below, height))) in
    ring-whole view c.args.flips.now.flips c.add_few.new.flips.flips c.add_edge.new.flips.flips c.args.ring.now first end.from c.in-Some.rest.now whole
    (rw c.corner-start.ensures.from at c.in_ok-end.ensures.from) (rw c.corner-start.ensures.from at c.in_ok-end.ensures.adds) last)
    c.add_edge.ensures.edge
