use Rattle.std.proofs.Common.{◌≡◌, ◌∙◌, ◌^◌, false, subst, sym, arith}
use lib.IntN.{pos}
use Rattle.geom.specs.Device.{centre, pixel_centre}
use Rattle.geom.specs.Edge.{EdgeEnds}
use Rattle.scanfill.proofs.Words.{word}
use Rattle.scanfill.specs.Runs.{has_column}
use Rattle.strokes.specs.Round.{covers_round, is_about}
use Rattle.strokes.specs.Segment.{SegmentValue}
use Rattle.strokes.proofs.Marking.{no-column}
use Rattle.strokes.proofs.RoundBox.{not-across, not-down}
use Rattle.strokes.proofs.round_step.RoundStep.rows.Goals as goal

pub returns-then-columns-clause-none : goal.returns-then-columns-clause-none
returns-then-columns-clause-none c = λ i j column row out.
    let s = c.self.inside in
    let e : EdgeEnds = record { from = s.from; to = s.to } in
    let about : has_column c.centres_about-columns.result i ≡ is_about s.chords.now e.from.x e.to.x (centre (pos i)) = rw (
      c.x.ensures.value,
      word (2 ^ 47) s.from.x (omega arith) c.x.ensures.limits.across,
      c.x-2.ensures.value,
      word (2 ^ 47) s.to.x (omega arith) c.x-2.ensures.limits.across,
      c.width-reach.ensures.value,
    ) at (c.centres_about-columns.ensures.all i column) in
    let none = no-column c.centres_about-columns.result i (omega (arith, c.if-columns.true)) in
    subst (λ (v : SegmentValue). covers_round v.width v.edge (pixel_centre (pos i) (pos j)) ≡ false) c.self.view_is
    (not-across s.chords.now e (centre (pos i)) (centre (pos j)) (sym about ∙ none))

pub returns-then-rows-clause-none : goal.returns-then-rows-clause-none
returns-then-rows-clause-none c = λ i j column row out.
    let s = c.self.inside in
    let e : EdgeEnds = record { from = s.from; to = s.to } in
    let about : has_column c.centres_about-rows.result j ≡ is_about s.chords.now e.from.y e.to.y (centre (pos j)) = rw (
      c.y.ensures.value,
      word (2 ^ 47) s.from.y (omega arith) c.y.ensures.limits.down,
      c.y-2.ensures.value,
      word (2 ^ 47) s.to.y (omega arith) c.y-2.ensures.limits.down,
      c.width-reach.ensures.value,
    ) at (c.centres_about-rows.ensures.all j row) in
    subst (λ (v : SegmentValue). covers_round v.width v.edge (pixel_centre (pos i) (pos j)) ≡ false) c.self.view_is
    (not-down s.chords.now e (centre (pos i)) (centre (pos j)) (sym about ∙ out))

pub returns-clause-none : goal.returns-clause-none
returns-clause-none c = λ i j column row out.
    let s = c.self.inside in
    let e : EdgeEnds = record { from = s.from; to = s.to } in
    let about : has_column c.centres_about-rows.result j ≡ is_about s.chords.now e.from.y e.to.y (centre (pos j)) = rw (
      c.y.ensures.value,
      word (2 ^ 47) s.from.y (omega arith) c.y.ensures.limits.down,
      c.y-2.ensures.value,
      word (2 ^ 47) s.to.y (omega arith) c.y-2.ensures.limits.down,
      c.width-reach.ensures.value,
    ) at (c.centres_about-rows.ensures.all j row) in
    subst (λ (v : SegmentValue). covers_round v.width v.edge (pixel_centre (pos i) (pos j)) ≡ false) c.self.view_is
    (not-down s.chords.now e (centre (pos i)) (centre (pos j)) (sym about ∙ out))
