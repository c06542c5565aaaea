use Rattle.std.proofs.Common.{◌≡◌, ◌∙◌, ◌&&◌, ◌^◌, sym, ap, subst, arith}
use lib.IntN.{pos, ◌-ℤ◌, ◌*ℤ◌}
use Rattle.geom.specs.Device.{DevicePoint, pixel_centre}
use Rattle.geom.specs.Edge.{EdgeEnds}
use Rattle.scanfill.proofs.Words.{wide, word}
use Rattle.scanfill.specs.Runs.{has_column}
use Rattle.strokes.specs.Round.{aside, is_abreast, is_close, limit}
use Rattle.strokes.specs.Segment.{SegmentValue}
use Rattle.strokes.proofs.Rounded.{all-columns, aside-step, next-centre, root-test}
use Rattle.strokes.proofs.round.RoundSegment.beside_columns.Goals as goal

pub returns-clause-all : goal.returns-clause-all
returns-clause-all c = λ i less.
    let s = c.self.inside in
    let e : EdgeEnds = record { from = s.from; to = s.to } in
    let first = pixel_centre (pos 0) (pos c.args.row) in
    let p = pixel_centre (pos i) (pos c.args.row) in
    let fall = pos 16 *ℤ (e.to.y -ℤ e.from.y) in
    let step : c.step.result ≡ fall = rw (word (2 ^ 48) c.down.result (omega arith) c.down.ensures.range, c.down.ensures.value) at c.step.ensures.value in
    let side : c.aside.result ≡ aside e first = rw c.pixel_centre-first.ensures at c.aside.ensures.value in
    let abreast : has_column c.abreast_columns-abreast.result i ≡ is_abreast e p =
    subst (λ (q : DevicePoint). has_column c.abreast_columns-abreast.result i ≡ is_abreast e q) (next-centre i c.args.row)
    (rw (c.pixel_centre-first.ensures, all-columns c.args.end i less) at (c.abreast_columns-abreast.ensures.all i)) in
    let there : aside e first -ℤ pos i *ℤ fall ≡ aside e p = sym (aside-step e first i) ∙ ap (λ (q : DevicePoint). aside e q) (next-centre i c.args.row) in
    let close : has_column c.close_columns.result i ≡ (is_abreast e p && is_close s.width e p) = rw (
      wide (2 ^ 97) c.aside.result (omega arith) c.aside.ensures.range,
      word (2 ^ 52) c.step.result (omega arith) c.step.ensures.range,
      word (2 ^ 61) s.reach (omega arith) c.self.invariant.range,
      step,
      side,
      there,
      ← root-test (limit s.width e) s.reach (aside e p) c.self.invariant.root,
      abreast,
    ) at (c.close_columns.ensures.all i) in
    subst (λ (v : SegmentValue). has_column c.close_columns.result i ≡ (is_abreast v.edge p && is_close v.width v.edge p)) c.self.view_is close
