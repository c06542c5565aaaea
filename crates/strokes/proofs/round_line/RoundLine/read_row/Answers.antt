use Rattle.std.proofs.Common.{◌≡◌, ◌∙◌, ℕ, false, length, replicate, ap, arith}
use Rattle.std.proofs.lemmas.List.{length-replicate}
use Rattle.std.proofs.lemmas.Result.{on_ok_weaker}
use Rattle.std.specs.List.{list_any}
use lib.IntN.{pos}
use Rattle.scanfill.proofs.Readings.{runs-same}
use Rattle.strokes.specs.Columns.{is_marked}
use Rattle.strokes.specs.Round.{covers_pixel, has_centre}
use Rattle.strokes.proofs.Marking.{marked-one}
use Rattle.strokes.proofs.round_line.RoundLine.read_row.Goals as goal

pub returns : goal.returns
returns c =
    let s = c.self.inside in
    let n = c.args.width in
    let j = c.args.j in
    let blank : c.in_ok-marks.marks ≡ replicate n false = c.in_ok-marks.ensures in
    let wide : length c.in_ok-marks.marks ≡ n = ap length blank ∙ length-replicate n false in
    let same : length c.mark_segments.new.marks ≡ n = c.mark_segments.ensures.columns ∙ wide in
    rw (← c.self.view_is) (on_ok_weaker c.read.result (λ runs. runs-same
    (is_marked c.mark_segments.new.marks) (λ (i : ℕ). covers_pixel s.segments.items (pos i) (pos c.args.j)) 0 n c.read.new.out
    (λ i h. marked-one n i (list_any (has_centre (pos i) (pos j)) s.segments.items) c.in_ok-marks.marks c.mark_segments.new.marks h blank
    (rw c.deref.ensures.value at (c.mark_segments.ensures.all i (omega (arith, h, c.pixels.ensures.value)))))
    (rw same at runs)) c.read.ensures)
