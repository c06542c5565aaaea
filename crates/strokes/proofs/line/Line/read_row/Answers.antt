use Rattle.std.proofs.Common.{◌≡◌, ◌∙◌, ℕ, false, length, replicate, ap, arith}
use Rattle.std.proofs.lemmas.List.{length-replicate}
use Rattle.std.proofs.lemmas.Result.{on_ok_weaker}
use Rattle.std.specs.List.{list_any}
use lib.IntN.{pos}
use Rattle.scanfill.proofs.Readings.{runs-same}
use Rattle.strokes.specs.Columns.{is_marked}
use Rattle.strokes.specs.Line.{LineValue, covers_centre, covers_pixel}
use Rattle.strokes.specs.Square.{SquareValue, covers_square}
use Rattle.strokes.proofs.Marking.{marked-all}
use Rattle.strokes.proofs.line.Line.read_row.Goals as goal

pub returns : goal.returns
returns c =
    let s = c.self.inside in
    let n = c.args.width in
    let j = c.args.j in
    let line : LineValue = record { segments = s.segments.items; squares = s.squares.items } in
    let blank : c.in_ok-marks.marks ≡ replicate n false = c.in_ok-marks.ensures in
    let wide : length c.in_ok-marks.marks ≡ n = ap length blank ∙ length-replicate n false in
    let same : length c.mark_squares.new.marks ≡ n = c.mark_squares.ensures.columns ∙ (c.mark_segments.ensures.columns ∙ wide) in
    rw (← c.self.view_is) (on_ok_weaker c.read.result (λ runs. runs-same
    (is_marked c.mark_squares.new.marks) (λ (i : ℕ). covers_pixel line (pos i) (pos c.args.j)) 0 n c.read.new.out
    (λ i h. marked-all n i
    (list_any (covers_centre (pos i) (pos j)) s.segments.items)
    (list_any (λ (q : SquareValue). covers_square q (pos i) (pos j)) s.squares.items)
    c.in_ok-marks.marks c.mark_segments.new.marks c.mark_squares.new.marks h blank
    (rw c.deref.ensures.value at (c.mark_segments.ensures.all i (omega (arith, h, c.pixels-columns.ensures.value))))
    (rw c.deref-2.ensures.value at (c.mark_squares.ensures.all i (omega (arith, h, c.pixels-columns.ensures.value)))))
    (rw same at runs)) c.read.ensures)
