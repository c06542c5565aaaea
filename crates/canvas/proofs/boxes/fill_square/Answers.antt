use Rattle.std.proofs.Common.{◌≡◌, ◌<◌, ℕ, Some, arith}
use lib.IntN.{pos}
use Rattle.scanfill.specs.Runs.{has_column}
use Rattle.strokes.specs.Square.{is_beside}
use Rattle.canvas.proofs.Boxing.{filled-square}
use Rattle.canvas.proofs.boxes.fill_square.Goals as goal

pub returns : goal.returns
returns c =
    let s = c.args.square in
    let across : (i : ℕ) → i < c.args.canvas.now.width → has_column c.across-columns.result i ≡ is_beside s.size s.pixel.i (pos i) = λ i h.
    c.across-columns.ensures.all i (omega (arith, h, c.pixels.ensures.value, c.width.ensures.value)) in
    let down : (j : ℕ) → j < c.args.canvas.now.height → has_column c.down-rows.result j ≡ is_beside s.size s.pixel.j (pos j) = λ j h.
    c.down-rows.ensures.all j (omega (arith, h, c.pixels-2.ensures.value, c.height.ensures)) in
    filled-square s c.across-columns.result c.down-rows.result (λ i j. Some c.args.colour) c.args.canvas.now c.fill_box.new.self c.width.ensures.area across down c.fill_box.ensures
