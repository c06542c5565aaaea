use Rattle.std.proofs.Common.{◌≡◌, ◌+◌, ◌^◌, ◌<◌, ℕ, false, Some, sym, arith}
use Rattle.std.proofs.lemmas.Bool.{and_left}
use lib.IntN.{pos}
use Rattle.scanfill.proofs.Words.{word}
use Rattle.scanfill.specs.Runs.{has_column}
use Rattle.strokes.proofs.Marking.{no-column}
use Rattle.strokes.specs.Square.{is_beside}
use Rattle.canvas.proofs.Filling.{filled-nothing, filled-same}
use Rattle.canvas.proofs.Boxing.{filled-square, is_in_box}
use Rattle.canvas.proofs.boxes.fill_pixel.Goals as goal

pub returns : goal.returns
returns c =
    let at = c.args.pixel in
    let columns = c.single_column-columns.result in
    let one : columns.from + 1 ≡ columns.to = omega (arith, c.single_column-columns.ensures.single, c.if-columns.false) in
    let across : (i : ℕ) → i < c.args.canvas.now.width → has_column (record { from = columns.from; to = columns.from + 1 }) i ≡ is_beside 1 at.i (pos i) = λ i h.
    rw one (rw (c.i.ensures.value, word (2 ^ 44) at.i (omega arith) c.i.ensures.limits.column) at (c.single_column-columns.ensures.all i (omega (arith, h, c.pixels.ensures.value, c.width.ensures.value)))) in
    let down : (j : ℕ) → j < c.args.canvas.now.height → has_column c.single_column-rows.result j ≡ is_beside 1 at.j (pos j) = λ j h.
    rw (c.j.ensures.value, word (2 ^ 44) at.j (omega arith) c.j.ensures.limits.row) at (c.single_column-rows.ensures.all j (omega (arith, h, c.pixels-2.ensures.value, c.height.ensures))) in
    filled-square (record { pixel = at; size = 1 }) (record { from = columns.from; to = columns.from + 1 }) c.single_column-rows.result (λ i j. Some c.args.colour) c.args.canvas.now c.fill_column.new.self
    c.width.ensures.area across down c.fill_column.ensures

pub returns-then-columns : goal.returns-then-columns
returns-then-columns c =
    let at = c.args.pixel in
    let columns = c.single_column-columns.result in
    let rows = c.single_column-rows.result in
    let across : (i : ℕ) → i < c.args.canvas.now.width → has_column columns i ≡ is_beside 1 at.i (pos i) = λ i h.
    rw (c.i.ensures.value, word (2 ^ 44) at.i (omega arith) c.i.ensures.limits.column) at (c.single_column-columns.ensures.all i (omega (arith, h, c.pixels.ensures.value, c.width.ensures.value))) in
    let down : (j : ℕ) → j < c.args.canvas.now.height → has_column rows j ≡ is_beside 1 at.j (pos j) = λ j h.
    rw (c.j.ensures.value, word (2 ^ 44) at.j (omega arith) c.j.ensures.limits.row) at (c.single_column-rows.ensures.all j (omega (arith, h, c.pixels-2.ensures.value, c.height.ensures))) in
    let none : (i : ℕ) → has_column columns i ≡ false = λ i. no-column columns i c.if-columns.true in
    filled-square (record { pixel = at; size = 1 }) columns rows (λ i j. Some c.args.colour) c.args.canvas.now c.args.canvas.now c.width.ensures.area across down
    (filled-same (λ i j. false) (is_in_box columns rows) (λ i j. Some c.args.colour) c.args.canvas.now c.args.canvas.now
    (λ i j. sym (and_left (has_column columns i) (has_column rows j) (none i))) (filled-nothing (λ i j. Some c.args.colour) c.args.canvas.now))
