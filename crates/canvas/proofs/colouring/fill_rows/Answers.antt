use Rattle.std.proofs.Common.{◌≡◌, ◌∙◌, ℕ, ◌+◌, ◌*◌, ◌-◌, ◌≤◌, Some, length, refl, sym, arith}
use Rattle.std.proofs.Math.Nat.{mul-le-mul_right}
use Rattle.scanfill.specs.Runs.{has_column}
use Rattle.scanfill.specs.declared.span.Span.{Span}
use Rattle.canvas.proofs.Filling.{filled-row, part-wide}
use Rattle.canvas.proofs.Boxing.{box-all, box-none, box-row}
use Rattle.canvas.proofs.colouring.fill_rows.Goals as goal

pub loop-row-init : goal.loop-row-init
loop-row-init c = record {
  first = omega arith;
  filled = box-none (record { from = c.args.area.from; to = c.args.area.from + c.args.area.count }) c.args.area.rows (λ i j. Some c.args.colour) c.args.width c.args.area.rows.from c.args.pixels.now;
}

pub loop-row-preserved : goal.loop-row-preserved
loop-row-preserved c =
    let columns : Span = record { from = c.args.area.from; to = c.args.area.from + c.args.area.count } in
    let width : ℕ = c.args.width in
    let row : ℕ = c.loop-row.row in
    let at : ℕ = c.from.result * c.from-stride.result in
    let count : ℕ = at + c.from-stride.result - at in
    let start : at ≡ row * width = rw (c.from.ensures, c.from-stride.ensures) refl in
    let is : count ≡ width = omega (arith, c.from-stride.ensures) in
    let more : (row + 1) * width ≤ c.args.area.rows.to * width = mul-le-mul_right width (omega (arith, c.loop-row-test.true)) in
    let within : at + count ≤ length c.loop-row.pixels = omega (arith, more, start, is, c.requires.rows, c.loop-row.auto.pixels) in
    let wide : length c.fill_run.new.row ≡ count = part-wide at width count c.loop-row.pixels c.fill_run.new.row is within c.fill_run.auto.row ∙ sym is in
    let filled = filled-row (has_column columns) (λ i. Some c.args.colour) width row at count c.loop-row.pixels c.fill_run.new.row c.requires.some start is within wide c.fill_run.ensures in
    record {
      first = omega (arith, c.loop-row.invariant.first);
      filled = box-row columns c.args.area.rows (λ i j. Some c.args.colour) width c.args.area.rows.from row c.args.pixels.now c.loop-row.pixels _ refl c.loop-row.invariant.first c.loop-row-test.true
          c.loop-row.auto.pixels c.loop-row.invariant.filled filled;
    }

pub returns-clause-filled : goal.returns-clause-filled
returns-clause-filled c =
    box-all (record { from = c.args.area.from; to = c.args.area.from + c.args.area.count }) c.args.area.rows (λ i j. Some c.args.colour) c.args.width c.loop-row.row c.args.pixels.now c.loop-row.pixels
    c.loop-row-test.false c.loop-row.invariant.filled
