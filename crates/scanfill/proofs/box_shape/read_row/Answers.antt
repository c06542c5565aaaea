use Rattle.std.proofs.Common.{◌≡◌, ℕ, ◌+◌, false, sym, arith}
use Rattle.std.proofs.lemmas.Result.{on_ok_weaker}
use Rattle.scanfill.specs.Reading.{AllAre, IsReading}
use Rattle.scanfill.proofs.box_shape.read_row.Goals as goal

pub loop-column-init : goal.loop-column-init
loop-column-init g c =
    let test = λ (i : ℕ). g.S.BoxShape.covered c.args.shape.now i c.args.j in
    let quiet : AllAre test false 0 c.columns-span.result.from = record { each = λ i from past. c.columns-span.ensures.before i c.args.j past } in
    c.in_ok-reading.ensures test c.pixels-end.result (omega (arith, c.columns-span.ensures.rising, c.columns-span.ensures.within)) quiet (rw c.requires.empty (λ rest runs. runs))

pub loop-column-preserved : goal.loop-column-preserved
loop-column-preserved g c =
    let test = λ (i : ℕ). g.S.BoxShape.covered c.args.shape.now i c.args.j in
    let l = c.loop-column in
    let one : AllAre test c.has_pixel.result l.column (l.column + 1) = record {
      each = λ i from past. let same : i ≡ l.column = omega arith in rw same (sym c.has_pixel.ensures);
    } in
    c.in_ok-reading-2.ensures test c.pixels-end.result (omega (arith, c.columns-span.ensures.within, c.loop-column-test.true)) one l.invariant

pub returns : goal.returns
returns g c =
    let test = λ (i : ℕ). g.S.BoxShape.covered c.args.shape.now i c.args.j in
    let l = c.loop-column in
    let span = c.columns-span.result in
    let at : span.to ≡ l.column = omega (arith, c.columns-span.ensures.rising, l.auto.column-end, c.loop-column-test.false) in
    let quiet : AllAre test false span.to c.pixels-end.result = record { each = λ i from past. c.columns-span.ensures.after i c.args.j from past } in
    let before : IsReading test c.pixels-end.result span.to l.reading l.out = rw at l.invariant in
    let read = c.in_ok-reading-3.ensures test c.pixels-end.result (omega arith) quiet before in
    on_ok_weaker c.finish.result (λ ended. rw c.pixels-end.ensures.value at (ended test read)) c.finish.ensures
