use Rattle.std.proofs.Common.{◌≡◌, ◌+◌, ◌<◌, false, length, get_or, ap, arith}
use Rattle.std.proofs.lemmas.Result.{on_ok_weaker}
use Rattle.scanfill.specs.Reading.{AllAre, IsReading}
use Rattle.strokes.specs.Columns.{is_marked}
use Rattle.strokes.proofs.marks.read_marks.Goals as goal

pub loop-column-init : goal.loop-column-init
loop-column-init c =
    let xs = c.args.marks.now in
    let quiet : AllAre (is_marked xs) false 0 c.args.first = record { each = λ i from past. c.requires.within.before i past } in
    c.in_ok-reading.ensures (is_marked xs) (length xs) c.requires.within.start quiet (rw c.requires.empty (λ rest runs. runs))

pub loop-column-preserved : goal.loop-column-preserved
loop-column-preserved c =
    let xs = c.args.marks.now in
    let l = c.loop-column in
    let bound : l.column < length xs = omega (arith, c.requires.within.bound, c.loop-column-test.true) in
    let one : AllAre (is_marked xs) (get_or xs c.from.result false) l.column (l.column + 1) = record {
      each = λ i from past. let same : i ≡ c.from.result = omega (arith, c.from.ensures) in ap (λ k. get_or xs k false) same;
    } in
    c.in_ok-reading-2.ensures (is_marked xs) (length xs) (omega arith) one l.invariant

pub returns : goal.returns
returns c =
    let xs = c.args.marks.now in
    let l = c.loop-column in
    let at : c.max-last.result ≡ l.column = omega (arith, c.max-last.ensures, l.auto.column, l.auto.column-end, c.loop-column-test.false) in
    let quiet : AllAre (is_marked xs) false c.max-last.result (length xs) = record { each = λ i from past. c.requires.within.after i (omega (arith, c.max-last.ensures)) } in
    let before : IsReading (is_marked xs) (length xs) c.max-last.result l.reading l.out = rw at l.invariant in
    let read = c.in_ok-reading-3.ensures (is_marked xs) (length xs) (omega arith) quiet before in
    on_ok_weaker c.finish.result (λ ended. ended (is_marked xs) read) c.finish.ensures
