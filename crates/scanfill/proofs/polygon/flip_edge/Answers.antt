use Rattle.std.proofs.Common.{◌≡◌, ◌∙◌, ◌^◌, ◌<◌, true, sym, ap, arith}
use Rattle.std.proofs.lemmas.Int.{ints}
use lib.IntN.{pos}
use Rattle.geom.proofs.Products.{is_le}
use Rattle.clip.specs.EdgeClass.{crosses_row}
use Rattle.scanfill.specs.Column.{column_of}
use Rattle.scanfill.specs.Walk.{WalkValue}
use Rattle.scanfill.proofs.Shares.{drop-share, left-share, row-crossed, walk-share}
use Rattle.scanfill.proofs.Words.{word}
use Rattle.scanfill.proofs.polygon.flip_edge.Goals as goal

pub start-requires-clause-crosses : goal.start-requires-clause-crosses
start-requires-clause-crosses c =
    let is = c.in-Walk.ensures.cases in
    let crosses : crosses_row c.args.edge c.args.j ≡ true =
    sym (row-crossed c.args.edge c.with_last.result c.args.j c.in-Walk.rows is.0 (omega (arith, c.with_last.ensures))) ∙ sym c.if-has-2.ensures in
    record { each = λ k from past. let same : k ≡ c.args.j = omega arith in rw same crosses }

pub returns-in-Drop-clause-all : goal.returns-in-Drop-clause-all
returns-in-Drop-clause-all c = λ i h. rw (drop-share c.args.edge c.args.width c.with_last.result i c.args.j c.in-Drop.ensures.cases h (omega (arith, c.with_last.ensures)))

pub returns-in-LeftOfView-clause-all : goal.returns-in-LeftOfView-clause-all
returns-in-LeftOfView-clause-all c = λ i h.
    let is = c.in-LeftOfView.ensures.cases in
    let row : c.args.j < c.with_last.result = omega (arith, c.with_last.ensures) in
    let share = left-share c.args.edge c.with_last.result i c.args.j c.in-LeftOfView.rows is.0 is.2 row ∙ (sym c.has.ensures ∙ c.if-has.true) in
    let right = is_le (pos 0) (pos i) (omega (arith, ints)) in
    rw share (rw right at (c.flip.ensures.all i (omega (arith, c.requires.width))))

pub returns-in-Walk-clause-all : goal.returns-in-Walk-clause-all
returns-in-Walk-clause-all c = λ i h.
    let is = c.in-Walk.ensures.cases in
    let row : c.args.j < c.with_last.result = omega (arith, c.with_last.ensures) in
    let share = walk-share c.args.edge c.with_last.result i c.args.j c.in-Walk.rows is.0 row in
    let column : c.column.result ≡ column_of c.args.edge c.args.j = c.column.ensures.value ∙ ap (λ (w : WalkValue). column_of w.edge w.row) c.start.ensures.walk in
    let all = c.flip-in-Walk.ensures.all i (omega (arith, c.requires.width)) in
    rw (share, ← c.if-has-2.ensures) (rw (word (2 ^ 44) c.column.result (omega arith) c.column.ensures.range, column) at all)

pub returns-else-has-clause-all : goal.returns-else-has-clause-all
returns-else-has-clause-all c = λ i h.
    let is = c.in-LeftOfView.ensures.cases in
    let row : c.args.j < c.with_last.result = omega (arith, c.with_last.ensures) in
    rw (left-share c.args.edge c.with_last.result i c.args.j c.in-LeftOfView.rows is.0 is.2 row ∙ (sym c.has.ensures ∙ c.if-has.false))

pub returns-else-has-2-clause-all : goal.returns-else-has-2-clause-all
returns-else-has-2-clause-all c = λ i h.
    let is = c.in-Walk.ensures.cases in
    let row : c.args.j < c.with_last.result = omega (arith, c.with_last.ensures) in
    let share = walk-share c.args.edge c.with_last.result i c.args.j c.in-Walk.rows is.0 row in
    rw (share, ← c.if-has-2.ensures)
