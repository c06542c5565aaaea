use Rattle.std.proofs.Common.{◌≡◌, ◌∙◌, ◌+◌, [], ◌∷◌, ◌++◌, length, length-append, sym, arith}
use Rattle.std.proofs.lemmas.List.Elements.{All-push}
use Rattle.std.proofs.lemmas.Result.{err_from_is_err_and}
use Rattle.csv.specs.Records.{fields_of}
use Rattle.csvpoints.specs.Rows.{point_with, rows_of}
use Rattle.csvpoints.specs.Source.{left}
use Rattle.csvpoints.specs.Table.{IsPointWith}
use Rattle.csvpoints.proofs.RowFeatures.{point-is, rows-length, rows-more, texts-more}
use Rattle.csvpoints.proofs.RowsLeft.{none-after, row-fault, row-over, row-read}
use Rattle.csvpoints.proofs.table.read_rows.Goals as goal

pub of-requires : goal.of-requires
of-requires c = c.loop-index.invariant.texts

pub returns-then-not-branch-clause-value : goal.returns-then-not-branch-clause-value
returns-then-not-branch-clause-value c =
    let l = c.loop-index in
    let none = rw c.if-not-branch.true at c.in_ok-read_record.ensures in
    rw c.of.ensures (sym l.invariant.all ∙ none-after c.args.columns c.args.limit (l.index + 2) (rows_of c.args.columns.count l.places l.texts) (left l.reader) none)

pub returns-in_err-read_row-clause-value : goal.returns-in_err-read_row-clause-value
returns-in_err-read_row-clause-value c =
    let l = c.loop-index in
    let (found, reading) = rw c.if-not-branch.false at c.in_ok-read_record.ensures in
    let p = err_from_is_err_and c.from_residual-in_err-read_row.result c.from_residual-in_err-read_row.ensures.1 in
    rw (p.1, p.2)
    (row-fault c.args.columns c.args.limit l.index (rows_of c.args.columns.count l.places l.texts) (fields_of c.read_record.new.row) (left l.reader) (left c.read_record.new.reader) _ _
    (omega (arith, c.loop-index-test.true)) found l.invariant.all (rw c.from.ensures at c.in_err-read_row.ensures.value))

pub loop-index-preserved : goal.loop-index-preserved
loop-index-preserved c =
    let l = c.loop-index in
    let columns = c.args.columns in
    let fields = fields_of c.read_record.new.row in
    let place = c.in_ok-read_row.field-0 in
    let so_far = rows_of columns.count l.places l.texts in
    let wide : length fields ≡ columns.count = c.in_ok-read_row.ensures.count in
    let more : rows_of columns.count (l.places ++ place ∷ []) (l.texts ++ fields) ≡ so_far ++ point_with fields place ∷ [] =
    rows-more columns.count l.places l.texts fields place l.invariant.texts wide in
    let (found, reading) = rw c.if-not-branch.false at c.in_ok-read_record.ensures in
    let step = row-read columns c.args.limit l.index so_far fields (point_with fields place) (left l.reader) (left c.read_record.new.reader)
    (omega (arith, c.loop-index-test.true)) c.in_ok-read_row.ensures.value found in
    rw (c.in_ok-push.ensures.ok, c.in_ok-read_row.ensures.texts) (record {
      reading = reading;
      points = rw more (All-push (IsPointWith columns.count) so_far (point_with fields place) l.invariant.points (point-is columns.count fields place wide));
      all = rw more (sym step ∙ l.invariant.all);
      count = omega (arith, l.invariant.count, length-append l.places (place ∷ []));
      texts = texts-more columns.count l.places l.texts fields place l.invariant.texts wide;
    })

pub returns-then-branch-clause-value : goal.returns-then-branch-clause-value
returns-then-branch-clause-value c =
    let l = c.loop-index in
    let (found, reading) = rw c.if-branch.true at c.in_ok-read_record-2.ensures in
    let at_end : l.index ≡ c.args.limit = omega (arith, c.loop-index-test.false, l.auto.index-end) in
    rw c.from-row.ensures (sym l.invariant.all ∙ rw at_end
    (row-over c.args.columns c.args.limit (rows_of c.args.columns.count l.places l.texts) (fields_of c.read_record-2.new.row) (left l.reader) (left c.read_record-2.new.reader) found))

pub of-requires-2 : goal.of-requires-2
of-requires-2 c = c.loop-index.invariant.texts

pub returns-clause-value : goal.returns-clause-value
returns-clause-value c =
    let l = c.loop-index in
    let none = rw c.if-branch.false at c.in_ok-read_record-2.ensures in
    rw c.of-2.ensures (sym l.invariant.all ∙ none-after c.args.columns c.args.limit (l.index + 2) (rows_of c.args.columns.count l.places l.texts) (left l.reader) none)

pub returns-then-not-branch-clause-points : goal.returns-then-not-branch-clause-points
returns-then-not-branch-clause-points c = rw c.of.ensures c.loop-index.invariant.points

pub returns-then-not-branch-clause-rows : goal.returns-then-not-branch-clause-rows
returns-then-not-branch-clause-rows c =
    let l = c.loop-index in
    rw c.of.ensures (omega (arith, rows-length c.args.columns.count l.places l.texts, l.invariant.count, c.loop-index-test.true))

pub returns-clause-points : goal.returns-clause-points
returns-clause-points c = rw c.of-2.ensures c.loop-index.invariant.points

pub returns-clause-rows : goal.returns-clause-rows
returns-clause-rows c =
    let l = c.loop-index in
    rw c.of-2.ensures (omega (arith, rows-length c.args.columns.count l.places l.texts, l.invariant.count, l.auto.index-end))
