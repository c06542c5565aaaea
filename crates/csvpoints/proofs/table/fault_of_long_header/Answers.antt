use Rattle.std.proofs.Common.{◌∙◌, ap, sym, Bor}
use Rattle.csv.specs.Records.{Row, fields_of}
use Rattle.csvpoints.proofs.Fields.{one-passed, passed-not-text, passed-too-many}
use Rattle.csvpoints.proofs.table.fault_of_long_header.Goals as goal

pub loop-field-preserved : goal.loop-field-preserved
loop-field-preserved c =
    let (same, so_far) = c.loop-field.invariant in
    let (row, field, at) = c.in-Some.ensures.steps in
    let (text, is) = c.in-Ok.ensures.cases in (
      ap (λ (r : Bor Row). r.now) row ∙ same,
      rw at (one-passed (fields_of c.args.row.now) c.loop-field.field-iterator.at c.in-Some.field.now (sym (rw same at field)) is so_far),
    )

pub returns-in-Err : goal.returns-in-Err
returns-in-Err c =
    let (same, so_far) = c.loop-field.invariant in
    let (row, field, at) = c.in-Some.ensures.steps in
    passed-not-text (fields_of c.args.row.now) c.loop-field.field-iterator.at c.in-Some.field.now (sym (rw same at field)) c.in-Err.ensures.cases.0 so_far

pub returns : goal.returns
returns c =
    let (same, so_far) = c.loop-field.invariant in
    let (row, field, at) = c.in-None.ensures.steps in
    passed-too-many (fields_of c.args.row.now) c.loop-field.field-iterator.at (sym (rw same at field)) so_far c.requires
