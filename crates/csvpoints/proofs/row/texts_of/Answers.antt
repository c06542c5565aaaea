use Rattle.std.proofs.Common.{◌∙◌, ap, sym, Bor}
use Rattle.csv.specs.Records.{Row, fields_of}
use Rattle.csvpoints.specs.Fault.{at_row}
use Rattle.csvpoints.proofs.Fields.{all-texts, one-text, other-bytes}
use Rattle.csvpoints.proofs.row.texts_of.Goals as goal

pub loop-field-preserved : goal.loop-field-preserved
loop-field-preserved c =
    let (same, so_far) = c.loop-field.invariant in
    let (row, field, at) = c.in-Some.ensures.steps in
    let (text, is) = c.in-Ok.ensures.cases in (
      ap (λ (r : Bor Row). r.now) row ∙ same,
      rw (c.in_ok-push-in-Ok.ensures.ok, c.in_ok-from_str-in-Ok.ensures, text, at)
          (one-text (fields_of c.args.row.now) c.loop-field.texts c.loop-field.field-iterator.at c.in-Some.field.now (sym (rw same at field)) is so_far),
    )

pub returns-in-Err : goal.returns-in-Err
returns-in-Err c =
    let (same, so_far) = c.loop-field.invariant in
    let (row, field, at) = c.in-Some.ensures.steps in
    ap (at_row c.args.number) (other-bytes (fields_of c.args.row.now) c.loop-field.texts c.loop-field.field-iterator.at c.in-Some.field.now (sym (rw same at field)) c.in-Err.ensures.cases.0 so_far)

pub returns : goal.returns
returns c =
    let (same, so_far) = c.loop-field.invariant in
    let (row, field, at) = c.in-None.ensures.steps in
    all-texts (fields_of c.args.row.now) c.loop-field.texts c.loop-field.field-iterator.at (sym (rw same at field)) so_far
