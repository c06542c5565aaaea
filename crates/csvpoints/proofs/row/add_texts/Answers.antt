use Rattle.std.proofs.Common.{◌∙◌, ap, sym, Bor}
use Rattle.csv.specs.Records.{Row, fields_of}
use Rattle.csvpoints.specs.Fault.{at_row}
use Rattle.csvpoints.proofs.Fields.{all-passed, all-added, not-all-texts, one-added, one-passed}
use Rattle.csvpoints.proofs.row.add_texts.Goals as goal

pub loop-field-preserved : goal.loop-field-preserved
loop-field-preserved c =
    let l = c.loop-field in
    let (row, field, at) = c.in-Some.ensures.steps in
    let (text, is) = c.in-Ok.ensures.cases in
    let there = sym (rw l.invariant.row at field) in
    record {
      row = ap (λ (r : Bor Row). r.now) row ∙ l.invariant.row;
      texts = rw (c.in_ok-push-in-Ok.ensures.ok, text, at) (one-added (fields_of c.args.row.now) l.texts _ l.field-iterator.at c.in-Some.field.now there l.invariant.texts);
      utf8 = rw at (one-passed (fields_of c.args.row.now) l.field-iterator.at c.in-Some.field.now there is l.invariant.utf8);
    }

pub returns-in-Err-clause-value : goal.returns-in-Err-clause-value
returns-in-Err-clause-value c =
    let l = c.loop-field in
    let (row, field, at) = c.in-Some.ensures.steps in
    ap (at_row c.args.number) (not-all-texts (fields_of c.args.row.now) l.field-iterator.at c.in-Some.field.now (sym (rw l.invariant.row at field)) c.in-Err.ensures.cases.0 l.invariant.utf8)

pub returns-clause-texts : goal.returns-clause-texts
returns-clause-texts c =
    let l = c.loop-field in
    let (row, field, at) = c.in-None.ensures.steps in
    all-added (fields_of c.args.row.now) l.texts _ l.field-iterator.at (sym (rw l.invariant.row at field)) l.invariant.texts

pub returns-clause-value : goal.returns-clause-value
returns-clause-value c =
    let l = c.loop-field in
    let (row, field, at) = c.in-None.ensures.steps in
    all-passed (fields_of c.args.row.now) l.field-iterator.at (sym (rw l.invariant.row at field)) l.invariant.utf8
