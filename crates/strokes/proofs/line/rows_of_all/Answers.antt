use Rattle.std.proofs.Common.{◌∙◌, ap, sym}
use Rattle.std.proofs.lemmas.List.{take_all}
use Rattle.std.specs.List.{list_any}
use Rattle.clip.specs.EdgeClass.{has_row}
use Rattle.clip.specs.declared.rows.RowRange.{RowRange}
use Rattle.clip.proofs.Joining.{joined-neither, joined-within}
use Rattle.strokes.proofs.Marking.{none-more}
use Rattle.strokes.proofs.line.rows_of_all.Goals as goal

pub loop-cover-preserved : goal.loop-cover-preserved
loop-cover-preserved g c =
    let l = c.loop-cover in
    let found = c.rows.result in
    record {
      within = rw c.joined-rows.ensures (joined-within l.rows found c.args.height l.invariant.within c.rows.ensures.within);
      none = λ i j column row out.
          let neither = joined-neither l.rows found j (sym (ap (λ (rows : RowRange). has_row rows j) c.joined-rows.ensures) ∙ out) in
          none-more (λ x. g.C.Cover.covered x i j) c.args.covers.now l.cover-index c.cover-item.result c.loop-cover-test.true c.cover-item.is
          (l.invariant.none i j column row neither.0) (c.rows.ensures.none i j column row neither.1);
    }

pub returns : goal.returns
returns g c = record {
  within = c.loop-cover.invariant.within;
  none = λ i j column row out.
      let l = c.loop-cover in
      ap (list_any (λ x. g.C.Cover.covered x i j)) (sym (take_all l.cover-index c.args.covers.now c.loop-cover-test.false)) ∙ l.invariant.none i j column row out;
}
