use Rattle.std.proofs.Common.{◌≡◌, ◌∙◌, ap, sym}
use Rattle.std.proofs.lemmas.List.{take_all}
use Rattle.std.proofs.lemmas.List.Sums.{count_by_more_no}
use lib.IntN.{pos}
use Rattle.std.specs.List.{count_by}
use Rattle.clip.specs.EdgeClass.{has_row, joined, rows_of}
use Rattle.clip.specs.declared.rows.RowRange.{RowRange}
use Rattle.clip.proofs.Joining.{joined-neither, joined-within}
use Rattle.clip.proofs.Rowed.{first_row-most}
use Rattle.geom.specs.Device.{pixel_centre}
use Rattle.geom.specs.Edge.{crosses_at_or_left, high_end}
use Rattle.geom.specs.EvenOdd.{is_odd}
use Rattle.scanfill.proofs.Shares.{row-missed}
use Rattle.scanfill.proofs.polygon.crossed_rows.Goals as goal

pub loop-edge-preserved : goal.loop-edge-preserved
loop-edge-preserved c =
    let l = c.loop-edge in
    let e = c.edge-item.result in
    let h = c.args.height in
    let both : c.joined-rows.result ≡ joined l.rows (rows_of e h) = c.joined-rows.ensures ∙ ap (joined l.rows) c.rows_of.ensures in
    record {
      within = rw both (joined-within l.rows (rows_of e h) h l.invariant.within (first_row-most (high_end e).y h));
      none = λ i j below out.
          let p = crosses_at_or_left (pixel_centre (pos i) (pos j)) in
          let neither = joined-neither l.rows (rows_of e h) j (sym (ap (λ (rows : RowRange). has_row rows j) both) ∙ out) in
          count_by_more_no p c.args.edges.now l.edge-index e c.loop-edge-test.true (ap p (sym c.edge-item.is) ∙ row-missed e h i j below neither.1)
          ∙ l.invariant.none i j below neither.0;
    }

pub returns : goal.returns
returns c = record {
  within = c.loop-edge.invariant.within;
  none = λ i j below out.
      let l = c.loop-edge in
      ap is_odd (ap (count_by (crosses_at_or_left (pixel_centre (pos i) (pos j)))) (sym (take_all l.edge-index c.args.edges.now c.loop-edge-test.false)) ∙ l.invariant.none i j below out);
}
